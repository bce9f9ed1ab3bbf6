-- What was passed and what is left make the whole, and the tokens get fewer.
use Rattle.std.proofs.Common.{◌≡◌, ℕ, ◌+◌, ◌*◌, ◌≤◌, length}
use Rattle.json.specs.Json.{items, members, value, parse_map}
use Rattle.serde_json.specs.Data.{no_members}
use Rattle.serde_json.specs.Read.{of_items, of_members, converted}
use Rattle.mi_tokens.specs.Meaning.{members_meaning}
use Rattle.mi_tokens.proofs.MeaningLemmas.{items_before}
use Rattle.mi_tokens.proofs.pass.+pass.Given as goal

abbrev pub decreases-pass_value : goal.decreases-pass_value
decreases-pass_value l = 2 * l.depth

abbrev pub decreases-pass_items : goal.decreases-pass_items
decreases-pass_items l = 2 * l.depth + 1

abbrev pub decreases-pass_members : goal.decreases-pass_members
decreases-pass_members l = 2 * l.depth + 1

abbrev pub invariant-pass_items-items : goal.invariant-pass_items-items
invariant-pass_items-items l =
    (n : ℕ) × (length l.tokens ≤ n)
    × (converted of_items (items (value l.depth) (length l.initial.tokens) l.initial.tokens) ≡ parse_map (items_before l.found.items) (converted of_items (items (value l.depth) n l.tokens)))

abbrev pub decreases-pass_items-items : goal.decreases-pass_items-items
decreases-pass_items-items l = length l.tokens

abbrev pub invariant-pass_members-members : goal.invariant-pass_members-members
invariant-pass_members-members l =
    (n : ℕ) × (length l.tokens ≤ n)
    × (converted (λ ms. of_members ms no_members) (members (value l.depth) (length l.initial.tokens) l.initial.tokens)
    ≡ converted (λ ms. of_members ms (members_meaning l.found.items no_members)) (members (value l.depth) n l.tokens))

abbrev pub decreases-pass_members-members : goal.decreases-pass_members-members
decreases-pass_members-members l = length l.tokens
