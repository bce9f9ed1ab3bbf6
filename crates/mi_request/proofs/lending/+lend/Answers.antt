-- Members in the order of their names, put one after another, stay as they are.
use Rattle.std.proofs.Common.{◌≡◌, ℕ, List, [], ◌∷◌, ◌++◌, Bor, string_bytes, sym, ap, ◌∙◌, subst, append_assoc, rules}
use Rattle.std.specs.List.Sorted.{IsStrictlySortedBy}
use Rattle.std.specs.Map.{keys_of}
use Rattle.std.specs.String.{string_cmp}
use Rattle.serde_json.specs.Data.{no_members}
use Rattle.serde_json.specs.View.{view}
use Rattle.serde_json.proofs.Views.{Entry, put_last}
use Rattle.mi_tokens.specs.Meaning.{meaning, members_meaning}
use Rattle.mi_tokens.specs.declared.value.Json.{Json}
use Rattle.mi_tokens.proofs.MeaningLemmas.{members_push}
use Rattle.mi_request.proofs.lending.+lend.Goals as goal

pub lend_members-members-preserved : goal.lend_members-members-preserved
lend_members-members-preserved t c =
    let l = c.members in
    let done = l.invariant.0 in
    let e : Entry = (c.in-Some.name.now, c.in-Some.member.now) in
    let left = c.next.new.self in
    let all : c.args.members.now.entries ≡ done ++ e ∷ left = l.invariant.1 ∙ ap (λ es. done ++ es) c.in-Some.ensures.steps in
    let m : Bor (List ℕ) × Json = (c.as_str.result, c.in_ok-lend.field-0) in
    let pushed : c.push.new.self.items ≡ l.lent.items ++ m ∷ [] = c.in_ok-push.ensures.items in
    let named : m.0.now ≡ string_bytes e.0 = search rules in
    let means : meaning m.1 ≡ view e.1 = c.in_ok-lend.ensures in
    let last = put_last done e left (subst (λ es. IsStrictlySortedBy string_cmp (keys_of es)) all c.iter-name-items.ensures.ordered) in (
      done ++ e ∷ [],
      all ∙ sym (append_assoc done (e ∷ []) left),
      ap (λ ms. members_meaning ms no_members) pushed ∙ members_push l.lent.items m no_members ∙ rw (named, means, l.invariant.2) last,
    )
