use Rattle.std.proofs.Common.{◌≡◌, ◌-◌, ◌≤◌, take, vec_len, vec_capacity}
use Rattle.mi_print.proofs.room.fill_to.Given as goal

-- the first bytes stay, and there is room for the rest
abbrev pub invariant-parts : goal.invariant-parts
invariant-parts l =
    (take (vec_len l.fn.text) l.text.items ≡ l.fn.text.items) × (vec_len l.fn.text ≤ vec_len l.text)
    × (vec_len l.text ≤ l.len) × (vec_capacity l.fn.text ≤ vec_capacity l.text)

abbrev pub decreases-parts : goal.decreases-parts
decreases-parts l = l.len - vec_len l.text
