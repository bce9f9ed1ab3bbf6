use Rattle.std.proofs.Common.{◌≡◌, ◌≤◌, ◌++◌, drop, false}
use Rattle.std.specs.List.{All}
use Rattle.arrayvec.specs.ArrayVec.{array_vec_len}
use Rattle.mi_rows.specs.Labels as given
use Rattle.mi_rows.proofs.labels.labels_in.Given as goal

-- the labels so far: with those of the members to come they are all, and each has its value
abbrev pub invariant-members : goal.invariant-members
invariant-members l =
    (l.labels.items ++ given.labels_in l.later (drop l.member-index l.order) ≡ given.labels_in false l.order) × (array_vec_len l.labels ≡ l.member-index)
    × All (λ x. x.place ≤ l.columns) l.labels.items
