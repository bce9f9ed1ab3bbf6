use Rattle.std.proofs.Common.{◌≡◌, map, take}
use Rattle.mi_base.proofs.lists.ids_of.Given as goal

-- the ids of the rows so far
abbrev pub invariant-rows : goal.invariant-rows
invariant-rows l = l.ids.items ≡ map (λ r. r.0) (take l.row-index l.rows)
