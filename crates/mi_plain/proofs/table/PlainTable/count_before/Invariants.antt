-- so far the ids before the boundary are counted
use Rattle.std.proofs.Common.{◌≡◌, take, length}
use Rattle.std.specs.List.{filter}
use Rattle.mi_model.specs.Table.{list_of}
use Rattle.mi_plain.specs.Boundary.{is_before}
use Rattle.mi_plain.proofs.table.PlainTable.count_before.Given as goal

abbrev pub invariant-loop-i : goal.invariant-loop-i
invariant-loop-i l = l.n ≡ length (filter (λ a. is_before l.index l.self (list_of l.self l.x) l.key l.boundary a) (take l.i l.ids))
