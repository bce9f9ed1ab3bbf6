-- the ids that are left say what all behind the id say
use Rattle.std.proofs.Common.{◌≡◌, drop, slice_get}
use Rattle.std.specs.List.{filter}
use Rattle.std.specs.Ordering.{is_eq}
use Rattle.mi_model.specs.View.{compare_ids}
use Rattle.mi_model.specs.LookUp as look
use Rattle.mi_plain.proofs.table.PlainTable.next_of.Given as goal

abbrev pub invariant-loop-i : goal.invariant-loop-i
invariant-loop-i l = slice_get (filter (λ id. is_eq (compare_ids l.index l.self l.id id)) (drop l.i l.ids)) 0 ≡ look.next_with_key l.schema l.self l.x l.id
