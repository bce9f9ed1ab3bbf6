-- the ids that are left say what all say
use Rattle.std.proofs.Common.{◌≡◌, drop, slice_get}
use Rattle.std.specs.List.{filter}
use Rattle.std.specs.Ordering.{is_eq}
use Rattle.mi_model.specs.View.{compare_to_id}
use Rattle.mi_model.specs.LookUp as look
use Rattle.mi_plain.proofs.table.PlainTable.first_of.Given as goal

abbrev pub invariant-loop-id : goal.invariant-loop-id
invariant-loop-id l = slice_get (filter (λ id. is_eq (compare_to_id l.index l.self l.key id)) (drop l.id-index l.ids)) 0
    ≡ look.first_with_key l.schema l.self l.x l.key
