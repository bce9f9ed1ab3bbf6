-- so far the ids of the key are found
use Rattle.std.proofs.Common.{◌≡◌, take}
use Rattle.std.specs.List.{filter}
use Rattle.std.specs.Ordering.{is_eq}
use Rattle.mi_model.specs.View.{compare_to_id}
use Rattle.mi_plain.proofs.table.PlainTable.ids_of_key.Given as goal

abbrev pub invariant-loop-id : goal.invariant-loop-id
invariant-loop-id l = l.ids.items ≡ filter (λ id. is_eq (compare_to_id l.index l.self l.key id)) (take l.id-index l.id-items)
