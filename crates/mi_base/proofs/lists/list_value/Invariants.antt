use Rattle.std.proofs.Common.{◌≡◌, map, take}
use Rattle.serde_json.specs.View.{view}
use Rattle.mi_base.specs.Base.{id_data}
use Rattle.mi_base.proofs.lists.list_value.Given as goal

-- the ids so far
abbrev pub invariant-ids : goal.invariant-ids
invariant-ids l = map view l.items.items ≡ map id_data (take l.id-index l.ids)
