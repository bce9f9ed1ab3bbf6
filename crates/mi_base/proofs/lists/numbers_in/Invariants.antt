use Rattle.std.proofs.Common.{◌≡◌, ℕ, List, map, take}
use Rattle.serde_json.specs.View.{view}
use Rattle.mi_base.specs.Base.{id_data}
use Rattle.mi_base.proofs.lists.numbers_in.Given as goal

-- where all are ids, these are those so far
abbrev pub invariant-items : goal.invariant-items
invariant-items l = (ids : List ℕ) → map view l.items ≡ map id_data ids → l.list.items ≡ take l.item-index ids
