-- The ids in the nodes that a pool holds, one for each node, by their places.
use Rattle.std.specs.Prelude.{ℕ, List, map}
use Rattle.std.specs.FinMap.{entries}
use Rattle.mi_node.specs.Pool.{Entry, Pooled}
use Rattle.mi_order.specs.declared.stored.Stored.{Stored}

abbrev pub ids_held : Pooled Stored → List ℕ
ids_held m = map (λ (q : ℕ × Entry Stored). q.1.value.id) (entries m.entries)
