-- The row of a node, as inverses name it.
use Rattle.mi_node.specs.Pool.{Pooled}
use Rattle.mi_node.specs.Refs.{Ref}
use Rattle.mi_order.specs.declared.stored.Stored.{Stored}
use Rattle.mi_container.specs.Inverse.{RowRef}
use Rattle.mi_multi.specs.Multi.{id_at}

abbrev pub row_ref_at : Pooled Stored → Ref → RowRef
row_ref_at m r = record { id = id_at m r; at = r }
