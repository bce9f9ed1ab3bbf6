-- The rows of nodes, and a walk along the links of one slot.
use Rattle.std.specs.Prelude.{◌≡◌, ℕ, List, [], ◌∷◌, Option, Some, None}
use Rattle.mi_catalog.specs.Key.{Row}
use Rattle.mi_node.specs.Pool.{Pooled, value_of, link_of, IsHeld}
use Rattle.mi_node.specs.Refs.{Ref, first_of}
use Rattle.mi_tree.specs.Walking.{far_of}
use Rattle.mi_tree.specs.declared.walk.Direction.{Direction}
use Rattle.mi_order.specs.Orders.{row_in}
use Rattle.mi_order.specs.declared.stored.Stored.{Stored}

-- the id and the record of a node
abbrev pub row_if : Option Stored → Row
row_if None = (0, [])
row_if (Some v) = row_in v

abbrev pub shown_row : Pooled Stored → Ref → Row
shown_row m r = row_if (value_of m r.name)

-- each node is held, and its link of a slot names the next one in that direction
abbrev pub Follow : Pooled Stored → ℕ → Direction → List Ref → Type 0
Follow m s d [] = Unit {0}
Follow m s d (r ∷ rs) = IsHeld m r × (far_of d (link_of m r.name s) ≡ first_of rs None) × Follow m s d rs
