-- The rows of a sorted index between two bounds.
--     meets_lower, meets_upper      whether a row meets a bound, by the parts of an index
--     rows_in      the rows of a range, in the direction in which it is walked
--     IsBegun      a walk that has the rows of a range ahead, and behind them those past its end
use Rattle.std.specs.Prelude.{◌≡◌, ℕ, ◌*◌, ◌<◌, ◌≤◌, ◌^◌, Bool, true, ◌&&◌, List, [], map, length, drop, reverse}
use Rattle.std.specs.List.{filter, position_or_len, take_while}
use Rattle.std.specs.Ordering.{is_le, is_lt, is_ge, is_gt}
use Rattle.mi_value.specs.declared.bound.Lower.{Lower}
use Rattle.mi_value.specs.declared.bound.Lower.TheVariants as lower
use Rattle.mi_value.specs.declared.bound.Upper.{Upper}
use Rattle.mi_value.specs.declared.bound.Upper.TheVariants as upper
use Rattle.mi_value.specs.declared.compare.KeyPart.{KeyPart}
use Rattle.mi_catalog.specs.Key.{Row, compare_to_row}
use Rattle.mi_node.specs.Pool.{Pooled}
use Rattle.mi_node.specs.Refs.{Ref}
use Rattle.mi_node.specs.Neighbours.{AreHeld}
use Rattle.mi_tree.specs.Walking.{IsWalk}
use Rattle.mi_tree.specs.declared.walk.Direction.{Direction}
use Rattle.mi_tree.specs.declared.walk.Direction.TheVariants.{Ascending, Descending}
use Rattle.mi_tree.specs.declared.walk.Walk.{Walk}
use Rattle.mi_order.specs.declared.stored.Stored.{Stored}
use Rattle.mi_index.specs.declared.structure.Structure.{Structure}
use Rattle.mi_index.specs.declared.structure.Structure.TheVariants.{Sorted, Hashed, Sequenced}
use Rattle.mi_index.specs.declared.walk.KeyRange.{KeyRange}
use Rattle.mi_index.specs.Walks.{shown_row}

-- the parts that a sorted index goes by
abbrev pub parts_in : Structure → List KeyPart
parts_in (Sorted t) = t.order.parts
parts_in (Hashed c) = []
parts_in (Sequenced l) = []

abbrev pub meets_lower : List KeyPart → Lower → Row → Bool
meets_lower ps lower.All row = true
meets_lower ps (lower.From key) row = is_le (compare_to_row ps key row)
meets_lower ps (lower.Beyond key) row = is_lt (compare_to_row ps key row)

abbrev pub meets_upper : List KeyPart → Upper → Row → Bool
meets_upper ps upper.All row = true
meets_upper ps (upper.UpTo key) row = is_ge (compare_to_row ps key row)
meets_upper ps (upper.Below key) row = is_gt (compare_to_row ps key row)

abbrev pub is_from : KeyRange → Row → Bool
is_from g = meets_lower g.parts.now g.lower.now

abbrev pub is_to : KeyRange → Row → Bool
is_to g = meets_upper g.parts.now g.upper.now

abbrev pub directed : Direction → List Row → List Row
directed Ascending rows = rows
directed Descending rows = reverse rows

abbrev pub rows_in : KeyRange → List Row → List Row
rows_in g rows = directed g.direction (filter (λ row. is_from g row && is_to g row) rows)

-- the rows from where a walk up or down begins, and whether one of them isn't past the end
abbrev pub rows_begun : Direction → (Row → Bool) → (Row → Bool) → List Row → List Row
rows_begun Ascending from to rows = drop (position_or_len from rows) rows
rows_begun Descending from to rows = reverse (take_while to rows)

abbrev pub stays : Direction → (Row → Bool) → (Row → Bool) → Row → Bool
stays Ascending from to = to
stays Descending from to = from

abbrev pub stays_in : KeyRange → Row → Bool
stays_in g = stays g.direction (is_from g) (is_to g)

pub record IsBegun (g : KeyRange) (w : Walk) (m : Pooled Stored) (rs : List Ref) : Type 0 where
  pub levels : ℕ
  pub us : List Ref
  pub walk : IsWalk w m levels us
  pub held : AreHeld m us
  pub rows : map (shown_row m) us ≡ rows_begun g.direction (is_from g) (is_to g) (map (shown_row m) rs)
  pub low : (b : ℕ) → length rs < 2 ^ b → levels ≤ 2 * b
