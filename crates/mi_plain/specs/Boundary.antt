-- Which ids of a list stand before a place in what an index shows.
use Rattle.std.specs.Prelude.{ℕ, Bool, true, false, not, IsTrue, if◌then◌else◌, List, length, reverse}
use Rattle.std.specs.declared.option.Option.{Option}
use Rattle.std.specs.Ordering.{is_lt, is_gt, is_ge, nat_cmp, on, ordering_then, then_cmp}
use Rattle.std.specs.declared.cmp.Ordering.{Ordering}
use Rattle.std.specs.declared.cmp.Ordering.TheVariants.{Equal}
use Rattle.mi_value.specs.declared.value.Value.{Value}
use Rattle.mi_value.specs.declared.bound.Lower.{Lower as LowerBound}
use Rattle.mi_value.specs.declared.bound.Lower.TheVariants as lower
use Rattle.mi_value.specs.declared.bound.Upper.{Upper as UpperBound}
use Rattle.mi_value.specs.declared.bound.Upper.TheVariants as upper
use Rattle.mi_catalog.specs.declared.index.Index.{Index}
use Rattle.mi_catalog.specs.declared.index.IndexKind.{IndexKind}
use Rattle.mi_catalog.specs.Kinds.{is_sorted}
use Rattle.mi_model.specs.Table.{Table, has}
use Rattle.mi_catalog.specs.Shape.{Shape}
use Rattle.mi_model.specs.Page.{between}
use Rattle.mi_model.specs.View.{compare_ids, compare_to_id}
use Rattle.mi_model.specs.LookUp.{rank_in, before_place}
use Rattle.mi_plain.specs.declared.pass.Boundary.{Boundary}
use Rattle.mi_plain.specs.declared.pass.Boundary.TheVariants.{Start, End, Lower, Upper, Before, Behind}

-- an ordered or ranked index goes by its keys, and any other by the list alone
abbrev pub order_by : IndexKind → (ℕ → ℕ → Ordering) → ℕ → ℕ → Ordering
order_by kind order a b = if is_sorted kind then order a b else Equal

abbrev pub order_in : Index → Table → ℕ → ℕ → Ordering
order_in i t = order_by i.kind (compare_ids i t)

-- ids by the index and then by their places in its list
abbrev pub by_place : Index → Table → List ℕ → ℕ → ℕ → Ordering
by_place i t ids = then_cmp (order_in i t) (on (rank_in ids) nat_cmp)

-- whether an id of the list stands before the boundary
abbrev pub is_before : Index → Table → List ℕ → List Value → Boundary → ℕ → Bool
is_before i t ids key Start a = false
is_before i t ids key End a = true
is_before i t ids key Lower a = is_gt (compare_to_id i t key a)
is_before i t ids key Upper a = is_ge (compare_to_id i t key a)
is_before i t ids key (Before e at) a = is_lt (ordering_then (order_in i t a e) (nat_cmp (rank_in ids a) at))
is_before i t ids key (Behind e at) a = not (is_lt (ordering_then (order_in i t e a) (nat_cmp at (rank_in ids a))))

-- the id of the boundary is there
abbrev pub StandsIn : Table → Boundary → Type 0
StandsIn t (Before e at) = IsTrue (has t e)
StandsIn t (Behind e at) = IsTrue (has t e)
StandsIn t boundary = Unit {0}

-- the last of a list
abbrev pub last_id : List ℕ → Option ℕ
last_id ids = before_place ids (length ids)

-- what an index shows from where a range begins, wherever it ends
abbrev pub begun : Shape → Table → ℕ → LowerBound → UpperBound → Bool → List ℕ
begun s t x low high true = reverse (between s t x lower.All high)
begun s t x low high false = between s t x low upper.All
