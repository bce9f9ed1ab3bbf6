-- Ranges and lists, and their pages.
use Rattle.std.specs.Prelude.{ℕ, Bool, true, false, ◌&&◌, ◌==◌, nat_lt, if◌then◌else◌, List, take, length, reverse}
use Rattle.std.specs.List.{filter, after_first}
use Rattle.std.specs.Ordering.{is_le, is_lt, is_ge, is_gt}
use Rattle.std.specs.declared.option.Option.{Option}
use Rattle.std.specs.declared.option.Option.TheVariants.{None, Some}
use Rattle.mi_value.specs.declared.bound.Lower.{Lower}
use Rattle.mi_value.specs.declared.bound.Lower.TheVariants as lower
use Rattle.mi_value.specs.declared.bound.Upper.{Upper}
use Rattle.mi_value.specs.declared.bound.Upper.TheVariants as upper
use Rattle.mi_catalog.specs.declared.index.Index.{Index}
use Rattle.mi_catalog.specs.Shape.{Shape, index_at}
use Rattle.mi_model.specs.Table.{Table}
use Rattle.mi_model.specs.View.{view, compare_to_id}

-- the first ids of a list, and whether others remain
pub record Page : Type 0 where
  pub ids : List ℕ
  pub more : Bool

abbrev pub page_of : ℕ → List ℕ → Page
page_of limit ids = record { ids = take limit ids; more = nat_lt limit (length ids) }

-- whether the key of an id meets a bound
abbrev pub meets_lower : Index → Table → Lower → ℕ → Bool
meets_lower i t lower.All id = true
meets_lower i t (lower.From key) id = is_le (compare_to_id i t key id)
meets_lower i t (lower.Beyond key) id = is_lt (compare_to_id i t key id)

abbrev pub meets_upper : Index → Table → Upper → ℕ → Bool
meets_upper i t upper.All id = true
meets_upper i t (upper.UpTo key) id = is_ge (compare_to_id i t key id)
meets_upper i t (upper.Below key) id = is_gt (compare_to_id i t key id)

-- what an index shows between two bounds
abbrev pub between : Shape → Table → ℕ → Lower → Upper → List ℕ
between s t x low high = filter (λ id. meets_lower (index_at s x) t low id && meets_upper (index_at s x) t high id) (view s t x)

-- the first ids of a range, or of the range reversed
abbrev pub range : Shape → Table → ℕ → Lower → Upper → Bool → ℕ → Page
range s t x low high reversed limit =
    page_of limit (if reversed then reverse (between s t x low high) else between s t x low high)

-- the first ids from a lower bound up, and from an upper one down
abbrev pub ids_up : Shape → Table → ℕ → Lower → ℕ → List ℕ
ids_up s t x low limit = (range s t x low upper.All false limit).ids

abbrev pub ids_down : Shape → Table → ℕ → Upper → ℕ → List ℕ
ids_down s t x high limit = (range s t x lower.All high true limit).ids

-- the first ids of what a sequenced index shows, or of those behind an id
abbrev pub list : Shape → Table → ℕ → Option ℕ → ℕ → Page
list s t x None limit = page_of limit (view s t x)
list s t x (Some e) limit = page_of limit (after_first (λ a. a == e) (view s t x))
