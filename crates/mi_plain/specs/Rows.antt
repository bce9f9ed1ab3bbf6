-- Rows in the order of their ids.
use Rattle.std.specs.Prelude.{◌≡◌, ℕ, ◌<◌, ◌==◌, List, [], length, slice_index_or}
use Rattle.std.specs.declared.option.Option.TheVariants.{Some}
use Rattle.std.specs.Map.{lookup}
use Rattle.mi_catalog.specs.Key.{Row}

-- the row at place i
abbrev pub row_at : List Row → ℕ → Row
row_at rows i = slice_index_or rows i (0, [])

-- each id is below those after it
abbrev pub AreInOrder : List Row → Type 0
AreInOrder rows = (i j : ℕ) → i < j → j < length rows → (row_at rows i).0 < (row_at rows j).0

-- place i has the record of the id
pub record IsRowOf (rows : List Row) (id i : ℕ) : Type 0 where
  pub within : i < length rows
  pub found : lookup (λ a. a == id) rows ≡ Some (row_at rows i).1
