-- What an index shows from one record on.
--     turned      a list from its first, or from its last
--     ids_from, rows_from      the first ids that an index shows from one on, in its order or in the reverse of it; their rows
use Rattle.std.specs.Prelude.{ℕ, Bool, if◌then◌else◌, List, map, take, drop, reverse}
use Rattle.mi_catalog.specs.Shape.{Shape}
use Rattle.mi_catalog.specs.Key.{Row}
use Rattle.mi_model.specs.Table.{Table, row}
use Rattle.mi_model.specs.View.{view}
use Rattle.mi_model.specs.LookUp.{rank_in}

abbrev pub turned : Bool → List ℕ → List ℕ
turned reversed ids = if reversed then reverse ids else ids

-- a list from e on
abbrev pub from_in : List ℕ → ℕ → List ℕ
from_in ids e = drop (rank_in ids e) ids

abbrev pub ids_from : Shape → Table → ℕ → Bool → ℕ → ℕ → List ℕ
ids_from s t x reversed e limit = take limit (from_in (turned reversed (view s t x)) e)

abbrev pub rows_from : Shape → Table → ℕ → Bool → ℕ → ℕ → List Row
rows_from s t x reversed e limit = map (row t) (ids_from s t x reversed e limit)
