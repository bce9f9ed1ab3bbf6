-- Columns of cells: one list of cells for each slot, with a cell for each place.
use Rattle.std.specs.Prelude.{ℕ, zero, suc, ◌<◌, ◌≤◌, List, [], ◌∷◌, map, length, slice_index_or, slice_set}
use Rattle.mi_node.specs.Cells.{empty_cell, link_of_cell}
use Rattle.mi_node.specs.declared.cell.Cell.{Cell}
use Rattle.mi_node.specs.declared.link.Link.{Link}

-- the cell of a place. Past the end of a column nothing was set
abbrev pub cell_at : ℕ → List Cell → Cell
cell_at k c = slice_index_or c k empty_cell

abbrev pub column : List (List Cell) → ℕ → List Cell
column cs s = slice_index_or cs s []

-- the links of a place, by slot
abbrev pub links_at : List (List Cell) → ℕ → List Link
links_at cs k = map (λ c. link_of_cell (cell_at k c)) cs

-- each column has m cells at least
abbrev pub AreLong : ℕ → List (List Cell) → Type 0
AreLong m cs = (s : ℕ) → s < length cs → m ≤ length (column cs s)

-- the first n columns with an empty cell at a place
abbrev pub cleared : ℕ → ℕ → List (List Cell) → List (List Cell)
cleared zero k cs = cs
cleared (suc n) k [] = []
cleared (suc n) k (c ∷ cs) = slice_set c k empty_cell ∷ cleared n k cs
