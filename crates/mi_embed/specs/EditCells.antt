-- Edits as they cross the border: a cell for each, whose value is put into a column or added to it.
use Rattle.std.specs.Prelude.{ℕ, ◌==◌, nat_le, Bool, true, false, not, ◌&&◌, ◌||◌, if◌then◌else◌, List, [], ◌∷◌, length, Option, Some, None, option_map, option_and_then}
use Rattle.std.specs.List.{list_all}
use Rattle.mi_value.specs.declared.value.Value.{Value}
use Rattle.mi_value.specs.declared.value.Value.TheVariants.{Int, Text, Flag}
use Rattle.mi_value.specs.declared.edit.Edit.{Edit}
use Rattle.mi_value.specs.declared.edit.Edit.TheVariants.{Put, Add}
use Rattle.mi_value.specs.Edits.{column_of}
use Rattle.mi_catalog.specs.declared.index.Column.{Column}
use Rattle.mi_catalog.specs.Fits.{fits_edit}
use Rattle.mi_embed.specs.declared.edits.EditCell.{EditCell}
use Rattle.mi_embed.specs.Cells.{value_in, before_all}

-- only a whole number is added
abbrev pub addition : ℕ → Value → Option Edit
addition x (Int n) = Some (Add x n)
addition x (Text bytes) = None
addition x (Flag b) = None

-- the edit that a cell is: the kind 0 puts its value, 1 adds it
abbrev pub edit_in : List ℕ → EditCell → Option Edit
edit_in bytes e =
    if e.kind == 0 then option_map (Put e.column) (value_in bytes e.value)
    else if e.kind == 1 then option_and_then (addition e.column) (value_in bytes e.value)
    else None

-- the edits that all cells are, if each is one
abbrev pub edits_in : List ℕ → List EditCell → Option (List Edit)
edits_in bytes [] = Some []
edits_in bytes (e ∷ es) = before_all (edit_in bytes e) (edits_in bytes es)

-- some edit is of this column
abbrev pub edits_column : ℕ → List Edit → Bool
edits_column x [] = false
edits_column x (e ∷ es) = (x == column_of e) || edits_column x es

-- no two edits are of one column
abbrev pub edit_each_once : List Edit → Bool
edit_each_once [] = true
edit_each_once (e ∷ es) = not (edits_column (column_of e) es) && edit_each_once es

-- edits of different columns, each as its column wants it
abbrev pub if_edits : List Column → List Edit → Option (List Edit)
if_edits cs es = if list_all (fits_edit cs) es && edit_each_once es then Some es else None

-- the edits of a record with these columns that cells are; more than there are columns are none, since two would be of one column
abbrev pub edits_for : List Column → List ℕ → List EditCell → Option (List Edit)
edits_for cs bytes cells = if nat_le (length cells) (length cs) then option_and_then (if_edits cs) (edits_in bytes cells) else None
