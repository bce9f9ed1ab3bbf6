-- A table of people under another schema: each statement is proved by computation.
use Rattle.std.specs.Prelude.{◌≡◌, ℕ, pos, Bool, true, false, List, [], ◌∷◌, codes}
use Rattle.std.specs.declared.option.Option.TheVariants.{None, Some}
use Rattle.mi_value.specs.declared.value.Value.TheVariants.{Int, Text, Flag}
use Rattle.mi_value.specs.declared.value.ColumnType.{ColumnType}
use Rattle.mi_value.specs.declared.value.ColumnType.TheVariants as column
use Rattle.mi_value.specs.declared.compare.KeyPart.{KeyPart}
use Rattle.mi_catalog.specs.declared.index.Column.{Column}
use Rattle.mi_catalog.specs.declared.index.Index.{Index}
use Rattle.mi_catalog.specs.declared.index.IndexKind.TheVariants.{Ordered, Ranked, Sequenced}
use Rattle.mi_catalog.specs.Shape.{Shape}
use Rattle.mi_model.specs.Table.{Table, list_of}
use Rattle.mi_reshape.specs.Reshaped.{reshaped_table, other_type}
use Rattle.mi_reshape.specs.Catalogs.{tables_under, lost}

abbrev pub named : List ℕ → ColumnType → Column
named name kind = record { name = name; kind = kind }

abbrev pub by : Bool → ℕ → List KeyPart
by descending x = record { column = x; descending = descending } ∷ []

abbrev pub by_id : Index
by_id = record { name = codes "id"; kind = Ranked; «unique» = true; parts = [] }

abbrev pub in_line : Index
in_line = record { name = codes "line"; kind = Sequenced; «unique» = false; parts = [] }

abbrev pub ordered : List ℕ → List KeyPart → Index
ordered name parts = record { name = name; kind = Ordered; «unique» = false; parts = parts }

abbrev pub schema : List ℕ → List Column → List Index → Shape
schema name columns indexes = record {
  table_name = name;
  columns = columns;
  indexes = indexes;
  first_id = 1;
  first_arrival = 5;
  first_revision = 0;
  max_rows = 100;
}

-- people by name, age and vip, in a line
abbrev pub people : Shape
people =
    schema (codes "people") (named (codes "name") column.Text ∷ named (codes "age") column.Int ∷ named (codes "vip") column.Flag ∷ [])
    (by_id ∷ ordered (codes "by_age") (by false 1) ∷ in_line ∷ ordered (codes "by_name") (by false 0) ∷ [])

-- people without an age, with a city and a score; the index by name is another one, since it descends
abbrev pub citizens : Shape
citizens =
    schema (codes "people")
    (named (codes "vip") column.Flag ∷ named (codes "name") column.Text ∷ named (codes "city") column.Text ∷ named (codes "score") column.Int ∷ [])
    (by_id ∷ in_line ∷ ordered (codes "by_name") (by true 1) ∷ [])

abbrev pub notes : Shape
notes = schema (codes "notes") (named (codes "text") column.Text ∷ []) (by_id ∷ [])

-- two people, of whom the second stands first in line, by age and by name
abbrev pub two : Table
two = record {
  rows = (3, Text (codes "Bo") ∷ Int (pos 41) ∷ Flag true ∷ []) ∷ (7, Text (codes "Al") ∷ Int (pos 30) ∷ Flag false ∷ []) ∷ [];
  lists = (3 ∷ 7 ∷ []) ∷ (7 ∷ 3 ∷ []) ∷ (7 ∷ 3 ∷ []) ∷ (7 ∷ 3 ∷ []) ∷ [];
  next = 9;
  arrivals = 12;
}

-- their ids and their line stay, new columns are empty and 0, and the new index has their ids by rising
abbrev pub TwoPeople : Type 0
TwoPeople = reshaped_table people citizens two ≡ record {
  rows =
      (3, Flag true ∷ Text (codes "Bo") ∷ Text [] ∷ Int (pos 0) ∷ []) ∷ (7, Flag false ∷ Text (codes "Al") ∷ Text [] ∷ Int (pos 0) ∷ []) ∷ [];
  lists = (3 ∷ 7 ∷ []) ∷ (7 ∷ 3 ∷ []) ∷ (3 ∷ 7 ∷ []) ∷ [];
  next = 9;
  arrivals = 12;
}

-- an index of the same parts by other numbers keeps its list
abbrev pub SameParts : Type 0
SameParts =
    list_of (reshaped_table people (schema (codes "people") (named (codes "age") column.Int ∷ []) (by_id ∷ ordered (codes "by_age") (by false 0) ∷ [])) two) 1
    ≡ 7 ∷ 3 ∷ []

-- an age that becomes a text is refused
abbrev pub AgeAsText : Type 0
AgeAsText = other_type people (schema (codes "people") (named (codes "name") column.Text ∷ named (codes "age") column.Text ∷ []) (by_id ∷ [])) ≡ Some 1

-- a table that only the new catalog has is empty, with its schema's first counters
abbrev pub NotesAreNew : Type 0
NotesAreNew =
    tables_under (record { tables = people ∷ []; first_revision = 0 }) (record { tables = notes ∷ citizens ∷ []; first_revision = 0 }) (two ∷ [])
    ≡ record { rows = []; lists = [] ∷ []; next = 1; arrivals = 5 } ∷ reshaped_table people citizens two ∷ []

-- the age of people is dropped, and all notes
abbrev pub AgeAndNotes : Type 0
AgeAndNotes =
    lost (record { tables = people ∷ notes ∷ []; first_revision = 0 }) (record { tables = citizens ∷ []; first_revision = 0 })
    ≡ record { table = 0; column = Some 1 } ∷ record { table = 1; column = None } ∷ []
