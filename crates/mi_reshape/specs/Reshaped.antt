-- A table under another schema: its columns and indexes go by their names, and its ids stay.
--     first_value, reshaped_value, reshaped_row      the values of a row
--     keeps_type, other_type      columns that keep their type, and the first that doesn't
--     same_index, kept_index      the index of the old schema that an index of the new one is
--     reshaped_list, reshaped_table      the table
--     RowsFit, ReshapedFits, ReshapedIsTable, ReshapedToSame      the laws
--     source_of, source_value      where the values of a new column come from
use Rattle.std.specs.Prelude.{◌≡◌, ℕ, pos, Bool, true, false, not, ◌&&◌, bytes_eq, cond, List, [], ◌∷◌, map, slice_index_or, option_and_then}
use Rattle.std.specs.Option.{option_map_or}
use Rattle.std.specs.List.{position, AllByRecursion}
use Rattle.std.specs.declared.option.Option.{Option}
use Rattle.std.specs.declared.option.Option.TheVariants.{None, Some}
use Rattle.mi_value.specs.declared.value.Value.{Value}
use Rattle.mi_value.specs.declared.value.Value.TheVariants as value
use Rattle.mi_value.specs.declared.value.ColumnType.{ColumnType}
use Rattle.mi_value.specs.declared.value.ColumnType.TheVariants.{Int, Text, Flag}
use Rattle.mi_value.specs.declared.compare.KeyPart.{KeyPart}
use Rattle.mi_catalog.specs.declared.index.Column.{Column}
use Rattle.mi_catalog.specs.declared.index.Index.{Index}
use Rattle.mi_catalog.specs.declared.index.IndexKind.{IndexKind}
use Rattle.mi_catalog.specs.declared.index.IndexKind.TheVariants.{Ordered, Ranked, Hashed, Sequenced}
use Rattle.mi_catalog.specs.Shape.{Shape, find_column, find_index, index_at}
use Rattle.mi_catalog.specs.Key.{Row}
use Rattle.mi_catalog.specs.Fits.{fits_record}
use Rattle.mi_catalog.specs.Rules.{is_schema}
use Rattle.mi_model.specs.Table.{Table, list_of, IsTable}
use Rattle.mi_reshape.specs.declared.columns.Source.{Source}
use Rattle.mi_reshape.specs.declared.fault.ReshapeFault.{ReshapeFault}
use Rattle.mi_reshape.specs.declared.fault.ReshapeFault.TheVariants as fault

-- what a new column has in each row: 0, the empty text, or false
abbrev pub first_value : ColumnType → Value
first_value Int = value.Int (pos 0)
first_value Text = value.Text []
first_value Flag = value.Flag false

-- the value of a column: that of the old column of its name
abbrev pub reshaped_value : Shape → List Value → Column → Value
reshaped_value from values c = option_map_or (λ x. slice_index_or values x (first_value c.kind)) (find_column from c.name) (first_value c.kind)

-- a row: a value for each column of the new schema
abbrev pub reshaped_row : Shape → Shape → List Value → List Value
reshaped_row from to values = map (reshaped_value from values) to.columns

-- two types are one
abbrev pub same_type : ColumnType → ColumnType → Bool
same_type Int Int = true
same_type Text Text = true
same_type Flag Flag = true
same_type a b = false

-- the column of a number; beyond the last one without a name
abbrev pub column_at : Shape → ℕ → Column
column_at s x = slice_index_or s.columns x (record { name = []; kind = Int })

-- the old schema has no column of this name and another type
abbrev pub keeps_type : Shape → Column → Bool
keeps_type from c = option_map_or (λ x. same_type (column_at from x).kind c.kind) (find_column from c.name) true

-- the first column of the new schema that has another type in the old one
abbrev pub other_type : Shape → Shape → Option ℕ
other_type from to = position (λ c. not (keeps_type from c)) to.columns

-- two kinds of index are one
abbrev pub same_kind : IndexKind → IndexKind → Bool
same_kind Ordered Ordered = true
same_kind Ranked Ranked = true
same_kind Hashed Hashed = true
same_kind Sequenced Sequenced = true
same_kind a b = false

abbrev pub same_flag : Bool → Bool → Bool
same_flag true b = b
same_flag false b = not b

-- two parts are of columns of one name, and in one direction
abbrev pub same_part : Shape → Shape → KeyPart → KeyPart → Bool
same_part from to p q = bytes_eq (column_at from p.column).name (column_at to q.column).name && same_flag p.descending q.descending

abbrev pub same_parts : Shape → Shape → List KeyPart → List KeyPart → Bool
same_parts from to [] [] = true
same_parts from to (p ∷ ps) (q ∷ qs) = same_part from to p q && same_parts from to ps qs
same_parts from to ps qs = false

-- an index of the old schema and one of the new are of one kind, both unique or neither, and of the same parts
abbrev pub same_index : Shape → Shape → Index → Index → Bool
same_index from to i j = same_kind i.kind j.kind && same_flag i.«unique» j.«unique» && same_parts from to i.parts j.parts

-- the number of the index of the old schema that this one is, by its name and all else
abbrev pub kept_index : Shape → Shape → Index → Option ℕ
kept_index from to j = option_and_then (λ x. cond (same_index from to (index_at from x) j) (Some x) None) (find_index from j.name)

-- the list of an index: its old one, or if it is a new one the rising ids
abbrev pub reshaped_list : Shape → Shape → Table → Index → List ℕ
reshaped_list from to t j = option_map_or (list_of t) (kept_index from to j) (map (λ r. r.0) t.rows)

-- the table under the new schema
abbrev pub reshaped_table : Shape → Shape → Table → Table
reshaped_table from to t = record {
  rows = map (λ r. (r.0, reshaped_row from to r.1)) t.rows;
  lists = map (reshaped_list from to t) to.indexes;
  next = t.next;
  arrivals = t.arrivals;
}

-- why a table isn't reshaped: this column is the first of another type, or memory
abbrev pub IsReshapeFault : Shape → Shape → ReshapeFault → Type 0
IsReshapeFault from to (fault.Column c) = other_type from to ≡ Some c
IsReshapeFault from to fault.Memory = Unit {0}

-- each row fits the columns of the schema
abbrev pub RowsFit : Shape → List Row → Type 0
RowsFit s rows = AllByRecursion (λ r. fits_record s.columns r.1 ≡ true) rows

-- rows that fit the old schema fit the new one
abbrev pub ReshapedFits : Type 0
ReshapedFits = (from to : Shape) (t : Table) → other_type from to ≡ None → RowsFit from t.rows → RowsFit to (reshaped_table from to t).rows

-- a table of the old schema becomes one of the new: its ids rise, and each index has a list of them
abbrev pub ReshapedIsTable : Type 0
ReshapedIsTable = (from to : Shape) (t : Table) → IsTable from t → IsTable to (reshaped_table from to t)

-- under its own schema a table stays what it is
abbrev pub ReshapedToSame : Type 0
ReshapedToSame = (s : Shape) (t : Table) → is_schema s ≡ true → IsTable s t → RowsFit s t.rows → reshaped_table s s t ≡ t

-- where the values of a new column come from
abbrev pub source_of : Shape → Column → Source
source_of from c = record { column = find_column from c.name; kind = c.kind }

abbrev pub source_value : List Value → Source → Value
source_value values s = option_map_or (λ x. slice_index_or values x (first_value s.kind)) s.column (first_value s.kind)
