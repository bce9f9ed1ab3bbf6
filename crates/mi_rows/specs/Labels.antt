-- The members of rows as labels: what stands before each value, and the room that is enough for a row.
use Rattle.std.specs.Prelude.{◌≡◌, ℕ, suc, ◌+◌, ◌*◌, ◌≤◌, pos, List, [], ◌∷◌, ◌++◌, length, drop, Bool, true, false, Option, IfSome, if◌then◌else◌}
use Rattle.std.specs.List.{All}
use Rattle.json.specs.Print.{quoted}
use Rattle.serde_json.specs.Written.{compact_text, members_text}
use Rattle.arrayvec.specs.ArrayVec.{ArrayVec}
use Rattle.mi_value.specs.declared.value.Value.{Value}
use Rattle.mi_value.specs.declared.value.Value.TheVariants.{Int, Text, Flag}
use Rattle.mi_catalog.specs.declared.index.Column.{Column as TableColumn}
use Rattle.mi_rows.specs.Rows.{row_members}
use Rattle.mi_rows.specs.Shown.{first_data}
use Rattle.mi_rows.specs.declared.shown.Member.{Member}
use Rattle.mi_rows.specs.declared.shown.Source.{Source}
use Rattle.mi_rows.specs.declared.shown.Source.TheVariants.{Id, Column}
use Rattle.mi_rows.specs.declared.row_values.RowValue.{RowValue}
use Rattle.mi_rows.specs.declared.row_values.RowValue.TheVariants as row_value

-- a member of rows: the bytes before its value, and which of a row's values has it
pub record LabelShape : Type 0 where
  pub text : List ℕ
  pub place : ℕ

-- the value that a value holds
abbrev pub held : RowValue → Value
held (row_value.Int n) = Int n
held (row_value.Text t) = Text t.now
held row_value.False = Flag false
held row_value.True = Flag true

-- the values of a row: its id and its values
abbrev pub row_values_of : ℕ → List Value → List Value
row_values_of id vs = Int (pos id) ∷ vs

-- the value that has what stands somewhere in a row
abbrev pub place_of : Source → ℕ
place_of Id = 0
place_of (Column i) = suc i

-- what stands before a member: the opening bracket, or a comma before a later one
abbrev pub opening : Bool → ℕ
opening later = if later then 44 else 123

-- that, its name as a string, and a colon
abbrev pub label_of : Bool → Member → LabelShape
label_of later m = record { text = opening later ∷ (quoted m.name.now ++ 58 ∷ []); place = place_of m.source }

abbrev pub labels_in : Bool → List Member → List LabelShape
labels_in later [] = []
labels_in later (m ∷ ms) = label_of later m ∷ labels_in true ms

-- the members of a row with these labels, with the closing bracket
abbrev pub labelled_text : List Value → List LabelShape → List ℕ
labelled_text row_values [] = 125 ∷ []
labelled_text row_values (l ∷ ls) = (l.text ++ compact_text (first_data (drop l.place row_values))) ++ labelled_text row_values ls

-- the room for the bytes of a text, each of which may need an escape of six
abbrev pub text_room : Value → ℕ
text_room (Int n) = 0
text_room (Text t) = 6 * length t
text_room (Flag b) = 0

abbrev pub texts_room : List Value → ℕ
texts_room [] = 0
texts_room (v ∷ vs) = text_room v + texts_room vs

abbrev pub first_room : List Value → ℕ
first_room [] = 0
first_room (v ∷ vs) = text_room v

abbrev pub source_room : List Value → Source → ℕ
source_room vs Id = 0
source_room vs (Column i) = first_room (drop i vs)

-- the room for the members of a row with these labels
abbrev pub labels_room : List Value → List LabelShape → ℕ
labels_room row_values [] = 0
labels_room row_values (l ∷ ls) = 64 + first_room (drop l.place row_values) + labels_room row_values ls

-- the same by members that aren't labelled yet
abbrev pub members_room : List Value → List Member → ℕ
members_room vs [] = 0
members_room vs (m ∷ ms) = 64 + source_room vs m.source + members_room vs ms

-- labels of columns: with them each row that has a value for every column, and no more, has its text, in this room; none are labels of any
abbrev pub AreLabels : List TableColumn → Option (ArrayVec LabelShape) → Type 0
AreLabels cs labels = IfSome labels (λ ls.
    ((id : ℕ) (vs : List Value) → length cs ≤ length vs → labelled_text (row_values_of id vs) ls.items ≡ 123 ∷ members_text false (row_members cs id vs))
    × ((id : ℕ) (vs : List Value) → labels_room (row_values_of id vs) ls.items ≤ 64 * (length cs + 1) + texts_room vs)
    × All (λ l. l.place ≤ length cs) ls.items)
