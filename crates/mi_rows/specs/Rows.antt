-- Rows: the object that a record's values are.
use Rattle.std.specs.Prelude.{ℕ, List, [], ◌∷◌, map, codes}
use Rattle.serde_json.specs.Data.{Data, boolean, number, unsigned, string, Items, Members, no_members, put, object}
use Rattle.serde_json.specs.View.{items_of}
use Rattle.serde_json.specs.Find.{of_integer}
use Rattle.mi_value.specs.declared.value.Value.{Value}
use Rattle.mi_value.specs.declared.value.Value.TheVariants as value
use Rattle.mi_catalog.specs.declared.index.Column.{Column}

-- a value as JSON
abbrev pub value_data : Value → Data
value_data (value.Int n) = number (of_integer n)
value_data (value.Text t) = string t
value_data (value.Flag b) = boolean b

-- the members with one for each column
abbrev pub with_values : List Column → List Value → Members → Members
with_values [] vs ms = ms
with_values (c ∷ cs) [] ms = ms
with_values (c ∷ cs) (v ∷ vs) ms = with_values cs vs (put c.name (value_data v) ms)

-- the members of a row: `id` and all columns, in the order of their names' bytes
abbrev pub row_members : List Column → ℕ → List Value → Members
row_members cs id vs = with_values cs vs (put (codes "id") (number (unsigned id)) no_members)

-- a row as JSON
abbrev pub row_data : List Column → ℕ → List Value → Data
row_data cs id vs = object (row_members cs id vs)

-- rows as the items of an array
abbrev pub rows_items : List Column → List (ℕ × List Value) → Items
rows_items cs rs = items_of (map (λ r. row_data cs r.0 r.1) rs)
