-- The values that the members of an object are, column by column.
use Rattle.std.specs.Prelude.{ℕ, List, [], ◌∷◌, length, map, nat_le, if◌then◌else◌, Option, Some, None, option_map, option_and_then}
use Rattle.serde_json.specs.Data.{Data, Members}
use Rattle.serde_json.specs.Find.{get_member, as_number, as_str, as_bool, as_i64}
use Rattle.mi_value.specs.declared.limits.TheConstants.{MAX_TEXT}
use Rattle.mi_value.specs.declared.value.ColumnType.{ColumnType}
use Rattle.mi_value.specs.declared.value.ColumnType.TheVariants as column
use Rattle.mi_value.specs.declared.value.Value.{Value}
use Rattle.mi_value.specs.declared.value.Value.TheVariants as value
use Rattle.mi_catalog.specs.declared.index.Column.{Column}
use Rattle.mi_request.specs.Json.{has_only, option_map₂}

-- a text value, unless it is too long
abbrev pub short_text : List ℕ → Option Value
short_text t = if nat_le (length t) MAX_TEXT then Some (value.Text t) else None

-- the value that a JSON value is in a column of this type, if it fits: a whole number, a text, or true or false
abbrev pub fitting : ColumnType → Data → Option Value
fitting column.Int d = option_map value.Int (option_and_then as_i64 (as_number d))
fitting column.Text d = option_and_then short_text (as_str d)
fitting column.Flag d = option_map value.Flag (as_bool d)

-- the value of each column, from the member of its name; none where one is missing or doesn't fit
abbrev pub values_of : List Column → Members → Option (List Value)
values_of [] ms = Some []
values_of (c ∷ cs) ms = option_map₂ (λ v vs. v ∷ vs) (option_and_then (fitting c.kind) (get_member c.name ms)) (values_of cs ms)

-- the values of a row whose members are exactly the columns, each with a value that fits
abbrev pub bound_row : List Column → Members → Option (List Value)
bound_row cs ms = if has_only (map (λ c. c.name) cs) ms then values_of cs ms else None
