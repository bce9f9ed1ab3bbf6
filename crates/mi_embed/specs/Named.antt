-- What a table, an index and a column of a name have as their numbers: those that calls name them by. Bytes that are no UTF-8 name nothing.
use Rattle.std.specs.Prelude.{ℕ, List, Option, None, Result, if◌then◌else◌}
use Rattle.std.specs.Option.{ok_or}
use Rattle.std.specs.Str.{is_utf8}
use Rattle.mi_value.specs.declared.refusal.Refusal.{Refusal}
use Rattle.mi_value.specs.declared.refusal.Refusal.TheVariants.{NoTable, Index, Row}
use Rattle.mi_catalog.specs.Shape.{find_table, find_index, find_column}
use Rattle.mi_model.specs.Database.{schema_of}
use Rattle.mi_protocol.specs.Binding.{and_then}
use Rattle.mi_commands.specs.Holder.{HeldDatabase}
use Rattle.mi_embed.specs.Asked.{table_in}

-- the number that a name has, if it is a text
abbrev pub by_name : (List ℕ → Option ℕ) → List ℕ → Option ℕ
by_name find bytes = if is_utf8 bytes then find bytes else None

abbrev pub table_named : HeldDatabase → List ℕ → Result ℕ Refusal
table_named s name = ok_or (by_name (find_table s.database.catalog) name) NoTable

abbrev pub index_named : HeldDatabase → ℕ → List ℕ → Result ℕ Refusal
index_named s n name = and_then (λ t. ok_or (by_name (find_index (schema_of s.database t)) name) Index) (table_in s.database.catalog n)

abbrev pub column_named : HeldDatabase → ℕ → List ℕ → Result ℕ Refusal
column_named s n name = and_then (λ t. ok_or (by_name (find_column (schema_of s.database t)) name) Row) (table_in s.database.catalog n)
