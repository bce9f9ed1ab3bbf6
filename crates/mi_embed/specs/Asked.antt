-- What a call names: a table and an index by their numbers, and a row and a key as values. What isn't there, or doesn't fit, is refused as the
-- line of the same command is.
use Rattle.std.specs.Prelude.{ℕ, ◌==◌, nat_lt, Bool, false, if◌then◌else◌, List, length, Option, Some, None, option_map, option_and_then, Result, Ok, Err}
use Rattle.std.specs.Option.{ok_or}
use Rattle.mi_value.specs.declared.value.Value.{Value}
use Rattle.mi_value.specs.declared.bound.Lower.{Lower}
use Rattle.mi_value.specs.declared.bound.Lower.TheVariants as lower
use Rattle.mi_value.specs.declared.bound.Upper.{Upper}
use Rattle.mi_value.specs.declared.bound.Upper.TheVariants as upper
use Rattle.mi_value.specs.declared.refusal.Refusal.{Refusal}
use Rattle.mi_value.specs.declared.refusal.Refusal.TheVariants.{NoTable, Index, Key}
use Rattle.mi_catalog.specs.declared.index.Column.{Column}
use Rattle.mi_catalog.specs.declared.index.IndexKind.{IndexKind}
use Rattle.mi_catalog.specs.Fits.{fits_record}
use Rattle.mi_catalog.specs.Shape.{Shape, CatalogShape, index_at}
use Rattle.mi_catalog.specs.Kinds.{has_keys, is_ranked, is_hashed}
use Rattle.mi_model.specs.Database.{schema_of}
use Rattle.mi_protocol.specs.Binding.{and_then, of_kind}
use Rattle.mi_protocol.specs.Keys.{if_key}
use Rattle.mi_commands.specs.Holder.{HeldDatabase}
use Rattle.mi_embed.specs.declared.cell.Cell.{Cell}
use Rattle.mi_embed.specs.Cells.{values_in}

-- a number below a bound
abbrev pub numbered : ℕ → ℕ → Refusal → Result ℕ Refusal
numbered n bound e = if nat_lt n bound then Ok n else Err e

-- the table of this number, if it is there
abbrev pub table_in : CatalogShape → ℕ → Result ℕ Refusal
table_in c n = numbered n (length c.tables) NoTable

-- the index of this number, if it is there and of a kind that the command is for
abbrev pub index_in : (IndexKind → Bool) → Shape → ℕ → Result ℕ Refusal
index_in kinds s x = and_then (of_kind kinds s) (numbered x (length s.indexes) Index)

-- the record that cells are over columns: a value for each column, and no more
abbrev pub if_row : List Column → List Value → Option (List Value)
if_row cs row = if fits_record cs row then Some row else None

abbrev pub row_in : List Column → List ℕ → List Cell → Option (List Value)
row_in cs bytes cells = option_and_then (if_row cs) (values_in bytes cells)

-- the key of index x that cells are, or where it needn't be whole the first values of one
abbrev pub key_in : Shape → ℕ → Bool → List ℕ → List Cell → Option (List Value)
key_in s x whole bytes cells = option_and_then (if_key s x whole) (values_in bytes cells)

-- the bounds that a number and a key say: 0 is none, 1 is this key and on, or up to it, and 2 is beyond this key, or below it
abbrev pub lower_in : Shape → ℕ → ℕ → List ℕ → List Cell → Option Lower
lower_in s x kind bytes cells =
    if kind == 0 then Some lower.All
    else if kind == 1 then option_map lower.From (key_in s x false bytes cells)
    else if kind == 2 then option_map lower.Beyond (key_in s x false bytes cells)
    else None

abbrev pub upper_in : Shape → ℕ → ℕ → List ℕ → List Cell → Option Upper
upper_in s x kind bytes cells =
    if kind == 0 then Some upper.All
    else if kind == 1 then option_map upper.UpTo (key_in s x false bytes cells)
    else if kind == 2 then option_map upper.Below (key_in s x false bytes cells)
    else None

-- the number of an index of table n, of a kind that the command is for
abbrev pub asked_index : (IndexKind → Bool) → HeldDatabase → ℕ → ℕ → Result ℕ Refusal
asked_index kinds s n x = and_then (λ t. index_in kinds (schema_of s.database t) x) (table_in s.database.catalog n)

-- a key of it, which is whole where its kind wants that
abbrev pub asked_key : (IndexKind → Bool) → (IndexKind → Bool) → HeldDatabase → ℕ → ℕ → List Cell → List ℕ → Result (List Value) Refusal
asked_key kinds whole s n x cells bytes =
    let shape = schema_of s.database n in
    and_then (λ i. ok_or (key_in shape i (whole (index_at shape i).kind) bytes cells) Key) (asked_index kinds s n x)

-- a key, or in an ordered or ranked index the first values of one
abbrev pub key_or_prefix : HeldDatabase → ℕ → ℕ → List Cell → List ℕ → Result (List Value) Refusal
key_or_prefix s n x cells bytes = asked_key has_keys is_hashed s n x cells bytes

-- a key of a ranked index, or the first values of one
abbrev pub ranked_key : HeldDatabase → ℕ → ℕ → List Cell → List ℕ → Result (List Value) Refusal
ranked_key s n x cells bytes = asked_key is_ranked (λ _. false) s n x cells bytes
