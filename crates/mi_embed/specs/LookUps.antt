-- What a look-up with values answers: what the line of the same command says, whoever holds sessions. It changes nothing.
use Rattle.std.specs.Prelude.{◌≡◌, ℕ, if◌then◌else◌, List, Option, Some, None, Result, Ok, Err}
use Rattle.mi_value.specs.declared.value.Value.{Value}
use Rattle.mi_value.specs.declared.refusal.Refusal.{Refusal}
use Rattle.mi_value.specs.declared.refusal.Refusal.TheVariants.{NoId}
use Rattle.mi_catalog.specs.Key.{Row}
use Rattle.mi_catalog.specs.Kinds.{is_ranked}
use Rattle.mi_model.specs.Table.{Table, get, has, size}
use Rattle.mi_model.specs.LookUp as look
use Rattle.mi_model.specs.Database.{schema_of, table_of}
use Rattle.mi_protocol.specs.Binding.{and_then}
use Rattle.mi_request.specs.Answers.{IsAnswer}
use Rattle.mi_commands.specs.Holder.{HeldDatabase}
use Rattle.mi_embed.specs.declared.cell.Cell.{Cell}
use Rattle.mi_embed.specs.declared.call_result.CallResult.{CallResult}
use Rattle.mi_embed.specs.CallResults.{refused, number_told}
use Rattle.mi_embed.specs.Shown.{IsShown}
use Rattle.mi_embed.specs.Asked.{table_in, asked_index, key_or_prefix, ranked_key}

abbrev pub size_by : HeldDatabase → ℕ → Result ℕ Refusal
size_by s n = and_then (λ _. Ok (size (table_of s.database n))) (table_in s.database.catalog n)

abbrev pub count_by : HeldDatabase → ℕ → ℕ → List Cell → List ℕ → Result ℕ Refusal
count_by s n x cells bytes = and_then (λ key. Ok (look.count (schema_of s.database n) (table_of s.database n) x key)) (key_or_prefix s n x cells bytes)

-- how many records stand before one, unless it isn't there
abbrev pub rank_in : HeldDatabase → ℕ → ℕ → ℕ → Result ℕ Refusal
rank_in s n x id = let t = table_of s.database n in if has t id then Ok (look.rank (schema_of s.database n) t x id) else Err NoId

abbrev pub rank_by : HeldDatabase → ℕ → ℕ → ℕ → Result ℕ Refusal
rank_by s n x id = and_then (λ _. rank_in s n x id) (asked_index is_ranked s n x)

abbrev pub lower_rank_by : HeldDatabase → ℕ → ℕ → List Cell → List ℕ → Result ℕ Refusal
lower_rank_by s n x cells bytes =
    and_then (λ key. Ok (look.lower_rank (schema_of s.database n) (table_of s.database n) x key)) (ranked_key s n x cells bytes)

abbrev pub upper_rank_by : HeldDatabase → ℕ → ℕ → List Cell → List ℕ → Result ℕ Refusal
upper_rank_by s n x cells bytes =
    and_then (λ key. Ok (look.upper_rank (schema_of s.database n) (table_of s.database n) x key)) (ranked_key s n x cells bytes)

-- the row of the id that a look-up found
abbrev pub row_of : ℕ → Option (List Value) → Result Row Refusal
row_of id None = Err NoId
row_of id (Some row) = Ok (id, row)

abbrev pub found : Table → Option ℕ → Result Row Refusal
found t None = Err NoId
found t (Some id) = row_of id (get t id)

abbrev pub find_by : HeldDatabase → ℕ → ℕ → List Cell → List ℕ → Result Row Refusal
find_by s n x cells bytes =
    let t = table_of s.database n in and_then (λ key. found t (look.find (schema_of s.database n) t x key)) (key_or_prefix s n x cells bytes)

abbrev pub nth_by : HeldDatabase → ℕ → ℕ → ℕ → Result Row Refusal
nth_by s n x place = let t = table_of s.database n in and_then (λ _. found t (look.nth (schema_of s.database n) t x place)) (asked_index is_ranked s n x)

-- What is told of a number that may be answered so: as it is defined, or for want of memory.
abbrev pub TellsNumber : Result ℕ Refusal → CallResult → Type 0
TellsNumber defined told = (answer : Result ℕ Refusal) × IsAnswer answer defined × (told ≡ number_told answer)

-- The row that a look-up found is shown, or why there is none is told, and cells and bytes stay.
abbrev pub TellsFound : Result Row Refusal → CallResult → List Cell → List Cell → List ℕ → List ℕ → Type 0
TellsFound (Ok r) told cells new_cells texts new_texts = IsShown r.0 r.1 told cells new_cells texts new_texts
TellsFound (Err e) told cells new_cells texts new_texts = (told ≡ refused e) × (new_cells ≡ cells) × (new_texts ≡ texts)

-- What is told of a row that may be answered so: as it is defined, or for want of memory.
abbrev pub MayTellFound : Result Row Refusal → CallResult → List Cell → List Cell → List ℕ → List ℕ → Type 0
MayTellFound defined told cells new_cells texts new_texts =
    (answer : Result Row Refusal) × IsAnswer answer defined × TellsFound answer told cells new_cells texts new_texts
