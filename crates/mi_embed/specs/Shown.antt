-- Records that are put into cells and bytes of the caller's.
use Rattle.std.specs.Prelude.{◌≡◌, ℕ, nat_le, nat_lt, ◌&&◌, Bool, true, false, if◌then◌else◌, List, length, Result, Ok, Err}
use Rattle.std.specs.Option.{ok_or}
use Rattle.mi_value.specs.declared.value.Value.{Value}
use Rattle.mi_value.specs.declared.refusal.Refusal.{Refusal}
use Rattle.mi_value.specs.declared.refusal.Refusal.TheVariants.{NoTable, NoId}
use Rattle.mi_model.specs.Table.{get}
use Rattle.mi_model.specs.Database.{table_of}
use Rattle.mi_commands.specs.Holder.{HeldDatabase}
use Rattle.mi_embed.specs.declared.cell.Cell.{Cell}
use Rattle.mi_embed.specs.declared.call_result.CallResult.{CallResult}
use Rattle.mi_embed.specs.Cells.{texts_of, ArePut}
use Rattle.mi_embed.specs.CallResults.{accepted, refused, wanting}

-- the record of an id, or why there is none
abbrev pub got : HeldDatabase → ℕ → ℕ → Result (List Value) Refusal
got s n id = if nat_lt n (length s.database.catalog.tables) then ok_or (get (table_of s.database n) id) NoId else Err NoTable

-- there is room for a record
abbrev pub has_room : List Value → List Cell → List ℕ → Bool
has_room row cells texts = nat_le (length row) (length cells) && nat_le (length (texts_of row)) (length texts)

-- With room the id is told, and the record is put to the front; without, the room that is wanted, and nothing is said of cells and bytes.
abbrev pub IsShownIf : Bool → ℕ → List Value → CallResult → List Cell → List Cell → List ℕ → List ℕ → Type 0
IsShownIf true id row told cells new_cells texts new_texts = (told ≡ accepted id) × ArePut 0 row cells new_cells texts new_texts
IsShownIf false id row told cells new_cells texts new_texts = told ≡ wanting (length row) (length (texts_of row))

abbrev pub IsShown : ℕ → List Value → CallResult → List Cell → List Cell → List ℕ → List ℕ → Type 0
IsShown id row told cells new_cells texts new_texts = IsShownIf (has_room row cells texts) id row told cells new_cells texts new_texts

-- a record is shown, or why there is none is told, and cells and bytes stay
abbrev pub TellsRow : ℕ → Result (List Value) Refusal → CallResult → List Cell → List Cell → List ℕ → List ℕ → Type 0
TellsRow id (Ok row) told cells new_cells texts new_texts = IsShown id row told cells new_cells texts new_texts
TellsRow id (Err e) told cells new_cells texts new_texts = (told ≡ refused e) × (new_cells ≡ cells) × (new_texts ≡ texts)
