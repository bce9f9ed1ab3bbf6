-- Pages: rows that are put into ids, cells and bytes of the caller's.
use Rattle.std.specs.Prelude.{◌≡◌, ℕ, min, Bool, true, false, if◌then◌else◌, List, ◌++◌, length, map, drop, Option, Result, Ok, Err}
use Rattle.std.specs.List.{flat_map}
use Rattle.std.specs.Option.{ok_or}
use Rattle.mi_value.specs.declared.value.Value.{Value}
use Rattle.mi_value.specs.declared.bound.Lower.{Lower}
use Rattle.mi_value.specs.declared.bound.Upper.{Upper}
use Rattle.mi_value.specs.declared.refusal.Refusal.{Refusal}
use Rattle.mi_value.specs.declared.refusal.Refusal.TheVariants.{NoId, Key}
use Rattle.mi_value.specs.declared.limits.TheConstants.{MAX_PAGE}
use Rattle.mi_catalog.specs.Key.{Row}
use Rattle.mi_catalog.specs.Kinds.{is_sorted, is_sequenced}
use Rattle.mi_catalog.specs.Shape.{Shape}
use Rattle.mi_model.specs.Table.{Table, row}
use Rattle.mi_model.specs.Page as page
use Rattle.mi_model.specs.Page.{Page}
use Rattle.mi_model.specs.Verdict.{has_place}
use Rattle.mi_model.specs.Database.{schema_of, table_of}
use Rattle.mi_protocol.specs.Binding.{and_then}
use Rattle.mi_request.specs.Answers.{IsAnswer}
use Rattle.mi_commands.specs.Holder.{HeldDatabase}
use Rattle.mi_embed.specs.declared.cell.Cell.{Cell}
use Rattle.mi_embed.specs.declared.call_result.CallResult.{CallResult}
use Rattle.mi_embed.specs.Cells.{texts_of, ArePut}
use Rattle.mi_embed.specs.CallResults.{refused, wanting, paged}
use Rattle.mi_embed.specs.Shown.{has_room}
use Rattle.mi_embed.specs.Asked.{asked_index, lower_in, upper_in}

-- the rows of a page, and whether others remain
abbrev pub Rows : Type 0
Rows = List Row × Bool

abbrev pub rows_of : Table → Page → Rows
rows_of t p = (map (row t) p.ids, p.more)

-- the bounds of a range in index x, by numbers and keys
abbrev pub ends_in : Shape → ℕ → ℕ → List Cell → ℕ → List Cell → List ℕ → Result (Lower × Upper) Refusal
ends_in s x lower lower_key upper upper_key bytes =
    and_then (λ low. and_then (λ high. Ok (low, high)) (ok_or (upper_in s x upper bytes upper_key) Key)) (ok_or (lower_in s x lower bytes lower_key) Key)

-- the bounds of a range in index x of table n, which must be ordered or ranked
abbrev pub bounds_in : HeldDatabase → ℕ → ℕ → ℕ → List Cell → ℕ → List Cell → List ℕ → Result (Lower × Upper) Refusal
bounds_in s n x lower lower_key upper upper_key bytes =
    and_then (λ i. ends_in (schema_of s.database n) i lower lower_key upper upper_key bytes) (asked_index is_sorted s n x)

-- the rows between two bounds, at most so many
abbrev pub range_by : HeldDatabase → ℕ → ℕ → ℕ → List Cell → ℕ → List Cell → List ℕ → Bool → ℕ → Result Rows Refusal
range_by s n x lower lower_key upper upper_key bytes reverse limit =
    let t = table_of s.database n in
    and_then (λ e. Ok (rows_of t (page.range (schema_of s.database n) t x e.0 e.1 reverse limit))) (bounds_in s n x lower lower_key upper upper_key bytes)

-- the rows of a sequenced index behind one, or from the first on, at most so many
abbrev pub list_in : HeldDatabase → ℕ → ℕ → Option ℕ → ℕ → Result Rows Refusal
list_in s n x after limit =
    let t = table_of s.database n in if has_place t after then Ok (rows_of t (page.list (schema_of s.database n) t x after limit)) else Err NoId

abbrev pub list_by : HeldDatabase → ℕ → ℕ → Option ℕ → ℕ → Result Rows Refusal
list_by s n x after limit = and_then (λ _. list_in s n x after limit) (asked_index is_sequenced s n x)

-- the most rows that are asked for where there is room for so many ids: as many as a line may ask for
abbrev pub page_limit : List ℕ → ℕ
page_limit ids = min (length ids) MAX_PAGE

-- the values of rows, one row behind another
abbrev pub values_of : List Row → List Value
values_of rows = flat_map (λ r. r.1) rows

-- The ids of rows are put to the front of ids, and their values one row behind another; the rest of each stays.
abbrev pub RowsArePut : List Row → List ℕ → List ℕ → List Cell → List Cell → List ℕ → List ℕ → Type 0
RowsArePut rows ids new_ids cells new_cells texts new_texts =
    (new_ids ≡ map (λ r. r.0) rows ++ drop (length rows) ids) × ArePut 0 (values_of rows) cells new_cells texts new_texts

-- With room the rows are put, and how many they are is told, and whether others remain; without, the room that all of them want, and nothing is
-- said of ids, cells and bytes.
abbrev pub IsPagedIf : Bool → Rows → CallResult → List ℕ → List ℕ → List Cell → List Cell → List ℕ → List ℕ → Type 0
IsPagedIf true p told ids new_ids cells new_cells texts new_texts =
    (told ≡ paged (length p.0) p.1) × RowsArePut p.0 ids new_ids cells new_cells texts new_texts
IsPagedIf false p told ids new_ids cells new_cells texts new_texts = told ≡ wanting (length (values_of p.0)) (length (texts_of (values_of p.0)))

abbrev pub IsPaged : Rows → CallResult → List ℕ → List ℕ → List Cell → List Cell → List ℕ → List ℕ → Type 0
IsPaged p told ids new_ids cells new_cells texts new_texts =
    IsPagedIf (has_room (values_of p.0) cells texts) p told ids new_ids cells new_cells texts new_texts

-- rows are shown, or why there are none is told, and ids, cells and bytes stay
abbrev pub TellsPage : Result Rows Refusal → CallResult → List ℕ → List ℕ → List Cell → List Cell → List ℕ → List ℕ → Type 0
TellsPage (Ok p) told ids new_ids cells new_cells texts new_texts = IsPaged p told ids new_ids cells new_cells texts new_texts
TellsPage (Err e) told ids new_ids cells new_cells texts new_texts =
    (told ≡ refused e) × (new_ids ≡ ids) × (new_cells ≡ cells) × (new_texts ≡ texts)

-- What is told of rows that may be answered so: as they are defined, or for want of memory.
abbrev pub MayTellPage : Result Rows Refusal → CallResult → List ℕ → List ℕ → List Cell → List Cell → List ℕ → List ℕ → Type 0
MayTellPage defined told ids new_ids cells new_cells texts new_texts =
    (answer : Result Rows Refusal) × IsAnswer answer defined × TellsPage answer told ids new_ids cells new_cells texts new_texts
