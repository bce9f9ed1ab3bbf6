-- Cursors: records by their ids, found and stepped from one at a time under an index, and read a column at a time. No row is copied.
use Rattle.std.specs.Prelude.{◌≡◌, ◌==◌, ℕ, nat_le, Bool, true, false, not, IsTrue, if◌then◌else◌, List, [], ◌∷◌, ◌++◌, length, drop, slice_get, Option, Some, None, Result, Ok, Err, pos}
use Rattle.std.specs.Option.{ok_or}
use Rattle.mi_value.specs.declared.value.Value.{Value}
use Rattle.mi_value.specs.declared.value.Value.TheVariants.{Int, Text, Flag}
use Rattle.mi_value.specs.declared.refusal.Refusal.{Refusal}
use Rattle.mi_value.specs.declared.refusal.Refusal.TheVariants.{NoId, Index, Key, Row}
use Rattle.mi_catalog.specs.declared.index.IndexKind.{IndexKind}
use Rattle.mi_catalog.specs.Kinds.{has_keys, is_sorted, is_ranked, is_hashed, shows_one_list}
use Rattle.mi_catalog.specs.Shape.{CatalogShape, schema_at, index_at}
use Rattle.mi_model.specs.Table.{get, has}
use Rattle.mi_model.specs.LookUp as look
use Rattle.mi_model.specs.Database.{Database, schema_of, table_of}
use Rattle.mi_protocol.specs.Binding.{and_then}
use Rattle.mi_request.specs.Answers.{IsAnswer}
use Rattle.mi_embed.specs.declared.cell.Cell.{Cell}
use Rattle.mi_embed.specs.declared.field.Field.{Field}
use Rattle.mi_embed.specs.declared.call_result.CallResult.{CallResult}
use Rattle.mi_embed.specs.CallResults.{accepted, refused, refusal_number, wanting}
use Rattle.mi_embed.specs.Asked.{numbered, table_in, index_in, key_in}

-- the number of an index of table n, of a kind that the call is for
abbrev pub index_by : (IndexKind → Bool) → CatalogShape → ℕ → ℕ → Result ℕ Refusal
index_by kinds c n x = and_then (λ t. index_in kinds (schema_at c n) x) (table_in c n)

-- a key of it, or the first values of one
abbrev pub sorted_key : CatalogShape → ℕ → ℕ → List Cell → List ℕ → Result (List Value) Refusal
sorted_key c n x cells bytes = and_then (λ i. ok_or (key_in (schema_at c n) i false bytes cells) Key) (index_by is_sorted c n x)

-- the value of a cell that is no text
abbrev pub plain_in : Cell → Option Value
plain_in c = if c.kind == 0 then Some (Int c.integer) else if c.kind == 2 then Some (Flag false) else if c.kind == 3 then Some (Flag true) else None

-- a key that takes no memory: one value, and no text
abbrev pub is_plain : List Cell → Bool
is_plain [] = false
is_plain (c ∷ []) = not (c.kind == 1)
is_plain (c ∷ d ∷ cs) = false

-- A call is answered as it is defined; or, unless its key takes none, for want of memory.
abbrev pub IsAnswerOf : {A : Type 0} → List Cell → Result A Refusal → Result A Refusal → Type 0
IsAnswerOf key result defined = IsAnswer result defined × (IsTrue (is_plain key) → result ≡ defined)

-- a key of an index that has keys, whole where that is hashed
abbrev pub keyed_key : CatalogShape → ℕ → ℕ → List Cell → List ℕ → Result (List Value) Refusal
keyed_key c n x cells bytes =
    let s = schema_at c n in and_then (λ i. ok_or (key_in s i (is_hashed (index_at s i).kind) bytes cells) Key) (index_by has_keys c n x)

-- the first id of a key, or of the first values of one
abbrev pub find_id_by : Database → ℕ → ℕ → List Cell → List ℕ → Result (Option ℕ) Refusal
find_id_by d n x cells bytes = and_then (λ key. Ok (look.find (schema_of d n) (table_of d n) x key)) (keyed_key d.catalog n x cells bytes)

-- where a key begins in an ordered or ranked index, or with `beyond` what stands behind it: the first id whose key isn't less, or is greater
abbrev pub bound : Database → ℕ → ℕ → List Value → Bool → Option ℕ
bound d n x key beyond =
    let s = schema_of d n in let t = table_of d n in if beyond then look.upper s t x key else look.lower s t x key

abbrev pub seek_by : Database → ℕ → ℕ → List Cell → List ℕ → Bool → Result (Option ℕ) Refusal
seek_by d n x cells bytes beyond = and_then (λ key. Ok (bound d n x key beyond)) (sorted_key d.catalog n x cells bytes)

-- the first id that any index but a hashed one shows, and the last
abbrev pub first_by : Database → ℕ → ℕ → Result (Option ℕ) Refusal
first_by d n x = and_then (λ i. Ok (look.first (schema_of d n) (table_of d n) x)) (index_by shows_one_list d.catalog n x)

abbrev pub last_by : Database → ℕ → ℕ → Result (Option ℕ) Refusal
last_by d n x = and_then (λ i. Ok (look.last (schema_of d n) (table_of d n) x)) (index_by shows_one_list d.catalog n x)

-- the id with so many before it in a ranked index
abbrev pub at_rank_by : Database → ℕ → ℕ → ℕ → Result (Option ℕ) Refusal
at_rank_by d n x place = and_then (λ i. Ok (look.nth (schema_of d n) (table_of d n) x place)) (index_by is_ranked d.catalog n x)

-- the id behind one or before it, unless that one is gone
abbrev pub neighbour : Database → ℕ → ℕ → ℕ → Bool → Result (Option ℕ) Refusal
neighbour d n x id back =
    let s = schema_of d n in let t = table_of d n in
    if has t id then Ok (if back then look.before s t x id else look.after s t x id) else Err NoId

abbrev pub step_by : Database → ℕ → ℕ → ℕ → Bool → Result (Option ℕ) Refusal
step_by d n x id back = and_then (λ i. neighbour d n x id back) (index_by shows_one_list d.catalog n x)

-- the record of an id, and whether it is there
abbrev pub record_by : Database → ℕ → ℕ → Result (List Value) Refusal
record_by d n id = and_then (λ t. ok_or (get (table_of d n) id) NoId) (table_in d.catalog n)

abbrev pub there_by : Database → ℕ → ℕ → Result ℕ Refusal
there_by d n id = and_then (λ row. Ok id) (record_by d n id)

-- one column of a record
abbrev pub column_by : Database → ℕ → ℕ → ℕ → Result Value Refusal
column_by d n id column = and_then (λ row. ok_or (slice_get row column) Row) (record_by d n id)

-- What a call tells of an id that it looked for. Where there is none, it tells the end.
abbrev pub at_end : CallResult
at_end = record { status = 20; index = 0; number = 0 }

abbrev pub cursor_told : Result (Option ℕ) Refusal → CallResult
cursor_told (Ok (Some id)) = accepted id
cursor_told (Ok None) = at_end
cursor_told (Err e) = refused e

-- what is told of a call with a key
abbrev pub TellsCursor : List Cell → Result (Option ℕ) Refusal → CallResult → Type 0
TellsCursor key defined told = (answer : Result (Option ℕ) Refusal) × IsAnswerOf key answer defined × (told ≡ cursor_told answer)

-- A column in numbers, by the kinds of cells. The bytes of a text are asked for by another call.
abbrev pub field_of : Result Value Refusal → Field
field_of (Ok (Int n)) = record { status = 0; kind = 0; integer = n }
field_of (Ok (Text bytes)) = record { status = 0; kind = 1; integer = pos 0 }
field_of (Ok (Flag false)) = record { status = 0; kind = 2; integer = pos 0 }
field_of (Ok (Flag true)) = record { status = 0; kind = 3; integer = pos 0 }
field_of (Err e) = record { status = refusal_number e; kind = 0; integer = pos 0 }

-- the text of a column
abbrev pub text_only : Value → Result (List ℕ) Refusal
text_only (Int n) = Err Row
text_only (Text bytes) = Ok bytes
text_only (Flag b) = Err Row

abbrev pub text_by : Database → ℕ → ℕ → ℕ → Result (List ℕ) Refusal
text_by d n id column = and_then text_only (column_by d n id column)

-- the name of an index
abbrev pub index_name_by : CatalogShape → ℕ → ℕ → Result (List ℕ) Refusal
index_name_by c n x =
    let s = schema_at c n in and_then (λ t. and_then (λ i. Ok (index_at s i).name) (numbered x (length s.indexes) Index)) (table_in c n)

-- With room a text is put to the front of bytes, whose rest stays, and its length is told; without, the length is told as what is wanted.
abbrev pub IsCopiedIf : Bool → List ℕ → CallResult → List ℕ → List ℕ → Type 0
IsCopiedIf true text told bytes new_bytes = (told ≡ accepted (length text)) × (new_bytes ≡ text ++ drop (length text) bytes)
IsCopiedIf false text told bytes new_bytes = (told ≡ wanting 1 (length text)) × (new_bytes ≡ bytes)

-- a text is copied, or why there is none is told, and the bytes stay
abbrev pub TellsText : Result (List ℕ) Refusal → CallResult → List ℕ → List ℕ → Type 0
TellsText (Ok text) told bytes new_bytes = IsCopiedIf (nat_le (length text) (length bytes)) text told bytes new_bytes
TellsText (Err e) told bytes new_bytes = (told ≡ refused e) × (new_bytes ≡ bytes)
