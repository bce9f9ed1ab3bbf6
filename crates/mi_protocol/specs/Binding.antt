-- The command that a request is over a catalog, with tables, indexes and columns by number.
use Rattle.std.specs.Prelude.{ℕ, Bool, true, false, if◌then◌else◌, List, Option, Some, None, IfSome, Result, Ok, Err}
use Rattle.std.specs.Option.{ok_or}
use Rattle.mi_value.specs.declared.refusal.Refusal.{Refusal}
use Rattle.mi_value.specs.declared.refusal.Refusal.TheVariants.{NoTable, Index, Kind, Row, Key}
use Rattle.mi_value.specs.declared.bound.Lower.{Lower}
use Rattle.mi_value.specs.declared.bound.Upper.{Upper}
use Rattle.mi_value.specs.declared.value.Value.{Value}
use Rattle.mi_catalog.specs.declared.index.IndexKind.{IndexKind}
use Rattle.mi_catalog.specs.Shape.{Shape, CatalogShape, schema_at, index_at, find_table, find_index}
use Rattle.mi_catalog.specs.Fitting.{HasTable, IsKeyedIndex, IsSortedIndex, IsRankedIndex, IsSequencedIndex}
use Rattle.mi_catalog.specs.Fitting.{FitsTable, FitsEdits, FitsWhole, FitsPrefix, FitsLookUp, FitsLower, FitsUpper}
use Rattle.serde_json.specs.Data.{Items}
use Rattle.mi_protocol.specs.Edits.{bound_edits}
use Rattle.mi_protocol.specs.Keys.{bound_key, bound_lower, bound_upper}
use Rattle.mi_catalog.specs.Kinds.{has_keys, is_sequenced, is_sorted, is_ranked, is_hashed}
use Rattle.mi_protocol.specs.Values.{bound_row}
use Rattle.mi_request.specs.declared.request.ChangeRequest.{ChangeRequest}
use Rattle.mi_request.specs.declared.request.ChangeRequest.TheVariants as change_request
use Rattle.mi_request.specs.declared.request.Bound.{Bound}
use Rattle.mi_request.specs.declared.request.KeyLookUpRequest.{KeyLookUpRequest}
use Rattle.mi_request.specs.declared.request.KeyLookUpRequest.TheVariants as key_request
use Rattle.mi_request.specs.declared.request.NamedPlace.{NamedPlace}
use Rattle.mi_request.specs.declared.request.NumberLookUpRequest.{NumberLookUpRequest}
use Rattle.mi_request.specs.declared.request.NumberLookUpRequest.TheVariants as number_request
use Rattle.mi_request.specs.declared.request.Request.{Request}
use Rattle.mi_request.specs.declared.request.Request.TheVariants as request
use Rattle.mi_protocol.specs.declared.changes.Change.{Change}
use Rattle.mi_protocol.specs.declared.changes.Change.TheVariants as change
use Rattle.mi_protocol.specs.declared.command.Command.{Command}
use Rattle.mi_protocol.specs.declared.command.Command.TheVariants as command
use Rattle.mi_protocol.specs.declared.look_ups.KeyLookUp.{KeyLookUp}
use Rattle.mi_protocol.specs.declared.look_ups.KeyLookUp.TheVariants as by_key
use Rattle.mi_protocol.specs.declared.look_ups.NumberLookUp.{NumberLookUp}
use Rattle.mi_protocol.specs.declared.look_ups.NumberLookUp.TheVariants as by_number

-- what follows from a value, or the refusal in its place
abbrev pub and_then : {A B : Type 0} → (A → Result B Refusal) → Result A Refusal → Result B Refusal
and_then f (Ok v) = f v
and_then f (Err e) = Err e

-- the number of the table that is named; without a name it is the first
abbrev pub table_number : CatalogShape → Option (List ℕ) → Result ℕ Refusal
table_number c None = Ok 0
table_number c (Some name) = ok_or (find_table c name) NoTable

-- index x, if it is of a kind that the command is for
abbrev pub of_kind : (IndexKind → Bool) → Shape → ℕ → Result ℕ Refusal
of_kind kinds s x = if kinds (index_at s x).kind then Ok x else Err Kind

-- the number of the index that is named, which must be of a kind that the command is for
abbrev pub index_number : (IndexKind → Bool) → Shape → List ℕ → Result ℕ Refusal
index_number kinds s name = and_then (of_kind kinds s) (ok_or (find_index s name) Index)

-- the place that is named, if one is
abbrev pub bound_place : Shape → Option NamedPlace → Result (Option (ℕ × ℕ)) Refusal
bound_place s None = Ok None
bound_place s (Some p) = and_then (λ x. Ok (Some (x, p.id))) (index_number is_sequenced s p.index)

-- the index that is named, of a kind that the command is for, and a key of it: whole where its kind wants that
abbrev pub named_key : (IndexKind → Bool) → (IndexKind → Bool) → Shape → List ℕ → Items → Result (ℕ × List Value) Refusal
named_key kinds whole s index key =
    and_then (λ x. and_then (λ values. Ok (x, values)) (ok_or (bound_key s x (whole (index_at s x).kind) key) Key)) (index_number kinds s index)

-- a whole key
abbrev pub whole_key : Shape → List ℕ → Items → Result (ℕ × List Value) Refusal
whole_key s index key = named_key has_keys (λ kind. true) s index key

-- a key, or in a sorted index the first values of one
abbrev pub key_or_prefix : Shape → List ℕ → Items → Result (ℕ × List Value) Refusal
key_or_prefix s index key = named_key has_keys is_hashed s index key

-- a key of a ranked index, or the first values of one
abbrev pub ranked_key : Shape → List ℕ → Items → Result (ℕ × List Value) Refusal
ranked_key s index key = named_key is_ranked (λ kind. false) s index key

-- the bounds of a range in index x
abbrev pub bound_ends : Shape → ℕ → Bound → Bound → Result (Lower × Upper) Refusal
bound_ends s x lower upper = and_then (λ l. and_then (λ u. Ok (l, u)) (ok_or (bound_upper s x upper) Key)) (ok_or (bound_lower s x lower) Key)

-- ---- commands

-- a change of a table of this schema; an insert's place is bound before its row
abbrev pub bound_change : Shape → ChangeRequest → Result Change Refusal
bound_change s (change_request.Insert row before) =
    and_then (λ at. and_then (λ values. Ok (change.Insert values at)) (ok_or (bound_row s.columns row) Row)) (bound_place s before)
bound_change s (change_request.Replace id row) = and_then (λ values. Ok (change.Replace id values)) (ok_or (bound_row s.columns row) Row)
bound_change s (change_request.Modify id set add rollback) =
    and_then (λ edits. Ok (change.Modify id edits rollback)) (ok_or (bound_edits s.columns set add) Row)
bound_change s (change_request.Erase id) = Ok (change.Erase id)
bound_change s (change_request.EraseKey index key) = and_then (λ k. Ok (change.EraseKey k.0 k.1)) (whole_key s index key)
bound_change s (change_request.Relocate index id before) = and_then (λ x. Ok (change.Relocate x id before)) (index_number is_sequenced s index)

-- a look-up by numbers of a table of this schema
abbrev pub bound_number_look_up : Shape → NumberLookUpRequest → Result NumberLookUp Refusal
bound_number_look_up s (number_request.Get id) = Ok (by_number.Get id)
bound_number_look_up s (number_request.Nth index n) = and_then (λ x. Ok (by_number.Nth x n)) (index_number is_ranked s index)
bound_number_look_up s (number_request.List index after limit) =
    and_then (λ x. Ok (by_number.List x after limit)) (index_number is_sequenced s index)
bound_number_look_up s (number_request.Rank index id) = and_then (λ x. Ok (by_number.Rank x id)) (index_number is_ranked s index)
bound_number_look_up s number_request.Size = Ok by_number.Size

-- a look-up by keys
abbrev pub bound_key_look_up : Shape → KeyLookUpRequest → Result KeyLookUp Refusal
bound_key_look_up s (key_request.Find index key) = and_then (λ k. Ok (by_key.Find k.0 k.1)) (key_or_prefix s index key)
bound_key_look_up s (key_request.Count index key) = and_then (λ k. Ok (by_key.Count k.0 k.1)) (key_or_prefix s index key)
bound_key_look_up s (key_request.Range index lower upper reverse limit) =
    and_then (λ x. and_then (λ e. Ok (by_key.Range x e.0 e.1 reverse limit)) (bound_ends s x lower upper)) (index_number is_sorted s index)
bound_key_look_up s (key_request.LowerRank index key) = and_then (λ k. Ok (by_key.LowerRank k.0 k.1)) (ranked_key s index key)
bound_key_look_up s (key_request.UpperRank index key) = and_then (λ k. Ok (by_key.UpperRank k.0 k.1)) (ranked_key s index key)

-- a change or a look-up of the table of a number
abbrev pub of_table : {A : Type 0} → (ℕ → A → Command) → Result (ℕ × A) Refusal → Result Command Refusal
of_table make r = and_then (λ v. Ok (make v.0 v.1)) r

-- what is made of the table that is named and of what is bound over its schema
abbrev pub bound_over : {A : Type 0} → (ℕ → A → Command) → (Shape → Result A Refusal) → CatalogShape → Option (List ℕ) → Result Command Refusal
bound_over make bound c table = and_then (λ n. and_then (λ x. Ok (make n x)) (bound (schema_at c n))) (table_number c table)

-- the command that a request is: refused as `table`, `index`, `kind`, `row`, `key` in this order
abbrev pub bound_command : CatalogShape → Request → Result Command Refusal
bound_command c (request.Change table r) = bound_over command.Change (λ s. bound_change s r) c table
bound_command c (request.NumberLookUp table r) = bound_over command.NumberLookUp (λ s. bound_number_look_up s r) c table
bound_command c (request.KeyLookUp table r) = bound_over command.KeyLookUp (λ s. bound_key_look_up s r) c table
bound_command c (request.Session s) = Ok (command.Session s)

-- a request that is bound without memory. A row, edits and a key are made in memory that is asked for
abbrev pub binds_without : Request → Bool
binds_without (request.Change table r) = false
binds_without (request.NumberLookUp table r) = true
binds_without (request.KeyLookUp table r) = false
binds_without (request.Session s) = true

-- records, edits, keys and indexes are as the schema of table n wants them
abbrev pub FitsChange : CatalogShape → ℕ → Change → Type 0
FitsChange c n (change.Insert row before) = FitsTable c n row × IfSome before (λ at. IsSequencedIndex c n at.0)
FitsChange c n (change.Replace id row) = FitsTable c n row
FitsChange c n (change.Modify id edits rollback) = FitsEdits c n edits
FitsChange c n (change.Erase id) = Unit {0}
FitsChange c n (change.EraseKey x key) = IsKeyedIndex c n x × FitsWhole c n x key
FitsChange c n (change.Relocate x id before) = IsSequencedIndex c n x

abbrev pub FitsNumberLookUp : CatalogShape → ℕ → NumberLookUp → Type 0
FitsNumberLookUp c n (by_number.Get id) = Unit {0}
FitsNumberLookUp c n (by_number.Nth x k) = IsRankedIndex c n x
FitsNumberLookUp c n (by_number.List x after limit) = IsSequencedIndex c n x
FitsNumberLookUp c n (by_number.Rank x id) = IsRankedIndex c n x
FitsNumberLookUp c n by_number.Size = Unit {0}

abbrev pub FitsKeyLookUp : CatalogShape → ℕ → KeyLookUp → Type 0
FitsKeyLookUp c n (by_key.Find x key) = IsKeyedIndex c n x × FitsLookUp c n x key
FitsKeyLookUp c n (by_key.Count x key) = IsKeyedIndex c n x × FitsLookUp c n x key
FitsKeyLookUp c n (by_key.Range x low high reverse limit) = IsSortedIndex c n x × FitsLower c n x low × FitsUpper c n x high
FitsKeyLookUp c n (by_key.LowerRank x key) = IsRankedIndex c n x × FitsPrefix c n x key
FitsKeyLookUp c n (by_key.UpperRank x key) = IsRankedIndex c n x × FitsPrefix c n x key

-- the table is there, and what is over it fits its schema; what is over sessions fits each catalog
abbrev pub FitsCatalog : CatalogShape → Command → Type 0
FitsCatalog c (command.Change n x) = HasTable c n × FitsChange c n x
FitsCatalog c (command.NumberLookUp n x) = HasTable c n × FitsNumberLookUp c n x
FitsCatalog c (command.KeyLookUp n x) = HasTable c n × FitsKeyLookUp c n x
FitsCatalog c (command.Session s) = Unit {0}

-- the table that a command is over; one over sessions has none
abbrev pub over_table : Command → Option ℕ
over_table (command.Change n x) = Some n
over_table (command.NumberLookUp n x) = Some n
over_table (command.KeyLookUp n x) = Some n
over_table (command.Session s) = None
