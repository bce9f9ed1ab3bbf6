-- A call is answered as its line. A line is a call's where its names are of the call's tables and indexes, or of none as the call's numbers are. Its
-- row, key, bounds and edits are the values of the call's cells, or as little fit. Such a line is refused first for the same reason, or is the same
-- command. So both are answered the same, and leave the same.
use Rattle.std.specs.Prelude.{◌≡◌, ℕ, true, false, List, length, Option, Some, None, Ok}
use Rattle.std.specs.Option.{ok_or}
use Rattle.mi_value.specs.declared.refusal.Refusal.TheVariants.{Index}
use Rattle.mi_catalog.specs.Kinds.{is_hashed}
use Rattle.mi_catalog.specs.Shape.{CatalogShape, schema_at, index_at, find_index}
use Rattle.mi_request.specs.declared.request.ChangeRequest.TheVariants as change
use Rattle.mi_request.specs.declared.request.KeyLookUpRequest.TheVariants as by_key
use Rattle.mi_request.specs.declared.request.NumberLookUpRequest.TheVariants as by_number
use Rattle.mi_request.specs.declared.request.Request.{Request}
use Rattle.mi_request.specs.declared.request.Request.TheVariants as request
use Rattle.mi_request.specs.declared.request.SessionCommand.TheVariants as session
use Rattle.mi_protocol.specs.Binding.{table_number}
use Rattle.mi_protocol.specs.Edits.{bound_edits}
use Rattle.mi_protocol.specs.Keys.{bound_key, bound_lower, bound_upper}
use Rattle.mi_protocol.specs.Lines.{command_line}
use Rattle.mi_protocol.specs.Values.{bound_row}
use Rattle.mi_commands.specs.Asked.{text}
use Rattle.mi_commands.specs.Answer.{answer}
use Rattle.mi_commands.specs.Holder.{HeldDatabase}
use Rattle.mi_embed.specs.Asked.{numbered, table_in, row_in, key_in, lower_in, upper_in}
use Rattle.mi_embed.specs.EditCells.{edits_for}
use Rattle.mi_embed.specs.Calls as call
use Rattle.mi_embed.specs.Calls.{Call, addition_in, call_answer}

-- a name and a number are of one table, or of none
abbrev pub IsTable : CatalogShape → Option (List ℕ) → ℕ → Type 0
IsTable c name n = table_number c name ≡ table_in c n

-- a name and a number are of one index of table n, or of none
abbrev pub IsIndex : CatalogShape → ℕ → List ℕ → ℕ → Type 0
IsIndex c n name x = ok_or (find_index (schema_at c n) name) Index ≡ numbered x (length (schema_at c n).indexes) Index

-- the request of a line asks what a call asks
abbrev pub AsksAs : CatalogShape → Request → Call → Type 0
AsksAs c (request.Change table (change.Insert row None)) (call.insert n cells bytes) =
    IsTable c table n × (bound_row (schema_at c n).columns row ≡ row_in (schema_at c n).columns bytes cells)
AsksAs c (request.Change table (change.Insert row (Some p))) (call.insert_before n cells bytes x before) =
    IsTable c table n × IsIndex c n p.index x × (p.id ≡ before) × (bound_row (schema_at c n).columns row ≡ row_in (schema_at c n).columns bytes cells)
AsksAs c (request.Change table (change.Replace id row)) (call.replace n e cells bytes) =
    IsTable c table n × (id ≡ e) × (bound_row (schema_at c n).columns row ≡ row_in (schema_at c n).columns bytes cells)
AsksAs c (request.Change table (change.Modify id set add rollback)) (call.modify n e cells bytes rolls) =
    IsTable c table n × (id ≡ e) × (rollback ≡ rolls) × (bound_edits (schema_at c n).columns set add ≡ edits_for (schema_at c n).columns bytes cells)
AsksAs c (request.Change table (change.Modify id set add rollback)) (call.modify_add n e x k rolls) =
    IsTable c table n × (id ≡ e) × (rollback ≡ rolls) × (bound_edits (schema_at c n).columns set add ≡ addition_in (schema_at c n).columns x k)
AsksAs c (request.Change table (change.Erase id)) (call.erase n e) = IsTable c table n × (id ≡ e)
AsksAs c (request.Change table (change.EraseKey index key)) (call.erase_key n x cells bytes) =
    IsTable c table n × IsIndex c n index x × (bound_key (schema_at c n) x true key ≡ key_in (schema_at c n) x true bytes cells)
AsksAs c (request.Change table (change.Relocate index id before)) (call.relocate n x e place) = IsTable c table n × IsIndex c n index x × (id ≡ e) × (before ≡ place)
AsksAs c (request.Session session.Start) call.start = Unit {0}
AsksAs c (request.Session session.Undo) call.undo = Unit {0}
AsksAs c (request.Session session.Squash) call.squash = Unit {0}
AsksAs c (request.Session (session.Commit revision)) (call.commit number) = revision ≡ number
AsksAs c (request.Session session.UndoAll) call.undo_all = Unit {0}
AsksAs c (request.Session session.Push) call.push = Unit {0}
AsksAs c (request.NumberLookUp table (by_number.Get id)) (call.get n e) = IsTable c table n × (id ≡ e)
AsksAs c (request.KeyLookUp table (by_key.Find index key)) (call.find n x cells bytes) =
    IsTable c table n × IsIndex c n index x
    × (bound_key (schema_at c n) x (is_hashed (index_at (schema_at c n) x).kind) key ≡ key_in (schema_at c n) x (is_hashed (index_at (schema_at c n) x).kind) bytes cells)
AsksAs c (request.NumberLookUp table (by_number.Nth index place)) (call.nth n x at) = IsTable c table n × IsIndex c n index x × (place ≡ at)
AsksAs c (request.KeyLookUp table (by_key.Count index key)) (call.count n x cells bytes) =
    IsTable c table n × IsIndex c n index x
    × (bound_key (schema_at c n) x (is_hashed (index_at (schema_at c n) x).kind) key ≡ key_in (schema_at c n) x (is_hashed (index_at (schema_at c n) x).kind) bytes cells)
AsksAs c (request.KeyLookUp table (by_key.Range index low high reverse limit)) (call.range n x lower lower_key upper upper_key bytes backward most) =
    IsTable c table n × IsIndex c n index x × (bound_lower (schema_at c n) x low ≡ lower_in (schema_at c n) x lower bytes lower_key)
    × (bound_upper (schema_at c n) x high ≡ upper_in (schema_at c n) x upper bytes upper_key) × (reverse ≡ backward) × (limit ≡ most)
AsksAs c (request.NumberLookUp table (by_number.List index after limit)) (call.list n x behind most) =
    IsTable c table n × IsIndex c n index x × (after ≡ behind) × (limit ≡ most)
AsksAs c (request.NumberLookUp table (by_number.Rank index id)) (call.rank n x e) = IsTable c table n × IsIndex c n index x × (id ≡ e)
AsksAs c (request.KeyLookUp table (by_key.LowerRank index key)) (call.lower_rank n x cells bytes) =
    IsTable c table n × IsIndex c n index x × (bound_key (schema_at c n) x false key ≡ key_in (schema_at c n) x false bytes cells)
AsksAs c (request.KeyLookUp table (by_key.UpperRank index key)) (call.upper_rank n x cells bytes) =
    IsTable c table n × IsIndex c n index x × (bound_key (schema_at c n) x false key ≡ key_in (schema_at c n) x false bytes cells)
AsksAs c (request.NumberLookUp table by_number.Size) (call.size n) = IsTable c table n
AsksAs c r k = ⊥

-- The answer to a line, and what it leaves, are those of each call that asks what the line asks.
abbrev pub CallsAnswerAsLines : Type 0
CallsAnswerAsLines = (s : HeldDatabase) (conn : ℕ) (line : List ℕ) (r : Request) (k : Call) → command_line line ≡ Ok r → AsksAs s.database.catalog r k
    → answer s conn (text line) ≡ call_answer s conn k
