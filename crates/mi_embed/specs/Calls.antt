-- A call with values: which command it asks, and so what it is answered and leaves. The call `erase 1 7` asks what
-- {"cmd":"erase","table":"sale","id":7} asks, where sale is the table of number 1.
use Rattle.std.specs.Prelude.{◌≡◌, ℕ, ℤ, Bool, true, false, if◌then◌else◌, List, [], ◌∷◌, Option, Some, None, Result, Ok, Err}
use Rattle.std.specs.Option.{ok_or}
use Rattle.mi_value.specs.declared.value.Value.{Value}
use Rattle.mi_value.specs.declared.bound.Lower.{Lower}
use Rattle.mi_value.specs.declared.bound.Upper.{Upper}
use Rattle.mi_value.specs.declared.edit.Edit.{Edit}
use Rattle.mi_value.specs.declared.edit.Edit.TheVariants.{Add}
use Rattle.mi_value.specs.declared.refusal.Refusal.{Refusal}
use Rattle.mi_value.specs.declared.refusal.Refusal.TheVariants.{Busy, Row, Key}
use Rattle.mi_catalog.specs.declared.index.Column.{Column}
use Rattle.mi_catalog.specs.declared.index.IndexKind.{IndexKind}
use Rattle.mi_catalog.specs.Fits.{fits_edit}
use Rattle.mi_catalog.specs.Kinds.{has_keys, is_sorted, is_sequenced, is_ranked, is_hashed}
use Rattle.mi_catalog.specs.Shape.{Shape, CatalogShape, schema_at, index_at}
use Rattle.mi_protocol.specs.Binding.{and_then}
use Rattle.mi_protocol.specs.Replies.{Said}
use Rattle.mi_request.specs.declared.request.SessionCommand.{SessionCommand}
use Rattle.mi_request.specs.declared.request.SessionCommand.TheVariants as session
use Rattle.mi_protocol.specs.declared.changes.Change.{Change}
use Rattle.mi_protocol.specs.declared.changes.Change.TheVariants as change
use Rattle.mi_protocol.specs.declared.command.Command.{Command}
use Rattle.mi_protocol.specs.declared.command.Command.TheVariants as command
use Rattle.mi_protocol.specs.declared.look_ups.KeyLookUp.TheVariants as by_key
use Rattle.mi_protocol.specs.declared.look_ups.NumberLookUp.TheVariants as by_number
use Rattle.mi_commands.specs.Answer.{command_answer, session_needs_none}
use Rattle.mi_commands.specs.Holder.{HeldDatabase, is_busy}
use Rattle.mi_commands.specs.Performed.{performed}
use Rattle.mi_commands.specs.Told.{ToldOrMemory}
use Rattle.mi_embed.specs.State.{EngineState}
use Rattle.mi_embed.specs.declared.cell.Cell.{Cell}
use Rattle.mi_embed.specs.declared.edits.EditCell.{EditCell}
use Rattle.mi_embed.specs.declared.call_result.CallResult.{CallResult}
use Rattle.mi_embed.specs.Asked.{table_in, index_in, row_in, key_in, lower_in, upper_in}
use Rattle.mi_embed.specs.EditCells.{edits_for}
use Rattle.mi_embed.specs.CallResults.{told_of}

-- First comes the number of the table, then that of the index, where there are such; cells stand before the bytes of their texts. A
-- modification says last whether it rolls back, and an end of a range is a number and a key. An addition is to a column, a commit up to a
-- session, and a page of at most so many rows.
pub data Call : Type 0 where
  insert : ℕ → List Cell → List ℕ → Call
  insert_before : ℕ → List Cell → List ℕ → ℕ → ℕ → Call
  replace : ℕ → ℕ → List Cell → List ℕ → Call
  modify : ℕ → ℕ → List EditCell → List ℕ → Bool → Call
  modify_add : ℕ → ℕ → ℕ → ℤ → Bool → Call
  erase : ℕ → ℕ → Call
  erase_key : ℕ → ℕ → List Cell → List ℕ → Call
  relocate : ℕ → ℕ → ℕ → Option ℕ → Call
  start : Call
  undo : Call
  squash : Call
  commit : ℕ → Call
  undo_all : Call
  push : Call
  get : ℕ → ℕ → Call
  find : ℕ → ℕ → List Cell → List ℕ → Call
  nth : ℕ → ℕ → ℕ → Call
  count : ℕ → ℕ → List Cell → List ℕ → Call
  range : ℕ → ℕ → ℕ → List Cell → ℕ → List Cell → List ℕ → Bool → ℕ → Call
  list : ℕ → ℕ → Option ℕ → ℕ → Call
  rank : ℕ → ℕ → ℕ → Call
  lower_rank : ℕ → ℕ → List Cell → List ℕ → Call
  upper_rank : ℕ → ℕ → List Cell → List ℕ → Call
  size : ℕ → Call

-- an insert, whose place is judged before its row
abbrev pub insert_in : Option (List Value) → Result (Option (ℕ × ℕ)) Refusal → Result Change Refusal
insert_in row place = and_then (λ at. and_then (λ values. Ok (change.Insert values at)) (ok_or row Row)) place

-- one addition to a column of whole numbers
abbrev pub addition_in : List Column → ℕ → ℤ → Option (List Edit)
addition_in cs x n = if fits_edit cs (Add x n) then Some (Add x n ∷ []) else None

-- a modification by edits, where they are some
abbrev pub modify_in : ℕ → Option (List Edit) → Bool → Result Change Refusal
modify_in id edits rollback = and_then (λ es. Ok (change.Modify id es rollback)) (ok_or edits Row)

-- an index of a kind that the command is for, and a key of it: whole where its kind wants that
abbrev pub key_of : (IndexKind → Bool) → (IndexKind → Bool) → Shape → ℕ → List Cell → List ℕ → Result (ℕ × List Value) Refusal
key_of kinds whole s x cells bytes =
    and_then (λ i. and_then (λ values. Ok (i, values)) (ok_or (key_in s i (whole (index_at s i).kind) bytes cells) Key)) (index_in kinds s x)

abbrev pub whole_key : Shape → ℕ → List Cell → List ℕ → Result (ℕ × List Value) Refusal
whole_key s x cells bytes = key_of has_keys (λ kind. true) s x cells bytes

-- a key, or in a sorted index the first values of one
abbrev pub key_or_prefix : Shape → ℕ → List Cell → List ℕ → Result (ℕ × List Value) Refusal
key_or_prefix s x cells bytes = key_of has_keys is_hashed s x cells bytes

-- a key of a ranked index, or the first values of one
abbrev pub ranked_key : Shape → ℕ → List Cell → List ℕ → Result (ℕ × List Value) Refusal
ranked_key s x cells bytes = key_of is_ranked (λ kind. false) s x cells bytes

-- the bounds of a range in index x
abbrev pub ends_in : Option Lower → Option Upper → Result (Lower × Upper) Refusal
ends_in lower upper = and_then (λ low. and_then (λ high. Ok (low, high)) (ok_or upper Key)) (ok_or lower Key)

-- a change or a look-up of a table, where it is there
abbrev pub of_table : {A : Type 0} → (ℕ → A → Command) → ℕ → Result A Refusal → Result Command Refusal
of_table make n x = and_then (λ v. Ok (make n v)) x

abbrev pub over : {A : Type 0} → (ℕ → A → Command) → (Shape → Result A Refusal) → CatalogShape → ℕ → Result Command Refusal
over make bound c n = and_then (λ t. of_table make t (bound (schema_at c t))) (table_in c n)

-- the command that a call asks over a catalog: refused as `table`, `index`, `kind`, `row`, `key` in this order
abbrev pub command_in : CatalogShape → Call → Result Command Refusal
command_in c (insert n cells bytes) = over command.Change (λ s. insert_in (row_in s.columns bytes cells) (Ok None)) c n
command_in c (insert_before n cells bytes x id) =
    over command.Change (λ s. insert_in (row_in s.columns bytes cells) (and_then (λ i. Ok (Some (i, id))) (index_in is_sequenced s x))) c n
command_in c (replace n id cells bytes) =
    over command.Change (λ s. and_then (λ values. Ok (change.Replace id values)) (ok_or (row_in s.columns bytes cells) Row)) c n
command_in c (modify n id cells bytes rollback) = over command.Change (λ s. modify_in id (edits_for s.columns bytes cells) rollback) c n
command_in c (modify_add n id x k rollback) = over command.Change (λ s. modify_in id (addition_in s.columns x k) rollback) c n
command_in c (erase n id) = over command.Change (λ s. Ok (change.Erase id)) c n
command_in c (erase_key n x cells bytes) = over command.Change (λ s. and_then (λ k. Ok (change.EraseKey k.0 k.1)) (whole_key s x cells bytes)) c n
command_in c (relocate n x id before) = over command.Change (λ s. and_then (λ i. Ok (change.Relocate i id before)) (index_in is_sequenced s x)) c n
command_in c start = Ok (command.Session session.Start)
command_in c undo = Ok (command.Session session.Undo)
command_in c squash = Ok (command.Session session.Squash)
command_in c (commit number) = Ok (command.Session (session.Commit number))
command_in c undo_all = Ok (command.Session session.UndoAll)
command_in c push = Ok (command.Session session.Push)
command_in c (get n id) = over command.NumberLookUp (λ s. Ok (by_number.Get id)) c n
command_in c (find n x cells bytes) = over command.KeyLookUp (λ s. and_then (λ k. Ok (by_key.Find k.0 k.1)) (key_or_prefix s x cells bytes)) c n
command_in c (nth n x place) = over command.NumberLookUp (λ s. and_then (λ i. Ok (by_number.Nth i place)) (index_in is_ranked s x)) c n
command_in c (count n x cells bytes) = over command.KeyLookUp (λ s. and_then (λ k. Ok (by_key.Count k.0 k.1)) (key_or_prefix s x cells bytes)) c n
command_in c (range n x lower lower_key upper upper_key bytes reverse limit) =
    over command.KeyLookUp (λ s. and_then (λ i. and_then (λ e. Ok (by_key.Range i e.0 e.1 reverse limit))
    (ends_in (lower_in s i lower bytes lower_key) (upper_in s i upper bytes upper_key))) (index_in is_sorted s x)) c n
command_in c (list n x after limit) = over command.NumberLookUp (λ s. and_then (λ i. Ok (by_number.List i after limit)) (index_in is_sequenced s x)) c n
command_in c (rank n x id) = over command.NumberLookUp (λ s. and_then (λ i. Ok (by_number.Rank i id)) (index_in is_ranked s x)) c n
command_in c (lower_rank n x cells bytes) = over command.KeyLookUp (λ s. and_then (λ k. Ok (by_key.LowerRank k.0 k.1)) (ranked_key s x cells bytes)) c n
command_in c (upper_rank n x cells bytes) = over command.KeyLookUp (λ s. and_then (λ k. Ok (by_key.UpperRank k.0 k.1)) (ranked_key s x cells bytes)) c n
command_in c (size n) = over command.NumberLookUp (λ s. Ok by_number.Size) c n

-- a look-up, which is answered whoever holds sessions; any other call is kept out while another connection holds some
abbrev pub looks : Call → Bool
looks (get n id) = true
looks (find n x cells bytes) = true
looks (nth n x place) = true
looks (count n x cells bytes) = true
looks (range n x lower lower_key upper upper_key bytes reverse limit) = true
looks (list n x after limit) = true
looks (rank n x id) = true
looks (lower_rank n x cells bytes) = true
looks (upper_rank n x cells bytes) = true
looks (size n) = true
looks other = false

-- a command of a connection, unless it is kept out
abbrev pub unless_busy : HeldDatabase → ℕ → Result Command Refusal → Result Command Refusal
unless_busy s conn asked = if is_busy s.holder conn then Err Busy else asked

-- what a call of a connection asks
abbrev pub asked : HeldDatabase → ℕ → Call → Result Command Refusal
asked s conn k = if looks k then command_in s.database.catalog k else unless_busy s conn (command_in s.database.catalog k)

-- what it is answered, and what it leaves
abbrev pub call_answer : HeldDatabase → ℕ → Call → Said × HeldDatabase
call_answer s conn k = command_answer s conn (asked s conn k)

-- a call that takes no memory
abbrev pub takes_none : Call → Bool
takes_none undo = true
takes_none squash = true
takes_none (commit number) = true
takes_none undo_all = true
takes_none push = true
takes_none (get n id) = true
takes_none (nth n x place) = true
takes_none (rank n x id) = true
takes_none (size n) = true
takes_none other = false

-- From s a call of a connection may be answered so, and t is left: as it is defined; or, unless it takes none, for want of memory, and then
-- nothing has changed.
abbrev pub MayAnswer : ℕ → HeldDatabase → Call → Said → HeldDatabase → Type 0
MayAnswer conn s k said t = ToldOrMemory (takes_none k ≡ false) (call_answer s conn k) s said t

-- From old a call of a connection may be told so, and new is left. The reply to the last line stays,
-- and the text of the schema.
abbrev pub Tells : ℕ → Call → CallResult → EngineState → EngineState → Type 0
Tells conn k told old new = (said : Said) × MayAnswer conn old.held k said new.held × (told ≡ told_of said) × (new.reply ≡ old.reply) × (new.schema ≡ old.schema)

-- what is told of the change that is asked of table n, whatever call asks it; or of why it is refused
abbrev pub TellsChange : ℕ → Result Change Refusal → CallResult → EngineState → EngineState → Type 0
TellsChange n asked told old new =
    (said : Said) × ToldOrMemory (Unit {0}) (command_answer old.held 0 (of_table command.Change n asked)) old.held said new.held
    × (told ≡ told_of said) × (new.reply ≡ old.reply) × (new.schema ≡ old.schema)

-- what is told of a command over sessions
abbrev pub TellsDone : ℕ → SessionCommand → CallResult → EngineState → EngineState → Type 0
TellsDone conn x told old new =
    (said : Said) × ToldOrMemory (session_needs_none x ≡ false) (performed old.held conn (command.Session x)) old.held said new.held × (told ≡ told_of said) × (new.reply ≡ old.reply) × (new.schema ≡ old.schema)

-- the same, unless it is kept out
abbrev pub TellsStep : ℕ → SessionCommand → CallResult → EngineState → EngineState → Type 0
TellsStep conn x told old new =
    let c = command.Session x in
    (said : Said) × ToldOrMemory (session_needs_none x ≡ false) (command_answer old.held conn (unless_busy old.held conn (Ok c))) old.held said new.held
    × (told ≡ told_of said) × (new.reply ≡ old.reply) × (new.schema ≡ old.schema)
