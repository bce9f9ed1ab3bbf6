-- What a table by itself answers, with sessions of its own and a holder: a server that knows no catalog. Its commands have no member
-- `table`, and it has no refusal `table`. What is below it and knows no catalog either is taken as it is. That is JSON, the other members
-- of commands, rows and keys over a schema, changes and look-ups of a table, and holders.
--
-- The law is of a catalog with one table. A line without a member `table` is answered as that table by itself answers it. The bytes of the
-- reply are the same, and so are the table, its sessions, the revision and the holder that it leaves.
use Rattle.std.specs.Prelude.{◌≡◌, ◌⊎◌, ◌↔◌, ℕ, List, [], ◌∷◌, ◌++◌, length, true, ◌&&◌, if◌then◌else◌}
use Rattle.std.specs.Prelude.{Option, Some, None, option_and_then, Result, Ok, Err, codes, decimal}
use Rattle.std.specs.Option.{ok_or}
use Rattle.serde_json.specs.Data.{Data, boolean, array, object, Members, no_members, member}
use Rattle.serde_json.specs.Find.{get_member, as_object}
use Rattle.serde_json.specs.Written.{compact_text}
use Rattle.mi_value.specs.declared.refusal.Refusal.{Refusal}
use Rattle.mi_value.specs.declared.refusal.Refusal.TheVariants.{Line, Json, Form as NoCommand, Busy, Unique, Lost, Memory}
use Rattle.mi_value.specs.Words.{word_of}
use Rattle.mi_catalog.specs.Shape.{Shape, index_at}
use Rattle.mi_model.specs.Table.{Table}
use Rattle.mi_model.specs.Verdict.{Outcome, insert_outcome, replace_outcome, modify_outcome, erase_outcome, erase_key_outcome, relocate_outcome}
use Rattle.mi_model.specs.OneTable as one
use Rattle.mi_model.specs.OneTable.{OneTable, applied, in_catalog}
use Rattle.mi_request.specs.Commands.{Form, asked, keeps_out}
use Rattle.mi_request.specs.Json.{has_only}
use Rattle.mi_request.specs.Lines.{json_of, form_in}
use Rattle.mi_request.specs.declared.request.Request.{Request}
use Rattle.mi_request.specs.declared.request.Request.TheVariants as request
use Rattle.mi_protocol.specs.Binding.{and_then, bound_change, bound_number_look_up, bound_key_look_up}
use Rattle.mi_protocol.specs.Replies as say
use Rattle.mi_protocol.specs.Replies.{Said, reply_text}
use Rattle.mi_protocol.specs.Rows.{row_data, rows_items}
use Rattle.mi_request.specs.declared.request.SessionCommand.{SessionCommand}
use Rattle.mi_request.specs.declared.request.SessionCommand.TheVariants as session
use Rattle.mi_protocol.specs.declared.changes.Change.{Change}
use Rattle.mi_protocol.specs.declared.changes.Change.TheVariants as change
use Rattle.mi_protocol.specs.declared.command.Command.{Command}
use Rattle.mi_protocol.specs.declared.command.Command.TheVariants as command
use Rattle.mi_commands.specs.Asked.{Asked, text, too_long}
use Rattle.mi_commands.specs.Holder.{HeldDatabase, is_busy, one_more, one_less, at_most, held_by, without_holder}
use Rattle.mi_commands.specs.Performed.{said_of, all_done, holder_after, or_session, number_look_up_said, key_look_up_said}
use Rattle.mi_commands.specs.Answer.{answer, MayLackMemory, MayGive}
use Rattle.mi_commands.specs.declared.holder.Holder.{Holder}

-- a table with its sessions, and who holds them
pub record HeldTable : Type 0 where
  pub database : OneTable
  pub holder : Option Holder

-- ---- from a line to a command

-- the request that members of this form are, of which `table` is none
abbrev pub request_without : Members → Form → Option Request
request_without ms form = if has_only (codes "cmd" ∷ form.members) ms then asked form.asks ms else None

abbrev pub request_alone : Members → Option Request
request_alone ms = option_and_then (request_without ms) (form_in ms)

abbrev pub read_alone : Option Data → Result Request Refusal
read_alone None = Err Json
read_alone (Some d) = ok_or (option_and_then request_alone (as_object d)) NoCommand

-- the request that a line is: a member `table` makes it no command
abbrev pub line_alone : List ℕ → Result Request Refusal
line_alone bytes = read_alone (json_of bytes)

-- the command that a request is over the one schema. Where commands have the number of a table stands 0
abbrev pub bound_alone : Shape → Request → Result Command Refusal
bound_alone s (request.Change table r) = and_then (λ x. Ok (command.Change 0 x)) (bound_change s r)
bound_alone s (request.NumberLookUp table r) = and_then (λ x. Ok (command.NumberLookUp 0 x)) (bound_number_look_up s r)
bound_alone s (request.KeyLookUp table r) = and_then (λ x. Ok (command.KeyLookUp 0 x)) (bound_key_look_up s r)
bound_alone s (request.Session x) = Ok (command.Session x)

-- ---- what a command says and leaves

-- a change, or a step of sessions, whose answer is said; the holder moves with what is left
abbrev pub stepped : {A : Type 0} → (A → Said) → (Refusal → Said) → Result A Refusal × OneTable → Option Holder → Said × HeldTable
stepped accepted refused step holder = (said_of accepted refused step.0, record { database = step.1; holder = holder })

abbrev pub changed : {A : Type 0} → (A → Said) → (Refusal → Said) → (Table → Outcome A) → HeldTable → Said × HeldTable
changed accepted refused change d = stepped accepted refused (applied change d.database) d.holder

-- a start, an undo or a squash, which moves the holder where it is accepted
abbrev pub revised : Result ℕ Refusal × OneTable → (Option Holder → Option Holder) → HeldTable → Said × HeldTable
revised step move d = stepped say.revised (say.refused 0) step (holder_after step.0 move d.holder)

abbrev pub committed : Result ℕ Refusal × OneTable → HeldTable → Said × HeldTable
committed step d = stepped say.committed (say.refused 0) step (at_most (length step.1.old) d.holder)

-- a change over the schema
abbrev pub change_alone : Shape → HeldTable → Change → Said × HeldTable
change_alone s d (change.Insert row before) = changed say.inserted (say.refused 0) (insert_outcome s before row) d
change_alone s d (change.Replace id row) = changed all_done (say.refused 0) (replace_outcome s id row) d
change_alone s d (change.Modify id edits rollback) = changed all_done (say.refused_modify 0) (modify_outcome s id edits rollback) d
change_alone s d (change.Erase id) = changed all_done (say.refused 0) (erase_outcome id) d
change_alone s d (change.EraseKey x key) = changed say.erased (say.refused 0) (erase_key_outcome s x key) d
change_alone s d (change.Relocate x id before) = changed all_done (say.refused 0) (relocate_outcome x id before) d

-- a command over its sessions
abbrev pub session_alone : HeldTable → ℕ → SessionCommand → Said × HeldTable
session_alone d conn session.Start = revised (one.start d.database) (one_more conn) d
session_alone d conn session.Undo = let step = one.undo_to d.database d.database.old in revised (or_session step.0, step.1) one_less d
session_alone d conn session.Squash = let step = one.squash_to d.database d.database.old in revised (or_session step.0, step.1) one_less d
session_alone d conn (session.Commit revision) = committed (one.commit revision d.database) d
session_alone d conn session.UndoAll = stepped say.undone (say.refused 0) (one.undo_all d.database) None
session_alone d conn session.Push = (say.pushed (held_by conn d.holder), record { database = d.database; holder = without_holder conn d.holder })
session_alone d conn (session.Reserve changes sessions) = (say.done, d)
session_alone d conn session.Revision = (say.status (length d.database.old) (held_by conn d.holder) d.database.revision, d)

-- a command over the schema, done by a connection that nobody keeps out; the number of its table isn't looked at
abbrev pub performed_alone : Shape → HeldTable → ℕ → Command → Said × HeldTable
performed_alone s d conn (command.Change n x) = change_alone s d x
performed_alone s d conn (command.NumberLookUp n x) = (number_look_up_said 0 s d.database.table x, d)
performed_alone s d conn (command.KeyLookUp n x) = (key_look_up_said 0 s d.database.table x, d)
performed_alone s d conn (command.Session x) = session_alone d conn x

-- ---- the answer

abbrev pub command_alone : Shape → HeldTable → ℕ → Result Request Refusal → Result Command Refusal
command_alone s d conn (Ok r) = if keeps_out r && is_busy d.holder conn then Err Busy else bound_alone s r
command_alone s d conn (Err e) = Err e

abbrev pub done_alone : Shape → HeldTable → ℕ → Result Command Refusal → Said × HeldTable
done_alone s d conn (Ok c) = performed_alone s d conn c
done_alone s d conn (Err e) = (say.refused 0 e, d)

abbrev pub answer_alone : Shape → HeldTable → ℕ → Asked → Said × HeldTable
answer_alone s d conn (text t) = done_alone s d conn (command_alone s d conn (line_alone t))
answer_alone s d conn too_long = (say.refused 0 Line, d)

-- ---- the text of a reply, with the names of the schema's columns and indexes

abbrev pub conflict_alone : Shape → ℕ → ℕ → List ℕ
conflict_alone s x id = codes "{\"error\":\"unique\",\"id\":" ++ decimal id ++ codes ",\"index\":\"" ++ (index_at s x).name

abbrev pub refusal_alone : Shape → Refusal → List ℕ
refusal_alone s (Unique x id) = conflict_alone s x id ++ codes "\",\"ok\":false}"
refusal_alone s (Lost x id) = conflict_alone s x id ++ codes "\",\"lost\":true,\"ok\":false}"
refusal_alone s e = codes "{\"error\":\"" ++ word_of e ++ codes "\",\"ok\":false}"

abbrev pub modify_refusal_alone : Shape → Refusal → List ℕ
modify_refusal_alone s (Unique x id) = conflict_alone s x id ++ codes "\",\"lost\":false,\"ok\":false}"
modify_refusal_alone s e = refusal_alone s e

-- the other replies name nothing of a schema
abbrev pub text_alone : Shape → Said → List ℕ
text_alone s (say.shown n id row) =
    compact_text (object (member (codes "ok") (boolean true) (member (codes "row") (row_data s.columns id row) no_members)))
text_alone s (say.rows n records more) =
    compact_text (object (member (codes "more") (boolean more) (member (codes "ok") (boolean true)
    (member (codes "rows") (array (rows_items s.columns records)) no_members))))
text_alone s (say.refused_modify n e) = modify_refusal_alone s e
text_alone s (say.refused n e) = refusal_alone s e
text_alone s other = reply_text (record { tables = []; first_revision = 0 }) other

-- ---- the law

-- the same where a catalog has this one table
abbrev pub held_in_catalog : ℕ → Shape → HeldTable → HeldDatabase
held_in_catalog first s d = record { database = in_catalog first s d.database; holder = d.holder }

-- a line that is no JSON object with a member `table`
abbrev pub HasNoTable : Asked → Type 0
HasNoTable (text t) = option_and_then (get_member (codes "table")) (option_and_then as_object (json_of t)) ≡ None
HasNoTable too_long = Unit {0}

-- a table by itself answers the line with this reply and leaves this, or where it may lack memory refuses it as `memory`
abbrev pub MayGiveAlone : Shape → ℕ → HeldTable → Asked → List ℕ → HeldTable → Type 0
MayGiveAlone s conn d line reply e =
    let a = answer_alone s d conn line in
    ((reply ≡ text_alone s a.0) × (e ≡ a.1)) ⊎ (MayLackMemory line × (reply ≡ refusal_alone s Memory) × (e ≡ d))

-- the reply and what is left
pub record AnsweredAlone (first : ℕ) (s : Shape) (d : HeldTable) (conn : ℕ) (line : Asked) : Type 0 where
  pub reply : reply_text (in_catalog first s d.database).catalog (answer (held_in_catalog first s d) conn line).0
      ≡ text_alone s (answer_alone s d conn line).0
  pub left : (answer (held_in_catalog first s d) conn line).1 ≡ held_in_catalog first s (answer_alone s d conn line).1

-- a line without `table` is answered as a table by itself answers it
abbrev pub OneTableAnswersAlone : Type 0
OneTableAnswersAlone = (first : ℕ) (s : Shape) (d : HeldTable) (conn : ℕ) (line : Asked) → HasNoTable line → AnsweredAlone first s d conn line

-- and it may be given the replies, memory among them, that a table by itself may give
abbrev pub OneTableMayGive : Type 0
OneTableMayGive = (first : ℕ) (s : Shape) (d : HeldTable) (conn : ℕ) (line : Asked) (reply : List ℕ) (t : HeldDatabase) → HasNoTable line
    → MayGive conn (held_in_catalog first s d) line reply t ↔ ((e : HeldTable) × (t ≡ held_in_catalog first s e) × MayGiveAlone s conn d line reply e)
