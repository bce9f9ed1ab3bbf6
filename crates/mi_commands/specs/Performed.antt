-- What a command says and leaves, done by a connection that nobody keeps out: {"cmd":"start"} says the new revision, opens a session, and
-- makes its connection the holder.
use Rattle.std.specs.Prelude.{ℕ, if◌then◌else◌, List, map, Option, Some, None, Result, Ok, Err}
use Rattle.mi_value.specs.declared.value.Value.{Value}
use Rattle.mi_value.specs.declared.refusal.Refusal.{Refusal}
use Rattle.mi_value.specs.declared.refusal.Refusal.TheVariants.{NoId, Session}
use Rattle.mi_value.specs.declared.refusal.NoSession.{NoSession}
use Rattle.mi_catalog.specs.Shape.{Shape}
use Rattle.mi_model.specs.Table.{Table, get, has, row, size}
use Rattle.mi_model.specs.LookUp as look
use Rattle.mi_model.specs.Page as page
use Rattle.mi_model.specs.Page.{Page}
use Rattle.mi_model.specs.Verdict.{has_place}
use Rattle.mi_model.specs.Database.{Database, Step, schema_of, table_of, depth, ending, committed, undone_times, start_step, undo_step, squash_step}
use Rattle.mi_model.specs.DatabaseChange.{insert_step, replace_step, modify_step, erase_step, erase_key_step, relocate_step}
use Rattle.mi_protocol.specs.Replies as say
use Rattle.mi_protocol.specs.Replies.{Said}
use Rattle.mi_request.specs.declared.request.SessionCommand.{SessionCommand}
use Rattle.mi_request.specs.declared.request.SessionCommand.TheVariants as session
use Rattle.mi_protocol.specs.declared.changes.Change.{Change}
use Rattle.mi_protocol.specs.declared.changes.Change.TheVariants as change
use Rattle.mi_protocol.specs.declared.command.Command.{Command}
use Rattle.mi_protocol.specs.declared.command.Command.TheVariants as command
use Rattle.mi_protocol.specs.declared.look_ups.KeyLookUp.{KeyLookUp}
use Rattle.mi_protocol.specs.declared.look_ups.KeyLookUp.TheVariants as by_key
use Rattle.mi_protocol.specs.declared.look_ups.NumberLookUp.{NumberLookUp}
use Rattle.mi_protocol.specs.declared.look_ups.NumberLookUp.TheVariants as by_number
use Rattle.mi_commands.specs.Holder.{HeldDatabase, one_more, one_less, at_most, held_by, without_holder}
use Rattle.mi_commands.specs.declared.holder.Holder.{Holder}

-- what an accepted step says, or its refusal
abbrev pub said_of : {A : Type 0} → (A → Said) → (Refusal → Said) → Result A Refusal → Said
said_of accepted refused (Ok v) = accepted v
said_of accepted refused (Err e) = refused e

-- ---- how a command moves the holder

-- the holder moves where the step is accepted
abbrev pub holder_after : Result ℕ Refusal → (Option Holder → Option Holder) → Option Holder → Option Holder
holder_after (Ok n) move h = move h
holder_after (Err e) move h = h

-- it stays; the connection holds one more; the holder one less, or no more than so many; nobody is the holder; the connection isn't; or one of
-- these, where a step is accepted
pub data Move : Type 0 where
  stays : Move
  one_up : Move
  one_down : Move
  down_to : ℕ → Move
  to_nobody : Move
  lets_go : Move
  if_accepted : Result ℕ Refusal → Move → Move

-- the holder after a command of a connection
abbrev pub moved : ℕ → Move → Option Holder → Option Holder
moved conn stays = λ h. h
moved conn one_up = one_more conn
moved conn one_down = one_less
moved conn (down_to opened) = at_most opened
moved conn to_nobody = λ h. None
moved conn lets_go = without_holder conn
moved conn (if_accepted answer move) = holder_after answer (moved conn move)

-- ---- what commands do

-- what a command says to a connection that holds so many sessions, the database that it leaves, and how it moves the holder
pub record Effect : Type 0 where
  pub says : ℕ → Said
  pub left : Database
  pub move : Move

-- what a change of a table says and leaves, whoever holds sessions
abbrev pub altered : {A : Type 0} → (A → Said) → (Refusal → Said) → Step A → Said × Database
altered accepted refused step = (said_of accepted refused step.0, step.1)

-- a change that answers nothing but that it is done
abbrev pub all_done : Unit {0} → Said
all_done u = say.done

-- the one refusal of an undo and of a squash
abbrev pub or_session : Result ℕ NoSession → Result ℕ Refusal
or_session (Ok n) = Ok n
or_session (Err none) = Err Session

-- a session step that says the new revision, and moves the holder where it is accepted
abbrev pub revised : Result ℕ Refusal → Database → Move → Effect
revised answer left move = record { says = λ held. said_of say.revised (say.refused 0) answer; left = left; move = if_accepted answer move }

-- what leaves all as it is
abbrev pub shows : Database → Said → Effect
shows d said = record { says = λ held. said; left = d; move = stays }

-- what a look-up of an id says
abbrev pub found : ℕ → ℕ → Option (List Value) → Said
found table id None = say.refused table NoId
found table id (Some row) = say.shown table id row

-- the record of the id that a look-up found
abbrev pub show_found : ℕ → Table → Option ℕ → Said
show_found n t None = say.refused n NoId
show_found n t (Some id) = found n id (get t id)

-- the records of a page
abbrev pub show_page : ℕ → Table → Page → Said
show_page n t p = say.rows n (map (row t) p.ids) p.more

-- ---- what each command does

-- what a look-up by numbers of a table of this schema says; n is the table's number
abbrev pub number_look_up_said : ℕ → Shape → Table → NumberLookUp → Said
number_look_up_said n s t (by_number.Get id) = found n id (get t id)
number_look_up_said n s t (by_number.Nth x place) = show_found n t (look.nth s t x place)
number_look_up_said n s t (by_number.List x after limit) =
    if has_place t after then show_page n t (page.list s t x after limit) else say.refused n NoId
number_look_up_said n s t (by_number.Rank x id) = if has t id then say.ranked (look.rank s t x id) else say.refused n NoId
number_look_up_said n s t by_number.Size = say.sized (size t)

-- what a look-up by keys says
abbrev pub key_look_up_said : ℕ → Shape → Table → KeyLookUp → Said
key_look_up_said n s t (by_key.Find x key) = show_found n t (look.find s t x key)
key_look_up_said n s t (by_key.Count x key) = say.counted (look.count s t x key)
key_look_up_said n s t (by_key.Range x low high reverse limit) = show_page n t (page.range s t x low high reverse limit)
key_look_up_said n s t (by_key.LowerRank x key) = say.ranked (look.lower_rank s t x key)
key_look_up_said n s t (by_key.UpperRank x key) = say.ranked (look.upper_rank s t x key)

-- what look-ups of table n of a database say
abbrev pub number_looked : Database → ℕ → NumberLookUp → Said
number_looked d n x = number_look_up_said n (schema_of d n) (table_of d n) x

abbrev pub key_looked : Database → ℕ → KeyLookUp → Said
key_looked d n x = key_look_up_said n (schema_of d n) (table_of d n) x

-- what a change of table n says and leaves
abbrev pub changed : Database → ℕ → Change → Said × Database
changed d n (change.Insert row before) = altered say.inserted (say.refused n) (insert_step n before row d)
changed d n (change.Replace id row) = altered all_done (say.refused n) (replace_step n id row d)
changed d n (change.Modify id edits rollback) = altered all_done (say.refused_modify n) (modify_step n id edits rollback d)
changed d n (change.Erase id) = altered all_done (say.refused n) (erase_step n id d)
changed d n (change.EraseKey x key) = altered say.erased (say.refused n) (erase_key_step n x key d)
changed d n (change.Relocate x id before) = altered all_done (say.refused n) (relocate_step n x id before d)

-- a command over sessions. A commit ends the sessions with a number of at most x, and the holder holds no more than those that stay open; after
-- an undo of all nobody holds any; a push leaves those of its connection open and held by nobody; a reserve asks for room, which is in no reply
abbrev pub session_effect : Database → SessionCommand → Effect
session_effect d session.Start = let step = start_step d in revised step.0 step.1 one_up
session_effect d session.Undo = let step = undo_step d in revised (or_session step.0) step.1 one_down
session_effect d session.Squash = let step = squash_step d in revised (or_session step.0) step.1 one_down
session_effect d (session.Commit x) =
    record { says = λ held. say.committed (ending x d); left = committed x d; move = down_to (depth (committed x d)) }
session_effect d session.UndoAll = record { says = λ held. say.undone (depth d); left = undone_times (depth d) d; move = to_nobody }
session_effect d session.Push = record { says = say.pushed; left = d; move = lets_go }
session_effect d (session.Reserve changes sessions) = shows d say.done
session_effect d session.Revision = record { says = λ held. say.status (depth d) held d.revision; left = d; move = stays }

-- what each command does
abbrev pub effect : Database → Command → Effect
effect d (command.Change n x) = let e = changed d n x in record { says = λ held. e.0; left = e.1; move = stays }
effect d (command.NumberLookUp n x) = shows d (number_looked d n x)
effect d (command.KeyLookUp n x) = shows d (key_looked d n x)
effect d (command.Session x) = session_effect d x

-- what is said and left of a command of a connection that nobody keeps out
abbrev pub done_by : ℕ → HeldDatabase → Effect → Said × HeldDatabase
done_by conn s e = (e.says (held_by conn s.holder), record { database = e.left; holder = moved conn e.move s.holder })

-- a command, done by a connection that nobody keeps out
abbrev pub performed : HeldDatabase → ℕ → Command → Said × HeldDatabase
performed s conn c = done_by conn s (effect s.database c)
