-- What may have changed nothing has changed nothing; replies without rows; and no command changes the catalog.
-- Cited by `Executor::answer`, `Executor::answer_change`, `Executor::answer_keys`, 4 more, `mi_durable`, `mi_hub` and `mi_replay`.
use Rattle.std.proofs.Common.{◌≡◌, ℕ, List, Bool, true, false, cond, nat_eq, not, ◌+◌, ◌-◌, ◌&&◌, Option, Some, None, Result, Ok, Err}
use Rattle.std.proofs.Common.{refl, sym, ap, ◌∙◌, inl, inr, true≢false}
use Rattle.std.proofs.lemmas.List.{set-get_or}
use Rattle.std.specs.Option.{option_map_or}
use Rattle.mi_value.specs.declared.edit.Edit.{Edit}
use Rattle.mi_value.specs.declared.refusal.Refusal.{Refusal}
use Rattle.mi_value.specs.declared.refusal.Refusal.TheVariants.{NoId, Range, Spent, Depth, Lost, Memory}
use Rattle.mi_value.specs.declared.refusal.NoSession.{NoSession}
use Rattle.mi_value.specs.declared.limits.TheConstants.{MAX_SESSIONS}
use Rattle.mi_value.specs.declared.value.Value.{Value}
use Rattle.mi_value.specs.Edits.{apply}
use Rattle.mi_catalog.specs.Shape.{Shape, CatalogShape}
use Rattle.mi_model.specs.Table.{Table, get, has, row}
use Rattle.mi_model.specs.Change.{put, erase, relocate}
use Rattle.mi_model.specs.Conflict.{conflict}
use Rattle.mi_model.specs.Verdict.{Outcome, unless, is_spent, has_place, as_unique, insert_refusal, insert_outcome, replace_refusal, replace_outcome}
use Rattle.mi_model.specs.Verdict.{refused_modify, modified, modify_outcome, erase_outcome, erase_key_outcome, relocate_outcome}
use Rattle.mi_model.specs.Database.{Database, Step, on_table, with_table, table_of, schema_of}
use Rattle.mi_model.specs.Database.{depth, started, undone, squashed, start_step, undo_step, squash_step}
use Rattle.mi_protocol.specs.Replies as say
use Rattle.mi_protocol.specs.Output.{PutOrMemory}
use Rattle.mi_protocol.specs.Replies.{Said, is_short, reply_text, refused}
use Rattle.mi_request.specs.declared.request.SessionCommand.{SessionCommand}
use Rattle.mi_request.specs.declared.request.SessionCommand.TheVariants as session
use Rattle.mi_protocol.specs.declared.changes.Change.{Change}
use Rattle.mi_protocol.specs.declared.changes.Change.TheVariants as change
use Rattle.mi_protocol.specs.declared.command.Command.{Command}
use Rattle.mi_protocol.specs.declared.command.Command.TheVariants as command
use Rattle.mi_protocol.specs.declared.look_ups.KeyLookUp.{KeyLookUp}
use Rattle.mi_protocol.specs.declared.look_ups.KeyLookUp.TheVariants as by_key
use Rattle.mi_protocol.specs.declared.look_ups.NumberLookUp.{NumberLookUp}
use Rattle.mi_protocol.specs.declared.look_ups.NumberLookUp.TheVariants as by_number
use Rattle.mi_request.specs.Lines.{command_line}
use Rattle.mi_commands.specs.Asked as asking
use Rattle.mi_commands.specs.Asked.{Asked}
use Rattle.mi_commands.specs.Answer.{session_needs_none, Lacks, command_answer, command_of, answer, command_changes, line_changes}
use Rattle.mi_commands.specs.Answer.{AnsweredOrMemory, IsAnswered, MayGive, MayAnswer}
use Rattle.mi_commands.specs.Holder.{HeldDatabase}
use Rattle.mi_commands.specs.Performed.{performed, altered, said_of, all_done, or_session, revised, Move, one_up, one_down, done_by}
use Rattle.mi_commands.specs.Performed.{found, show_found, number_look_up_said, key_look_up_said, changed, session_effect}
use Rattle.mi_commands.specs.Told.{SaysMemory, SaidOrMemory, ToldOrMemory, loses, tells_change, may_change}
use Rattle.mi_commands.proofs.UndoneLaws.{undone_catalog, squashed_catalog, undone_times_catalog}

not_false : {A : Type 0} → true ≡ false → A
not_false e = absurd (true≢false e)

-- ---- changes of a table

-- what is refused, with no record lost, leaves this
abbrev Keeps : {A S : Type 0} → Result A Refusal × S → S → Type 0
Keeps o t = (e : Refusal) → loses e ≡ false → o.0 ≡ Err e → o.1 ≡ t

accepted_keeps : {A S : Type 0} (answer : A) (t u : S) → Keeps {A = A} {S = S} (Ok answer, t) u
accepted_keeps answer t u e none is = absurd (cc)

refused_keeps : {A S : Type 0} (e : Refusal) (t : S) → Keeps {A = A} {S = S} (Err e, t) t
refused_keeps e t f none is = refl

unless_keeps : {A : Type 0} (o : Option Refusal) (answer : A) (changed t : Table) → Keeps (unless o answer changed t) t
unless_keeps None answer changed t = accepted_keeps answer changed t
unless_keeps (Some e) answer changed t = refused_keeps e t

either_keeps : {A S : Type 0} (b : Bool) (x y : Result A Refusal × S) (t : S) → Keeps x t → Keeps y t → Keeps (cond b x y) t
either_keeps true x y t h k = h
either_keeps false x y t h k = k

lost_keeps : {A : Type 0} (index id : ℕ) (changed t : Table) → Keeps {A = A} {S = Table} (Err (Lost index id), changed) t
lost_keeps index id changed t e none is = not_false (ap loses (same is) ∙ none)
  where
    same : {A : Type 0} {e f : Refusal} → ◌≡◌ {A = Result A Refusal} (Err e) (Err f) → e ≡ f
    same h = cc

refused_modify-keeps : (rollback : Bool) (e : ℕ) (at : ℕ × ℕ) (t : Table) → Keeps (refused_modify rollback e at t) t
refused_modify-keeps true e at t = refused_keeps (as_unique at) t
refused_modify-keeps false e at t = lost_keeps at.0 at.1 (erase e t) t

conflicting_keeps : (rollback : Bool) (e : ℕ) (o : Option (ℕ × ℕ)) (changed t : Table)
    → Keeps (option_map_or (λ at. refused_modify rollback e at t) o (Ok tt, changed)) t
conflicting_keeps rollback e None changed t = accepted_keeps tt changed t
conflicting_keeps rollback e (Some at) changed t = refused_modify-keeps rollback e at t

modified_keeps : (s : Shape) (e : ℕ) (rollback : Bool) (r : Option (List Value)) (t : Table) → Keeps (modified s e rollback r t) t
modified_keeps s e rollback None t = refused_keeps Range t
modified_keeps s e rollback (Some r) t =
    either_keeps (is_spent t.arrivals) (Err Spent, t) _ t (refused_keeps Spent t)
    (conflicting_keeps rollback e (conflict s t r (Some e)) (put s e r t) t)

modify_keeps : (s : Shape) (e : ℕ) (edits : List Edit) (rollback : Bool) (t : Table) → Keeps (modify_outcome s e edits rollback t) t
modify_keeps s e edits rollback t =
    either_keeps (not (has t e)) (Err NoId, t) _ t (refused_keeps NoId t) (modified_keeps s e rollback (apply edits (row t e).1) t)

-- the same of the database of the table
on_table-keeps : {A : Type 0} (n : ℕ) (change : Shape → Table → Outcome A) (d : Database)
    → Keeps (change (schema_of d n) (table_of d n)) (table_of d n) → Keeps (on_table n change d) d
on_table-keeps n change d keeps e none is =
    ap (λ t. with_table n t d) (keeps e none is) ∙ ap (λ ts. record d { tables = ts }) (set-get_or d.tables n _)

-- ---- commands

altered_keeps : {A : Type 0} (d : Database) (accepted : A → Said) (denied : Refusal → Said) (step : Step A) → ((v : A) → tells_change (accepted v) ≡ true)
    → ((e : Refusal) → tells_change (denied e) ≡ loses e) → Keeps step d → tells_change (altered accepted denied step).0 ≡ false
    → (altered accepted denied step).1 ≡ d
altered_keeps {A} d accepted denied step always says keeps h = by_answer step.0 refl h
  where
    by_answer : (a : Result A Refusal) → step.0 ≡ a → tells_change (said_of accepted denied a) ≡ false → step.1 ≡ d
    by_answer (Ok v) is k = not_false (sym (always v) ∙ k)
    by_answer (Err e) is k = keeps e (sym (says e) ∙ k) is

-- a change that can't have changed anything leaves the database as it is
change_keeps : (d : Database) (n : ℕ) (x : Change) → tells_change (changed d n x).0 ≡ false → (changed d n x).1 ≡ d
change_keeps d n (change.Insert values before) h =
    altered_keeps d say.inserted (say.refused n) _ (λ v. refl) (λ e. refl)
    (on_table-keeps n (λ shape t. insert_outcome shape before values t) d
    (unless_keeps (insert_refusal (schema_of d n) before values (table_of d n)) _ _ (table_of d n))) h
change_keeps d n (change.Replace id values) h =
    altered_keeps d all_done (say.refused n) _ (λ v. refl) (λ e. refl) (on_table-keeps n (λ shape t. replace_outcome shape id values t) d
    (unless_keeps (replace_refusal (schema_of d n) id values (table_of d n)) _ _ (table_of d n))) h
change_keeps d n (change.Modify id edits rollback) h =
    altered_keeps d all_done (say.refused_modify n) _ (λ v. refl) (λ e. refl)
    (on_table-keeps n (λ shape t. modify_outcome shape id edits rollback t) d (modify_keeps (schema_of d n) id edits rollback (table_of d n))) h
change_keeps d n (change.Erase id) h =
    altered_keeps d all_done (say.refused n) _ (λ v. refl) (λ e. refl) (on_table-keeps n (λ shape t. erase_outcome id t) d
    (either_keeps (has (table_of d n) id) (Ok tt, erase id (table_of d n)) (Err NoId, table_of d n) (table_of d n)
    (accepted_keeps tt _ _) (refused_keeps NoId (table_of d n)))) h
change_keeps d n (change.EraseKey index key) h =
    altered_keeps d say.erased (say.refused n) _ (λ v. refl) (λ e. refl)
    (on_table-keeps n (λ shape t. erase_key_outcome shape index key t) d (accepted_keeps _ _ _)) h
change_keeps d n (change.Relocate index id before) h =
    altered_keeps d all_done (say.refused n) _ (λ v. refl) (λ e. refl) (on_table-keeps n (λ shape t. relocate_outcome index id before t) d
    (either_keeps (has (table_of d n) id && has_place (table_of d n) before) (Ok tt, relocate index id before (table_of d n)) (Err NoId, table_of d n)
    (table_of d n) (accepted_keeps tt _ _) (refused_keeps NoId (table_of d n)))) h

module _ (s : HeldDatabase) (conn : ℕ) where
  revised_keeps : (answer : Result ℕ Refusal) (left : Database) (move : Move)
      → ((e : Refusal) → answer ≡ Err e → left ≡ s.database) → tells_change (done_by conn s (revised answer left move)).0 ≡ false
      → (done_by conn s (revised answer left move)).1 ≡ s
  revised_keeps (Ok n) left move keeps h = not_false h
  revised_keeps (Err e) left move keeps h = ap (λ d. record s { database = d }) (keeps e refl)

-- a start where the revision is the last, or where as many sessions are open as can be
abbrev start_after : (spent deep : Bool) (d : Database) → Result ℕ Refusal × Database
start_after spent deep d = cond spent (Err Spent, d) (cond deep (Err Depth, d) (Ok (d.revision + 1), started d))

start_after-keeps : (spent deep : Bool) (d : Database) (e : Refusal) → (start_after spent deep d).0 ≡ Err e → (start_after spent deep d).1 ≡ d
start_after-keeps true deep d e is = refl
start_after-keeps false true d e is = refl
start_after-keeps false false d e is = absurd (cc)

start_keeps : (d : Database) (e : Refusal) → (start_step d).0 ≡ Err e → (start_step d).1 ≡ d
start_keeps d e = start_after-keeps (is_spent d.revision) (nat_eq (depth d) MAX_SESSIONS) d e

-- an undo or a squash, where no session may be open
abbrev session_step : Bool → ℕ → Database → Database → Result ℕ NoSession × Database
session_step none number left d = cond none (Err (record {}), d) (Ok number, left)

step_keeps : (none : Bool) (number : ℕ) (left d : Database) (e : Refusal) → or_session (session_step none number left d).0 ≡ Err e
    → (session_step none number left d).1 ≡ d
step_keeps true number left d e is = refl
step_keeps false number left d e is = absurd (cc)

over_sessions-keeps : (s : HeldDatabase) (conn : ℕ) (x : SessionCommand) → may_change (command.Session x) (performed s conn (command.Session x)).0 ≡ false
    → (performed s conn (command.Session x)).1 ≡ s
over_sessions-keeps s conn session.Start h = revised_keeps s conn (start_step s.database).0 (start_step s.database).1 one_up (start_keeps s.database) h
over_sessions-keeps s conn session.Undo h = revised_keeps s conn (or_session (undo_step s.database).0) (undo_step s.database).1 one_down
    (step_keeps (nat_eq (depth s.database) 0) (s.database.revision - 1) (undone s.database) s.database) h
over_sessions-keeps s conn session.Squash h = revised_keeps s conn (or_session (squash_step s.database).0) (squash_step s.database).1 one_down
    (step_keeps (nat_eq (depth s.database) 0) (s.database.revision - 1) (squashed s.database) s.database) h
over_sessions-keeps s conn (session.Commit x) h = not_false h
over_sessions-keeps s conn session.UndoAll h = not_false h
over_sessions-keeps s conn session.Push h = not_false h
over_sessions-keeps s conn x h = refl

-- a command that can't have changed anything leaves all as it is
pub command_keeps : (s : HeldDatabase) (conn : ℕ) (c : Command) → may_change c (performed s conn c).0 ≡ false → (performed s conn c).1 ≡ s
command_keeps s conn (command.Change n x) h = ap (λ d. record s { database = d }) (change_keeps s.database n x h)
command_keeps s conn (command.NumberLookUp n x) h = refl
command_keeps s conn (command.KeyLookUp n x) h = refl
command_keeps s conn (command.Session x) h = over_sessions-keeps s conn x h

pub told_keeps : {A : Type 0} (s t : HeldDatabase) (conn : ℕ) (c : Command) (told : Said) → ToldOrMemory A (performed s conn c) s told t
    → may_change c told ≡ false → t ≡ s
told_keeps s t conn c told (inr p) h = p.2
told_keeps s t conn c told (inl p) h = p.1 ∙ command_keeps s conn c (sym (ap (may_change c) p.0) ∙ h)

-- what a look-up tells is no change
found_quiet : (n id : ℕ) (o : Option (List Value)) → tells_change (found n id o) ≡ false
found_quiet n id None = refl
found_quiet n id (Some values) = refl

shown_quiet : (n : ℕ) (t : Table) (o : Option ℕ) → tells_change (show_found n t o) ≡ false
shown_quiet n t None = refl
shown_quiet n t (Some id) = found_quiet n id (get t id)

either_quiet : (b : Bool) (x y : Said) → tells_change x ≡ false → tells_change y ≡ false → tells_change (cond b x y) ≡ false
either_quiet true x y h k = h
either_quiet false x y h k = k

pub number_quiet : (n : ℕ) (s : Shape) (t : Table) (x : NumberLookUp) → tells_change (number_look_up_said n s t x) ≡ false
number_quiet n s t by_number.Size = refl
number_quiet n s t x = search (found_quiet, shown_quiet, either_quiet)

pub key_quiet : (n : ℕ) (s : Shape) (t : Table) (x : KeyLookUp) → tells_change (key_look_up_said n s t x) ≡ false
key_quiet n s t (by_key.Count index key) = refl
key_quiet n s t x = search shown_quiet

memory_quiet : (c : Command) (told : Said) → SaysMemory told → may_change c told ≡ false
memory_quiet (command.Session (session.Reserve changes sessions)) told h = refl
memory_quiet c told h = by_told told h
  where
    by_told : (told : Said) → SaysMemory told → tells_change told ≡ false
    by_told (say.refused table Memory) h = refl
    by_told (say.refused_modify table Memory) h = refl
    by_told told h = absurd h

-- ---- lines

bound_keeps : (s : HeldDatabase) (conn : ℕ) (c : Result Command Refusal) → command_changes s conn c ≡ false → (command_answer s conn c).1 ≡ s
bound_keeps s conn (Ok c) h = command_keeps s conn c h
bound_keeps s conn (Err e) h = refl

-- a line whose answer is no change leaves all as it is
pub line_keeps : (s : HeldDatabase) (conn : ℕ) (line : Asked) → line_changes s conn line ≡ false → (answer s conn line).1 ≡ s
line_keeps s conn (asking.text t) h = bound_keeps s conn (command_of s conn (command_line t)) h
line_keeps s conn asking.too_long h = refl

-- an answer is given, whatever is said of it
pub answer_given : (conn : ℕ) (s t : HeldDatabase) (line : Asked) (reply : List ℕ) (changed : Bool) → MayAnswer conn s line reply changed t
    → MayGive conn s line reply t
answer_given conn s t line reply changed (inl p) = inl p.0
answer_given conn s t line reply changed (inr p) = inr (p.0, p.1)

-- what is said to be no change has changed nothing
pub answer_keeps : (conn : ℕ) (s t : HeldDatabase) (line : Asked) (reply : List ℕ) (changed : Bool) → MayAnswer conn s line reply changed t
    → changed ≡ false → t ≡ s
answer_keeps conn s t line reply changed (inl p) never = p.0.1 ∙ line_keeps s conn line (sym p.1 ∙ never)
answer_keeps conn s t line reply changed (inr p) never = p.1.1

-- ---- replies without rows

said_short : {A : Type 0} (accepted : A → Said) (denied : Refusal → Said) (a : Result A Refusal) → ((v : A) → is_short (accepted v) ≡ true)
    → ((e : Refusal) → is_short (denied e) ≡ true) → is_short (said_of accepted denied a) ≡ true
said_short accepted denied (Ok v) h k = h v
said_short accepted denied (Err e) h k = k e

change_short : (d : Database) (n : ℕ) (x : Change) → is_short (changed d n x).0 ≡ true
change_short d n (change.Insert values before) = said_short say.inserted (say.refused n) _ (λ v. refl) (λ e. refl)
change_short d n (change.Replace id values) = said_short all_done (say.refused n) _ (λ v. refl) (λ e. refl)
change_short d n (change.Modify id edits rollback) = said_short all_done (say.refused_modify n) _ (λ v. refl) (λ e. refl)
change_short d n (change.Erase id) = said_short all_done (say.refused n) _ (λ v. refl) (λ e. refl)
change_short d n (change.EraseKey index key) = refl
change_short d n (change.Relocate index id before) = said_short all_done (say.refused n) _ (λ v. refl) (λ e. refl)

over_sessions-short : (s : HeldDatabase) (conn : ℕ) (x : SessionCommand) → is_short (performed s conn (command.Session x)).0 ≡ true
over_sessions-short s conn session.Start = said_short say.revised (say.refused 0) (start_step s.database).0 (λ v. refl) (λ e. refl)
over_sessions-short s conn session.Undo = said_short say.revised (say.refused 0) (or_session (undo_step s.database).0) (λ v. refl) (λ e. refl)
over_sessions-short s conn session.Squash = said_short say.revised (say.refused 0) (or_session (squash_step s.database).0) (λ v. refl) (λ e. refl)
over_sessions-short s conn x = refl

memory_short : (told : Said) → SaysMemory told → is_short told ≡ true
memory_short (say.refused table e) h = refl
memory_short (say.refused_modify table e) h = refl
memory_short told h = absurd h

told_short : {A : Type 0} (s t : HeldDatabase) (conn : ℕ) (c : Command) (told : Said) → is_short (performed s conn c).0 ≡ true
    → ToldOrMemory A (performed s conn c) s told t → is_short told ≡ true
told_short s t conn c told h (inl p) = ap is_short p.0 ∙ h
told_short s t conn c told h (inr p) = memory_short told p.1

-- ---- texts

memory_text : (c : CatalogShape) (told : Said) → SaysMemory told → reply_text c told ≡ reply_text c (refused 0 Memory)
memory_text c (say.refused table Memory) h = refl
memory_text c (say.refused_modify table Memory) h = refl
memory_text c told h = absurd h

-- ---- the catalog

start_after-catalog : (spent deep : Bool) (d : Database) → (start_after spent deep d).1.catalog ≡ d.catalog
start_after-catalog true deep d = refl
start_after-catalog false true d = refl
start_after-catalog false false d = refl

session_catalog : (none : Bool) (number : ℕ) (left d : Database) → left.catalog ≡ d.catalog → (session_step none number left d).1.catalog ≡ d.catalog
session_catalog true number left d h = refl
session_catalog false number left d h = h

change_catalog : (d : Database) (n : ℕ) (x : Change) → (changed d n x).1.catalog ≡ d.catalog
change_catalog d n (change.Insert values before) = refl
change_catalog d n x = refl

over_sessions-catalog : (d : Database) (x : SessionCommand) → (session_effect d x).left.catalog ≡ d.catalog
over_sessions-catalog d session.Start = start_after-catalog (is_spent d.revision) (nat_eq (depth d) MAX_SESSIONS) d
over_sessions-catalog d session.Undo = session_catalog (nat_eq (depth d) 0) (d.revision - 1) (undone d) d (undone_catalog d d.old)
over_sessions-catalog d session.Squash = session_catalog (nat_eq (depth d) 0) (d.revision - 1) (squashed d) d (squashed_catalog d d.old)
over_sessions-catalog d session.UndoAll = undone_times_catalog (depth d) d
over_sessions-catalog d x = refl

command_catalog : (s : HeldDatabase) (conn : ℕ) (c : Command) → (performed s conn c).1.database.catalog ≡ s.database.catalog
command_catalog s conn (command.Change n x) = change_catalog s.database n x
command_catalog s conn (command.NumberLookUp n x) = refl
command_catalog s conn (command.KeyLookUp n x) = refl
command_catalog s conn (command.Session x) = over_sessions-catalog s.database x

told_catalog : {A : Type 0} (s t : HeldDatabase) (conn : ℕ) (c : Command) (told : Said) → ToldOrMemory A (performed s conn c) s told t
    → t.database.catalog ≡ s.database.catalog
told_catalog s t conn c told (inl p) = ap (λ (u : HeldDatabase). u.database.catalog) p.1 ∙ command_catalog s conn c
told_catalog s t conn c told (inr p) = ap (λ (u : HeldDatabase). u.database.catalog) p.2

-- ---- what an output has

-- rows that find no room are refused for want of memory, and a look-up has changed nothing
pub look_put : (s : HeldDatabase) (said told : Said) (text : List ℕ) → tells_change said ≡ false → SaidOrMemory (is_short said ≡ false) said told
    → PutOrMemory s.database.catalog told text → AnsweredOrMemory (is_short said ≡ false) (said, s) (tells_change said) s text false s
look_put s said told text quiet (inl p) (inl is) = inl ((is ∙ ap (reply_text s.database.catalog) p, refl), sym quiet)
look_put s said told text quiet (inr p) (inl is) = inr (p.0, (is ∙ memory_text s.database.catalog told p.1, refl), refl)
look_put s said told text quiet (inl p) (inr q) = inr (sym (ap is_short p) ∙ q.0, (q.1, refl), refl)
look_put s said told text quiet (inr p) (inr q) = inr (p.0, (q.1, refl), refl)

-- what any other command tells has no rows
module _ (s t : HeldDatabase) (conn : ℕ) (c : Command) (told : Said) (text : List ℕ) (short : is_short (performed s conn c).0 ≡ true) where
  told_text : {A : Type 0} → ToldOrMemory A (performed s conn c) s told t → PutOrMemory t.database.catalog told text → text ≡ reply_text s.database.catalog told
  told_text h (inl is) = is ∙ ap (λ (k : CatalogShape). reply_text k told) (told_catalog s t conn c told h)
  told_text h (inr q) = not_false (sym (told_short s t conn c told short h) ∙ q.0)

  told_put : (changed : Bool) → ToldOrMemory (Lacks c (performed s conn c).0) (performed s conn c) s told t → PutOrMemory t.database.catalog told text
      → changed ≡ may_change c told → IsAnswered s conn c text changed t
  told_put changed (inl p) made is =
      let given = told_text {A = Lacks c (performed s conn c).0} (inl p) made in
      inl ((given ∙ ap (reply_text s.database.catalog) p.0, p.1), is ∙ ap (may_change c) p.0)
  told_put changed (inr p) made is =
      let given = told_text {A = Lacks c (performed s conn c).0} (inr p) made in
      inr (p.0, (given ∙ memory_text s.database.catalog told p.1, p.2), is ∙ memory_quiet c told p.1)

-- a change may lack memory
pub change_put : (s t : HeldDatabase) (n : ℕ) (x : Change) (told : Said) (text : List ℕ) (changed : Bool)
    → ToldOrMemory (Unit {0}) (performed s 0 (command.Change n x)) s told t → PutOrMemory t.database.catalog told text → changed ≡ tells_change told
    → IsAnswered s 0 (command.Change n x) text changed t
change_put s t n x told text changed (inl p) made is =
    told_put s t 0 (command.Change n x) told text (change_short s.database n x) changed (inl p) made is
change_put s t n x told text changed (inr p) made is =
    told_put s t 0 (command.Change n x) told text (change_short s.database n x) changed (inr (tt, p.1, p.2)) made is

pub session_put : (s t : HeldDatabase) (conn : ℕ) (x : SessionCommand) (told : Said) (text : List ℕ) (changed : Bool)
    → ToldOrMemory (session_needs_none x ≡ false) (performed s conn (command.Session x)) s told t → PutOrMemory t.database.catalog told text
    → changed ≡ may_change (command.Session x) told → IsAnswered s conn (command.Session x) text changed t
session_put s t conn x told text changed h made is =
    told_put s t conn (command.Session x) told text (over_sessions-short s conn x) changed h made is
