-- Undos take back all since a start: what lines, and connections that go away, leave of a database is what commands leave, so the law of
-- commands speaks of them.
-- Cited by `Executor::release`, `Executor::undo_all`, `laws::undo_lines_take_back` and `ToldLemmas`.
use Rattle.std.proofs.Common.{◌≡◌, ℕ, zero, suc, ◌+◌, ◌-◌, ◌<◌, ◌≤◌, List, [], ◌∷◌, length, take, Bool, true, false, cond, nat_le, Option, Some, None}
use Rattle.std.proofs.Common.{Result, Ok, Err, codes, refl, sym, ap, ◌∙◌, subst, ◌⊎◌, inl, inr, arith}
use Rattle.std.specs.Prelude.{◌==◌, if◌then◌else◌}
use Rattle.std.proofs.lemmas.Bool.{ne_eqb}
use Rattle.std.proofs.lemmas.List.{length-take-le}
use Rattle.mi_value.specs.declared.refusal.NoSession.{NoSession}
use Rattle.mi_value.specs.declared.refusal.Refusal.{Refusal}
use Rattle.mi_value.specs.declared.refusal.Refusal.TheVariants.{Busy, Spent, Depth, Memory}
use Rattle.mi_value.specs.declared.limits.TheConstants.{MAX_SESSIONS}
use Rattle.mi_catalog.specs.Shape.{CatalogShape}
use Rattle.mi_model.specs.Table.{Table}
use Rattle.mi_model.specs.Verdict.{is_spent}
use Rattle.mi_model.specs.Database.{Database, Step, depth, started, undone_to, undone, undone_times, squashed_to, squashed, ending, committed}
use Rattle.mi_model.specs.Run as model
use Rattle.mi_model.specs.Run.{Command as Change, after_command, run, Spares}
use Rattle.mi_model.proofs.SessionLaws.{undos_take_back}
use Rattle.mi_request.specs.Lines.{command_line}
use Rattle.mi_request.specs.declared.request.Request.TheVariants as request
use Rattle.mi_request.proofs.ShortLemmas.{short_means}
use Rattle.mi_protocol.specs.Replies as say
use Rattle.mi_protocol.specs.Replies.{Said, reply_text}
use Rattle.mi_request.specs.declared.request.SessionCommand.{SessionCommand}
use Rattle.mi_request.specs.declared.request.SessionCommand.TheVariants as session
use Rattle.mi_protocol.specs.declared.changes.Change.{Change as TableChange}
use Rattle.mi_protocol.specs.declared.changes.Change.TheVariants as change
use Rattle.mi_protocol.specs.declared.command.Command.{Command}
use Rattle.mi_protocol.specs.declared.command.Command.TheVariants as command
use Rattle.mi_commands.specs.Asked.{Asked, text, too_long}
use Rattle.mi_commands.specs.Holder.{HeldDatabase, is_busy, one_less, held_by}
use Rattle.mi_commands.specs.Performed.{performed, changed, session_effect, or_session, revised, one_up, one_down, done_by}
use Rattle.mi_commands.specs.Answer.{answer, command_answer, command_of, MayGive}
use Rattle.mi_commands.specs.Acts.{Act, asks, leaves, Acts, AllActs}
use Rattle.mi_commands.specs.Undone.{IsOpen, StaysOpen, undo_lines, undo_replies, TakenBack}
use Rattle.mi_commands.specs.Undone.{UndoLinesTakeBack, UndoLinesAreGiven, StartLinesOpen}
use Rattle.mi_commands.specs.declared.holder.Holder.{Holder}

-- whichever way a test goes
either_way : {X : Type 0} (P : X → Type 0) (b : Bool) (x y : X) → P x → P y → P (cond b x y)
either_way P true x y h k = h
either_way P false x y h k = k

-- ---- what a line does to a database is what a command does, or nothing

abbrev Moves : Database → Database → Type 0
Moves d e = (e ≡ d) ⊎ ((c : Change) × (e ≡ after_command c d))

module _ (s : HeldDatabase) (conn : ℕ) where
  by_change : (n : ℕ) (x : TableChange) → Moves s.database (changed s.database n x).1
  by_change n (change.Insert row before) = inr (Change.Insert n before row, refl)
  by_change n (change.Replace id row) = inr (Change.Replace n id row, refl)
  by_change n (change.Modify id edits rollback) = inr (Change.Modify n id edits rollback, refl)
  by_change n (change.Erase id) = inr (Change.Erase n id, refl)
  by_change n (change.EraseKey index key) = inr (Change.EraseKey n index key, refl)
  by_change n (change.Relocate index id before) = inr (Change.Relocate n index id before, refl)

  by_session : (x : SessionCommand) → Moves s.database (session_effect s.database x).left
  by_session session.Start = inr (Change.Start, refl)
  by_session session.Undo = inr (Change.Undo, refl)
  by_session session.Squash = inr (Change.Squash, refl)
  by_session (session.Commit revision) = inr (Change.Commit revision, refl)
  by_session session.UndoAll = inr (Change.UndoAll, refl)
  by_session x = inl refl

  by_command : (c : Command) → Moves s.database (performed s conn c).1.database
  by_command (command.Change n x) = by_change n x
  by_command (command.NumberLookUp n x) = inl refl
  by_command (command.KeyLookUp n x) = inl refl
  by_command (command.Session x) = by_session x

  by_bound : (c : Result Command Refusal) → Moves s.database (command_answer s conn c).1.database
  by_bound (Ok c) = by_command c
  by_bound (Err e) = inl refl

  by_answer : (line : Asked) → Moves s.database (answer s conn line).1.database
  by_answer (text t) = by_bound (command_of s conn (command_line t))
  by_answer too_long = inl refl

  by_line : (line : Asked) (reply : List ℕ) (t : HeldDatabase) → MayGive conn s line reply t → Moves s.database t.database
  by_line line reply t (inl p) = subst (λ (u : HeldDatabase). Moves s.database u.database) (sym p.1) (by_answer line)
  by_line line reply t (inr p) = inl (ap (λ (u : HeldDatabase). u.database) p.1.1)

-- ---- a session that stays open through lines does so through their commands

-- a commit that leaves it open hasn't reached its number
commit_spares : (n x : ℕ) (d : Database) → IsOpen n (committed x d) → x < n
commit_spares n x d o =
    let kept : length (take (depth d - ending x d) d.old) ≡ depth d - ending x d = length-take-le (depth d - ending x d) d.old (omega arith) in
    let newer : d.revision - length (take (depth d - ending x d) d.old) + 1 ≤ n = o.0 in
    let older : n ≤ d.revision = o.1 in
    omega arith

spares : (n : ℕ) (c : Change) (d : Database) → IsOpen n (after_command c d) → Spares n c
spares n (Change.Commit x) d o = commit_spares n x d o
spares n c d o = tt

-- commands that lead from d to e, and leave it open
record AreCommands (n : ℕ) (d e : Database) : Type 0 where
  commands : List Change
  opens : model.StaysOpen n commands d
  leads : run commands d ≡ e

after_move : (n : ℕ) (d mid e : Database) → Moves d mid → IsOpen n mid → AreCommands n mid e → AreCommands n d e
after_move n d mid e (inl same) o h = subst (λ x. AreCommands n x e) same h
after_move n d mid e (inr p) o h =
    let here : IsOpen n (after_command p.0 d) = subst (IsOpen n) p.1 o in
    let rest : AreCommands n (after_command p.0 d) e = subst (λ x. AreCommands n x e) p.1 h in
    record { commands = p.0 ∷ rest.commands; opens = (spares n p.0 d here, here.1, rest.opens); leads = rest.leads }

-- undos of a connection that goes away

not_zero : (n : ℕ) → 1 ≤ n → (n == 0) ≡ false
not_zero n some = ne_eqb n 0 (λ e. omega arith)

-- what an undo answers and leaves, by whether no session is open
abbrev undo_by : Database → List (List Table) → Bool → Result ℕ NoSession × Database
undo_by d old none = cond none (Err (record {}), d) (Ok (d.revision - 1), undone_to d old)

undo_leaves : (d : Database) (old : List (List Table)) → (undo_by d old (length old == 0)).1 ≡ undone_to d old
undo_leaves d [] = refl
undo_leaves d (tables ∷ old) = ap (λ b. (undo_by d (tables ∷ old) b).1) (not_zero (length (tables ∷ old)) (omega arith))

undone_falls : (d : Database) (old : List (List Table)) → (undone_to d old).revision ≤ d.revision
undone_falls d [] = omega arith
undone_falls d (tables ∷ old) = omega arith

undone_times_falls : (k : ℕ) (d : Database) → (undone_times k d).revision ≤ d.revision
undone_times_falls zero d = omega arith
undone_times_falls (suc k) d =
    let first : (undone d).revision ≤ d.revision = undone_falls d d.old in
    let later : (undone_times k (undone d)).revision ≤ (undone d).revision = undone_times_falls k (undone d) in
    omega arith

after_undos : (n k : ℕ) (d e : Database) → n ≤ (undone_times k d).revision → AreCommands n (undone_times k d) e → AreCommands n d e
after_undos n zero d e o h = h
after_undos n (suc k) d e o h =
    let rest : AreCommands n (undone d) e = after_undos n k (undone d) e o h in
    let later : (undone_times k (undone d)).revision ≤ (undone d).revision = undone_times_falls k (undone d) in
    let left : n ≤ (undone d).revision = omega arith in
    let is : after_command Change.Undo d ≡ undone d = undo_leaves d d.old in
    record {
      commands = Change.Undo ∷ rest.commands;
      opens = (tt, subst (λ (x : Database). n ≤ x.revision) (sym is) left, subst (model.StaysOpen n rest.commands) (sym is) rest.opens);
      leads = ap (run rest.commands) is ∙ rest.leads;
    }

module _ (n : ℕ) where
  after_act : (act : Act) (s mid : HeldDatabase) (e : Database) → Acts s act mid → IsOpen n mid.database → AreCommands n mid.database e
      → AreCommands n s.database e
  after_act (asks conn line reply) s mid e p o h = after_move n s.database mid.database e (by_line s conn line reply mid p) o h
  after_act (leaves conn) s mid e p o h =
      let gone = ap (λ (u : HeldDatabase). u.database) p in
      after_undos n (held_by conn s.holder) s.database e (subst (IsOpen n) gone o).1 (subst (λ d. AreCommands n d e) gone h)

  are_commands : (acts : List Act) (s t : HeldDatabase) (p : AllActs s acts t) → StaysOpen n acts s t p → AreCommands n s.database t.database
  are_commands [] s t p o = record { commands = []; opens = tt; leads = sym (ap (λ (u : HeldDatabase). u.database) p) }
  are_commands (act ∷ acts) s t p o = after_act act s p.0 t.database p.1 o.0 (are_commands acts p.0 t p.2 o.1)

  -- so it is open at the end
  open_then : (acts : List Act) (s t : HeldDatabase) (p : AllActs s acts t) → IsOpen n s.database → StaysOpen n acts s t p → IsOpen n t.database
  open_then [] s t p here o = subst (λ (u : HeldDatabase). IsOpen n u.database) (sym p) here
  open_then (act ∷ acts) s t p here o = open_then acts p.0 t p.2 o.0 o.1

-- ---- no command changes the catalog

pub undone_catalog : (d : Database) (old : List (List Table)) → (undone_to d old).catalog ≡ d.catalog
undone_catalog d [] = refl
undone_catalog d (tables ∷ old) = refl

pub squashed_catalog : (d : Database) (old : List (List Table)) → (squashed_to d old).catalog ≡ d.catalog
squashed_catalog d [] = refl
squashed_catalog d (tables ∷ old) = refl

pub undone_times_catalog : (k : ℕ) (d : Database) → (undone_times k d).catalog ≡ d.catalog
undone_times_catalog zero d = refl
undone_times_catalog (suc k) d = undone_times_catalog k (undone d) ∙ undone_catalog d d.old

abbrev HasCatalog : {A : Type 0} → CatalogShape → A × Database → Type 0
HasCatalog c step = step.1.catalog ≡ c

after_catalog : (c : Change) (d : Database) → (after_command c d).catalog ≡ d.catalog
after_catalog Change.Start d =
    let opens : Step ℕ = if depth d == MAX_SESSIONS then (Err Depth, d) else (Ok (d.revision + 1), started d) in
    either_way {X = Step ℕ} (HasCatalog d.catalog) (is_spent d.revision) (Err Spent, d) opens refl
    (either_way {X = Step ℕ} (HasCatalog d.catalog) (depth d == MAX_SESSIONS) (Err Depth, d) (Ok (d.revision + 1), started d) refl refl)
after_catalog Change.Undo d =
    either_way {X = Result ℕ NoSession × Database} (HasCatalog d.catalog) (depth d == 0) (Err (record {}), d) (Ok (d.revision - 1), undone d) refl
    (undone_catalog d d.old)
after_catalog Change.Squash d =
    either_way {X = Result ℕ NoSession × Database} (HasCatalog d.catalog) (depth d == 0) (Err (record {}), d) (Ok (d.revision - 1), squashed d) refl
    (squashed_catalog d d.old)
after_catalog Change.UndoAll d = undone_times_catalog (depth d) d
after_catalog c d = refl

run_catalog : (cs : List Change) (d : Database) → (run cs d).catalog ≡ d.catalog
run_catalog [] d = refl
run_catalog (c ∷ cs) d = run_catalog cs (after_command c d) ∙ after_catalog c d

-- ---- lines of undo

undone_depth : (d : Database) (old : List (List Table)) → 1 ≤ length old → depth (undone_to d old) + 1 ≡ length old
undone_depth d [] some = absurd (omega arith)
undone_depth d (tables ∷ old) some = omega arith

undone_revision : (d : Database) (old : List (List Table)) → 1 ≤ length old → (undone_to d old).revision ≡ d.revision - 1
undone_revision d [] some = absurd (omega arith)
undone_revision d (tables ∷ old) some = refl

-- what an undo says and leaves
abbrev undo_says : HeldDatabase → Result ℕ NoSession × Database → Said × HeldDatabase
undo_says s step = done_by 0 s (revised (or_session step.0) step.1 one_down)

free_less : (o : Option Holder) (conn : ℕ) → is_busy o conn ≡ false → is_busy (one_less o) conn ≡ false
free_less None conn free = refl
free_less (Some h) conn free =
    either_way (λ o. is_busy o conn ≡ false) (nat_le h.held 1) None (Some (record { conn = h.conn; held = h.held - 1 })) refl free

-- what an undo of an open session leaves
abbrev less_one : HeldDatabase → HeldDatabase
less_one s = record { database = undone s.database; holder = one_less s.holder }

module _ (conn : ℕ) where
  undo_answer : (s : HeldDatabase) → is_busy s.holder conn ≡ false → 1 ≤ depth s.database
      → answer s conn (text (codes "{\"cmd\":\"undo\"}")) ≡ (say.revised (s.database.revision - 1), less_one s)
  undo_answer s free some =
      ap (λ r. command_answer s conn (command_of s conn r)) (short_means (request.Session session.Undo) _ refl)
      ∙ ap (λ b. command_answer s conn (cond b (Err Busy) (Ok (command.Session session.Undo)))) free
      ∙ ap (λ b. undo_says s (undo_by s.database s.database.old b)) (not_zero (depth s.database) some)

  undo_given : (c : CatalogShape) (s t : HeldDatabase) (reply : List ℕ) → is_busy s.holder conn ≡ false → 1 ≤ depth s.database
      → MayGive conn s (text (codes "{\"cmd\":\"undo\"}")) reply t
      → (reply ≡ reply_text c (say.revised (s.database.revision - 1))) × (t ≡ less_one s)
  undo_given c s t reply free some (inl p) =
      let is = undo_answer s free some in (p.0 ∙ ap (λ a. reply_text s.database.catalog a.0) is, p.1 ∙ ap (λ a. a.1) is)
  undo_given c s t reply free some (inr p) = absurd (p.0 (request.Session session.Undo, refl, refl))

  -- undos of no more sessions than are open
  undos_given : (c : CatalogShape) (replies : List (List ℕ)) (t v : HeldDatabase) → length replies ≤ depth t.database → is_busy t.holder conn ≡ false
      → AllActs t (undo_lines conn replies) v
      → (replies ≡ undo_replies c (length replies) t.database.revision) × (v.database ≡ undone_times (length replies) t.database)
  undos_given c [] t v most free p = (refl, ap (λ (u : HeldDatabase). u.database) p)
  undos_given c (reply ∷ replies) t v most free p =
      let some : 1 ≤ depth t.database = omega arith in
      let first = undo_given c t p.0 reply free some p.1 in
      let fewer : depth (undone t.database) + 1 ≡ depth t.database = undone_depth t.database t.database.old some in
      let rest = undos_given c replies (less_one t) v (omega arith) (free_less t.holder conn free)
      (subst (λ mid. AllActs mid (undo_lines conn replies) v) first.1 p.2) in
      let later = rest.0 ∙ ap (undo_replies c (length replies)) (undone_revision t.database t.database.old some) in
      (λ i. first.0 i ∷ later i, rest.1)

-- ---- the laws

-- what commands have led to from a start, k undos take back
module _ (s t v : HeldDatabase) (conn k : ℕ) (replies : List (List ℕ)) where
  taken_back : AreCommands (s.database.revision + 1) (started s.database) t.database → IsOpen (s.database.revision + 1) t.database
      → t.database.revision ≡ s.database.revision + k → is_busy t.holder conn ≡ false → length replies ≡ k → AllActs t (undo_lines conn replies) v
      → TakenBack s t v k replies
  taken_back these here count free many undos =
      let older : t.database.revision - depth t.database + 1 ≤ s.database.revision + 1 = here.0 in
      let back = subst (λ (d : Database). ((undone_times k d).tables ≡ s.database.tables) × ((undone_times k d).revision ≡ s.database.revision))
      these.leads (undos_take_back s.database these.commands k these.opens (ap (λ (d : Database). d.revision) these.leads ∙ count)) in
      let given = undos_given conn s.database.catalog replies t v (omega arith) free undos in
      let left : v.database ≡ undone_times k t.database = given.1 ∙ ap (λ m. undone_times m t.database) many in
      let kept : t.database.catalog ≡ s.database.catalog =
      sym (ap (λ (d : Database). d.catalog) these.leads) ∙ run_catalog these.commands (started s.database) in
      record {
        tables = ap (λ (d : Database). d.tables) left ∙ back.0;
        revision = ap (λ (d : Database). d.revision) left ∙ back.1;
        catalog = ap (λ (d : Database). d.catalog) left ∙ undone_times_catalog k t.database ∙ kept;
        accepted = given.0 ∙ ap (λ m. undo_replies s.database.catalog m t.database.revision) many;
      }

pub undo_lines_take_back : UndoLinesTakeBack
undo_lines_take_back s u t v start acts p conn k replies opens stays count free many undos =
    let n : ℕ = s.database.revision + 1 in
    let first : IsOpen n (started s.database) = (omega arith, omega arith) in
    taken_back s t v conn k replies (subst (λ d. AreCommands n d t.database) opens.1 (are_commands n acts u t p stays))
    (open_then n acts u t p (subst (IsOpen n) (sym opens.1) first) stays) count free many undos

pub undo_lines_are_given : UndoLinesAreGiven
undo_lines_are_given t conn zero = (t, [], refl, refl)
undo_lines_are_given t conn (suc k) =
    let a = answer t conn (text (codes "{\"cmd\":\"undo\"}")) in
    let rest = undo_lines_are_given a.1 conn k in
    (rest.0, reply_text t.database.catalog a.0 ∷ rest.1, ap suc rest.2, (a.1, inl (refl, refl), rest.3))

-- a session is opened, or it is refused and nothing has changed
abbrev OpenedOrRefused : HeldDatabase → Said × HeldDatabase → Type 0
OpenedOrRefused s a =
    ((a.1.database ≡ started s.database) × (a.0 ≡ say.revised (s.database.revision + 1))) ⊎ ((e : Refusal) × (a.0 ≡ say.refused 0 e) × (a.1 ≡ s))

start_by : (s : HeldDatabase) (conn : ℕ) (busy : Bool) → OpenedOrRefused s (command_answer s conn (cond busy (Err Busy) (Ok (command.Session session.Start))))
start_by s conn true = inr (Busy, refl, refl)
start_by s conn false =
    let d = s.database in
    let opens : Step ℕ = if depth d == MAX_SESSIONS then (Err Depth, d) else (Ok (d.revision + 1), started d) in
    either_way {X = Step ℕ} by_step (is_spent d.revision) (Err Spent, d) opens (inr (Spent, refl, refl))
    (either_way {X = Step ℕ} by_step (depth d == MAX_SESSIONS) (Err Depth, d) (Ok (d.revision + 1), started d) (inr (Depth, refl, refl)) (inl (refl, refl)))
  where
    by_step : Step ℕ → Type 0
    by_step step = OpenedOrRefused s (done_by conn s (revised step.0 step.1 one_up))

start_answer : (s : HeldDatabase) (conn : ℕ) → OpenedOrRefused s (answer s conn (text (codes "{\"cmd\":\"start\"}")))
start_answer s conn =
    subst (λ r. OpenedOrRefused s (command_answer s conn (command_of s conn r))) (sym (short_means (request.Session session.Start) _ refl))
    (start_by s conn (is_busy s.holder conn))

pub start_lines_open : StartLinesOpen
start_lines_open s u conn reply (inr p) = inr (Memory, p.1.0, p.1.1)
start_lines_open s u conn reply (inl p) = elim (start_answer s conn) [
  | inl o ↦ inl ((inl p, ap (λ (t : HeldDatabase). t.database) p.1 ∙ o.0), p.0 ∙ ap (reply_text s.database.catalog) o.1)
  | inr o ↦ inr (o.0, p.0 ∙ ap (reply_text s.database.catalog) o.1, p.1 ∙ o.2)
]
