-- A line asked where sessions have ended early leaves what it leaves else, with those sessions ended.
-- Cited by `RunLemmas`, `StepLemmas` and `TakenLemmas`.
use Rattle.std.proofs.Common.{◌≡◌, ℕ, zero, suc, ◌+◌, ◌-◌, ◌≤◌, min, List, [], ◌∷◌, length, take, Bool, true, false, cond, ◌&&◌, nat_eq, nat_le}
use Rattle.std.proofs.Common.{Option, None, Result, Ok, Err, get_or, refl, sym, ap, ap₂, ◌∙◌, subst, ◌⊎◌, inl, inr, arith, true≢false}
use Rattle.std.proofs.lemmas.List.{take_all, take_min, take-take, length-take}
use Rattle.mi_value.specs.declared.refusal.Refusal.{Refusal}
use Rattle.mi_value.specs.declared.refusal.Refusal.TheVariants.{Busy, Spent, Depth}
use Rattle.mi_value.specs.declared.refusal.NoSession.{NoSession}
use Rattle.mi_value.specs.declared.limits.TheConstants.{MAX_SESSIONS}
use Rattle.mi_catalog.specs.Shape.{CatalogShape}
use Rattle.mi_model.specs.Table.{Table}
use Rattle.mi_model.specs.Verdict.{is_spent}
use Rattle.mi_model.specs.Database.{Database, depth, started, undone, undone_times, squashed, committed}
use Rattle.mi_request.specs.Lines.{command_line}
use Rattle.mi_request.specs.Commands.{keeps_out}
use Rattle.mi_request.specs.declared.request.Request.{Request}
use Rattle.mi_request.specs.declared.request.SessionCommand.{SessionCommand}
use Rattle.mi_request.specs.declared.request.SessionCommand.TheVariants as session
use Rattle.mi_protocol.specs.Binding.{bound_command}
use Rattle.mi_protocol.specs.Replies.{Said, reply_text}
use Rattle.mi_protocol.specs.declared.changes.Change.{Change}
use Rattle.mi_protocol.specs.declared.changes.Change.TheVariants as change
use Rattle.mi_protocol.specs.declared.command.Command.{Command}
use Rattle.mi_protocol.specs.declared.command.Command.TheVariants as command
use Rattle.mi_commands.specs.Asked.{Asked, text, too_long}
use Rattle.mi_commands.specs.Answer.{answer, command_answer, command_of, command_changes}
use Rattle.mi_commands.specs.Told.{tells_change}
use Rattle.mi_commands.specs.Holder.{HeldDatabase, is_busy, one_more, at_most}
use Rattle.mi_commands.specs.Performed.{performed, or_session, revised, one_up, one_down, done_by}
use Rattle.mi_commands.specs.declared.holder.Holder.{Holder}
use Rattle.mi_replay.specs.Replayed.{replayer}
use Rattle.mi_replay.proofs.AnswerLemmas.{on}
use Rattle.mi_checkpoint.specs.Settled.{settled, done_reply, IsTaken, IsReplaying}
use Rattle.mi_checkpoint.proofs.HolderLemmas.{not_zero, less_most, most_least, more_most, without_most, most_free}

abbrev pub db : CatalogShape → List Table → List (List Table) → ℕ → Database
db c ts old r = record { catalog = c; tables = ts; old = old; revision = r }

-- ---- the sessions that are left

-- those of numbers above x
abbrev pub cut : ℕ → Database → Database
cut x d = record d { old = take (d.revision - x) d.old }

left_count : (n x r : ℕ) → min (n - min n (x + n - r)) n ≡ min (r - x) n
left_count n x r = omega arith

-- a commit of x leaves them
pub committed_cut : (x : ℕ) (d : Database) → committed x d ≡ cut x d
committed_cut x d =
    let n : ℕ = depth d in
    ap (λ o. record d { old = o }) (sym (take_min (depth d - min (depth d) (x + depth d - d.revision)) d.old)
    ∙ ap (λ m. take m d.old) (left_count (depth d) x d.revision) ∙ take_min (d.revision - x) d.old)

pub cut_none : (x : ℕ) (d : Database) → depth d ≤ d.revision - x → cut x d ≡ d
cut_none x d all = ap (λ o. record d { old = o }) (take_all (d.revision - x) d.old all)

take_swap : {A : Type 0} (a b : ℕ) (xs : List A) → take a (take b xs) ≡ take b (take a xs)
take_swap {A} a b xs = by_test (nat_le a b) refl
  where
    less : nat_le a b ≡ true → a ≤ b
    less t = grind arith

    more : nat_le a b ≡ false → b ≤ a
    more t = grind arith

    short : (m n : ℕ) → m ≤ n → length (take m xs) ≤ n
    short m n h = let long : length (take m xs) ≡ min m (length xs) = length-take m xs in omega arith

    by_test : (t : Bool) → nat_le a b ≡ t → take a (take b xs) ≡ take b (take a xs)
    by_test true t = take-take a b xs (less t) ∙ sym (take_all b (take a xs) (short a b (less t)))
    by_test false t = take_all a (take b xs) (short b a (more t)) ∙ sym (take-take b a xs (more t))

pub cut_depth : (x : ℕ) (d : Database) → depth (cut x d) ≤ depth d
cut_depth x d = let long : length (take (d.revision - x) d.old) ≡ min (d.revision - x) (length d.old) = length-take (d.revision - x) d.old in omega arith

-- the same with the holder
abbrev pub early : ℕ → HeldDatabase → HeldDatabase
early x s = on (cut x s.database) (at_most (depth (cut x s.database)) s.holder)

pub settled_early : (x : ℕ) (s : HeldDatabase) → settled x s ≡ early x s
settled_early x s = ap (λ d. on d (at_most (depth d) s.holder)) (committed_cut x s.database)

-- ---- what is taken

-- a command that is bound, or refused
abbrev TakenAs : HeldDatabase → Result Command Refusal → Type 0
TakenAs s c = (command_changes s replayer c ≡ true) ⊎ (reply_text s.database.catalog (command_answer s replayer c).0 ≡ done_reply)

-- what tells a change, or no more than that it is done
abbrev TakenSaid : CatalogShape → Said → Type 0
TakenSaid c said = (tells_change said ≡ true) ⊎ (reply_text c said ≡ done_reply)

pub not_true : {A : Type 0} → false ≡ true → A
not_true e = absurd (true≢false (sym e))

-- its third byte is another
pub other_text : {A : Type 0} (t : List ℕ) → nat_eq (get_or t 2 0) 111 ≡ false → t ≡ done_reply → A
other_text t differs same = absurd (true≢false (sym (ap (λ u. nat_eq (get_or u 2 0) 111) same) ∙ differs))

-- ---- steps of sessions

-- a start where the revision is the last, or where as many sessions are open as can be
abbrev pub opens : Bool → Bool → Database → Result ℕ Refusal × Database
opens spent deep d = cond spent (Err Spent, d) (cond deep (Err Depth, d) (Ok (d.revision + 1), started d))

abbrev start_as : HeldDatabase → Result ℕ Refusal × Database → Said × HeldDatabase
start_as s step = done_by replayer s (revised step.0 step.1 one_up)

-- an undo or a squash, where no session may be open
abbrev pub ends : Bool → ℕ → Database → Database → Result ℕ NoSession × Database
ends none number left d = cond none (Err (record {}), d) (Ok number, left)

abbrev end_as : HeldDatabase → Result ℕ NoSession × Database → Said × HeldDatabase
end_as s step = done_by replayer s (revised (or_session step.0) step.1 one_down)

start_taken : (s : HeldDatabase) (spent deep : Bool) → TakenSaid s.database.catalog (start_as s (opens spent deep s.database)).0
    → (spent ≡ false) × (deep ≡ false)
start_taken s true deep (inl p) = not_true p
start_taken s true deep (inr p) = other_text _ refl p
start_taken s false true (inl p) = not_true p
start_taken s false true (inr p) = other_text _ refl p
start_taken s false false p = (refl, refl)

none_taken : {A : Type 0} (s : HeldDatabase) (number : ℕ) (left : Database) → TakenSaid s.database.catalog (end_as s (ends true number left s.database)).0 → A
none_taken s number left (inl p) = not_true p
none_taken s number left (inr p) = other_text _ refl p

status_taken : {A : Type 0} (s : HeldDatabase) → TakenAs s (Ok (command.Session session.Revision)) → A
status_taken s (inl p) = not_true p
status_taken s (inr p) = other_text _ refl p

start_is : (d : Database) (o : Option Holder) → is_spent d.revision ≡ false → nat_eq (depth d) MAX_SESSIONS ≡ false
    → performed (on d o) replayer (command.Session session.Start) ≡ start_as (on d o) (opens false false d)
start_is d o spent deep = ap₂ (λ a b. start_as (on d o) (opens a b d)) spent deep

module _ (c : CatalogShape) (ts t : List Table) (old : List (List Table)) (r : ℕ) (o : Option Holder) where
  abbrev open_one : HeldDatabase
  open_one = on (db c ts (t ∷ old) r) o

  undo_is : performed open_one replayer (command.Session session.Undo) ≡ end_as open_one (ends false (r - 1) (db c t old (r - 1)) open_one.database)
  undo_is = ap (λ b. end_as open_one (ends b (r - 1) (db c t old (r - 1)) open_one.database)) (not_zero (length (t ∷ old)) (omega arith))

  squash_is : performed open_one replayer (command.Session session.Squash) ≡ end_as open_one (ends false (r - 1) (db c ts old (r - 1)) open_one.database)
  squash_is = ap (λ b. end_as open_one (ends b (r - 1) (db c ts old (r - 1)) open_one.database)) (not_zero (length (t ∷ old)) (omega arith))

-- so many undos as sessions are open
pub all_undone : (k : ℕ) (c : CatalogShape) (ts : List Table) (old : List (List Table)) (r : ℕ) → length old ≡ k
    → ((undone_times k (db c ts old r)).revision ≡ r - k) × ((undone_times k (db c ts old r)).old ≡ [])
all_undone zero c ts [] r is = (omega arith, refl)
all_undone zero c ts (t ∷ old) r is = absurd (omega arith)
all_undone (suc k) c ts [] r is = absurd (omega arith)
all_undone (suc k) c ts (t ∷ old) r is = let rest = all_undone k c t old (r - 1) (omega arith) in (rest.0 ∙ (omega arith), rest.1)

-- ---- a command where sessions have ended early

module _ (x : ℕ) where
  -- it is done there, and leaves what it leaves else, with those sessions ended
  abbrev EarlyAs : HeldDatabase → Result Command Refusal → Type 0
  EarlyAs s c = ((command_answer (early x s) replayer c).1 ≡ early x (command_answer s replayer c).1) × TakenAs (early x s) c

  change_early : (d : Database) (o : Option Holder) (n : ℕ) (y : Change) → TakenAs (on d o) (Ok (command.Change n y))
      → EarlyAs (on d o) (Ok (command.Change n y))
  change_early d o n (change.Insert row before) taken = (refl, taken)
  change_early d o n y taken = (refl, taken)

  start_early : (d : Database) (o : Option Holder) → depth d ≤ MAX_SESSIONS → is_busy o replayer ≡ false → x ≤ d.revision
      → TakenAs (on d o) (Ok (command.Session session.Start)) → EarlyAs (on d o) (Ok (command.Session session.Start))
  start_early d o room free low taken =
      let tests = start_taken (on d o) (is_spent d.revision) (nat_eq (depth d) MAX_SESSIONS) taken in
      let there = start_is (cut x d) (at_most (depth (cut x d)) o) tests.0 (still_room tests.1) in
      let here = start_is d o tests.0 tests.1 in (
        ap (λ a. a.1) there ∙ ap₂ on opened held ∙ sym (ap (λ (a : Said × HeldDatabase). early x a.1) here),
        inl (ap (λ (a : Said × HeldDatabase). tells_change a.0) there),
      )
    where
      fewer : nat_eq (depth d) MAX_SESSIONS ≡ false → depth d + 1 ≤ MAX_SESSIONS
      fewer t = grind arith

      still_room : nat_eq (depth d) MAX_SESSIONS ≡ false → nat_eq (depth (cut x d)) MAX_SESSIONS ≡ false
      still_room t = let few : depth d + 1 ≤ MAX_SESSIONS = fewer t in let less : depth (cut x d) ≤ depth d = cut_depth x d in grind arith

      sessions : (d.tables ∷ take (d.revision - x) d.old) ≡ take (d.revision + 1 - x) (d.tables ∷ d.old)
      sessions = let next : suc (d.revision - x) ≡ d.revision + 1 - x = omega arith in ap (λ m. take m (d.tables ∷ d.old)) next

      opened : started (cut x d) ≡ cut x (started d)
      opened = ap (λ old. db d.catalog d.tables old (d.revision + 1)) sessions

      held : one_more replayer (at_most (depth (cut x d)) o) ≡ at_most (depth (cut x (started d))) (one_more replayer o)
      held = more_most (depth (cut x d)) replayer o free ∙ ap (λ old. at_most (length old) (one_more replayer o)) sessions

  -- the sessions that are left where the newest isn't among those that end
  newest_stays : (t : List Table) (old : List (List Table)) (r : ℕ) → suc (length old) ≤ r → x ≤ r - 1
      → take (r - x) (t ∷ old) ≡ t ∷ take (r - 1 - x) old
  newest_stays t old r numbered low = let next : r - x ≡ suc (r - 1 - x) = omega arith in ap (λ m. take m (t ∷ old)) next

  -- an undo or a squash of the newest, where the tables are these then
  module _ (c : CatalogShape) (ts t : List Table) (r : ℕ) (o : Option Holder) (y : SessionCommand) (now : List Table) where
    abbrev Ends : List (List Table) → Option Holder → Type 0
    Ends old p = performed (on (db c ts (t ∷ old) r) p) replayer (command.Session y)
        ≡ end_as (on (db c ts (t ∷ old) r) p) (ends false (r - 1) (db c now old (r - 1)) (db c ts (t ∷ old) r))

    end_early : (old : List (List Table)) → ((old : List (List Table)) (p : Option Holder) → Ends old p) → suc (length old) ≤ r
        → x ≤ (performed (on (db c ts (t ∷ old) r) o) replayer (command.Session y)).1.database.revision
        → ((performed (early x (on (db c ts (t ∷ old) r) o)) replayer (command.Session y)).1
        ≡ early x (performed (on (db c ts (t ∷ old) r) o) replayer (command.Session y)).1)
        × (tells_change (performed (early x (on (db c ts (t ∷ old) r) o)) replayer (command.Session y)).0 ≡ true)
    end_early old is numbered low =
        let here = is old o in
        let stays : x ≤ r - 1 = subst (λ (a : Said × HeldDatabase). x ≤ a.1.database.revision) here low in
        let kept = take (r - 1 - x) old in
        let cuts = newest_stays t old r numbered stays in
        let there = is kept (at_most (length (t ∷ kept)) o) in
        let moved = ap (λ sessions. performed (on (db c ts sessions r) (at_most (length sessions) o)) replayer (command.Session y)) cuts ∙ there in (
          ap (λ (a : Said × HeldDatabase). a.1) moved ∙ ap (on (db c now kept (r - 1))) (less_most (length kept) o)
              ∙ sym (ap (λ (a : Said × HeldDatabase). early x a.1) here),
          ap (λ (a : Said × HeldDatabase). tells_change a.0) moved,
        )

  undo_early : (c : CatalogShape) (ts : List Table) (old : List (List Table)) (r : ℕ) (o : Option Holder) → length old ≤ r
      → TakenAs (on (db c ts old r) o) (Ok (command.Session session.Undo))
      → x ≤ (performed (on (db c ts old r) o) replayer (command.Session session.Undo)).1.database.revision
      → EarlyAs (on (db c ts old r) o) (Ok (command.Session session.Undo))
  undo_early c ts [] r o numbered taken low = none_taken (on (db c ts [] r) o) (r - 1) (undone (db c ts [] r)) taken
  undo_early c ts (t ∷ old) r o numbered taken low =
      let is = end_early c ts t r o session.Undo t old (λ older p. undo_is c ts t older r p) (omega arith) low in (is.0, inl is.1)

  squash_early : (c : CatalogShape) (ts : List Table) (old : List (List Table)) (r : ℕ) (o : Option Holder) → length old ≤ r
      → TakenAs (on (db c ts old r) o) (Ok (command.Session session.Squash))
      → x ≤ (performed (on (db c ts old r) o) replayer (command.Session session.Squash)).1.database.revision
      → EarlyAs (on (db c ts old r) o) (Ok (command.Session session.Squash))
  squash_early c ts [] r o numbered taken low = none_taken (on (db c ts [] r) o) (r - 1) (squashed (db c ts [] r)) taken
  squash_early c ts (t ∷ old) r o numbered taken low =
      let is = end_early c ts t r o session.Squash ts old (λ older p. squash_is c ts t older r p) (omega arith) low in (is.0, inl is.1)

  commit_early : (d : Database) (o : Option Holder) (y : ℕ) → EarlyAs (on d o) (Ok (command.Session (session.Commit y)))
  commit_early d o y = (
    ap (λ e. on e (at_most (depth e) (at_most (depth (cut x d)) o))) (committed_cut y (cut x d))
        ∙ ap₂ on swapped held ∙ sym (ap (λ e. early x (on e (at_most (depth e) o))) (committed_cut y d)),
    inl refl,
  )
    where
      sessions : take (d.revision - y) (take (d.revision - x) d.old) ≡ take (d.revision - x) (take (d.revision - y) d.old)
      sessions = take_swap (d.revision - y) (d.revision - x) d.old

      swapped : cut y (cut x d) ≡ cut x (cut y d)
      swapped = ap (λ old. record d { old = old }) sessions

      held : at_most (depth (cut y (cut x d))) (at_most (depth (cut x d)) o) ≡ at_most (depth (cut x (cut y d))) (at_most (depth (cut y d)) o)
      held =
          let same : depth (cut y (cut x d)) ≡ depth (cut x (cut y d)) = ap length sessions in
          let first : depth (cut y (cut x d)) ≤ depth (cut x d) = cut_depth y (cut x d) in
          let second : depth (cut x (cut y d)) ≤ depth (cut y d) = cut_depth x (cut y d) in
          most_least (depth (cut y (cut x d))) (depth (cut x d)) (depth (cut y d)) o first (omega arith)
          ∙ ap (λ n. at_most n (at_most (depth (cut y d)) o)) same

  undo_all_early : (d : Database) (o : Option Holder) → depth d ≤ d.revision → x ≤ (undone_times (depth d) d).revision
      → EarlyAs (on d o) (Ok (command.Session session.UndoAll))
  undo_all_early d o numbered low =
      let gone = all_undone (depth d) d.catalog d.tables d.old d.revision refl in
      let number : (undone_times (depth d) d).revision ≡ d.revision - depth d = gone.0 in
      let none : depth (undone_times (depth d) d) ≡ 0 = ap length gone.1 in (
        ap (λ e. on (undone_times (depth e) e) None) (cut_none x d (omega arith))
            ∙ ap (λ e. on e None) (sym (cut_none x (undone_times (depth d) d) (omega arith))),
        inl refl,
      )

  push_early : (d : Database) (o : Option Holder) → is_busy o replayer ≡ false → EarlyAs (on d o) (Ok (command.Session session.Push))
  push_early d o free = (ap (on (cut x d)) (without_most (depth (cut x d)) replayer o free), inl refl)

  module _ (d : Database) (o : Option Holder) (is : IsReplaying (on d o)) (low : x ≤ d.revision) where
    session_early : (y : SessionCommand) → TakenAs (on d o) (Ok (command.Session y))
        → x ≤ (performed (on d o) replayer (command.Session y)).1.database.revision → EarlyAs (on d o) (Ok (command.Session y))
    session_early session.Start taken above = start_early d o is.room is.free low taken
    session_early session.Undo taken above = undo_early d.catalog d.tables d.old d.revision o is.numbered taken above
    session_early session.Squash taken above = squash_early d.catalog d.tables d.old d.revision o is.numbered taken above
    session_early (session.Commit y) taken above = commit_early d o y
    session_early session.UndoAll taken above = undo_all_early d o is.numbered above
    session_early session.Push taken above = push_early d o is.free
    session_early (session.Reserve changes sessions) taken above = (refl, taken)
    session_early session.Revision taken above = status_taken (on d o) taken

    bound_early : (c : Result Command Refusal) → TakenAs (on d o) c → x ≤ (command_answer (on d o) replayer c).1.database.revision → EarlyAs (on d o) c
    bound_early (Ok (command.Change n y)) taken above = change_early d o n y taken
    bound_early (Ok (command.NumberLookUp n y)) taken above = (refl, taken)
    bound_early (Ok (command.KeyLookUp n y)) taken above = (refl, taken)
    bound_early (Ok (command.Session y)) taken above = session_early y taken above
    bound_early (Err e) taken above = (refl, taken)

    unhindered : {A : Type 0} (busy keeps : Bool) (a b : A) → busy ≡ false → cond (keeps && busy) a b ≡ b
    unhindered busy true a b h = ap (λ t. cond t a b) h
    unhindered busy false a b h = refl

    early_free : is_busy (at_most (depth (cut x d)) o) replayer ≡ false
    early_free = most_free (depth (cut x d)) replayer o is.free

    -- nobody keeps the replayer out, here or there
    same_command : (r : Result Request Refusal) → command_of (early x (on d o)) replayer r ≡ command_of (on d o) replayer r
    same_command (Err e) = refl
    same_command (Ok r) =
        unhindered (is_busy (at_most (depth (cut x d)) o) replayer) (keeps_out r) (Err Busy) (bound_command d.catalog r) early_free
        ∙ sym (unhindered (is_busy o replayer) (keeps_out r) (Err Busy) (bound_command d.catalog r) is.free)

    abbrev LineEarly : Asked → Type 0
    LineEarly line = ((answer (early x (on d o)) replayer line).1 ≡ early x (answer (on d o) replayer line).1) × IsTaken (early x (on d o)) line

    pub line_early : (line : Asked) → IsTaken (on d o) line → x ≤ (answer (on d o) replayer line).1.database.revision → LineEarly line
    line_early too_long taken above = (refl, taken)
    line_early (text t) taken above =
        let c = command_of (on d o) replayer (command_line t) in
        subst (λ e. ((command_answer (early x (on d o)) replayer e).1 ≡ early x (command_answer (on d o) replayer c).1) × TakenAs (early x (on d o)) e)
        (sym (same_command (command_line t))) (bound_early c taken above)
