-- What an answer leaves depends on who asks in one way alone: another's sessions keep changes and session commands out.
-- Cited by `laws::changed_lines_go_in`, `laws::runs_have_journals`, `FrontLemmas`, `ReplayLemmas`, `mi_checkpoint` and `mi_durable`.
use Rattle.std.proofs.Common.{◌≡◌, ◌≢◌, ℕ, ◌+◌, ◌-◌, ◌≤◌, min, List, [], ◌∷◌, Bool, true, false, cond, not, ◌&&◌, nat_eq, nat_le, length}
use Rattle.std.proofs.Common.{Option, Some, None, Result, Ok, Err, refl, sym, ap, ◌∙◌, subst, arith, inl, inr, true≢false}
use Rattle.std.proofs.Math.Nat.{le_trans}
use Rattle.mi_value.specs.declared.refusal.Refusal.{Refusal}
use Rattle.mi_value.specs.declared.refusal.Refusal.TheVariants.{Busy, Spent, Depth}
use Rattle.mi_value.specs.declared.refusal.NoSession.{NoSession}
use Rattle.mi_value.specs.declared.limits.TheConstants.{MAX_SESSIONS}
use Rattle.mi_catalog.specs.Shape.{schema_at, CatalogShape}
use Rattle.mi_model.specs.Table.{Table}
use Rattle.mi_model.specs.Verdict.{is_spent}
use Rattle.mi_model.specs.Database.{Database, schema_of, table_of, depth, started, undone, squashed, committed, start_step, undo_step, squash_step}
use Rattle.mi_request.specs.Lines.{command_line}
use Rattle.mi_request.specs.Commands.{keeps_out}
use Rattle.mi_request.specs.declared.request.Request.{Request}
use Rattle.mi_request.specs.declared.request.Request.TheVariants as request
use Rattle.mi_request.specs.declared.request.SessionCommand.TheVariants as session
use Rattle.mi_replay.proofs.UndoLemmas.{undo_means}
use Rattle.mi_protocol.specs.Binding.{and_then, table_number, bound_number_look_up, bound_key_look_up, bound_command}
use Rattle.mi_protocol.specs.Replies.{Said}
use Rattle.mi_protocol.specs.declared.changes.Change.{Change}
use Rattle.mi_protocol.specs.declared.changes.Change.TheVariants as change
use Rattle.mi_protocol.specs.declared.command.Command.{Command}
use Rattle.mi_protocol.specs.declared.command.Command.TheVariants as command
use Rattle.mi_commands.specs.Asked.{Asked, text, too_long}
use Rattle.mi_commands.specs.Answer.{answer, command_answer, command_of, command_changes, line_changes, MayGive}
use Rattle.mi_commands.proofs.ToldLemmas.{number_quiet, key_quiet, line_keeps, answer_keeps}
use Rattle.mi_commands.specs.Holder.{HeldDatabase, is_busy, one_more, one_less, at_most, held_count, held_by, without_holder}
use Rattle.mi_commands.specs.Performed.{performed, changed, holder_after, or_session, effect, moved}
use Rattle.mi_commands.specs.Performed.{Move, stays, one_up, one_down, down_to, to_nobody, lets_go, if_accepted}
use Rattle.mi_commands.specs.declared.holder.Holder.{Holder}
use Rattle.mi_replay.specs.Journal.{undo_line}
use Rattle.mi_replay.specs.Replayed.{replayer}
use Rattle.mi_replay.specs.ReplayLaws.{ChangedLinesGoIn}

-- ---- what keeps out, and what doesn't

-- a command that is no change
abbrev pub IsQuiet : HeldDatabase → ℕ → Result Command Refusal → Type 0
IsQuiet s conn c = command_changes s conn c ≡ false

module _ (s : HeldDatabase) (conn : ℕ) where
  quiet_then : {A : Type 0} (f : A → Result Command Refusal) (x : Result A Refusal) → ((v : A) → IsQuiet s conn (f v)) → IsQuiet s conn (and_then f x)
  quiet_then f (Ok v) h = h v
  quiet_then f (Err e) h = refl

  -- what isn't kept out is a look-up
  look_up_quiet : (c : CatalogShape) (r : Request) → keeps_out r ≡ false → IsQuiet s conn (bound_command c r)
  look_up_quiet c (request.NumberLookUp table r) h =
      quiet_then _ (table_number c table) (λ n. quiet_then _ (bound_number_look_up (schema_at c n) r)
      (λ x. number_quiet n (schema_of s.database n) (table_of s.database n) x))
  look_up_quiet c (request.KeyLookUp table r) h =
      quiet_then _ (table_number c table) (λ n. quiet_then _ (bound_key_look_up (schema_at c n) r)
      (λ x. key_quiet n (schema_of s.database n) (table_of s.database n) x))
  look_up_quiet c (request.Session session.Revision) h = refl
  look_up_quiet c r h = absurd (cc)

  kept_out : (busy keeps : Bool) (c : Result Command Refusal) → busy ≡ true → (keeps ≡ false → IsQuiet s conn c)
      → IsQuiet s conn (cond (keeps && busy) (Err Busy) c)
  kept_out true true c b h = refl
  kept_out true false c b h = h refl
  kept_out false keeps c b h = absurd (cc)

  request_quiet : is_busy s.holder conn ≡ true → (r : Result Request Refusal) → IsQuiet s conn (command_of s conn r)
  request_quiet b (Ok r) = kept_out (is_busy s.holder conn) (keeps_out r) (bound_command s.database.catalog r) b (look_up_quiet s.database.catalog r)
  request_quiet b (Err e) = refl

  -- a connection that another's sessions keep out makes no change
  busy_quiet : is_busy s.holder conn ≡ true → (line : Asked) → line_changes s conn line ≡ false
  busy_quiet b (text t) = request_quiet b (command_line t)
  busy_quiet b too_long = refl

  pub busy_keeps : is_busy s.holder conn ≡ true → (line : Asked) → (answer s conn line).1 ≡ s
  busy_keeps b line = line_keeps s conn line (busy_quiet b line)

  -- so one that makes a change isn't kept out
  pub change_free : (line : Asked) → line_changes s conn line ≡ true → is_busy s.holder conn ≡ false
  change_free line changes = by_busy (is_busy s.holder conn) refl
    where
      by_busy : (b : Bool) → is_busy s.holder conn ≡ b → is_busy s.holder conn ≡ false
      by_busy true is = absurd (true≢false (sym changes ∙ busy_quiet is line))
      by_busy false is = is

-- what is said to be a change is put in, and nothing else
pub changed_lines_go_in : ChangedLinesGoIn
changed_lines_go_in conn line reply true old new (inl p) = inr (refl, change_free old conn line (sym p.1), p.0.1)
changed_lines_go_in conn line reply true old new (inr p) = absurd (true≢false p.2)
changed_lines_go_in conn line reply false old new p = inl (refl, answer_keeps conn old new line reply false p refl)

-- so a line that changes anything was not kept out, and not refused for memory
pub change_kept : (conn : ℕ) (line : Asked) (reply : List ℕ) (old new : HeldDatabase) → MayGive conn old line reply new → new ≢ old
    → (is_busy old.holder conn ≡ false) × (new ≡ (answer old conn line).1)
change_kept conn line reply old new (inr p) differs = absurd (differs p.1.1)
change_kept conn line reply old new (inl p) differs = by_busy (is_busy old.holder conn) refl
  where
    by_busy : (b : Bool) → is_busy old.holder conn ≡ b → (is_busy old.holder conn ≡ false) × (new ≡ (answer old conn line).1)
    by_busy true is = absurd (differs (p.1 ∙ busy_keeps old conn is line))
    by_busy false is = (is, p.1)

-- ---- the moves of the holder count

-- nobody else holds sessions
abbrev IsFree : ℕ → Option Holder → Type 0
IsFree conn o = is_busy o conn ≡ false

pub same_conn : (a b : ℕ) → not (nat_eq a b) ≡ false → nat_eq a b ≡ true
same_conn a b h = by_test (nat_eq a b) h
  where
    by_test : (t : Bool) → not t ≡ false → t ≡ true
    by_test true k = refl
    by_test false k = absurd (cc)

pub other_conn : (a b : ℕ) → not (nat_eq a b) ≡ true → nat_eq a b ≡ false
other_conn a b h = by_test (nat_eq a b) h
  where
    by_test : (t : Bool) → not t ≡ true → t ≡ false
    by_test false k = refl
    by_test true k = absurd (cc)

pub held_by_holder : (conn : ℕ) (o : Option Holder) → IsFree conn o → held_by conn o ≡ held_count o
held_by_holder conn None free = refl
held_by_holder conn (Some h) free = ap (λ b. cond b h.held 0) (same_conn h.conn conn free)

pub held_by_other : (conn : ℕ) (o : Option Holder) → is_busy o conn ≡ true → held_by conn o ≡ 0
held_by_other conn None busy = refl
held_by_other conn (Some h) busy = ap (λ b. cond b h.held 0) (other_conn h.conn conn busy)

pub without_free : (conn : ℕ) (o : Option Holder) → IsFree conn o → without_holder conn o ≡ None
without_free conn None free = refl
without_free conn (Some h) free = ap (λ b. cond b None (Some h)) (same_conn h.conn conn free)

pub without_busy : (conn : ℕ) (o : Option Holder) → is_busy o conn ≡ true → without_holder conn o ≡ o
without_busy conn None busy = refl
without_busy conn (Some h) busy = ap (λ b. cond b None (Some h)) (other_conn h.conn conn busy)

more_count : (conn : ℕ) (o : Option Holder) → held_count (one_more conn o) ≡ held_count o + 1
more_count conn None = refl
more_count conn (Some h) = refl

pub less_count : (o : Option Holder) → held_count (one_less o) ≡ held_count o - 1
less_count None = refl
less_count (Some h) = by_test (nat_le h.held 1) refl
  where
    none_left : nat_le h.held 1 ≡ true → 0 ≡ h.held - 1
    none_left k = grind arith

    by_test : (b : Bool) → nat_le h.held 1 ≡ b → held_count (cond b None (Some (record { conn = h.conn; held = h.held - 1 }))) ≡ h.held - 1
    by_test true k = none_left k
    by_test false k = refl

most_count : (n : ℕ) (o : Option Holder) → held_count (at_most n o) ≡ min (held_count o) n
most_count n None = omega arith
most_count n (Some h) = by_test (nat_eq n 0) refl
  where
    none_left : nat_eq n 0 ≡ true → 0 ≡ min h.held n
    none_left k = grind arith

    by_test : (b : Bool) → nat_eq n 0 ≡ b → held_count (cond b None (Some (record { conn = h.conn; held = min h.held n }))) ≡ min h.held n
    by_test true k = none_left k
    by_test false k = refl

without_count : (conn : ℕ) (o : Option Holder) → held_count (without_holder conn o) ≤ held_count o
without_count conn None = omega arith
without_count conn (Some h) = by_test (nat_eq h.conn conn)
  where
    by_test : (b : Bool) → held_count (cond b None (Some h)) ≤ h.held
    by_test true = omega arith
    by_test false = omega arith

either_free : (conn : ℕ) (b : Bool) (o p : Option Holder) → IsFree conn o → IsFree conn p → IsFree conn (cond b o p)
either_free conn true o p h k = h
either_free conn false o p h k = k

more_free : (conn : ℕ) (o : Option Holder) → not (nat_eq conn conn) ≡ false → IsFree conn o → IsFree conn (one_more conn o)
more_free conn None self h = self
more_free conn (Some x) self h = h

pub less_free : (conn : ℕ) (o : Option Holder) → IsFree conn o → IsFree conn (one_less o)
less_free conn None h = refl
less_free conn (Some x) h = either_free conn (nat_le x.held 1) None (Some (record { conn = x.conn; held = x.held - 1 })) refl h

most_free : (conn n : ℕ) (o : Option Holder) → IsFree conn o → IsFree conn (at_most n o)
most_free conn n None h = refl
most_free conn n (Some x) h = either_free conn (nat_eq n 0) None (Some (record { conn = x.conn; held = min x.held n })) refl h

after_free : (conn : ℕ) (answer : Result ℕ Refusal) (move : Option Holder → Option Holder) (o : Option Holder)
    → IsFree conn (move o) → IsFree conn o → IsFree conn (holder_after answer move o)
after_free conn (Ok n) move o h k = h
after_free conn (Err e) move o h k = k

after_count : (answer : Result ℕ Refusal) (f g : Option Holder → Option Holder) (o p : Option Holder) → held_count (f o) ≡ held_count (g p)
    → held_count o ≡ held_count p → held_count (holder_after answer f o) ≡ held_count (holder_after answer g p)
after_count (Ok n) f g o p h k = h
after_count (Err e) f g o p h k = k

-- ---- two that are the same, asked by connections that nobody keeps out

-- t is as s, held by nobody or by the replayer, and no more sessions are held than are open
pub record Twin (s t : HeldDatabase) : Type 0 where
  pub database : t.database ≡ s.database
  pub count : held_count t.holder ≡ held_count s.holder
  pub free : is_busy t.holder replayer ≡ false
  pub fits : held_count t.holder ≤ depth t.database

abbrev pub on : Database → Option Holder → HeldDatabase
on d o = record { database = d; holder = o }

module _ (d : Database) (o p : Option Holder) (conn : ℕ) (free : is_busy o conn ≡ false)
    (same : held_count p ≡ held_count o) (mine : is_busy p replayer ≡ false) where
  -- what two answers leave is the same
  abbrev AreAlike : Said × HeldDatabase → Said × HeldDatabase → Type 0
  AreAlike a b = (b.1.database ≡ a.1.database) × (held_count b.1.holder ≡ held_count a.1.holder) × (is_busy b.1.holder replayer ≡ false)

  count_alike : (m : Move) → held_count (moved replayer m p) ≡ held_count (moved conn m o)
  count_alike stays = same
  count_alike one_up = more_count replayer p ∙ ap (λ n. n + 1) same ∙ sym (more_count conn o)
  count_alike one_down = less_count p ∙ ap (λ n. n - 1) same ∙ sym (less_count o)
  count_alike (down_to n) = most_count n p ∙ ap (λ k. min k n) same ∙ sym (most_count n o)
  count_alike to_nobody = refl
  count_alike lets_go = ap held_count (without_free replayer p mine) ∙ sym (ap held_count (without_free conn o free))
  count_alike (if_accepted answer m) = after_count answer (moved replayer m) (moved conn m) p o (count_alike m) same

  stays_free : (m : Move) → is_busy (moved replayer m p) replayer ≡ false
  stays_free stays = mine
  stays_free one_up = more_free replayer p refl mine
  stays_free one_down = less_free replayer p mine
  stays_free (down_to n) = most_free replayer n p mine
  stays_free to_nobody = refl
  stays_free lets_go = ap (λ h. is_busy h replayer) (without_free replayer p mine)
  stays_free (if_accepted answer m) = after_free replayer answer (moved replayer m) p (stays_free m) mine

  command_alike : (c : Command) → AreAlike (performed (on d o) conn c) (performed (on d p) replayer c)
  command_alike c = (refl, count_alike (effect d c).move, stays_free (effect d c).move)

  bound_alike : (c : Result Command Refusal) → AreAlike (command_answer (on d o) conn c) (command_answer (on d p) replayer c)
  bound_alike (Ok c) = command_alike c
  bound_alike (Err e) = (refl, same, mine)

  unhindered : {A : Type 0} (busy keeps : Bool) (x y : A) → busy ≡ false → cond (keeps && busy) x y ≡ y
  unhindered busy true x y h = ap (λ b. cond b x y) h
  unhindered busy false x y h = refl

  request_alike : (r : Result Request Refusal)
      → AreAlike (command_answer (on d o) conn (command_of (on d o) conn r)) (command_answer (on d p) replayer (command_of (on d p) replayer r))
  request_alike (Err e) = (refl, same, mine)
  request_alike (Ok r) =
      let bound = bound_command d.catalog r in
      subst (λ x. AreAlike (command_answer (on d o) conn x) (command_answer (on d p) replayer (command_of (on d p) replayer (Ok r))))
      (sym (unhindered (is_busy o conn) (keeps_out r) (Err Busy) bound free))
      (subst (λ x. AreAlike (command_answer (on d o) conn bound) (command_answer (on d p) replayer x))
      (sym (unhindered (is_busy p replayer) (keeps_out r) (Err Busy) bound mine)) (bound_alike bound))

  line_alike : (line : Asked) → AreAlike (answer (on d o) conn line) (answer (on d p) replayer line)
  line_alike (text t) = request_alike (command_line t)
  line_alike too_long = (refl, same, mine)

-- ---- no more sessions are held than are open

abbrev Fits : HeldDatabase → Type 0
Fits s = held_count s.holder ≤ depth s.database

either_fits : {A : Type 0} (b : Bool) (x y : A × Database) (move : A → Option Holder)
    → held_count (move x.0) ≤ depth x.1 → held_count (move y.0) ≤ depth y.1 → held_count (move (cond b x y).0) ≤ depth (cond b x y).1
either_fits true x y move h k = h
either_fits false x y move h k = k

undone_depth : (c : CatalogShape) (ts : List Table) (old : List (List Table)) (r : ℕ)
    → depth (undone (record { catalog = c; tables = ts; old = old; revision = r })) ≡ length old - 1
undone_depth c ts [] r = refl
undone_depth c ts (o ∷ old) r = omega arith

squashed_depth : (c : CatalogShape) (ts : List Table) (old : List (List Table)) (r : ℕ)
    → depth (squashed (record { catalog = c; tables = ts; old = old; revision = r })) ≡ length old - 1
squashed_depth c ts [] r = refl
squashed_depth c ts (o ∷ old) r = omega arith

pub depth_undone : (d : Database) → depth (undone d) ≡ depth d - 1
depth_undone d = undone_depth d.catalog d.tables d.old d.revision

module _ (d : Database) (o : Option Holder) (fits : held_count o ≤ depth d) (conn : ℕ) where
  start_fits : held_count (holder_after (start_step d).0 (one_more conn) o) ≤ depth (start_step d).1
  start_fits =
      either_fits (is_spent d.revision) (Err Spent, d) (cond (nat_eq (depth d) MAX_SESSIONS) (Err Depth, d) (Ok (d.revision + 1), started d))
      (λ a. holder_after a (one_more conn) o) fits
      (either_fits (nat_eq (depth d) MAX_SESSIONS) (Err Depth, d) (Ok (d.revision + 1), started d) (λ a. holder_after a (one_more conn) o) fits
      (let count : held_count (one_more conn o) ≡ held_count o + 1 = more_count conn o in omega arith))

  undo_fits : held_count (holder_after (or_session (undo_step d).0) one_less o) ≤ depth (undo_step d).1
  undo_fits =
      either_fits (nat_eq (depth d) 0) (Err (record {}), d) (Ok (d.revision - 1), undone d) (λ a. holder_after (or_session a) one_less o) fits
      (let count : held_count (one_less o) ≡ held_count o - 1 = less_count o in
      let open_then : depth (undone d) ≡ depth d - 1 = depth_undone d in omega arith)

  squash_fits : held_count (holder_after (or_session (squash_step d).0) one_less o) ≤ depth (squash_step d).1
  squash_fits =
      either_fits (nat_eq (depth d) 0) (Err (record {}), d) (Ok (d.revision - 1), squashed d) (λ a. holder_after (or_session a) one_less o) fits
      (let count : held_count (one_less o) ≡ held_count o - 1 = less_count o in
      let open_then : depth (squashed d) ≡ depth d - 1 = squashed_depth d.catalog d.tables d.old d.revision in omega arith)

  -- no move but that of a start makes more of what is held
  abbrev is_up : Move → Bool
  is_up one_up = true
  is_up (if_accepted answer m) = is_up m
  is_up m = false

  no_more : (m : Move) → is_up m ≡ false → held_count (moved conn m o) ≤ held_count o
  no_more stays h = omega arith
  no_more one_up h = absurd (cc)
  no_more one_down h = let count : held_count (one_less o) ≡ held_count o - 1 = less_count o in omega arith
  no_more (down_to n) h = let count : held_count (at_most n o) ≡ min (held_count o) n = most_count n o in omega arith
  no_more to_nobody h = omega arith
  no_more lets_go h = without_count conn o
  no_more (if_accepted (Ok n) m) h = no_more m h
  no_more (if_accepted (Err e) m) h = omega arith

  -- a change leaves the sessions as they are
  change_depth : (n : ℕ) (x : Change) → depth (changed d n x).1 ≡ depth d
  change_depth n (change.Insert row before) = refl
  change_depth n x = refl

  command_fits : (c : Command) → Fits (performed (on d o) conn c).1
  command_fits (command.Change n x) = subst (λ k. held_count o ≤ k) (sym (change_depth n x)) fits
  command_fits (command.Session session.Start) = start_fits
  command_fits (command.Session session.Undo) = undo_fits
  command_fits (command.Session session.Squash) = squash_fits
  command_fits (command.Session (session.Commit revision)) =
      let n : ℕ = depth (committed revision d) in
      let count : held_count (at_most n o) ≡ min (held_count o) n = most_count n o in omega arith
  command_fits (command.Session session.UndoAll) = omega arith
  command_fits c = le_trans (no_more (effect d c).move refl) fits

  bound_fits : (c : Result Command Refusal) → Fits (command_answer (on d o) conn c).1
  bound_fits (Ok c) = command_fits c
  bound_fits (Err e) = fits

  line_fits : (line : Asked) → Fits (answer (on d o) conn line).1
  line_fits (text t) = bound_fits (command_of (on d o) conn (command_line t))
  line_fits too_long = fits

-- a line that nobody keeps out leaves them the same
pub twin_line : (s t : HeldDatabase) (conn : ℕ) (line : Asked) → Twin s t → is_busy s.holder conn ≡ false
    → Twin (answer s conn line).1 (answer t replayer line).1
twin_line s t conn line twin free =
    let alike = subst (λ d. AreAlike s.database s.holder t.holder conn free twin.count twin.free
    (answer s conn line) (answer (on d t.holder) replayer line)) (sym twin.database)
    (line_alike s.database s.holder t.holder conn free twin.count twin.free line) in record {
      database = alike.0;
      count = alike.1;
      free = alike.2;
      fits = line_fits t.database t.holder twin.fits replayer line;
    }

-- ---- undos

module _ (d : Database) (o : Option Holder) (free : is_busy o replayer ≡ false) (fits : held_count o ≤ depth d) (some : 1 ≤ held_count o) where
  some_open : nat_eq (depth d) 0 ≡ false
  some_open = grind arith

  pub undo_left : (answer (on d o) replayer undo_line).1 ≡ on (undone d) (one_less o)
  undo_left =
      ap (λ r. (command_answer (on d o) replayer (command_of (on d o) replayer r)).1) undo_means
      ∙ ap (λ b. (command_answer (on d o) replayer (cond b (Err Busy) (Ok (command.Session session.Undo)))).1) free
      ∙ ap {A = Result ℕ NoSession × Database} (λ a. on a.1 (holder_after (or_session a.0) one_less o))
      (ap (λ b. cond b (Err (record {}), d) (Ok (d.revision - 1), undone d)) some_open)
