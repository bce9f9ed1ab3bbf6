-- Where all sessions that are open at the end are undone, what is left is the base at the checkpoint.
-- Cited by `front::undo_open`, `ClosedLemmas` and `FrontLemmas`.
use Rattle.std.proofs.Common.{◌≡◌, ℕ, zero, suc, ◌+◌, ◌-◌, ◌<◌, ◌≤◌, ◌⊎◌, Bool, true, false, cond, not, ◌&&◌, nat_lt, nat_eq, List, [], ◌∷◌, ◌++◌, length, take, drop, get_or}
use Rattle.std.proofs.Common.{Option, Result, Ok, Err, refl, sym, ap, ap₂, ◌∙◌, subst, inl, inr, arith, codes}
use Rattle.std.proofs.lemmas.List.{take_all}
use Rattle.mi_value.specs.declared.refusal.Refusal.{Refusal}
use Rattle.mi_value.specs.declared.refusal.Refusal.TheVariants.{Spent, Depth, Busy}
use Rattle.mi_value.specs.declared.refusal.NoSession.{NoSession}
use Rattle.mi_value.specs.declared.limits.TheConstants.{MAX_SESSIONS}
use Rattle.mi_model.specs.Verdict.{is_spent}
use Rattle.mi_model.specs.Database.{Database, depth, started, undone, undone_times, squashed, committed}
use Rattle.mi_request.specs.Lines.{command_line}
use Rattle.mi_request.proofs.ShortLemmas.{short_means}
use Rattle.mi_request.specs.declared.request.Request.TheVariants as request
use Rattle.mi_request.specs.declared.request.SessionCommand.{SessionCommand}
use Rattle.mi_request.specs.declared.request.SessionCommand.TheVariants as session
use Rattle.mi_protocol.specs.declared.changes.Change.{Change}
use Rattle.mi_protocol.specs.declared.changes.Change.TheVariants as change
use Rattle.mi_protocol.specs.declared.command.Command.{Command}
use Rattle.mi_protocol.specs.declared.command.Command.TheVariants as command
use Rattle.mi_commands.specs.Asked.{Asked, text, too_long}
use Rattle.mi_commands.specs.Answer.{command_answer, command_of, answer}
use Rattle.mi_commands.specs.Holder.{HeldDatabase, is_busy, at_most}
use Rattle.mi_commands.specs.declared.holder.Holder.{Holder}
use Rattle.mi_commands.specs.Performed.{changed, effect, session_effect}
use Rattle.mi_hub.specs.Ended.{ended}
use Rattle.mi_hub.specs.Lines.{lines_of}
use Rattle.mi_hub.specs.OneLine.{IsWholeLine}
use Rattle.mi_hub.proofs.OneLineLemmas.{whole_line}
use Rattle.mi_replay.specs.Replayed.{replayer, replayed, unheld, IsSame}
use Rattle.mi_checkpoint.specs.Settled.{based, settled, AreTaken, StaysAbove, IsReplaying}
use Rattle.mi_checkpoint.specs.OpenStarts.{Starts, IsCheckpoint, IsLastUpTo, IsTold, MovesOn, Knows, BaseReplays, base_at, revisions}
use Rattle.mi_checkpoint.proofs.HolderLemmas.{most_none}
use Rattle.mi_checkpoint.proofs.SettledLemmas.{cut, settled_early}
use Rattle.mi_checkpoint.proofs.RunLemmas.{line_keeps_replaying, lines_keep_replaying, settles_early, opened_is_replaying}
use Rattle.mi_checkpoint.proofs.StepLemmas.{line_steps}
use Rattle.mi_checkpoint.proofs.ToldLemmas.{checkpoint, base_replays}
use Rattle.mi_front.specs.Front.{undo_all_line}
use Rattle.mi_front.proofs.StandingLemmas.{db, Stands, Still, either_way, other_tables, started_stands, undone_stands, squashed_stands, committed_stands, all_undone_stands, start_stands}

-- the same with a holder
abbrev on : Database → Option Holder → HeldDatabase
on d o = record { database = d; holder = o }

-- ---- a line

module _ (base d : Database) (is : Stands base d) where
  -- a step leaves the base standing, where the revision stays above the base's
  abbrev Goes : Database → Type 0
  Goes e = suc base.revision ≤ e.revision → Still base e

  same_goes : Goes d
  same_goes high = inl is

  tables_go : (e : Database) → e ≡ record d { tables = e.tables } → Goes e
  tables_go e same high =
      subst (Still base) (sym same) (other_tables base d.catalog d.tables e.tables d.old d.revision is
      (subst (λ (x : Database). suc base.revision ≤ x.revision) same high))

  change_goes : (n : ℕ) (y : Change) → Goes (changed d n y).1
  change_goes n (change.Insert row before) = tables_go (changed d n (change.Insert row before)).1 refl
  change_goes n (change.Replace id row) = tables_go (changed d n (change.Replace id row)).1 refl
  change_goes n (change.Modify id edits rollback) = tables_go (changed d n (change.Modify id edits rollback)).1 refl
  change_goes n (change.Erase id) = tables_go (changed d n (change.Erase id)).1 refl
  change_goes n (change.EraseKey x key) = tables_go (changed d n (change.EraseKey x key)).1 refl
  change_goes n (change.Relocate x id before) = tables_go (changed d n (change.Relocate x id before)).1 refl

  start_goes : (spent deep : Bool)
      → Goes (cond {A = Result ℕ Refusal × Database} spent (Err Spent, d) (cond deep (Err Depth, d) (Ok (d.revision + 1), started d))).1
  start_goes true deep = same_goes
  start_goes false true = same_goes
  start_goes false false = λ high. started_stands base d is

  -- an undo or a squash, by whether no session is open
  end_goes : (none : Bool) (number : ℕ) (e : Database) → Goes e → Goes (cond {A = Result ℕ NoSession × Database} none (Err (record {}), d) (Ok number, e)).1
  end_goes true number e goes = same_goes
  end_goes false number e goes = goes

  session_goes : (y : SessionCommand) → Goes (session_effect d y).left
  session_goes session.Start = start_goes (is_spent d.revision) (nat_eq (depth d) MAX_SESSIONS)
  session_goes session.Undo =
      end_goes (nat_eq (depth d) 0) (d.revision - 1) (undone d) (λ high. undone_stands base d.catalog d.tables d.old d.revision is)
  session_goes session.Squash =
      end_goes (nat_eq (depth d) 0) (d.revision - 1) (squashed d) (λ high. squashed_stands base d.catalog d.tables d.old d.revision is high)
  session_goes (session.Commit x) = λ high. committed_stands base x d is high
  session_goes session.UndoAll = all_undone_stands base d is
  session_goes y = same_goes

  command_goes : (y : Command) → Goes (effect d y).left
  command_goes (command.Change n y) = change_goes n y
  command_goes (command.NumberLookUp n y) = same_goes
  command_goes (command.KeyLookUp n y) = same_goes
  command_goes (command.Session y) = session_goes y

module _ (base : Database) (s : HeldDatabase) (is : Stands base s.database) where
  bound_goes : (c : Result Command Refusal) → Goes base s.database is (command_answer s replayer c).1.database
  bound_goes (Ok y) = command_goes base s.database is y
  bound_goes (Err e) = same_goes base s.database is

  line_goes : (line : Asked) → Goes base s.database is (answer s replayer line).1.database
  line_goes (text t) = bound_goes (command_of s replayer (command_line t))
  line_goes too_long = same_goes base s.database is

-- ---- lines

ended_then : (x k r left now : ℕ) → MovesOn k r left now → x + k ≤ r → x + left ≤ now
ended_then x k r left now (inl p) ended = let more = p.0 in let next = p.1 in omega arith
ended_then x k r left now (inr p) ended = let low = p.0 in let few = p.1 in omega arith

line_stands : (base : Database) (s : HeldDatabase) (line : Asked) → IsReplaying s → Still base s.database
    → suc base.revision ≤ (answer s replayer line).1.database.revision → Still base (answer s replayer line).1.database
line_stands base s line is (inl stands) high = line_goes base s stands line high
line_stands base s line is (inr ended) high =
    inr (ended_then (suc base.revision) (depth s.database) s.database.revision _ _ (line_steps s is.numbered is.room line).moves ended)

lines_stand : (base : Database) (lines : List Asked) (s : HeldDatabase) → IsReplaying s → Still base s.database → StaysAbove (suc base.revision) lines s
    → Still base (replayed lines s).database
lines_stand base [] s is still high = still
lines_stand base (line ∷ lines) s is still high =
    lines_stand base lines (answer s replayer line).1 (line_keeps_replaying s line is) (line_stands base s line is still high.0) high.1

-- the revisions are the same with sessions ended early
above_early : (x y : ℕ) (lines : List Asked) (s : HeldDatabase) → IsReplaying s → x ≤ s.database.revision → AreTaken lines s → StaysAbove x lines s
    → StaysAbove y lines s → StaysAbove y lines (settled x s)
above_early x y [] s is low taken above high = tt
above_early x y (line ∷ lines) s is low taken above high =
    let step = settles_early x s (line ∷ []) is low (taken.0, tt) (above.0, tt) in
    let rest = above_early x y lines (answer s replayer line).1 (line_keeps_replaying s line is) above.0 taken.1 above.1 high.1 in (
      subst (λ (t : HeldDatabase). y ≤ t.database.revision) (sym step.0) high.0,
      subst (StaysAbove y lines) (sym step.0) rest,
    )

-- ---- where the checkpoint is

revisions_first : (lines : List Asked) (s : HeldDatabase) → get_or (revisions lines s) 0 0 ≡ s.database.revision
revisions_first [] s = refl
revisions_first (line ∷ lines) s = refl

-- the revision behind so many lines
revisions_at : (n : ℕ) (lines : List Asked) (s : HeldDatabase) → n < length (revisions lines s)
    → get_or (revisions lines s) n 0 ≡ (replayed (take n lines) s).database.revision
revisions_at zero lines s within = revisions_first lines s
revisions_at (suc n) [] s within = absurd (omega (arith, within))
revisions_at (suc n) (line ∷ lines) s within = revisions_at n lines (answer s replayer line).1 (omega (arith, within))

revisions_length : (lines : List Asked) (s : HeldDatabase) → length (revisions lines s) ≡ length lines + 1
revisions_length [] s = refl
revisions_length (line ∷ lines) s = let rest : length (revisions lines (answer s replayer line).1) ≡ length lines + 1 = revisions_length lines _ in omega arith

-- behind the last place with a revision up to b it is above b
all_above : (b : ℕ) (lines : List Asked) (s : HeldDatabase) → ((m : ℕ) → 0 < m → m < length (revisions lines s) → b < get_or (revisions lines s) m 0)
    → StaysAbove (suc b) lines s
all_above b [] s above = tt
all_above b (line ∷ lines) s above =
    let long = revisions_length lines (answer s replayer line).1 in
    let first : b < get_or (revisions lines (answer s replayer line).1) 0 0 = above 1 (omega arith) (omega (arith, long)) in
    let at = revisions_first lines (answer s replayer line).1 in (
      omega (arith, first, at),
      all_above b lines (answer s replayer line).1 (λ m some within. above (suc m) (omega arith) (omega (arith, within))),
    )

later_above : (n b : ℕ) (lines : List Asked) (s : HeldDatabase) → n < length (revisions lines s)
    → ((m : ℕ) → n < m → m < length (revisions lines s) → b < get_or (revisions lines s) m 0) → StaysAbove (suc b) (drop n lines) (replayed (take n lines) s)
later_above zero b lines s within above = all_above b lines s above
later_above (suc n) b [] s within above = tt
later_above (suc n) b (line ∷ lines) s within above =
    later_above n b lines (answer s replayer line).1 (omega (arith, within)) (λ m after inside. above (suc m) (omega (arith, after)) (omega (arith, inside)))

-- what is told of the revision is the last one
told_revision : (s : HeldDatabase) (lines : List Asked) (o : Starts) → IsTold s lines o → o.revision ≡ (replayed lines s).database.revision
told_revision s lines o told =
    let long = revisions_length lines s in
    let count : length (revisions lines s) ≡ o.lines + 1 = told.count in
    let all : o.lines ≡ length lines = omega arith in
    sym told.newest ∙ revisions_at o.lines lines s (omega arith) ∙ ap (λ n. (replayed (take n lines) s).database.revision) all
    ∙ ap (λ ls. (replayed ls s).database.revision) (take_all (length lines) lines (omega arith))

-- a base stands behind no more and no fewer lines than at another place where it may stand
same_place : (s : HeldDatabase) (lines : List Asked) (n m : ℕ) → IsCheckpoint s lines n → IsCheckpoint s lines m → n ≡ m
same_place s lines n m p q = by_tests (nat_lt n m) (nat_lt m n) refl refl
  where
    less : (a b : ℕ) → nat_lt a b ≡ true → a < b
    less a b t = grind arith

    neither : nat_lt n m ≡ false → nat_lt m n ≡ false → n ≡ m
    neither t u = grind arith

    by_tests : (a b : Bool) → nat_lt n m ≡ a → nat_lt m n ≡ b → n ≡ m
    by_tests true b t u = absurd (p.latest m (less n m t) q.within q.stands)
    by_tests false true t u = absurd (q.latest n (less m n u) p.within p.stands)
    by_tests false false t u = neither t u

-- the last place with a revision below the number of the oldest open session
abbrev IsOldest : HeldDatabase → List Asked → Starts → ℕ → Type 0
IsOldest s lines o n = IsLastUpTo (revisions lines s) (o.revision - depth (replayed lines s).database) n

some_place : (s : HeldDatabase) (lines : List Asked) (o : Starts) → IsTold s lines o → (n : ℕ) × IsOldest s lines o n
some_place s lines o told = by_depth (nat_eq (depth (replayed lines s).database) 0) refl
  where
    none_open : nat_eq (depth (replayed lines s).database) 0 ≡ true → depth (replayed lines s).database ≡ 0
    none_open t = grind arith

    some_open : nat_eq (depth (replayed lines s).database) 0 ≡ false → 0 < depth (replayed lines s).database
    some_open t = grind arith

    at_end : depth (replayed lines s).database ≡ 0 → IsOldest s lines o o.lines
    at_end none =
        let count : length (revisions lines s) ≡ o.lines + 1 = told.count in
        let newest : get_or (revisions lines s) o.lines 0 ≡ o.revision = told.newest in
        record { within = omega arith; up_to = omega arith; above = λ m after within. absurd (omega arith) }

    by_depth : (b : Bool) → nat_eq (depth (replayed lines s).database) 0 ≡ b → (n : ℕ) × IsOldest s lines o n
    by_depth true t = (o.lines, at_end (none_open t))
    by_depth false t =
        let number : o.revision - depth (replayed lines s).database + 0 ≡ o.revision - depth (replayed lines s).database = omega arith in
        (get_or o.places 0 0, subst (λ b. IsLastUpTo (revisions lines s) b (get_or o.places 0 0)) number (told.began 0 (some_open t)))

checkpoint_oldest : (s : HeldDatabase) (lines : List Asked) (o : Starts) (n : ℕ) → IsTold s lines o → IsCheckpoint s lines n → IsOldest s lines o n
checkpoint_oldest s lines o n told at =
    let some = some_place s lines o told in
    subst (IsOldest s lines o) (same_place s lines some.0 n (checkpoint s lines o some.0 told some.1) at) some.1

-- ---- the base

based_early : (s : HeldDatabase) → based s ≡ settled s.database.revision s
based_early s = sym (settled_early s.database.revision s ∙ ap₂ on bare (ap (λ d. at_most (depth d) s.holder) bare ∙ most_none s.holder))
  where
    nothing : s.database.revision - s.database.revision ≡ 0
    nothing = omega arith

    bare : cut s.database.revision s.database ≡ record s.database { old = [] }
    bare = ap (λ n. record s.database { old = take n s.database.old }) nothing

next_at_most : (k r left now : ℕ) → MovesOn k r left now → now ≤ r + 1
next_at_most k r left now (inl p) = let next = p.1 in omega arith
next_at_most k r left now (inr p) = let low = p.0 in omega arith

-- Lines from where a base stands, behind each of which the revision is above b. Once all open sessions are undone the base is there again.
module _ (at : HeldDatabase) (b : ℕ) (is : IsReplaying at) (low : at.database.revision ≤ b) where
  abbrev base : Database
  base = (based at).database

  back_at : (rest : List Asked) → AreTaken rest at → StaysAbove at.database.revision rest at → StaysAbove (suc b) rest at
      → (d : Database) → (replayed rest (based at)).database ≡ d → b ≡ d.revision - depth d → undone_times (depth d) d ≡ base
  back_at [] taken above high d same number = subst (λ (e : Database). undone_times (depth e) e ≡ base) same refl
  back_at (line ∷ rest) taken above high d same number =
      let next = next_at_most (depth at.database) at.database.revision _ _ (line_steps at is.numbered is.room line).moves in
      let equal : b ≡ at.database.revision = omega (arith, next, high.0, low) in
      let there = subst (λ x. StaysAbove (suc x) (line ∷ rest) at) equal high in
      let early = above_early at.database.revision (suc at.database.revision) (line ∷ rest) at is (omega arith) taken above there in
      let here = subst (StaysAbove (suc at.database.revision) (line ∷ rest)) (sym (based_early at)) early in
      let still = lines_stand base (line ∷ rest) (based at) (opened_is_replaying base refl) (inl (start_stands base refl)) here in
      by_still equal (subst (Still base) same still)
    where
      by_still : b ≡ at.database.revision → Still base d → undone_times (depth d) d ≡ base
      by_still equal (inl stands) = stands.back
      by_still equal (inr ended) = absurd (omega (arith, equal, ended, number))

-- ---- the line

undo_all_means : command_line (codes "{\"cmd\":\"undo_all\"}") ≡ Ok (request.Session session.UndoAll)
undo_all_means = short_means (request.Session session.UndoAll) _ refl

undo_all_unended : ended (codes "{\"cmd\":\"undo_all\"}") ≡ []
unfolding ended
undo_all_unended = refl

abbrev pub undo_all_bytes : List ℕ
undo_all_bytes = codes "{\"cmd\":\"undo_all\"}\n"

pub undo_all_whole : IsWholeLine undo_all_bytes
undo_all_whole = (codes "{\"cmd\":\"undo_all\"}", refl, undo_all_unended)

pub undo_all_lines : lines_of undo_all_bytes ≡ undo_all_line ∷ []
undo_all_lines = (whole_line (codes "{\"cmd\":\"undo_all\"}") undo_all_unended).0

undo_all_leaves : (t : HeldDatabase) → is_busy t.holder replayer ≡ false
    → replayed (undo_all_line ∷ []) t ≡ unheld (undone_times (depth t.database) t.database)
undo_all_leaves t free =
    ap (λ r. (command_answer t replayer (command_of t replayer r)).1) undo_all_means
    ∙ ap (λ b. (command_answer t replayer (cond b (Err Busy) (Ok (command.Session session.UndoAll)))).1) free

-- what undoing all open sessions leaves is the base at the checkpoint
pub undone_is_base : (s : HeldDatabase) (lines : List Asked) (o : Starts) (n : ℕ) → IsReplaying s → AreTaken lines s → IsTold s lines o
    → IsCheckpoint s lines n → BaseReplays s lines n → replayed (undo_all_line ∷ []) (replayed lines s) ≡ base_at s lines n
undone_is_base s lines o n is taken told at replays =
    let d = (replayed lines s).database in
    let b = o.revision - depth (replayed lines s).database in
    let oldest = checkpoint_oldest s lines o n told at in
    let here = lines_keep_replaying s (take n lines) is in
    let number = told_revision s lines o told in
    let same_number : o.revision - depth (replayed lines s).database ≡ (replayed lines s).database.revision - depth (replayed lines s).database =
    ap (λ r. r - depth (replayed lines s).database) number in
    let place = revisions_at n lines s oldest.within in
    let up_to : get_or (revisions lines s) n 0 ≤ o.revision - depth (replayed lines s).database = oldest.up_to in
    let low : (replayed (take n lines) s).database.revision ≤ o.revision - depth (replayed lines s).database = omega (arith, place, up_to) in
    undo_all_leaves (replayed lines s) (lines_keep_replaying s lines is).free
    ∙ ap unheld (back_at (replayed (take n lines) s) (o.revision - depth (replayed lines s).database) here low (drop n lines)
    (taken_rest n lines s taken) at.stands.0 (later_above n (o.revision - depth (replayed lines s).database) lines s oldest.within oldest.above)
    (replayed lines s).database replays.0.0 same_number)
  where
    taken_rest : (n : ℕ) (lines : List Asked) (s : HeldDatabase) → AreTaken lines s → AreTaken (drop n lines) (replayed (take n lines) s)
    taken_rest zero lines s taken = taken
    taken_rest (suc n) [] s taken = tt
    taken_rest (suc n) (line ∷ lines) s taken = taken_rest n lines (answer s replayer line).1 taken.1
