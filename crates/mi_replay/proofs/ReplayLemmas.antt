-- A journal asked again keeps step with its run.
-- Cited by `laws::journals_replay`, `laws::replays_are_runs`, `laws::runs_have_journals`, `FrontLemmas` and `RunActLemmas`.
use Rattle.std.proofs.Common.{◌≡◌, ℕ, zero, suc, ◌+◌, ◌-◌, ◌≤◌, List, [], ◌∷◌, ◌++◌, replicate, Bool, true, false}
use Rattle.std.proofs.Common.{Option, refl, sym, ap, ◌∙◌, subst, arith, inl, inr}
use Rattle.mi_model.specs.Database.{Database, depth, undone, undone_times}
use Rattle.mi_commands.specs.Asked.{Asked}
use Rattle.mi_commands.specs.Answer.{answer, MayGive}
use Rattle.mi_commands.specs.Holder.{HeldDatabase, is_busy, one_less, held_count, held_by, without_holder, released}
use Rattle.mi_commands.specs.declared.holder.Holder.{Holder}
use Rattle.mi_replay.specs.Acts.{Act, asks, leaves, Acts}
use Rattle.mi_replay.specs.Journal.{undo_line, Keeps, JournalOf}
use Rattle.mi_replay.specs.Replayed.{replayer, replayed, unheld, IsSame, IsSameLess}
use Rattle.mi_replay.specs.ReplayLaws.{ReplaysAreRuns, RunsHaveJournals, JournalsReplay, ReplaysEndAsRuns}
use Rattle.mi_replay.proofs.AnswerLemmas.{busy_keeps, held_by_holder, held_by_other, without_free, without_busy}
use Rattle.mi_replay.proofs.AnswerLemmas.{Twin, twin_line, on, undo_left, depth_undone, less_count, less_free}

-- ---- lines asked one after another

pub replayed_append : (xs ys : List Asked) (s : HeldDatabase) → replayed (xs ++ ys) s ≡ replayed ys (replayed xs s)
replayed_append [] ys s = refl
replayed_append (x ∷ xs) ys s = replayed_append xs ys (answer s replayer x).1

-- the replayer's lines, none of them refused for memory
pub replays_are_runs : ReplaysAreRuns
replays_are_runs [] [] old new p none = p
replays_are_runs [] (r ∷ replies) old new p none = absurd p
replays_are_runs (l ∷ lines) [] old new p none = absurd p
replays_are_runs (l ∷ lines) (r ∷ replies) old new p none =
    replays_are_runs lines replies p.0 new p.2 none.1 ∙ ap (replayed lines) (as_answered p.1)
  where
    as_answered : MayGive replayer old l r p.0 → p.0 ≡ (answer old replayer l).1
    as_answered (inl given) = given.1
    as_answered (inr memory) = absurd (none.0 memory.1.0)

undone_more : (k n : ℕ) (d : Database) → undone_times n (undone_times k d) ≡ undone_times (k + n) d
undone_more zero n d = ap (λ m. undone_times m d) (zero_add n)
  where
    zero_add : (n : ℕ) → n ≡ 0 + n
    zero_add n = omega arith
undone_more (suc k) n d = undone_more k n (undone d) ∙ ap (λ m. undone_times m d) (suc_add k n)
  where
    suc_add : (k n : ℕ) → suc (k + n) ≡ suc k + n
    suc_add k n = omega arith

-- t is as s is with this many of its sessions undone
pub record Behind (undos : ℕ) (s t : HeldDatabase) : Type 0 where
  pub database : t.database ≡ undone_times undos s.database
  pub count : held_count t.holder ≡ held_count s.holder - undos
  pub free : is_busy t.holder replayer ≡ false
  pub fits : held_count t.holder ≤ depth t.database

-- undos of the replayer
undos_left : (k : ℕ) (d : Database) (o : Option Holder) → is_busy o replayer ≡ false → held_count o ≤ depth d → k ≤ held_count o
    → Behind k (on d o) (replayed (replicate k undo_line) (on d o))
undos_left zero d o free fits most = record { database = refl; count = omega arith; free = free; fits = fits }
undos_left (suc k) d o free fits most =
    let some : 1 ≤ held_count o = omega arith in
    let fewer = one_less o in
    let count : held_count fewer ≡ held_count o - 1 = less_count o in
    let open_then : depth (undone d) ≡ depth d - 1 = depth_undone d in
    let rest = undos_left k (undone d) fewer (less_free replayer o free) (omega arith) (omega arith) in
    let there : replayed (replicate (suc k) undo_line) (on d o) ≡ replayed (replicate k undo_line) (on (undone d) fewer)
    = ap (replayed (replicate k undo_line)) (undo_left d o free fits some) in
    let left : held_count (replayed (replicate k undo_line) (on (undone d) fewer)).holder ≡ held_count fewer - k = rest.count in
    record {
      database = ap (λ (s : HeldDatabase). s.database) there ∙ rest.database;
      count = ap (λ (s : HeldDatabase). held_count s.holder) there ∙ (omega arith);
      free = ap (λ (s : HeldDatabase). is_busy s.holder replayer) there ∙ rest.free;
      fits = subst (λ (s : HeldDatabase). held_count s.holder ≤ depth s.database) (sym there) rest.fits;
    }

pub twin_undos : (k : ℕ) (s t : HeldDatabase) → Twin s t → k ≤ held_count s.holder → Behind k s (replayed (replicate k undo_line) t)
twin_undos k s t twin most =
    let count : held_count t.holder ≡ held_count s.holder = twin.count in
    let left = undos_left k t.database t.holder twin.free twin.fits (omega arith) in
    record {
      database = left.database ∙ ap (undone_times k) twin.database;
      count = left.count ∙ ap (λ n. n - k) twin.count;
      free = left.free;
      fits = left.fits;
    }

-- ---- an act

-- a connection goes away
twin_leaves : (conn : ℕ) (s t : HeldDatabase) → Twin s t → Twin (released conn s) (replayed (replicate (held_by conn s.holder) undo_line) t)
twin_leaves conn s t twin = by_busy (is_busy s.holder conn) refl
  where
    by_busy : (b : Bool) → is_busy s.holder conn ≡ b → Twin (released conn s) (replayed (replicate (held_by conn s.holder) undo_line) t)
    by_busy true busy =
        let none = held_by_other conn s.holder busy in
        let stays : released conn s ≡ s = ap (λ n. on (undone_times n s.database) (without_holder conn s.holder)) none
        ∙ ap (on s.database) (without_busy conn s.holder busy) in
        subst (λ u. Twin u (replayed (replicate (held_by conn s.holder) undo_line) t)) (sym stays)
        (subst (λ n. Twin s (replayed (replicate n undo_line) t)) (sym none) twin)
    by_busy false free =
        let all = held_by_holder conn s.holder free in
        let most : held_by conn s.holder ≤ held_count s.holder = omega arith in
        let left = twin_undos (held_by conn s.holder) s t twin most in
        let nobody = without_free conn s.holder free in
        let count : held_count (replayed (replicate (held_by conn s.holder) undo_line) t).holder ≡ held_count s.holder - held_by conn s.holder
        = left.count in record {
          database = left.database;
          count = let zero_left : held_count (replayed (replicate (held_by conn s.holder) undo_line) t).holder ≡ 0 = omega arith in
              zero_left ∙ sym (ap held_count nobody);
          free = left.free;
          fits = left.fits;
        }

twin_act : (act : Act) (kept : List Asked) (old mid t : HeldDatabase) → Acts old act mid → Keeps old act mid kept → Twin old t
    → Twin mid (replayed kept t)
twin_act (asks conn line reply) kept old mid t done (inl out) twin =
    subst (λ ls. Twin mid (replayed ls t)) (sym out.0) (subst (λ s. Twin s t) (sym out.1) twin)
twin_act (asks conn line reply) kept old mid t done (inr put) twin =
    subst (λ ls. Twin mid (replayed ls t)) (sym put.0) (subst (λ s. Twin s (answer t replayer line).1) (sym put.2) (twin_line old t conn line twin put.1))
twin_act (leaves conn) kept old mid t done keeps twin =
    subst (λ ls. Twin mid (replayed ls t)) (sym keeps)
    (subst (λ s. Twin s (replayed (replicate (held_by conn old.holder) undo_line) t)) (sym done) (twin_leaves conn old t twin))

-- ---- a run

pub twin_run : (acts : List Act) (lines : List Asked) (old new t : HeldDatabase) → JournalOf old acts lines new → Twin old t → Twin new (replayed lines t)
twin_run [] lines old new t p twin =
    subst (λ ls. Twin new (replayed ls t)) (sym p.0) (subst (λ s. Twin s t) (sym p.1) twin)
twin_run (act ∷ acts) lines old new t p twin =
    subst (λ u. Twin new u) (sym (ap (λ ls. replayed ls t) p.6 ∙ replayed_append p.1 p.2 t))
    (twin_run acts p.2 p.0 new (replayed p.1 t) p.5 (twin_act act p.1 old p.0 t p.3 p.4 twin))

pub twin_opens : (d : Database) → Twin (unheld d) (unheld d)
twin_opens d = record { database = refl; count = refl; free = refl; fits = omega arith }

same_of : (s t : HeldDatabase) → Twin s t → IsSame s t
same_of s t twin = (twin.database, held_by_holder replayer t.holder twin.free ∙ twin.count, twin.free)

pub same_less : (undos : ℕ) (s t : HeldDatabase) → Behind undos s t → IsSameLess undos s t
same_less undos s t left = (left.database, held_by_holder replayer t.holder left.free ∙ left.count, left.free)

pub journals_replay : JournalsReplay
journals_replay d acts lines new p = let twin = twin_run acts lines (unheld d) new (unheld d) p (twin_opens d) in
    same_of new (replayed lines (unheld d)) twin

-- ---- the end

-- whatever of the held sessions is undone already
pub released_same : (undos : ℕ) (s t : HeldDatabase) (conn : ℕ) → Behind undos s t → undos ≤ held_count s.holder → is_busy s.holder conn ≡ false
    → released replayer t ≡ released conn s
released_same undos s t conn left most free =
    let mine = held_by_holder replayer t.holder left.free in
    let theirs = held_by_holder conn s.holder free in
    let count : held_count t.holder ≡ held_count s.holder - undos = left.count in
    let total : undos + held_by replayer t.holder ≡ held_by conn s.holder = omega arith in
    ap (λ d. on (undone_times (held_by replayer t.holder) d) (without_holder replayer t.holder)) left.database
    ∙ ap (λ d. on d (without_holder replayer t.holder)) (undone_more undos (held_by replayer t.holder) s.database)
    ∙ ap (λ n. on (undone_times n s.database) (without_holder replayer t.holder)) total
    ∙ ap (on (undone_times (held_by conn s.holder) s.database)) (without_free replayer t.holder left.free ∙ sym (without_free conn s.holder free))

pub behind_none : (s t : HeldDatabase) → Twin s t → Behind 0 s t
behind_none s t twin = record { database = twin.database; count = twin.count ∙ (omega arith); free = twin.free; fits = twin.fits }

pub replays_end_as_runs : ReplaysEndAsRuns
replays_end_as_runs d acts lines new conn p free =
    let twin = twin_run acts lines (unheld d) new (unheld d) p (twin_opens d) in
    released_same 0 new (replayed lines (unheld d)) conn (behind_none new (replayed lines (unheld d)) twin) (omega arith) free

-- ---- every run has a journal

keeps_some : (act : Act) (old new : HeldDatabase) → Acts old act new → (kept : List Asked) × Keeps old act new kept
keeps_some (leaves conn) old new p = (replicate (held_by conn old.holder) undo_line, refl)
keeps_some (asks conn line reply) old new (inr p) = ([], inl (refl, p.1.1))
keeps_some (asks conn line reply) old new (inl p) = by_busy (is_busy old.holder conn) refl
  where
    by_busy : (b : Bool) → is_busy old.holder conn ≡ b → (kept : List Asked) × Keeps old (asks conn line reply) new kept
    by_busy true busy = ([], inl (refl, p.1 ∙ busy_keeps old conn busy line))
    by_busy false free = (line ∷ [], inr (refl, free, p.1))

pub runs_have_journals : RunsHaveJournals
runs_have_journals old new [] p = ([], (refl, p))
runs_have_journals old new (act ∷ acts) p =
    let first = keeps_some act old p.0 p.1 in
    let later = runs_have_journals p.0 new acts p.2 in
    (first.0 ++ later.0, (p.0, first.0, later.0, p.1, first.1, later.1, refl))
