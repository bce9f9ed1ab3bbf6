-- Lines asked one after another where sessions have ended early, and of a base.
-- Cited by `laws::bases_of_journals`, `laws::replays_go_on`, `laws::sessions_settle_early` and `ToldLemmas`.
use Rattle.std.proofs.Common.{◌≡◌, ℕ, ◌+◌, ◌-◌, ◌≤◌, List, [], ◌∷◌, ◌++◌, take, false, refl, sym, ap, ap₂, ◌∙◌, subst, inl, inr, arith}
use Rattle.mi_model.specs.Database.{Database, depth, undone_times}
use Rattle.mi_commands.specs.Asked.{Asked}
use Rattle.mi_commands.specs.Answer.{answer}
use Rattle.mi_commands.specs.Holder.{HeldDatabase, is_busy, at_most, released}
use Rattle.mi_replay.specs.Replayed.{replayer, replayed, unheld, IsSame}
use Rattle.mi_replay.specs.ReplayLaws.{JournalsReplay, ReplaysEndAsRuns}
use Rattle.mi_replay.proofs.AnswerLemmas.{on, twin_line, held_by_holder, without_free}
use Rattle.mi_checkpoint.specs.Settled.{settled, based, StaysAbove, AreTaken, HaveEnded, IsBasedAt, IsReplaying}
use Rattle.mi_checkpoint.specs.Settled.{OpenedIsReplaying, LinesKeepReplaying, SamePassesOn, SettlesEarly, EndsTheSame, BasesReplay, BasesStay}
use Rattle.mi_checkpoint.specs.Settled.{BasesOfJournals, BasesEndAsRuns}
use Rattle.mi_checkpoint.specs.OpenStarts.{MovesOn}
use Rattle.mi_checkpoint.proofs.HolderLemmas.{most_none, most_free, held_most}
use Rattle.mi_checkpoint.proofs.SettledLemmas.{cut, cut_none, early, settled_early, line_early}
use Rattle.mi_checkpoint.proofs.StepLemmas.{line_steps}
use Rattle.mi_checkpoint.proofs.TakenLemmas.{taken_behind}

pub opened_is_replaying : OpenedIsReplaying
opened_is_replaying d none = record { numbered = omega arith; room = omega arith; fits = omega arith; free = refl }

numbered_then : (k r left now : ℕ) → MovesOn k r left now → k ≤ r → left ≤ now
numbered_then k r left now (inl p) numbered = let more = p.0 in let next = p.1 in omega arith
numbered_then k r left now (inr p) numbered = let low = p.0 in let few = p.1 in omega arith

pub line_keeps_replaying : (s : HeldDatabase) (line : Asked) → IsReplaying s → IsReplaying (answer s replayer line).1
line_keeps_replaying s line is =
    let twin = twin_line s s replayer line (record { database = refl; count = refl; free = is.free; fits = is.fits }) is.free in
    let step = line_steps s is.numbered is.room line in record {
      numbered = numbered_then (depth s.database) s.database.revision _ _ step.moves is.numbered;
      room = step.room;
      fits = twin.fits;
      free = twin.free;
    }

pub lines_keep_replaying : LinesKeepReplaying
lines_keep_replaying s [] is = is
lines_keep_replaying s (line ∷ lines) is = lines_keep_replaying (answer s replayer line).1 lines (line_keeps_replaying s line is)

pub replayed_append : (xs ys : List Asked) (s : HeldDatabase) → replayed (xs ++ ys) s ≡ replayed ys (replayed xs s)
replayed_append [] ys s = refl
replayed_append (x ∷ xs) ys s = replayed_append xs ys (answer s replayer x).1

pub same_passes_on : SamePassesOn
same_passes_on s t u first then = (then.0 ∙ first.0, then.1 ∙ sym (held_by_holder replayer t.holder first.2) ∙ first.1, then.2)

-- ---- sessions that end early

run_early : (x : ℕ) (lines : List Asked) (s : HeldDatabase) → IsReplaying s → x ≤ s.database.revision → AreTaken lines s → StaysAbove x lines s
    → (replayed lines (early x s) ≡ early x (replayed lines s)) × AreTaken lines (early x s)
run_early x [] s is low taken above = (refl, tt)
run_early x (line ∷ lines) s is low taken above =
    let step = line_early x s.database s.holder is low line taken.0 above.0 in
    let rest = run_early x lines (answer s replayer line).1 (line_keeps_replaying s line is) above.0 taken.1 above.1 in
    (ap (replayed lines) step.0 ∙ rest.0, (step.1, subst (AreTaken lines) (sym step.0) rest.1))

pub settles_early : SettlesEarly
settles_early x s lines is low taken above =
    let run = run_early x lines s is low taken above in (
      ap (replayed lines) (settled_early x s) ∙ run.0 ∙ sym (settled_early x (replayed lines s)),
      subst (AreTaken lines) (sym (settled_early x s)) run.1,
    )

-- nothing is left to end
none_left : (x : ℕ) (s : HeldDatabase) → IsReplaying s → HaveEnded x s → IsSame s (settled x s)
none_left x s is ended =
    let all : depth s.database ≤ s.database.revision - x = omega arith in
    let stays = cut_none x s.database all in
    let here : settled x s ≡ on s.database (at_most (depth s.database) s.holder)
    = settled_early x s ∙ ap (λ d. on d (at_most (depth d) s.holder)) stays in
    subst (IsSame s) (sym here)
    (refl, held_most (depth s.database) replayer s.holder is.free is.fits, most_free (depth s.database) replayer s.holder is.free)

pub ends_the_same : EndsTheSame
ends_the_same x s lines is low taken above ended =
    subst (IsSame (replayed lines s)) (sym (settles_early x s lines is low taken above).0)
    (none_left x (replayed lines s) (lines_keep_replaying s lines is) ended)

-- ---- a base

based_early : (s : HeldDatabase) → based s ≡ settled s.database.revision s
based_early s = sym (settled_early s.database.revision s ∙ ap₂ on bare (ap (λ d. at_most (depth d) s.holder) bare ∙ most_none s.holder))
  where
    nothing : s.database.revision - s.database.revision ≡ 0
    nothing = omega arith

    bare : cut s.database.revision s.database ≡ record s.database { old = [] }
    bare = ap (λ n. record s.database { old = take n s.database.old }) nothing

pub bases_replay : BasesReplay
bases_replay s lines is taken at =
    let r : ℕ = s.database.revision in
    let early = settles_early s.database.revision s lines is (omega arith) taken at.0 in (
      subst (λ u. IsSame (replayed lines s) (replayed lines u)) (sym (based_early s))
          (ends_the_same s.database.revision s lines is (omega arith) taken at.0 at.1),
      subst (AreTaken lines) (sym (based_early s)) early.1,
    )

-- ---- lines that come later

ended_then : (x k r left now : ℕ) → MovesOn k r left now → x + k ≤ r → x + left ≤ now
ended_then x k r left now (inl p) ended = let more = p.0 in let next = p.1 in omega arith
ended_then x k r left now (inr p) ended = let low = p.0 in let few = p.1 in omega arith

-- what has ended stays so, and no line gives a revision below
ended_stays : (x : ℕ) (lines : List Asked) (s : HeldDatabase) → IsReplaying s → HaveEnded x s → StaysAbove x lines s × HaveEnded x (replayed lines s)
ended_stays x [] s is ended = (tt, ended)
ended_stays x (line ∷ lines) s is ended =
    let t = (answer s replayer line).1 in
    let step = line_steps s is.numbered is.room line in
    let here : x + depth (answer s replayer line).1.database ≤ (answer s replayer line).1.database.revision
    = ended_then x (depth s.database) s.database.revision _ _ step.moves ended in
    let rest = ended_stays x lines t (line_keeps_replaying s line is) here in
    ((omega arith, rest.0), rest.1)

above_both : (x : ℕ) (lines more : List Asked) (s : HeldDatabase) → StaysAbove x lines s → StaysAbove x more (replayed lines s)
    → StaysAbove x (lines ++ more) s
above_both x [] more s first then = then
above_both x (line ∷ lines) more s first then = (first.0, above_both x lines more (answer s replayer line).1 first.1 then)

pub bases_stay : BasesStay
bases_stay s lines more is at =
    let later = ended_stays s.database.revision more (replayed lines s) (lines_keep_replaying s lines is) at.1 in (
      above_both s.database.revision lines more s at.0 later.0,
      subst (HaveEnded s.database.revision) (sym (replayed_append lines more s)) later.1,
    )

-- ---- a journal of a run

-- of the lines of both parts
base_same : (d : Database) (front rest : List Asked) → depth d ≡ 0 → AreTaken (front ++ rest) (unheld d) → IsBasedAt (replayed front (unheld d)) rest
    → IsSame (replayed (front ++ rest) (unheld d)) (replayed rest (based (replayed front (unheld d)))) × AreTaken rest (based (replayed front (unheld d)))
base_same d front rest none taken at =
    let base = based (replayed front (unheld d)) in
    let law = bases_replay (replayed front (unheld d)) rest (lines_keep_replaying (unheld d) front (opened_is_replaying d none))
    (taken_behind front rest (unheld d) taken) at in
    (subst (λ t. IsSame t (replayed rest base)) (sym (replayed_append front rest (unheld d))) law.0, law.1)

pub bases_of_journals : JournalsReplay → BasesOfJournals
bases_of_journals journals d acts front rest new none journal taken at =
    let law = base_same d front rest none taken at in (
      same_passes_on new (replayed (front ++ rest) (unheld d)) (replayed rest (based (replayed front (unheld d))))
          (journals d acts (front ++ rest) new journal) law.0,
      law.1,
    )

-- what the replayer leaves that goes away
released_same : (t u : HeldDatabase) → is_busy t.holder replayer ≡ false → IsSame t u → released replayer u ≡ released replayer t
released_same t u free same =
    ap₂ on (ap₂ undone_times (same.1 ∙ sym (held_by_holder replayer t.holder free)) same.0)
    (without_free replayer u.holder same.2 ∙ sym (without_free replayer t.holder free))

pub bases_end_as_runs : ReplaysEndAsRuns → BasesEndAsRuns
bases_end_as_runs ends d acts front rest new conn none journal taken at free =
    released_same (replayed (front ++ rest) (unheld d)) (replayed rest (based (replayed front (unheld d))))
    (lines_keep_replaying (unheld d) (front ++ rest) (opened_is_replaying d none)).free (base_same d front rest none taken at).0
    ∙ ends d acts (front ++ rest) new conn journal free
