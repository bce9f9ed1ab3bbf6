-- The revisions of a replay, and where a base of it may stand.
-- Cited by `OpenStarts::note` and `OpenStarts::settled_lines`.
use Rattle.std.proofs.Common.{◌≡◌, ℕ, zero, suc, ◌+◌, ◌-◌, ◌<◌, ◌≤◌, List, [], ◌∷◌, ◌++◌, length, take, drop, get_or}
use Rattle.std.proofs.Common.{refl, sym, ap, ◌∙◌, subst, arith}
use Rattle.std.proofs.lemmas.List.{take_all, take-append-drop, length-drop}
use Rattle.mi_model.specs.Database.{depth}
use Rattle.mi_commands.specs.Asked.{Asked}
use Rattle.mi_commands.specs.Answer.{answer}
use Rattle.mi_commands.specs.Holder.{HeldDatabase}
use Rattle.mi_replay.specs.Replayed.{replayer, replayed, IsSame}
use Rattle.mi_checkpoint.specs.Settled.{based, StaysAbove, AreTaken, HaveEnded, IsBasedAt, IsReplaying}
use Rattle.mi_checkpoint.specs.OpenStarts.{Starts, MovesOn, IsLastUpTo, Knows, StandsAt, revisions, IsTold, IsCheckpoint, BaseReplays}
use Rattle.mi_checkpoint.proofs.RunLemmas.{replayed_append, lines_keep_replaying, bases_replay}
use Rattle.mi_checkpoint.proofs.StepLemmas.{line_steps}

-- ---- the revisions

-- behind the first m lines
abbrev revision_at : List Asked → HeldDatabase → ℕ → ℕ
revision_at lines s m = (replayed (take m lines) s).database.revision

revisions_length : (lines : List Asked) (s : HeldDatabase) → length (revisions lines s) ≡ length lines + 1
revisions_length [] s = refl
revisions_length (line ∷ lines) s = let rest : length (revisions lines (answer s replayer line).1) ≡ length lines + 1 = revisions_length lines _ in omega arith

revisions_are : (lines : List Asked) (s : HeldDatabase) (m : ℕ) → m ≤ length lines → get_or (revisions lines s) m 0 ≡ revision_at lines s m
revisions_are [] s zero within = refl
revisions_are [] s (suc m) within = absurd (omega arith)
revisions_are (line ∷ lines) s zero within = refl
revisions_are (line ∷ lines) s (suc m) within = revisions_are lines (answer s replayer line).1 m (omega arith)

revisions_push : (lines : List Asked) (line : Asked) (s : HeldDatabase)
    → revisions (lines ++ line ∷ []) s ≡ revisions lines s ++ (replayed (lines ++ line ∷ []) s).database.revision ∷ []
revisions_push [] line s = refl
revisions_push (first ∷ lines) line s = ap (λ rs. s.database.revision ∷ rs) (revisions_push lines line (answer s replayer first).1)

-- the last is that of what is left
told_revision : (s : HeldDatabase) (lines : List Asked) (o : Starts) → IsTold s lines o → o.revision ≡ (replayed lines s).database.revision
told_revision s lines o told =
    let long = revisions_length lines s in
    let count : length (revisions lines s) ≡ o.lines + 1 = told.count in
    let all : o.lines ≡ length lines = omega arith in
    sym told.newest ∙ revisions_are lines s o.lines (omega arith) ∙ ap (λ n. revision_at lines s n) all
    ∙ ap (λ ls. (replayed ls s).database.revision) (take_all (length lines) lines (omega arith))

-- ---- a line more

pub told_moves : (s : HeldDatabase) (lines : List Asked) (line : Asked) (o : Starts) (k r : ℕ) → IsReplaying s → IsTold s lines o
    → StandsAt (replayed (lines ++ line ∷ []) s) k r → MovesOn (depth (replayed lines s).database) o.revision k r
told_moves s lines line o k r is told stands =
    let here = lines_keep_replaying s lines is in
    let step = line_steps (replayed lines s) here.numbered here.room line in
    let then = replayed_append lines (line ∷ []) s in
    let deep : depth (answer (replayed lines s) replayer line).1.database ≡ k = sym (ap (λ (u : HeldDatabase). depth u.database) then) ∙ stands.0 in
    let now : (answer (replayed lines s) replayer line).1.database.revision ≡ r = sym (ap (λ (u : HeldDatabase). u.database.revision) then) ∙ stands.1 in
    subst (λ q. MovesOn (depth (replayed lines s).database) q k r) (sym (told_revision s lines o told))
    (subst (λ j. MovesOn (depth (replayed lines s).database) (replayed lines s).database.revision j r) deep
    (subst (λ q. MovesOn (depth (replayed lines s).database) (replayed lines s).database.revision
    (depth (answer (replayed lines s) replayer line).1.database) q) now step.moves))

pub told_more : (s : HeldDatabase) (lines : List Asked) (line : Asked) (o : Starts) (k r : ℕ) → StandsAt (replayed (lines ++ line ∷ []) s) k r
    → Knows (revisions lines s ++ r ∷ []) k o → IsTold s (lines ++ line ∷ []) o
told_more s lines line o k r stands knows =
    subst (λ j. Knows (revisions (lines ++ line ∷ []) s) j o) (sym stands.0)
    (subst (λ rs. Knows rs k o) (sym (revisions_push lines line s ∙ ap (λ q. revisions lines s ++ q ∷ []) stands.1)) knows)

-- ---- where a base may stand

-- lines cut at a place
replayed_rest : (n : ℕ) (lines : List Asked) (s : HeldDatabase) → replayed (drop n lines) (replayed (take n lines) s) ≡ replayed lines s
replayed_rest n lines s = sym (replayed_append (take n lines) (drop n lines) s) ∙ ap (λ ls. replayed ls s) (take-append-drop n lines)

replayed_more : (n m : ℕ) (lines : List Asked) (s : HeldDatabase) → n ≤ length lines
    → replayed (take m (drop n lines)) (replayed (take n lines) s) ≡ replayed (take (n + m) lines) s
replayed_more zero m lines s within = ap (λ k. replayed (take k lines) s) zero_add
  where
    zero_add : m ≡ 0 + m
    zero_add = omega arith
replayed_more (suc n) m [] s within = absurd (omega arith)
replayed_more (suc n) m (line ∷ lines) s within =
    replayed_more n m lines (answer s replayer line).1 (omega arith) ∙ ap (λ k. replayed (take k (line ∷ lines)) s) suc_add
  where
    suc_add : suc (n + m) ≡ suc n + m
    suc_add = omega arith

above_each : (x : ℕ) (lines : List Asked) (s : HeldDatabase) → ((m : ℕ) → 0 < m → m ≤ length lines → x ≤ revision_at lines s m) → StaysAbove x lines s
above_each x [] s each = tt
above_each x (line ∷ lines) s each =
    (each 1 (omega arith) (omega arith), above_each x lines (answer s replayer line).1 (λ m some within. each (suc m) (omega arith) (omega arith)))

pub checkpoint : (s : HeldDatabase) (lines : List Asked) (o : Starts) (n : ℕ) → IsTold s lines o
    → IsLastUpTo (revisions lines s) (o.revision - depth (replayed lines s).database) n → IsCheckpoint s lines n
checkpoint s lines o n told is = record { within = omega (arith, inside); stands = (above, ended); latest = latest }
  where
    inside : n ≤ length lines
    inside = let long = revisions_length lines s in let here : n < length (revisions lines s) = is.within in omega arith

    deep : depth (replayed lines s).database ≤ (replayed lines s).database.revision
    deep = subst (λ r. depth (replayed lines s).database ≤ r) (told_revision s lines o told) told.numbered

    -- the number of the oldest open session, less one
    low : revision_at lines s n ≤ (replayed lines s).database.revision - depth (replayed lines s).database
    low = let up_to : get_or (revisions lines s) n 0 ≤ o.revision - depth (replayed lines s).database = is.up_to in
        let at = revisions_are lines s n inside in let now = told_revision s lines o told in omega arith

    high : (m : ℕ) → n < m → m ≤ length lines → (replayed lines s).database.revision - depth (replayed lines s).database < revision_at lines s m
    high m after within =
        let long = revisions_length lines s in
        let later : o.revision - depth (replayed lines s).database < get_or (revisions lines s) m 0 = is.above m after (omega arith) in
        let at = revisions_are lines s m within in let now = told_revision s lines o told in omega arith

    above : StaysAbove (revision_at lines s n) (drop n lines) (replayed (take n lines) s)
    above = above_each (revision_at lines s n) (drop n lines) (replayed (take n lines) s) (λ m some within.
        let long : length (drop n lines) ≡ length lines - n = length-drop n lines in
        let here = inside in
        let first = low in
        let later = high (n + m) (omega arith) (omega arith) in
        let there = ap (λ (u : HeldDatabase). u.database.revision) (replayed_more n m lines s inside) in omega arith)

    ended : HaveEnded (revision_at lines s n) (replayed (drop n lines) (replayed (take n lines) s))
    ended = subst (HaveEnded (revision_at lines s n)) (sym (replayed_rest n lines s)) (let first = low in let fewer = deep in omega arith)

    latest : (m : ℕ) → n < m → m ≤ length lines → ¬ IsBasedAt (replayed (take m lines) s) (drop m lines)
    latest m after within at =
        let then : revision_at lines s m + depth (replayed lines s).database ≤ (replayed lines s).database.revision
        = subst (HaveEnded (revision_at lines s m)) (replayed_rest m lines s) at.1 in
        let later = high m after within in omega arith

taken_rest : (n : ℕ) (lines : List Asked) (s : HeldDatabase) → AreTaken lines s → AreTaken (drop n lines) (replayed (take n lines) s)
taken_rest zero lines s taken = taken
taken_rest (suc n) [] s taken = tt
taken_rest (suc n) (line ∷ lines) s taken = taken_rest n lines (answer s replayer line).1 taken.1

pub base_replays : (s : HeldDatabase) (lines : List Asked) (n : ℕ) → IsReplaying s → AreTaken lines s → IsCheckpoint s lines n → BaseReplays s lines n
base_replays s lines n is taken at =
    let law = bases_replay (replayed (take n lines) s) (drop n lines) (lines_keep_replaying s (take n lines) is) (taken_rest n lines s taken) at.stands in
    (subst (λ u. IsSame u (replayed (drop n lines) (based (replayed (take n lines) s)))) (replayed_rest n lines s) law.0, law.1)
