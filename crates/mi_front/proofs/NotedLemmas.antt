-- Lines that are noted one behind another: what is told of all in front is told of these too.
-- Cited by `noting::note_line`, `noting::note_lines`, `row::note_row`, `row::note_segments` and `texts::note_text`.
use Rattle.std.proofs.Common.{◌≡◌, ℕ, ◌+◌, List, [], ◌∷◌, ◌++◌, length, refl, sym, ap, ◌∙◌, subst, arith, append_assoc, append-nil, length-append}
use Rattle.mi_model.specs.Database.{depth}
use Rattle.mi_commands.specs.Asked.{Asked}
use Rattle.mi_commands.specs.Holder.{HeldDatabase}
use Rattle.mi_replay.specs.Replayed.{replayed}
use Rattle.mi_checkpoint.specs.Settled.{IsTaken, AreTaken, IsReplaying}
use Rattle.mi_checkpoint.specs.OpenStarts.{Starts, StandsAt, IsTold}
use Rattle.mi_checkpoint.proofs.RunLemmas.{replayed_append}
use Rattle.mi_checkpoint.proofs.TakenLemmas.{taken_in_two}
use Rattle.mi_front.specs.Noted.{Lines, Notes}

pub notes_none : (s : HeldDatabase) (o : Starts) → Notes s o [] s o
notes_none s o = record {
  leaves = refl;
  taken = tt;
  count = omega arith;
  told = λ t front is here told. subst (λ ls. IsTold t ls o) (sym (append-nil front)) told;
}

-- one line, which is told
pub notes_one : (old new : HeldDatabase) (was now : Starts) (asked : Asked) (k r : ℕ) → new ≡ replayed (asked ∷ []) old → IsTaken old asked
    → k ≡ depth new.database → r ≡ new.database.revision → now.lines ≡ was.lines + 1
    → ((s : HeldDatabase) (lines : Lines) (line : Asked) → IsReplaying s → IsTold s lines was → StandsAt (replayed (lines ++ line ∷ []) s) k r
    → IsTold s (lines ++ line ∷ []) now)
    → Notes old was (asked ∷ []) new now
notes_one old new was now asked k r leaves taken deep number count told = record {
  leaves = leaves;
  taken = (taken, tt);
  count = count;
  told = λ s front is here before.
      let there : new ≡ replayed (front ++ asked ∷ []) s = leaves ∙ ap (replayed (asked ∷ [])) here ∙ sym (replayed_append front (asked ∷ []) s) in
      told s front asked is before
      (sym (deep ∙ ap (λ (t : HeldDatabase). depth t.database) there), sym (number ∙ ap (λ (t : HeldDatabase). t.database.revision) there));
}

-- lines and then others
pub notes_then : (a b c : HeldDatabase) (o p q : Starts) (xs ys : Lines) → Notes a o xs b p → Notes b p ys c q → Notes a o (xs ++ ys) c q
notes_then a b c o p q xs ys m n = record {
  leaves = n.leaves ∙ ap (replayed ys) m.leaves ∙ sym (replayed_append xs ys a);
  taken = (taken_in_two xs ys a).1 (m.taken, subst (AreTaken ys) m.leaves n.taken);
  count = (let first : p.lines ≡ o.lines + length xs = m.count in let then : q.lines ≡ p.lines + length ys = n.count in
      omega (arith, first, then, length-append xs ys));
  told = λ s front is here before.
      let there : b ≡ replayed (front ++ xs) s = m.leaves ∙ ap (replayed xs) here ∙ sym (replayed_append front xs s) in
      subst (λ ls. IsTold s ls q) (append_assoc front xs ys) (n.told s (front ++ xs) is there (m.told s front is here before));
}
