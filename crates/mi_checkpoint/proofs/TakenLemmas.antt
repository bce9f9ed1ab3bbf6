-- Which lines a replay takes.
-- Cited by `laws::lines_are_taken` and `RunLemmas`.
use Rattle.std.proofs.Common.{◌≡◌, ℕ, List, [], ◌∷◌, ◌++◌, Bool, true, false, refl, sym, ◌∙◌, ◌⊎◌, inl, inr}
use Rattle.std.proofs.lemmas.List.{append_cancel_right}
use Rattle.mi_commands.specs.Asked.{Asked}
use Rattle.mi_commands.specs.Answer.{answer}
use Rattle.mi_commands.specs.Holder.{HeldDatabase}
use Rattle.mi_hub.specs.Lines.{lines_of}
use Rattle.mi_hub.specs.Served.{with_newline}
use Rattle.mi_hub.specs.OneLine.{AnswersOne}
use Rattle.mi_replay.specs.Replayed.{replayer, replayed}
use Rattle.mi_checkpoint.specs.Settled.{done_reply, IsTaken, AreTaken, AnsweredLinesAreTaken, WholeLinesAreTaken, TakenInTwo}
use Rattle.mi_checkpoint.proofs.SettledLemmas.{not_true, other_text}

-- what is said of an answer
pub answered_lines_are_taken : AnsweredLinesAreTaken
answered_lines_are_taken s t line reply changed (inl p) (inl may) = inl (sym p.1 ∙ may)
answered_lines_are_taken s t line reply changed (inl p) (inr says) = inr (sym p.0.0 ∙ says)
answered_lines_are_taken s t line reply changed (inr p) (inl may) = not_true (sym p.2 ∙ may)
answered_lines_are_taken s t line reply changed (inr p) (inr says) = other_text _ refl (sym p.1.0 ∙ says)

-- a reply is told with its newline
without_newline : (out reply : List ℕ) (changed : Bool) → out ≡ with_newline reply → (changed ≡ true) ⊎ (out ≡ with_newline done_reply)
    → (changed ≡ true) ⊎ (reply ≡ done_reply)
without_newline out reply changed is (inl may) = inl may
without_newline out reply changed is (inr says) = inr (append_cancel_right reply done_reply (10 ∷ []) (sym is ∙ says))

no_reply : {A : Type 0} (out : List ℕ) (changed : Bool) → out ≡ [] → changed ≡ false → (changed ≡ true) ⊎ (out ≡ with_newline done_reply) → A
no_reply out changed none never (inl may) = not_true (sym never ∙ may)
no_reply out changed none never (inr says) = absurd (let both : [] ≡ with_newline done_reply = sym none ∙ says in cc)

pub whole_lines_are_taken : WholeLinesAreTaken
whole_lines_are_taken line out changed old new asks taken = by_lines (lines_of line) refl asks.answered
  where
    by_lines : (lines : List Asked) → lines_of line ≡ lines → AnswersOne replayer old.held lines out changed new.held
        → (asked : Asked) × (lines_of line ≡ asked ∷ []) × IsTaken old.held asked
    by_lines [] is p = no_reply out changed p.0 p.1 taken
    by_lines (asked ∷ []) is p =
        (asked, is, answered_lines_are_taken old.held new.held asked p.0 changed p.2 (without_newline out p.0 changed p.1 taken))
    by_lines (asked ∷ other ∷ lines) is p = absurd p

-- ---- lines in a row

taken_front : (front rest : List Asked) (s : HeldDatabase) → AreTaken (front ++ rest) s → AreTaken front s
taken_front [] rest s taken = tt
taken_front (line ∷ front) rest s taken = (taken.0, taken_front front rest (answer s replayer line).1 taken.1)

pub taken_behind : (front rest : List Asked) (s : HeldDatabase) → AreTaken (front ++ rest) s → AreTaken rest (replayed front s)
taken_behind [] rest s taken = taken
taken_behind (line ∷ front) rest s taken = taken_behind front rest (answer s replayer line).1 taken.1

taken_both : (front rest : List Asked) (s : HeldDatabase) → AreTaken front s → AreTaken rest (replayed front s) → AreTaken (front ++ rest) s
taken_both [] rest s first then = then
taken_both (line ∷ front) rest s first then = (first.0, taken_both front rest (answer s replayer line).1 first.1 then)

pub taken_in_two : TakenInTwo
taken_in_two front rest s =
    (λ taken. (taken_front front rest s taken, taken_behind front rest s taken), λ parts. taken_both front rest s parts.0 parts.1)
