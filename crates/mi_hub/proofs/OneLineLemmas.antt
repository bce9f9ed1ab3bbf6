-- A whole line that is asked by itself is the event of its bytes.
-- Cited by `Hub::ask_line`, `line::whole_line`, `mi_clients` and `mi_durable`.
use Rattle.std.proofs.Common.{◌≡◌, ℕ, List, [], ◌∷◌, ◌++◌, Bool, length, take, arith, Option, Some, option_to_list, Result, Ok, Err}
use Rattle.std.proofs.Common.{refl, sym, ap, ◌∙◌, subst, append-nil}
use Rattle.std.specs.Prelude.{IfOk}
use Rattle.std.proofs.lemmas.List.{length-append}
use Rattle.std.proofs.Math.Seq.{take-append_seam}
use Rattle.mi_commands.specs.Asked.{Asked}
use Rattle.mi_commands.specs.Answer.{MayGive}
use Rattle.mi_commands.specs.Holder.{HeldDatabase}
use Rattle.mi_commands.proofs.ToldLemmas.{answer_given}
use Rattle.mi_hub.specs.Ended.{ended}
use Rattle.mi_hub.specs.Lines.{marked, ended_line, lines_of, rest_of, lines_from, rest_from}
use Rattle.mi_hub.specs.Connections.{rest_at, with_rest}
use Rattle.mi_hub.specs.Served.{Served}
use Rattle.mi_hub.specs.Run.{HubState, piece, Done}
use Rattle.mi_hub.specs.OneLine.{IsWholeLine, AnswersOne, AsksLine}
use Rattle.mi_hub.proofs.ConnectionLemmas.{with_rest-same}
use Rattle.mi_hub.proofs.LineLemmas.{ended_nil, lines_from-nothing, rest_from-nothing, from_ended, from_unended}
use Rattle.mi_hub.proofs.ServedLemmas.{served_none, served_one}

-- ---- a line's end

pub no_last : (text : List ℕ) (x : ℕ) → ◌≡◌ {A = List ℕ} [] (text ++ x ∷ []) → ⊥
no_last [] x e = absurd (cc)
no_last (t ∷ text) x e = absurd (cc)

-- what stands before the last byte is one text
pub cut_last : (xs rest text : List ℕ) (x y : ℕ) → xs ≡ rest ++ x ∷ [] → xs ≡ text ++ y ∷ [] → rest ≡ text
cut_last xs rest text x y p q =
    let both : rest ++ x ∷ [] ≡ text ++ y ∷ [] = sym p ∙ q in
    let len : length rest ≡ length text = omega (arith, ap length both, length-append rest (x ∷ []), length-append text (y ∷ [])) in
    sym (take-append_seam rest (x ∷ [])) ∙ ap (λ n. take n (rest ++ x ∷ [])) len ∙ ap (take (length text)) both ∙ take-append_seam text (y ∷ [])

pub whole_line : (text : List ℕ) → ended text ≡ []
    → (lines_of (text ++ 10 ∷ []) ≡ option_to_list (ended_line (marked text))) × (rest_of (text ++ 10 ∷ []) ≡ Some [])
whole_line text h =
    let parts = from_ended (Some []) text [] h in
    let none = from_unended (Some []) [] ended_nil in (
      sym (lines_from-nothing (text ++ 10 ∷ [])) ∙ parts.0 ∙ ap (λ ls. option_to_list (ended_line (marked text)) ++ ls) none.0
          ∙ append-nil (option_to_list (ended_line (marked text))),
      sym (rest_from-nothing (text ++ 10 ∷ [])) ∙ parts.1 ∙ none.1,
    )

pub line_before : (bytes text : List ℕ) (last : ℕ) (found : Option Asked) → IsWholeLine bytes → bytes ≡ text ++ last ∷ []
    → found ≡ ended_line (marked text) → option_to_list found ≡ lines_of bytes
line_before bytes text last found whole parts is =
    ap option_to_list (is ∙ ap (λ t. ended_line (marked t)) (cut_last bytes text whole.0 last 10 parts whole.1))
    ∙ sym (ap lines_of whole.1 ∙ (whole_line whole.0 whole.2).0)

pub never_empty : {A : Type 0} (bytes : List ℕ) → IsWholeLine bytes → length bytes ≡ 0 → A
never_empty [] whole none = absurd (no_last whole.0 10 whole.1)
never_empty (b ∷ bytes) whole none = absurd (omega arith)

-- ---- the event

served_by : (conn : ℕ) (lines : List Asked) (out : List ℕ) (changed : Bool) (s t : HeldDatabase) → AnswersOne conn s lines out changed t
    → Served (MayGive conn) s lines out t
served_by conn [] out changed s t p =
    subst (λ o. Served (MayGive conn) s [] o t) (sym p.0) (subst (λ u. Served (MayGive conn) s [] [] u) (sym p.2) (served_none (MayGive conn) s))
served_by conn (line ∷ []) out changed s t p =
    subst (λ o. Served (MayGive conn) s (line ∷ []) o t) (sym p.1)
    (served_one (MayGive conn) s t line p.0 (answer_given conn s t line p.0 changed p.2))
served_by conn (line ∷ other ∷ lines) out changed s t p = absurd p

-- the connection has no rest before it, and none behind it
pub asks_line : (conn : ℕ) (line out : List ℕ) (changed : Bool) (old new : HubState) → rest_at conn old.attached ≡ Some (Some []) → IsWholeLine line
    → AnswersOne conn old.held (lines_of line) out changed new.held → new.attached ≡ old.attached → AsksLine conn line out changed old new
asks_line conn line out changed old new here whole answered same =
    let rest : rest_from (Some []) line ≡ Some [] = rest_from-nothing line ∙ ap rest_of whole.1 ∙ (whole_line whole.0 whole.2).1 in record {
      done = (
        Some [],
        here,
        subst (λ ls. Served (MayGive conn) old.held ls out new.held) (sym (lines_from-nothing line))
            (served_by conn (lines_of line) out changed old.held new.held answered),
        same ∙ sym (with_rest-same conn (Some []) old.attached here) ∙ ap (λ r. with_rest conn r old.attached) (sym rest),
      );
      answered = answered;
    }

pub if_ok_more : {T E : Type 0} {P Q : T → Type 0} (r : Result T E) → ((v : T) → P v → Q v) → IfOk r P → IfOk r Q
if_ok_more (Ok v) more p = more v p
if_ok_more (Err e) more p = tt
