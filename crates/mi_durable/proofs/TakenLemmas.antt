-- What is kept is taken again: a line is answered by what the database is and by how many sessions are held, whoever holds them.
-- Cited by `laws::kept_lines_are_taken`.
use Rattle.std.proofs.Common.{◌≡◌, ◌⊎◌, ℕ, List, [], ◌∷◌, Bool, true, false, cond, not, ◌&&◌}
use Rattle.std.proofs.Common.{Option, Result, Ok, Err, refl, sym, ap, ◌∙◌, subst, inl, inr, true≢false}
use Rattle.mi_value.specs.declared.refusal.Refusal.{Refusal}
use Rattle.mi_value.specs.declared.refusal.Refusal.TheVariants.{Busy}
use Rattle.mi_model.specs.Database.{Database}
use Rattle.mi_request.specs.Lines.{command_line}
use Rattle.mi_request.specs.Commands.{keeps_out}
use Rattle.mi_request.specs.declared.request.Request.{Request}
use Rattle.mi_request.specs.declared.request.Request.TheVariants.{Session}
use Rattle.mi_request.specs.declared.request.SessionCommand.TheVariants.{Reserve}
use Rattle.mi_protocol.specs.Binding.{bound_command}
use Rattle.mi_protocol.specs.Replies as say
use Rattle.mi_protocol.specs.declared.command.Command.{Command}
use Rattle.mi_protocol.specs.declared.command.Command.TheVariants as command
use Rattle.mi_commands.specs.Asked.{Asked, text, too_long}
use Rattle.mi_commands.specs.Answer.{command_answer, command_of, answer, command_changes, line_changes, MayAnswer}
use Rattle.mi_commands.specs.Holder.{HeldDatabase, is_busy, held_by}
use Rattle.mi_commands.specs.Performed.{effect}
use Rattle.mi_commands.specs.Told.{may_change}
use Rattle.mi_commands.specs.declared.holder.Holder.{Holder}
use Rattle.mi_hub.specs.Lines.{lines_of}
use Rattle.mi_hub.specs.Served.{with_newline}
use Rattle.mi_hub.specs.OneLine.{AnswersOne}
use Rattle.mi_replay.specs.Replayed.{replayer, IsSame}
use Rattle.mi_replay.proofs.AnswerLemmas.{change_free, held_by_holder}
use Rattle.mi_durable.specs.Replay.{IsTaken, IsForMemory, KeptLinesAreTaken, ReservesAreTaken}

abbrev on : Database → Option Holder → HeldDatabase
on d o = record { database = d; holder = o }

-- ---- what is said of a line

module _ (d : Database) (o p : Option Holder) (conn : ℕ) (free : is_busy o conn ≡ false) (mine : is_busy p replayer ≡ false)
    (count : held_by replayer p ≡ held_by conn o) where
  command_again : (c : Result Command Refusal) → command_changes (on d p) replayer c ≡ command_changes (on d o) conn c
  command_again (Ok c) = ap (λ n. may_change c ((effect d c).says n)) count
  command_again (Err e) = refl

  request_again : (r : Result Request Refusal)
      → command_changes (on d p) replayer (command_of (on d p) replayer r) ≡ command_changes (on d o) conn (command_of (on d o) conn r)
  request_again (Err e) = refl
  request_again (Ok r) =
      ap (λ b. command_changes (on d p) replayer (cond (keeps_out r && b) (Err Busy) (bound_command d.catalog r))) mine
      ∙ command_again (cond (keeps_out r && false) (Err Busy) (bound_command d.catalog r))
      ∙ sym (ap (λ b. command_changes (on d o) conn (cond (keeps_out r && b) (Err Busy) (bound_command d.catalog r))) free)

  line_again : (line : Asked) → line_changes (on d p) replayer line ≡ line_changes (on d o) conn line
  line_again (text t) = request_again (command_line t)
  line_again too_long = refl

changes_again : (conn : ℕ) (line : Asked) (s t : HeldDatabase) → IsSame s t → line_changes s conn line ≡ true → line_changes t replayer line ≡ true
changes_again conn line s t same changes =
    let free = change_free s conn line changes in
    let count : held_by replayer t.holder ≡ held_by conn s.holder = same.1 ∙ sym (held_by_holder conn s.holder free) in
    subst (λ d. line_changes (on d t.holder) replayer line ≡ true) (sym same.0)
    (line_again s.database s.holder t.holder conn free same.2 count line ∙ changes)

-- ---- a replay takes it

-- an answer to a change, unless memory is wanting
taken_by : (line : Asked) (out reply : List ℕ) (changed : Bool) (s t : HeldDatabase) → out ≡ with_newline reply
    → MayAnswer replayer s line reply changed t → line_changes s replayer line ≡ true → IsTaken changed out ⊎ IsForMemory out
taken_by line out reply changed s t written (inl given) changes = inl (inl (given.1 ∙ changes))
taken_by line out reply changed s t written (inr lacking) changes = inr (written ∙ ap with_newline lacking.1.0)

taken_again : (conn : ℕ) (lines : List Asked) (out again : List ℕ) (changed : Bool) (s t new later : HeldDatabase) → IsSame s t
    → AnswersOne conn s lines out true new → AnswersOne replayer t lines again changed later → IsTaken changed again ⊎ IsForMemory again
taken_again conn [] out again changed s t new later same p q = absurd (true≢false p.1)
taken_again conn (line ∷ []) out again changed s t new later same p q =
    taken_by line again q.0 changed t later q.1 q.2 (changes_again conn line s t same (said p.2))
  where
    said : MayAnswer conn s line p.0 true new → line_changes s conn line ≡ true
    said (inl given) = sym given.1
    said (inr lacking) = absurd (true≢false lacking.2)
taken_again conn (line ∷ other ∷ lines) out again changed s t new later same p q = absurd p

pub kept_lines_are_taken : KeptLinesAreTaken
kept_lines_are_taken conn line out again changed old new start end kept same asked =
    taken_again conn (lines_of line) out again changed old.held start.held new.held end.held same kept.answered asked.answered

-- ---- a reserve

reserve_says : (s : HeldDatabase) (t : List ℕ) (changes sessions : ℕ) → command_line t ≡ Ok (Session (Reserve changes sessions))
    → is_busy s.holder replayer ≡ false → (answer s replayer (text t)).0 ≡ say.done
reserve_says s t changes sessions is free =
    ap (λ r. (command_answer s replayer (command_of s replayer r)).0) is
    ∙ ap (λ b. (command_answer s replayer (cond b (Err Busy) (Ok (command.Session (Reserve changes sessions))))).0) free

reserved_by : (t : List ℕ) (out : List ℕ) (changed : Bool) (s later : HeldDatabase) (lines : List Asked) → lines ≡ text t ∷ []
    → (answer s replayer (text t)).0 ≡ say.done → AnswersOne replayer s lines out changed later → IsTaken changed out ⊎ IsForMemory out
reserved_by t out changed s later lines is done asked =
    let p = subst (λ ls. AnswersOne replayer s ls out changed later) is asked in
    elim p.2 [
      | inl given ↦ inl (inr (p.1 ∙ ap with_newline (given.0.0 ∙ ap (say.reply_text s.database.catalog) done)))
      | inr lacking ↦ inr (p.1 ∙ ap with_newline lacking.1.0)
    ]

pub reserves_are_taken : ReservesAreTaken
reserves_are_taken line t again changes sessions changed start end one is free asked =
    reserved_by t again changed start.held end.held (lines_of line) one (reserve_says start.held t changes sessions is free) asked.answered
