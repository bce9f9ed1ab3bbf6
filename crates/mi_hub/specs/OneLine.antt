-- One whole line that a connection asks, and what is said of it: of "undo⏎" a reply, and whether anything may have changed; of "⏎" nothing.
use Rattle.std.specs.Prelude.{◌≡◌, ℕ, List, [], ◌∷◌, ◌++◌, Bool, false}
use Rattle.mi_commands.specs.Asked.{Asked}
use Rattle.mi_commands.specs.Answer.{MayAnswer}
use Rattle.mi_commands.specs.Holder.{HeldDatabase}
use Rattle.mi_hub.specs.Ended.{ended}
use Rattle.mi_hub.specs.Lines.{lines_of}
use Rattle.mi_hub.specs.Served.{with_newline}
use Rattle.mi_hub.specs.Run.{HubState, piece, Done}

-- a text without newlines, and a newline
abbrev pub IsWholeLine : List ℕ → Type 0
IsWholeLine line = (text : List ℕ) × (line ≡ text ++ 10 ∷ []) × (ended text ≡ [])

-- From s, a connection asks what one newline ends: a line, out is its reply, and `changed` is said of it; or no line, and nothing has changed.
abbrev pub AnswersOne : ℕ → HeldDatabase → List Asked → List ℕ → Bool → HeldDatabase → Type 0
AnswersOne conn s [] out changed t = (out ≡ []) × (changed ≡ false) × (t ≡ s)
AnswersOne conn s (line ∷ []) out changed t = (reply : List ℕ) × (out ≡ with_newline reply) × MayAnswer conn s line reply changed t
AnswersOne conn s (line ∷ other ∷ lines) out changed t = ⊥

-- From old, the event of this line's bytes is done, and new is left; `changed` is said of it.
pub record AsksLine (conn : ℕ) (line out : List ℕ) (changed : Bool) (old new : HubState) : Type 0 where
  pub done : Done old (piece conn line) out new
  pub answered : AnswersOne conn old.held (lines_of line) out changed new.held
