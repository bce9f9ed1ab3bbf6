-- A database in the process of its caller: what it holds, what a line given whole asks, and which bytes of a reply a copy gives.
use Rattle.std.specs.Prelude.{◌≡◌, ℕ, ◌-◌, List, ◌++◌, length, take, drop, min, nat_lt, if◌then◌else◌}
use Rattle.mi_value.specs.declared.limits.TheConstants.{MAX_LINE}
use Rattle.mi_commands.specs.Asked.{Asked, text, too_long}
use Rattle.mi_commands.specs.Holder.{HeldDatabase}
use Rattle.mi_commands.specs.Answer.{MayGive}

-- the database with who holds its open sessions, the reply to the last line, and the text of the schema
pub record EngineState : Type 0 where
  pub held : HeldDatabase
  pub reply : List ℕ
  pub schema : List ℕ

-- the line that a caller hands over whole
abbrev pub line_of : List ℕ → Asked
line_of bytes = if nat_lt MAX_LINE (length bytes) then too_long else text bytes

-- From old a line of a connection may be answered as new has it, and new is left. The text of the schema stays.
abbrev pub Answers : ℕ → EngineState → List ℕ → EngineState → Type 0
Answers conn old line new = MayGive conn old.held (line_of line) new.reply new.held × (new.schema ≡ old.schema)

-- The reply from this byte on is copied to the front of a buffer, as many bytes as both have; the rest of the buffer stays.
abbrev pub IsCopied : List ℕ → ℕ → List ℕ → List ℕ → ℕ → Type 0
IsCopied reply from old new count =
    (count ≡ min (length reply - from) (length old)) × (new ≡ take count (drop from reply) ++ drop count old)
