-- A line as it is asked.
use Rattle.std.specs.Prelude.{ℕ, List}
use Rattle.mi_commands.specs.declared.line.Line.{Line}
use Rattle.mi_commands.specs.declared.line.Line.TheVariants as code

-- its text, or the mark that it was over-long
pub data Asked : Type 0 where
  text : List ℕ → Asked
  too_long : Asked

-- the line that the code hands on
abbrev pub asked_of : Line → Asked
asked_of (code.Text t) = text t.now
asked_of code.TooLong = too_long
