-- Laws of lines, as clauses state them.
use Rattle.std.specs.Prelude.{◌≡◌, ℕ, List, [], ◌++◌, Some}
use Rattle.mi_hub.specs.Ended.{ended}
use Rattle.mi_hub.specs.Lines.{Rest, marked, lines_of, rest_of, lines_from, rest_from}

-- x stands for the rest r: it is the rest, or where r is the mark any over-long text
pub record StandsFor (x : List ℕ) (r : Rest) : Type 0 where
  pub unended : ended x ≡ []
  pub mark : marked x ≡ r

-- The lines of a followed by b are those of a, and then those of a's rest followed by b.
abbrev pub LinesInPieces : Type 0
LinesInPieces = (a b x : List ℕ) → StandsFor x (rest_of a) → (lines_of (a ++ b) ≡ lines_of a ++ lines_of (x ++ b)) × (rest_of (a ++ b) ≡ rest_of (x ++ b))

-- The same where the rest alone is kept.
abbrev pub LinesFromRests : Type 0
LinesFromRests = (a b : List ℕ) → (lines_of (a ++ b) ≡ lines_of a ++ lines_from (rest_of a) b) × (rest_of (a ++ b) ≡ rest_from (rest_of a) b)

-- With nothing before, as from the attach on, they are the lines and the rest of the bytes alone.
abbrev pub LinesFromNothing : Type 0
LinesFromNothing = (bytes : List ℕ) → (lines_from (Some []) bytes ≡ lines_of bytes) × (rest_from (Some []) bytes ≡ rest_of bytes)
