-- Where the last member of a name stands.
use Rattle.std.specs.Prelude.{ℕ, suc, List, [], ◌∷◌, Bool, true, false, Option, Some, None, bytes_eq}
use Rattle.std.specs.Borrow.{Bor}
use Rattle.mi_tokens.specs.declared.value.Json.{Json}

abbrev pub or_first : Bool → Option ℕ → Option ℕ
or_first here (Some i) = Some (suc i)
or_first true None = Some 0
or_first false None = None

abbrev pub last_at : List ℕ → List (Bor (List ℕ) × Json) → Option ℕ
last_at name [] = None
last_at name (m ∷ ms) = or_first (bytes_eq name m.0.now) (last_at name ms)
