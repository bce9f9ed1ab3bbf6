-- A number as a list of truth values, the lowest binary digit first.
use Rattle.std.specs.Prelude.{ℕ, zero, suc, ◌/◌, ◌%◌, ◌==◌, Bool, List, [], ◌∷◌}

-- its lowest digits, so many
abbrev pub flags : ℕ → ℕ → List Bool
flags zero bits = []
flags (suc count) bits = (bits % 2 == 1) ∷ flags count (bits / 2)
