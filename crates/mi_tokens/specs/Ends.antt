-- Which bytes end a value inside an object or an array, and how the name of a member is written.
use Rattle.std.specs.Prelude.{ℕ, List, [], ◌∷◌, ◌++◌, Bool, ◌||◌, ◌==◌}

abbrev pub is_end : ℕ → Bool
is_end c = (c == 44) || (c == 125) || (c == 93)

-- a name without escapes, with its quotation marks and its colon
abbrev pub name_text : List ℕ → List ℕ
name_text s = 34 ∷ (s ++ (34 ∷ (58 ∷ [])))
