-- The lines of a base: each is a JSON value, compact, and a newline.
--     line_text, lines_text      the text of a line, and of lines one behind another
--     IsFlat      a value without floats that isn't nested too deep
--     IsPlain      a value that its line is read as
use Rattle.std.specs.Prelude.{◌≡◌, ◌≤◌, ℕ, List, [], ◌∷◌, ◌++◌, false, Some}
use Rattle.std.specs.Str.{IsUtf8}
use Rattle.serde_json.specs.Data.{Data, depth}
use Rattle.serde_json.specs.Read.{read, max_depth}
use Rattle.serde_json.specs.Written.{compact_text, has_float}

-- of the array 1, 2: `[1,2]⏎`
abbrev pub line_text : Data → List ℕ
line_text d = compact_text d ++ 10 ∷ []

abbrev pub lines_text : List Data → List ℕ
lines_text [] = []
lines_text (d ∷ ds) = line_text d ++ lines_text ds

pub record IsFlat (d : Data) : Type 0 where
  pub whole : has_float d ≡ false
  pub shallow : depth d ≤ max_depth

pub record IsPlain (d : Data) : Type 0 where
  pub whole : has_float d ≡ false
  pub utf8 : IsUtf8 (compact_text d)
  pub reads : read (compact_text d) ≡ Some d
