-- What reading and cutting do to the bytes of a journal's file, where it tells them.
use Rattle.std.specs.Prelude.{◌≡◌, ◌+◌, ◌≤◌, ◌<◌, ℕ, List, take, drop, length, ⊤, Option, Some, None, option_map, Result, MatchResult, [], ◌∷◌, ◌==◌, if◌then◌else◌}
use Rattle.std.specs.Io.KnownBytes.{Consumes, IsAtEnd}

-- The text of a journal: what stands in front of the first zero byte, which no line has. Of "ab⏎\0cd⏎" it is "ab⏎": room follows, or a page that
-- a stop of the machine lost.
abbrev pub text_of : List ℕ → List ℕ
text_of [] = []
text_of (b ∷ bs) = if b == 0 then [] else b ∷ text_of bs

-- known bytes from this one on: of "abc" from 1 on "bc"
abbrev pub from_byte : Option (List ℕ) → ℕ → Option (List ℕ)
from_byte contents at = option_map (λ bytes. drop at bytes) contents

-- a read from this byte on gave what stands there, and nothing only at the end or without room
abbrev pub ReadsFrom : {E : Type 0} → Option (List ℕ) → ℕ → Result ℕ E → List ℕ → Type 0
ReadsFrom contents at r buffer =
    MatchResult r (λ n. Consumes (from_byte contents at) (from_byte contents (at + n)) (take n buffer)
    × (n ≡ 0 → 0 < length buffer → IsAtEnd (from_byte contents at))) (λ _. ⊤)

-- known bytes are cut to so many, of which there are as many at least
abbrev pub IsCutTo : ℕ → Option (List ℕ) → Option (List ℕ) → Type 0
IsCutTo size None new = ⊤
IsCutTo size (Some bytes) new = size ≤ length bytes → new ≡ Some (take size bytes)
