-- How bytes are kept and ended so that their lines stay.
use Rattle.std.specs.Prelude.{◌≡◌, ◌⊎◌, ◌<◌, ℕ, List, [], ◌∷◌, ◌++◌, length, option_to_list, Some}
use Rattle.mi_value.specs.declared.limits.TheConstants.{MAX_LINE}
use Rattle.mi_hub.specs.Ended.{ended}
use Rattle.mi_hub.specs.Lines.{lines_of, rest_of, last_line}

-- These bytes have the same lines, and leave the same for the next; of an over-long line one may have fewer than the other.
abbrev pub SameLines : List ℕ → List ℕ → Type 0
SameLines a b = (lines_of a ≡ lines_of b) × (rest_of a ≡ rest_of b)

-- What no newline ended has become a line, as the close of a connection makes it one.
abbrev pub EndsAsClosed : List ℕ → List ℕ → Type 0
EndsAsClosed old new = (lines_of new ≡ lines_of old ++ option_to_list (last_line (rest_of old))) × (rest_of new ≡ Some [])

-- It is as long as a line may be and ends in a carriage return: with one more, for the newline to drop, it would be over-long.
abbrev pub IsFull : List ℕ → Type 0
IsFull old = (length old ≡ MAX_LINE) × (text : List ℕ) × (old ≡ text ++ 13 ∷ [])

-- Nothing more comes behind these bytes, in which no newline stands.
abbrev pub Ends : List ℕ → List ℕ → Type 0
Ends old new = EndsAsClosed old new ⊎ (IsFull old × (new ≡ []))

-- they are the beginning of a line that is longer than a line may be
abbrev pub IsOverLong : List ℕ → Type 0
IsOverLong bytes = (MAX_LINE < length bytes) × (ended bytes ≡ [])

-- of a piece nothing is left in front of its first newline, and all from there on
abbrev pub IsFromNewline : List ℕ → List ℕ → Type 0
IsFromNewline piece kept =
    (dropped : List ℕ) × (piece ≡ dropped ++ kept) × (ended dropped ≡ []) × ((kept ≡ []) ⊎ ((more : List ℕ) × (kept ≡ 10 ∷ more)))

-- what is kept of a piece behind what waits: all of it, and behind the beginning of an over-long line what stands from the first newline on
abbrev pub IsKept : List ℕ → List ℕ → List ℕ → Type 0
IsKept waits piece kept = (IsOverLong waits × IsFromNewline piece kept) ⊎ (¬ IsOverLong waits × (kept ≡ piece))

-- what waits has become what waited and, behind it, what is kept of a piece
abbrev pub IsFilled : List ℕ → List ℕ → List ℕ → Type 0
IsFilled old piece new = (kept : List ℕ) × (new ≡ old ++ kept) × IsKept old piece kept
