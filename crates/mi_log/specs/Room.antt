-- A file with room behind what was written to it: of "ab⏎\0\0" with its end at 3 what was written is "ab⏎", and two bytes are room.
use Rattle.std.specs.Prelude.{◌≡◌, ◌≤◌, ℕ, List, [], ◌∷◌, take, drop, length, Bool, true, ◌&&◌, ◌==◌, Option, option_map}
use Rattle.std.specs.Option.{ForSome}

-- what stands in front of the end, where a file tells its bytes
abbrev pub front_of : ℕ → Option (List ℕ) → Option (List ℕ)
front_of end bytes = option_map (λ all. take end all) bytes

-- each of these bytes is zero
abbrev pub are_zeros : List ℕ → Bool
are_zeros [] = true
are_zeros (b ∷ bs) = (b == 0) && are_zeros bs

-- A file of this size has been written to up to this end, and its room is zeros.
abbrev pub IsRoomy : Option (List ℕ) → ℕ → ℕ → Type 0
IsRoomy bytes end size = (end ≤ size) × ForSome bytes (λ all. (size ≡ length all) × (are_zeros (drop end all) ≡ true))
