-- What a linear congruential generator draws, with the multiplier and the increment of Knuth's MMIX.
use Rattle.std.specs.Prelude.{ℕ, ◌+◌, ◌*◌, ◌/◌, ◌%◌, ◌^◌, max}

-- the state after a draw, of 64 bits
abbrev pub drawn : ℕ → ℕ
drawn state = (state * 6364136223846793005 + 1442695040888963407) % 2 ^ 64

-- the number below n that this state is, by its upper 31 bits; zero where n is
abbrev pub number_below : ℕ → ℕ → ℕ
number_below n state = (state / 2 ^ 33) % max n 1
