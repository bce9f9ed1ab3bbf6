-- How many comparisons a look-up makes at most: two for each binary digit of the table's size, and one more.
use Rattle.std.specs.Prelude.{ℕ, zero, suc, ◌+◌, ◌*◌, ◌/◌, ◌^◌, ◌<◌, ◌≤◌}

-- the number of binary digits, by halving at most so many times
abbrev pub halvings : ℕ → ℕ → ℕ
halvings zero n = 0
halvings (suc most) zero = 0
halvings (suc most) (suc n) = suc (halvings most (suc n / 2))

-- the number of binary digits of n, which is 0 for 0
abbrev pub binary_digits : ℕ → ℕ
binary_digits n = halvings n n

abbrev pub look_up_bound : ℕ → ℕ
look_up_bound n = 2 * binary_digits n + 1

abbrev pub LookUpsAreBounded : Type 0
LookUpsAreBounded = (n b : ℕ) → n < 2 ^ b → look_up_bound n ≤ 2 * b + 1
