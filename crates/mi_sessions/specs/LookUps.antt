-- How many comparisons look-ups may make.
use Rattle.std.specs.Prelude.{ℕ, ◌+◌, ◌*◌, ◌≤◌, IfSome}
use Rattle.std.specs.declared.option.Option.{Option}

-- at most this many look-ups of a table of n rows are counted, each within the bound of one; with no bound nothing is said
abbrev pub WithinLookUps : (ℕ → Option ℕ) → ℕ → ℕ → ℕ → ℕ → Type 0
WithinLookUps bound looks n before after = IfSome (bound n) (λ b. after ≤ before + looks * b)

-- at most one look-up and one comparison for each of so many rows
abbrev pub WithinRange : (ℕ → Option ℕ) → ℕ → ℕ → ℕ → ℕ → Type 0
WithinRange bound rows n before after = IfSome (bound n) (λ b. after ≤ before + b + rows)
