use Rattle.std.proofs.Common.{ℕ, ◌≤◌, take}
use Rattle.std.specs.List.{All}
use Rattle.mi_value.specs.Block.{texts_length}
use Rattle.mi_rows.proofs.rows.longest.Given as goal

-- no row so far has more bytes of texts than the most, nor than any greater number
abbrev pub invariant-rows : goal.invariant-rows
invariant-rows l = (n : ℕ) → l.most ≤ n → All (λ r. texts_length r.1.now ≤ n) (take l.row-index l.rows)
