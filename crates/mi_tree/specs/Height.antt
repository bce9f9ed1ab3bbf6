-- How many nodes a balanced tree of a height has at least: one less than a Fibonacci number.
--     fib      the Fibonacci numbers 0, 1, 1, 2, 3, 5, ..
--     HasEnough      a tree of height h has at least fib (h + 2) - 1 nodes
use Rattle.std.specs.Prelude.{◌+◌, ◌≤◌, ℕ, zero, suc}
use Rattle.mi_tree.specs.BinaryTree.{BinaryTree, forks, height, IsEven}

abbrev pub fib_next : ℕ × ℕ → ℕ × ℕ
fib_next (a, b) = (b, a + b)

-- two Fibonacci numbers side by side
abbrev pub fibs : ℕ → ℕ × ℕ
fibs zero = (0, 1)
fibs (suc n) = fib_next (fibs n)

abbrev pub fib : ℕ → ℕ
fib n = (fibs n).0

abbrev pub HasEnough : Type 0
HasEnough = (t : BinaryTree) → IsEven t → fib (suc (suc (height t))) ≤ forks t + 1
