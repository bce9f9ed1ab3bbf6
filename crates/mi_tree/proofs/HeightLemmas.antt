-- A balanced tree is not high.
--     has_enough      it has at least as many nodes as a Fibonacci number says
--     short, shorter, low_enough      its height, by the number of binary digits of its size, and for fewer than 2^32 nodes
-- Cited by `balance::balance`, `laws::trees_have_enough`, `CompareLemmas`, `FrameLemmas`, `PathLemmas` and 3 more.
use Rattle.std.proofs.Common.{◌≡◌, ℕ, zero, suc, ◌+◌, ◌*◌, ◌^◌, ◌<◌, ◌≤◌, max, ◌⊎◌, inl, inr, refl, sym, subst, arith}
use Rattle.std.proofs.Math.Nat.{pow-suc}
use Rattle.mi_tree.specs.BinaryTree.{BinaryTree, Tip, Fork, forks, height, DifferByAtMost, IsEven}
use Rattle.mi_tree.specs.Height.{fib, HasEnough}
use Rattle.mi_tree.specs.declared.walk.TheConstants.{MAX_LEVELS}

pub at_most_or_more : (a b : ℕ) → (a ≤ b) ⊎ (b + 1 ≤ a)
at_most_or_more zero b = inl (omega arith)
at_most_or_more (suc a) zero = inr (omega arith)
at_most_or_more (suc a) (suc b) = elim (at_most_or_more a b) [ inl h ↦ inl (omega arith) | inr h ↦ inr (omega arith) ]

fib_two : (n : ℕ) → fib (suc (suc n)) ≡ fib n + fib (suc n)
fib_two n = refl

fib_positive : (n : ℕ) → 1 ≤ fib (suc n)
fib_positive zero = omega arith
fib_positive (suc n) = let i = fib_positive n in let e = fib_two n in omega arith

fib_mono : (m n : ℕ) → m ≤ n → (fib m ≤ fib n) × (fib (suc m) ≤ fib (suc n))
fib_mono zero n h = (omega arith, fib_positive n)
fib_mono (suc m) zero h = absurd (omega arith)
fib_mono (suc m) (suc n) h = let i = fib_mono m n (omega arith) in let e = fib_two m in let f = fib_two n in (i.1, omega arith)

fork_of : (a b n k m : ℕ) → m ≡ a → a ≤ b + 1 → fib (suc (suc a)) ≤ n → fib (suc (suc b)) ≤ k → fib (suc (suc (suc m))) ≤ n + k
fork_of a b n k m e near f g =
    let i = (fib_mono (suc a) (suc (suc b)) (omega arith)).0 in let j = fib_two (suc a) in
    let h : fib (suc (suc (suc a))) ≤ n + k = omega arith in subst (λ z. fib (suc (suc (suc z))) ≤ n + k) (sym e) h

fork_has : (a b n k m : ℕ) → m ≡ max a b + 1 → DifferByAtMost 1 a b → fib (suc (suc a)) ≤ n → fib (suc (suc b)) ≤ k → fib (suc (suc m)) ≤ n + k
fork_has a b n k zero e d f g = absurd (omega arith)
fork_has a b n k (suc m) e d f g = elim (at_most_or_more a b) [
  | inl h ↦ let i : m ≡ b = omega arith in let w = fork_of b a k n m i d.1 g f in omega arith
  | inr h ↦ let i : m ≡ a = omega arith in fork_of a b n k m i d.0 f g
]

pub has_enough : HasEnough
has_enough Tip e = omega arith
has_enough (Fork l r q) e =
    let i = has_enough l e.1 in let j = has_enough q e.2 in
    let w = fork_has (height l) (height q) (forks l + 1) (forks q + 1) (max (height l) (height q) + 1) refl e.0 i j in omega arith

-- a Fibonacci number that has passed a power of two
passed : (b n : ℕ) → n ≡ 2 * b → 2 ^ b < fib (suc (suc (suc n)))
passed zero zero e = omega arith
passed zero (suc n) e = absurd (omega arith)
passed (suc b) zero e = absurd (omega arith)
passed (suc b) (suc zero) e = absurd (omega arith)
passed (suc b) (suc (suc n)) e =
    let i = passed b n (omega arith) in let j = fib_two (suc (suc (suc n))) in let k = fib_two (suc (suc n)) in let p = pow-suc 2 b in omega arith

pub short : (t : BinaryTree) → IsEven t → (b : ℕ) → forks t < 2 ^ b → height t ≤ 2 * b
short t e b h = elim (at_most_or_more (height t) (2 * b)) [
  | inl i ↦ i
  | inr i ↦
      let p = passed b (2 * b) refl in let j = has_enough t e in
      let k = (fib_mono (suc (suc (suc (2 * b)))) (suc (suc (height t))) (omega arith)).0 in
      absurd (omega arith)
]

-- one level less than that, where there is a node
passed_less : (b n : ℕ) → n ≡ 2 * b → 2 ^ suc b < fib (suc (suc (suc (suc n))))
passed_less zero zero e = omega arith
passed_less zero (suc n) e = absurd (omega arith)
passed_less (suc b) zero e = absurd (omega arith)
passed_less (suc b) (suc zero) e = absurd (omega arith)
passed_less (suc b) (suc (suc n)) e =
    let i = passed_less b n (omega arith) in let j = fib_two (suc (suc (suc (suc n)))) in let k = fib_two (suc (suc (suc n))) in let p = pow-suc 2 (suc b) in
    omega arith

pub shorter : (t : BinaryTree) → IsEven t → (b : ℕ) → forks t < 2 ^ b → 1 ≤ forks t → height t + 1 ≤ 2 * b
shorter t e zero h k = absurd (omega arith)
shorter t e (suc b) h k = elim (at_most_or_more (height t + 1) (2 * suc b)) [
  | inl i ↦ i
  | inr i ↦
      let p = passed_less b (2 * b) refl in let j = has_enough t e in
      let f = (fib_mono (suc (suc (suc (suc (2 * b))))) (suc (suc (height t))) (omega arith)).0 in
      absurd (omega arith)
]

pub low_enough : (t : BinaryTree) → IsEven t → forks t < 2 ^ 32 → height t ≤ MAX_LEVELS
low_enough t e h = elim (at_most_or_more (height t) MAX_LEVELS) [
  | inl i ↦ i
  | inr i ↦ let j = has_enough t e in let k : fib (MAX_LEVELS + 3) ≤ fib (suc (suc (height t))) = (fib_mono (MAX_LEVELS + 3) (suc (suc (height t))) (omega arith)).0 in absurd (omega arith)
]
