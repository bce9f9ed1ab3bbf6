-- Comparisons that tags decide.
-- Cited by `compare::compare_item`, `compare::compare_nodes`, `compare::compare_probe`, `compare::compare_sought` and 2 more.
use Rattle.std.proofs.Common.{◌≡◌, ℕ, ◌+◌, ◌*◌, ◌^◌, ◌<◌, Bool, true, inl, inr, Option, Some, sym, ap, ◌∙◌, subst, arith}
use Rattle.std.specs.Cmp.{IsTotalOrder}
use Rattle.std.specs.Ordering.{nat_cmp, ordering_then, ordering_reverse}
use Rattle.std.specs.declared.cmp.Ordering.{Ordering}
use Rattle.std.specs.declared.cmp.Ordering.TheVariants.{Less, Greater}
use Rattle.std.proofs.lemmas.Bool.Decides.{nat_tests}
use Rattle.mi_tree.specs.Order.{IsTagBelow, IsExact, IsProbeBelow, IsProbeAbove}
use Rattle.mi_tree.specs.Probed.{place_at}
use Rattle.mi_tree.specs.Sorted.{IsTagOf, by_stamp, stamped, compared}
use Rattle.mi_tree.proofs.HeightLemmas.{at_most_or_more}

less_cmp : (k l : ℕ) → k < l → nat_cmp k l ≡ Less
less_cmp k l h = grind (arith, nat_tests)

more_cmp : (k l : ℕ) → l < k → nat_cmp k l ≡ Greater
more_cmp k l h = grind (arith, nat_tests)

behind_cmp : (k l i j : ℕ) → k ≡ l → nat_cmp (k * 2 ^ 64 + i) (l * 2 ^ 64 + j) ≡ nat_cmp i j
behind_cmp k l i j h = grind (arith, nat_tests)

module _ {T : Type 0} (order : T → T → Ordering) (tag : T → ℕ) where
  pub at_values : (a b : Option T) (x y : T) (i j : ℕ) → a ≡ Some x → b ≡ Some y
      → compared (by_stamp order) (stamped a i) (stamped b j) ≡ by_stamp order (x, i) (y, j)
  at_values a b x y i j e f = λ t. compared (by_stamp order) (stamped (e t) i) (stamped (f t) j)

  key_of : (a : Option T) (x : T) (k : ℕ) → a ≡ Some x → IsTagOf tag a k → k ≡ tag x
  key_of a x k e h = subst (λ z. IsTagOf tag z k) e h

  -- the tags differ
  pub by_key : IsTotalOrder order → IsTagBelow order tag → (a b : Option T) (x y : T) (k l i j : ℕ)
      → a ≡ Some x → b ≡ Some y → IsTagOf tag a k → IsTagOf tag b l → (k ≡ l → ⊥)
      → nat_cmp k l ≡ compared (by_stamp order) (stamped a i) (stamped b j)
  by_key total below a b x y k l i j e f g h d =
      let p = key_of a x k e g in let q = key_of b y l f h in elim (at_most_or_more k l) [
        | inl le ↦
            let lt : k < l = omega arith in
            less_cmp k l lt ∙ sym (at_values a b x y i j e f ∙ ap (λ o. ordering_then o (nat_cmp i j)) (below x y (omega arith)))
        | inr lt ↦ more_cmp k l (omega arith)
            ∙ sym (at_values a b x y i j e f ∙ ap (λ o. ordering_then o (nat_cmp i j)) (total.antisymm x y ∙ ap ordering_reverse (below y x (omega arith))))
      ]

  -- one tag, which decides
  pub by_stamps : (exact : ℕ → Bool) → IsExact order tag exact → (a b : Option T) (x y : T) (k l i j : ℕ)
      → a ≡ Some x → b ≡ Some y → IsTagOf tag a k → IsTagOf tag b l → k ≡ l → exact k ≡ true
      → nat_cmp i j ≡ compared (by_stamp order) (stamped a i) (stamped b j)
  by_stamps exact law a b x y k l i j e f g h d t =
      let p = key_of a x k e g in let q = key_of b y l f h in
      sym (at_values a b x y i j e f ∙ ap (λ o. ordering_then o (nat_cmp i j)) (law x y (ap exact (sym p) ∙ t) (sym p ∙ d ∙ q)))

  -- tags as numbers, the key with the stamp behind it, where the left key decides
  pub by_number : IsTotalOrder order → IsTagBelow order tag → (exact : ℕ → Bool) → IsExact order tag exact → (a b : Option T) (x y : T) (k l i j : ℕ)
      → a ≡ Some x → b ≡ Some y → IsTagOf tag a k → IsTagOf tag b l → i < 2 ^ 64 → j < 2 ^ 64 → exact k ≡ true
      → nat_cmp (k * 2 ^ 64 + i) (l * 2 ^ 64 + j) ≡ compared (by_stamp order) (stamped a i) (stamped b j)
  by_number total below exact law a b x y k l i j e f g h p q d =
      let differ : (k ≡ l → ⊥) → nat_cmp k l ≡ compared (by_stamp order) (stamped a i) (stamped b j) = by_key total below a b x y k l i j e f g h in
      elim (at_most_or_more k l) [
        | inl le ↦ elim (at_most_or_more l k) [
          | inl ge ↦ let same : k ≡ l = omega arith in behind_cmp k l i j same ∙ by_stamps exact law a b x y k l i j e f g h same d
          | inr lt ↦ less_cmp (k * 2 ^ 64 + i) (l * 2 ^ 64 + j) (omega arith) ∙ sym (less_cmp k l (omega arith)) ∙ differ (λ s. (let t : k ≡ l = s in absurd (omega arith)))
        ]
        | inr lt ↦ more_cmp (k * 2 ^ 64 + i) (l * 2 ^ 64 + j) (omega arith) ∙ sym (more_cmp k l (omega arith)) ∙ differ (λ s. (let t : k ≡ l = s in absurd (omega arith)))
      ]

  -- a probe's tag is another
  pub by_probe : (place : T → Ordering) (probe : Option ℕ) → IsProbeBelow place tag probe → IsProbeAbove place tag probe
      → (a : Option T) (x : T) (k t : ℕ) → a ≡ Some x → IsTagOf tag a k → probe ≡ Some t → (k ≡ t → ⊥)
      → nat_cmp k t ≡ place_at place a
  by_probe place probe below above a x k t e g s d =
      let p = key_of a x k e g in elim (at_most_or_more k t) [
        | inl le ↦ let lt : k < t = omega arith in less_cmp k t lt ∙ sym (ap (place_at place) e ∙ below t s x (omega arith))
        | inr lt ↦ more_cmp k t (omega arith) ∙ sym (ap (place_at place) e ∙ above t s x (omega arith))
      ]
