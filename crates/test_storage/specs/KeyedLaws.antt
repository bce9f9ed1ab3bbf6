-- The order for tests is lawful.
use Rattle.std.proofs.Common.{◌≡◌, ℕ, Bool, true, false, ℤ, pos, List, [], ◌∷◌, Some, None, refl, sym, ap, ◌∙◌, subst, arith}
use Rattle.std.specs.declared.cmp.Ordering.{Ordering}
use Rattle.std.specs.declared.cmp.Ordering.TheVariants.{Less, Equal, Greater}
use Rattle.std.specs.Ordering.{int_cmp, nat_cmp, ordering_reverse}
use Rattle.std.proofs.lemmas.Bool.Decides.{nat_tests}
use Rattle.std.proofs.lemmas.Cmp.{int_cmp_total}
use Rattle.mi_value.specs.declared.value.Value.{Value}
use Rattle.mi_value.specs.declared.value.Value.TheVariants.{Int, Text, Flag}
use Rattle.mi_value.specs.declared.bound.Probe.{Probe}
use Rattle.mi_value.specs.declared.bound.Probe.TheVariants.{Key, Of}
use Rattle.mi_tree.specs.Order.{IsNoLater, IsMonotone, IsTagBelow, IsExact}
use Rattle.test_storage.specs.Keyed.{keyed_order, by_values, by_probe, keyed_tag}

pub tag_below : (b : Bool) → IsTagBelow keyed_order (keyed_tag b)
tag_below false x y h = absurd (omega arith)
tag_below true x y h = grind (arith, nat_tests)

pub tag_exact : (b : Bool) → IsExact keyed_order (keyed_tag b) (λ t. b)
tag_exact false x y e f = absurd cc
tag_exact true x y e f = grind (arith, nat_tests)

later_same : (o : Ordering) → IsNoLater o o
later_same Less = tt
later_same Equal = tt
later_same Greater = tt

int_later : (a b k : ℤ) (o : Ordering) → int_cmp a b ≡ o → (o ≡ Greater → ⊥) → IsNoLater (int_cmp a k) (int_cmp b k)
int_later a b k Greater e n = absurd (n refl)
int_later a b k Equal e n = subst (IsNoLater (int_cmp a k)) (int_cmp_total.congr a b k e) (later_same (int_cmp a k))
int_later a b k Less e n = (elim (int_cmp a k) as (λ o. int_cmp a k ≡ o → IsNoLater o (int_cmp b k)) [
  | Less ↦ λ f. tt
  | Equal ↦ λ f. subst (IsNoLater Equal) (sym (int_cmp_total.antisymm b k ∙ ap ordering_reverse (sym (int_cmp_total.congr a k b f) ∙ e))) tt
  | Greater ↦ λ f. (let before = int_cmp_total.trans k a b (int_cmp_total.antisymm k a ∙ ap ordering_reverse f) e in
      subst (IsNoLater Greater) (sym (int_cmp_total.antisymm b k ∙ ap ordering_reverse before)) tt)
]) refl

same_cmp : (a b : ℕ) → int_cmp (pos a) (pos b) ≡ nat_cmp a b
same_cmp a b = grind (arith, nat_tests)

values_later : (a b : ℕ) (vs : List Value) → (nat_cmp a b ≡ Greater → ⊥) → IsNoLater (by_values a vs) (by_values b vs)
values_later a b [] n = tt
values_later a b (Int k ∷ vs) n = int_later (pos a) (pos b) k (nat_cmp a b) (same_cmp a b) n
values_later a b (Text t ∷ vs) n = tt
values_later a b (Flag f ∷ vs) n = tt

pub probe_later : (k : Probe) → IsMonotone keyed_order (λ v. by_probe v.0 k)
probe_later (Key vs) x y n = values_later x.0 y.0 vs.now n
probe_later (Of r) x y n = tt

-- where a probe has no tag nothing is owed of it
pub without_tag : {X : Type 0} (t : ℕ) → None ≡ Some t → X
without_tag t e = absurd cc
