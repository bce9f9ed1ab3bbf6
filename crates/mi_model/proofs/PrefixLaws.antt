-- A key, or the first values of one, against rows that follow one another.
-- Cited by `QueryLaws`, `mi_multi`, `mi_order` and `mi_plain`.
use Rattle.std.proofs.Common.{◌≡◌, ℕ, true, false, Some, List, [], ◌∷◌, slice_get, refl, ap, sym, ◌∙◌, subst}
use Rattle.std.specs.Ordering.{is_gt, ordering_then, ordering_reverse}
use Rattle.std.specs.Cmp.{IsTotalOrder, alike_right}
use Rattle.std.specs.declared.cmp.Ordering.{Ordering}
use Rattle.std.specs.declared.cmp.Ordering.TheVariants.{Less, Equal, Greater}
use Rattle.mi_value.specs.declared.value.Value.{Value}
use Rattle.mi_value.specs.declared.compare.KeyPart.{KeyPart}
use Rattle.mi_value.specs.Order.{compare_part, compare_key, compare_to_part, compare_prefix}
use Rattle.mi_value.proofs.OrderLaws.{directed_total}
use Rattle.mi_catalog.specs.declared.index.Index.{Index}
use Rattle.mi_catalog.specs.Key.{parts_or_id, record_or_id}
use Rattle.mi_model.specs.Table.{Table, row}
use Rattle.mi_model.specs.View.{compare_ids, compare_to_id}

-- of less, equal and greater, the first is not before the second
abbrev pub NotBelow : Ordering → Ordering → Type 0
NotBelow p q = (q ≡ Greater → p ≡ Greater) × (p ≡ Less → q ≡ Less)

-- values against two that follow one another
part_falls : {A : Type 0} {D : A → A → Ordering} → IsTotalOrder D → (v x y : A) (p q : Ordering)
    → D x y ≡ Less → NotBelow (ordering_then (D v x) p) (ordering_then (D v y) q)
part_falls {A} {D} o v x y p q l =
    elim (D v y) as (λ r. D v y ≡ r → NotBelow (ordering_then (D v x) p) (ordering_then r q)) [
      | Less ↦ λ is. ((λ h. absurd (let k : Less ≡ Greater = h in cc)), λ _. refl)
      | Equal ↦ λ is.
          let above : D v x ≡ Greater = o.congr v y x is ∙ o.antisymm y x ∙ ap ordering_reverse l in
          ((λ _. ap (λ r. ordering_then r p) above), λ h. absurd (let k : Greater ≡ Less = sym (ap (λ r. ordering_then r p) above) ∙ h in cc))
      | Greater ↦ λ is.
          let above : D v x ≡ Greater = o.antisymm v x ∙ ap ordering_reverse (o.trans x y v l (o.antisymm y v ∙ ap ordering_reverse is)) in
          ((λ _. ap (λ r. ordering_then r p) above), λ h. absurd (let k : Greater ≡ Less = sym (ap (λ r. ordering_then r p) above) ∙ h in cc))
    ] refl

then_falls : (r p q : Ordering) → NotBelow p q → NotBelow (ordering_then r p) (ordering_then r q)
then_falls Less p q falls = ((λ h. h), λ h. h)
then_falls Equal p q falls = falls
then_falls Greater p q falls = ((λ h. h), λ h. h)

-- a key that is greater than a record is greater than one before it, and one that is less is less than one behind it
pub prefix_falls : (ps : List KeyPart) (key r s : List Value) → is_gt (compare_key ps r s) ≡ false
    → NotBelow (compare_prefix ps key r) (compare_prefix ps key s)
prefix_falls ps [] r s upto = ((λ h. h), λ h. h)
prefix_falls [] (v ∷ vs) r s upto = ((λ h. h), λ h. h)
prefix_falls (p ∷ ps) (v ∷ vs) r s upto =
    elim (compare_part p r s) as (λ (o : Ordering). compare_part p r s ≡ o → is_gt (ordering_then o (compare_key ps r s)) ≡ false
    → NotBelow (compare_prefix (p ∷ ps) (v ∷ vs) r) (compare_prefix (p ∷ ps) (v ∷ vs) s)) [
      | Less ↦ λ is u. part_falls (directed_total p.descending) (Some v) (slice_get r p.column)
          (slice_get s p.column) (compare_prefix ps vs r) (compare_prefix ps vs s) is
      | Equal ↦ λ is u.
          let same : compare_to_part p v r ≡ compare_to_part p v s = alike_right
          (directed_total p.descending) (slice_get r p.column) (slice_get s p.column) (Some v) is in
          let falls : NotBelow (ordering_then (compare_to_part p v s) (compare_prefix ps vs r))
          (ordering_then (compare_to_part p v s) (compare_prefix ps vs s)) = then_falls (compare_to_part p v s) _ _ (prefix_falls ps vs r s u) in
          subst (λ o. NotBelow (ordering_then o (compare_prefix ps vs r)) (ordering_then (compare_to_part p v s) (compare_prefix ps vs s))) (sym same) falls
      | Greater ↦ λ is u. absurd (let h : true ≡ false = u in cc)
    ] refl upto

-- the same of the ids of a table
pub key_falls : (i : Index) (t : Table) (key : List Value) (a b : ℕ)
    → is_gt (compare_ids i t a b) ≡ false → NotBelow (compare_to_id i t key a) (compare_to_id i t key b)
key_falls i t key a b upto = prefix_falls (parts_or_id i.parts) key (record_or_id i.parts (row t a)) (record_or_id i.parts (row t b)) upto
