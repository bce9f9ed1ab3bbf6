-- The keys of a hashed index are lawful, as its chains ask.
use Rattle.std.proofs.Common.{◌≡◌, ℕ, suc, ◌==◌, ◌&&◌, Bool, true, false, List, [], ◌∷◌, length, slice_get, refl, sym, ap, ◌∙◌}
use Rattle.std.proofs.lemmas.Bool.{eqb-true}
use Rattle.std.specs.declared.option.Option.TheVariants.{Some}
use Rattle.std.specs.declared.cmp.Ordering.{Ordering}
use Rattle.std.specs.declared.cmp.Ordering.TheVariants.{Less, Equal, Greater}
use Rattle.std.specs.Ordering.{is_eq, ordering_then, eq_by_cmp}
use Rattle.std.specs.Cmp.{IsTotalOrder, tied_back, IsEquivalence, eq_by_cmp_equiv}
use Rattle.mi_value.specs.declared.value.Value.{Value}
use Rattle.mi_value.specs.declared.compare.KeyPart.{KeyPart}
use Rattle.mi_value.specs.declared.bound.Probe.{Probe}
use Rattle.mi_value.specs.declared.bound.Probe.TheVariants.{Key, Of}
use Rattle.mi_value.specs.Order.{compare_part, compare_key, compare_prefix, compare_to_part}
use Rattle.mi_value.proofs.OrderLaws.{compare_key_total, directed_total, prefix_alike}
use Rattle.mi_order.specs.declared.stored.Stored.{Stored}
use Rattle.mi_order.specs.KeyHashes.{equal_hashes, key_hashes}
use Rattle.mi_order.specs.Orders.{keying_hash, sought_hash, has_one_key, is_whole, is_key_of, KeyingsAreLawful}

both_equal : (a b : Ordering) → ordering_then a b ≡ Equal → (a ≡ Equal) × (b ≡ Equal)
both_equal Less b h = absurd (cc)
both_equal Equal b h = (refl, h)
both_equal Greater b h = absurd (cc)

two_true : (a b : Bool) → (a && b) ≡ true → (a ≡ true) × (b ≡ true)
two_true true b h = (refl, h)
two_true false b h = absurd (let k : false ≡ true = h in cc)

equal_of : (o : Ordering) → is_eq o ≡ true → o ≡ Equal
equal_of Less h = absurd (let k : false ≡ true = h in cc)
equal_of Equal h = refl
equal_of Greater h = absurd (let k : false ≡ true = h in cc)

none_suc : (n : ℕ) → 0 ≡ suc n → ⊥
none_suc n e = cc

suc_inj : {m n : ℕ} → suc m ≡ suc n → m ≡ n
suc_inj {m} {n} e = cc

-- values, one for each part, are of one key alone
whole_same : (ps : List KeyPart) (vs r s : List Value) → length vs ≡ length ps
    → compare_prefix ps vs r ≡ Equal → compare_prefix ps vs s ≡ Equal → compare_key ps r s ≡ Equal
whole_same [] vs r s n g h = refl
whole_same (p ∷ ps) [] r s n g h = absurd (none_suc (length ps) n)
whole_same (p ∷ ps) (v ∷ vs) r s n g h =
    let o = directed_total p.descending in
    let left = both_equal (compare_to_part p v r) (compare_prefix ps vs r) g in
    let right = both_equal (compare_to_part p v s) (compare_prefix ps vs s) h in
    let here : compare_part p r s ≡ Equal =
    o.congr (slice_get r p.column) (Some v) (slice_get s p.column) (tied_back o (Some v) (slice_get r p.column) left.0) ∙ right.0 in
    ap (λ z. ordering_then z (compare_key ps r s)) here ∙ whole_same ps vs r s (suc_inj n) left.1 right.1

-- a probe of a whole key
record IsWhole (ps : List KeyPart) (vs r : List Value) : Type 0 where
  long : length vs ≡ length ps
  equal : compare_prefix ps vs r ≡ Equal

whole : (ps : List KeyPart) (vs r : List Value) → is_whole ps vs r ≡ true → IsWhole ps vs r
whole ps vs r h =
    let both = two_true (length vs == length ps) (is_eq (compare_prefix ps vs r)) h in
    record { long = eqb-true (length vs) (length ps) both.0; equal = equal_of (compare_prefix ps vs r) both.1 }

key_agrees : (ps : List KeyPart) (x y : Stored) (p : Probe) → has_one_key ps x y ≡ true → is_key_of ps x p ≡ true → is_key_of ps y p ≡ true
key_agrees ps x y (Key vs) e h =
    sym (ap (λ o. (length vs.now == length ps) && is_eq o) (prefix_alike ps vs.now x.row y.row (equal_of (compare_key ps x.row y.row) e))) ∙ h
key_agrees ps x y (Of q) e h =
    let o : IsTotalOrder (compare_key ps) = compare_key_total ps in ap is_eq (sym (o.congr x.row y.row q.now (equal_of (compare_key ps x.row y.row) e))) ∙ h

key_alone : (ps : List KeyPart) (x y : Stored) (p : Probe) → is_key_of ps x p ≡ true → is_key_of ps y p ≡ true → has_one_key ps x y ≡ true
key_alone ps x y (Key vs) g h =
    let a = whole ps vs.now x.row g in let b = whole ps vs.now y.row h in ap is_eq (whole_same ps vs.now x.row y.row a.long a.equal b.equal)
key_alone ps x y (Of q) g h =
    let o : IsTotalOrder (compare_key ps) = compare_key_total ps in
    ap is_eq (o.congr x.row q.now y.row (equal_of (compare_key ps x.row q.now) g) ∙ tied_back o y.row q.now (equal_of (compare_key ps y.row q.now) h))

key_hash : (secret : ℕ) (ps : List KeyPart) (x : Stored) (p : Probe) → is_key_of ps x p ≡ true → keying_hash secret ps x ≡ sought_hash secret ps p
key_hash secret ps x (Key vs) h = let a = whole ps vs.now x.row h in sym (key_hashes secret ps vs.now x.row a.long a.equal)
key_hash secret ps x (Of q) h = equal_hashes secret ps x.row q.now (equal_of (compare_key ps x.row q.now) h)

pub keyings_are_lawful : KeyingsAreLawful
keyings_are_lawful h =
    let ps = h.parts in
    let q : IsEquivalence (eq_by_cmp (compare_key ps)) = eq_by_cmp_equiv (compare_key_total ps) in
    record {
      reflexive = λ x. q.refl x.row;
      symmetric = λ x y e. q.symm y.row x.row ∙ e;
      transitive = λ x y z e f. q.congr x.row y.row z.row e ∙ f;
      one_hash = λ x y e. equal_hashes h.secret ps x.row y.row (equal_of (compare_key ps x.row y.row) e);
      agrees = key_agrees ps;
      one_key = key_alone ps;
      probe_hash = key_hash h.secret ps;
    }
