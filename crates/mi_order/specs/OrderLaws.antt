-- The orders, tags and keys of indexes are lawful.
use Rattle.std.proofs.Common.{◌≡◌, ℕ, ◌<◌, Bool, true, false, cond, List, [], ◌∷◌, length, refl, sym, ap, ◌∙◌, subst, arith}
use Rattle.std.specs.Prelude.{pos, negsuc, nat_le, nat_lt}
use Rattle.std.proofs.lemmas.Bool.{false≢true, lt-ltb, leb-true}
use Rattle.std.specs.declared.option.Option.{Option}
use Rattle.std.specs.declared.option.Option.TheVariants.{None, Some}
use Rattle.std.specs.declared.cmp.Ordering.{Ordering}
use Rattle.std.specs.declared.cmp.Ordering.TheVariants.{Less, Equal, Greater}
use Rattle.std.specs.Ordering.{int_cmp, is_gt, ordering_then, ordering_reverse}
use Rattle.std.specs.Cmp.{IsTotalOrder, on_total, int_cmp_total}
use Rattle.mi_value.specs.declared.value.Value.{Value}
use Rattle.mi_value.specs.declared.value.Value.TheVariants.{Int, Text, Flag}
use Rattle.mi_order.specs.declared.prefixes.PrefixTypes.{PrefixTypes}
use Rattle.mi_value.specs.declared.compare.KeyPart.{KeyPart}
use Rattle.mi_value.specs.declared.bound.Probe.{Probe}
use Rattle.mi_value.specs.declared.bound.Probe.TheVariants.{Key, Of}
use Rattle.mi_value.specs.Order.{compare_key}
use Rattle.mi_value.proofs.OrderLaws.{compare_key_total}
use Rattle.mi_catalog.specs.Key.{parts_or_id, record_or_id, compare_to_row}
use Rattle.mi_model.proofs.PrefixLaws.{NotBelow, prefix_falls}
use Rattle.mi_tree.specs.Order.{IsNoLater, IsMonotone}
use Rattle.mi_order.specs.declared.stored.Stored.{Stored}
use Rattle.mi_order.specs.Prefixes.{prefix_tag, prefix_probe, is_complete_prefix}
use Rattle.mi_order.specs.Orders.{row_in, stored_order, stored_tag, key_tag, record_tag, is_decided, IsTagged, IsSought, place_in, Rises, OrdersAreLawful}
use Rattle.mi_order.specs.TagLaws.{self_equal}
use Rattle.mi_order.specs.PrefixLaws.{none_some, some_is, prefixes_order_keys, complete_prefixes_are_keys, prefixes_order_probes, complete_prefixes_are_probes}

pub stored_total : (ps : List KeyPart) → IsTotalOrder (stored_order ps)
stored_total ps = on_total row_in (on_total (record_or_id ps) (compare_key_total (parts_or_id ps)))

-- Ids

pub ids_below : (m n : ℕ) → m < n → int_cmp (pos m) (pos n) ≡ Less
ids_below m n l = ap (λ b. cond b Less (cond (nat_lt n m) Greater Equal)) (lt-ltb m n l)

ids_above : (m n : ℕ) → n < m → int_cmp (pos m) (pos n) ≡ Greater
ids_above m n l = int_cmp_total.antisymm (pos m) (pos n) ∙ ap ordering_reverse (ids_below n m l)

ids_equal : (m n : ℕ) → m ≡ n → int_cmp (pos m) (pos n) ≡ Equal
ids_equal m n same = ap (λ k. int_cmp (pos m) (pos k)) (sym same) ∙ self_equal (int_cmp (pos m) (pos m)) (int_cmp_total.antisymm (pos m) (pos m))

-- Tags of nodes

below : (c : PrefixTypes) (ps : List KeyPart) (x y : Stored) → stored_tag c ps x < stored_tag c ps y → stored_order ps x y ≡ Less
below c [] x y l = ap (λ o. ordering_then o Equal) (ids_below x.id y.id l)
below c (p ∷ ps) x y l = prefixes_order_keys c p ps x.row y.row l

exact : (c : PrefixTypes) (ps : List KeyPart) (x y : Stored) → is_decided c ps (stored_tag c ps x) ≡ true
    → stored_tag c ps x ≡ stored_tag c ps y → stored_order ps x y ≡ Equal
exact c [] x y decided same = ap (λ o. ordering_then o Equal) (ids_equal x.id y.id same)
exact c (p ∷ ps) x y decided same = complete_prefixes_are_keys c p ps x.row y.row decided same

pub is_tagged : (c : PrefixTypes) (ps : List KeyPart) → IsTagged c ps
is_tagged c ps = record { total = stored_total ps; tag_below = below c ps; exact = exact c ps }

-- Tags of probes

-- what a probe's tag is of
given : {A : Type 0} (b : Bool) (x : Option A) (t : A) → cond b x None ≡ Some t → (b ≡ true) × (x ≡ Some t)
given true x t h = (refl, h)
given false x t h = absurd (none_some h)

key_below : (c : PrefixTypes) (ps : List KeyPart) (vs : List Value) (t : ℕ) → key_tag c ps vs ≡ Some t
    → (x : Stored) → stored_tag c ps x < t → compare_to_row ps vs (row_in x) ≡ Greater
key_below c ps [] t h x l = absurd (none_some h)
key_below c [] (Int (pos n) ∷ []) t h x l = let is : n ≡ t = some_is h in ap (λ o. ordering_then o Equal) (ids_above n x.id (omega arith))
key_below c [] (Int (negsuc n) ∷ []) t h x l = absurd (none_some h)
key_below c [] (Text bs ∷ []) t h x l = absurd (none_some h)
key_below c [] (Flag b ∷ []) t h x l = absurd (none_some h)
key_below c [] (v ∷ w ∷ vs) t h x l = absurd (none_some h)
key_below c (p ∷ ps) (v ∷ vs) t h x l = (prefixes_order_probes c p ps v vs t x.row (given (nat_le (length vs) (length ps)) (prefix_probe c p ps v vs) t h).1).0 l

key_above : (c : PrefixTypes) (ps : List KeyPart) (vs : List Value) (t : ℕ) → key_tag c ps vs ≡ Some t
    → (x : Stored) → t < stored_tag c ps x → compare_to_row ps vs (row_in x) ≡ Less
key_above c ps [] t h x l = absurd (none_some h)
key_above c [] (Int (pos n) ∷ []) t h x l = let is : n ≡ t = some_is h in ap (λ o. ordering_then o Equal) (ids_below n x.id (omega arith))
key_above c [] (Int (negsuc n) ∷ []) t h x l = absurd (none_some h)
key_above c [] (Text bs ∷ []) t h x l = absurd (none_some h)
key_above c [] (Flag b ∷ []) t h x l = absurd (none_some h)
key_above c [] (v ∷ w ∷ vs) t h x l = absurd (none_some h)
key_above c (p ∷ ps) (v ∷ vs) t h x l = (prefixes_order_probes c p ps v vs t x.row (given (nat_le (length vs) (length ps)) (prefix_probe c p ps v vs) t h).1).1 l

key_exact : (c : PrefixTypes) (ps : List KeyPart) (vs : List Value) (t : ℕ) → key_tag c ps vs ≡ Some t
    → is_decided c ps t ≡ true → (x : Stored) → stored_tag c ps x ≡ t → compare_to_row ps vs (row_in x) ≡ Equal
key_exact c ps [] t h decided x same = absurd (none_some h)
key_exact c [] (Int (pos n) ∷ []) t h decided x same = let is : n ≡ t = some_is h in ap (λ o. ordering_then o Equal) (ids_equal n x.id (is ∙ sym same))
key_exact c [] (Int (negsuc n) ∷ []) t h decided x same = absurd (none_some h)
key_exact c [] (Text bs ∷ []) t h decided x same = absurd (none_some h)
key_exact c [] (Flag b ∷ []) t h decided x same = absurd (none_some h)
key_exact c [] (v ∷ w ∷ vs) t h decided x same = absurd (none_some h)
key_exact c (p ∷ ps) (v ∷ vs) t h decided x same =
    let is = given (nat_le (length vs) (length ps)) (prefix_probe c p ps v vs) t h in
    complete_prefixes_are_probes c p ps v vs t x.row (leb-true (length vs) (length ps) is.0) is.1 decided same

record_below : (c : PrefixTypes) (ps : List KeyPart) (r : List Value) (t : ℕ)
    → record_tag c ps r ≡ Some t → (x : Stored) → stored_tag c ps x < t → compare_key ps x.row r ≡ Less
record_below c [] r t h x l = absurd (none_some h)
record_below c (p ∷ ps) r t h x l =
    let is : prefix_tag c p ps r ≡ t = some_is h in prefixes_order_keys c p ps x.row r (subst (λ n. prefix_tag c p ps x.row < n) (sym is) l)

record_above : (c : PrefixTypes) (ps : List KeyPart) (r : List Value) (t : ℕ) → record_tag c ps r ≡ Some t
    → (x : Stored) → t < stored_tag c ps x → compare_key ps x.row r ≡ Greater
record_above c [] r t h x l = absurd (none_some h)
record_above c (p ∷ ps) r t h x l =
    let is : prefix_tag c p ps r ≡ t = some_is h in
    let o : IsTotalOrder (compare_key (p ∷ ps)) = compare_key_total (p ∷ ps) in
    o.antisymm x.row r ∙ ap ordering_reverse (prefixes_order_keys c p ps r x.row (subst (λ n. n < prefix_tag c p ps x.row) (sym is) l))

record_exact : (c : PrefixTypes) (ps : List KeyPart) (r : List Value) (t : ℕ) → record_tag c ps r ≡ Some t
    → is_decided c ps t ≡ true → (x : Stored) → stored_tag c ps x ≡ t → compare_key ps x.row r ≡ Equal
record_exact c [] r t h decided x same = absurd (none_some h)
record_exact c (p ∷ ps) r t h decided x same =
    let is : prefix_tag c p ps r ≡ t = some_is h in complete_prefixes_are_keys c p ps x.row r (ap (is_complete_prefix c p ps) same ∙ decided) (same ∙ sym is)

pub is_sought : (c : PrefixTypes) (ps : List KeyPart) (k : Probe) → IsSought c ps k
is_sought c ps (Key vs) = record {
  below = λ t h x l. ap ordering_reverse (key_below c ps vs.now t h x l);
  above = λ t h x l. ap ordering_reverse (key_above c ps vs.now t h x l);
  exact = λ t h decided x same. ap ordering_reverse (key_exact c ps vs.now t h decided x same);
}
is_sought c ps (Of r) = record { below = record_below c ps r.now; above = record_above c ps r.now; exact = record_exact c ps r.now }

-- Probes along the order

reversed_less : (o : Ordering) → ordering_reverse o ≡ Less → o ≡ Greater
reversed_less Less h = absurd (cc)
reversed_less Equal h = absurd (cc)
reversed_less Greater h = refl

reversed_greater : (o : Ordering) → ordering_reverse o ≡ Greater → o ≡ Less
reversed_greater Less h = refl
reversed_greater Equal h = absurd (cc)
reversed_greater Greater h = absurd (cc)

record_rises : (ps : List KeyPart) (r : List Value) (x y : Stored) → is_gt (stored_order ps x y) ≡ false
    → (compare_key ps y.row r ≡ Less → compare_key ps x.row r ≡ Less) × (compare_key ps x.row r ≡ Greater → compare_key ps y.row r ≡ Greater)
record_rises [] r x y upto = ((λ h. h), λ h. h)
record_rises (p ∷ ps) r x y upto =
    let o : IsTotalOrder (compare_key (p ∷ ps)) = compare_key_total (p ∷ ps) in
    elim (compare_key (p ∷ ps) x.row y.row) as (λ q. compare_key (p ∷ ps) x.row y.row ≡ q → is_gt q ≡ false
    → (compare_key (p ∷ ps) y.row r ≡ Less → compare_key (p ∷ ps) x.row r ≡ Less)
    × (compare_key (p ∷ ps) x.row r ≡ Greater → compare_key (p ∷ ps) y.row r ≡ Greater)) [
      | Less ↦ λ is _. (
        (λ h. o.trans x.row y.row r is h),
        λ h. o.antisymm y.row r ∙ ap ordering_reverse (o.trans r x.row y.row (o.antisymm r x.row ∙ ap ordering_reverse h) is),
      )
      | Equal ↦ λ is _. ((λ h. o.congr x.row y.row r is ∙ h), λ h. sym (o.congr x.row y.row r is) ∙ h)
      | Greater ↦ λ is gt. absurd (false≢true (sym gt))
    ] refl upto

rises : (ps : List KeyPart) (k : Probe) (x y : Stored) → is_gt (stored_order ps x y) ≡ false → Rises ps k x y
rises ps (Key vs) x y upto =
    let falls : NotBelow (compare_to_row ps vs.now (row_in x)) (compare_to_row ps vs.now (row_in y)) =
    prefix_falls (parts_or_id ps) vs.now (record_or_id ps (row_in x)) (record_or_id ps (row_in y)) upto in
    record {
      less = λ h. ap ordering_reverse (falls.0 (reversed_less (compare_to_row ps vs.now (row_in y)) h));
      greater = λ h. ap ordering_reverse (falls.1 (reversed_greater (compare_to_row ps vs.now (row_in x)) h));
    }
rises ps (Of r) x y upto = let both = record_rises ps r.now x y upto in record { less = both.0; greater = both.1 }

pub orders_are_lawful : OrdersAreLawful
orders_are_lawful c ps = (is_tagged c ps, is_sought c ps, rises ps)

-- The same, as a tree asks for it

not_greater : (o : Ordering) → (o ≡ Greater → ⊥) → is_gt o ≡ false
not_greater Less h = refl
not_greater Equal h = refl
not_greater Greater h = absurd (h refl)

no_later : (p q : Ordering) → (q ≡ Less → p ≡ Less) → (p ≡ Greater → q ≡ Greater) → IsNoLater p q
no_later Less q less greater = tt
no_later Equal Less less greater = absurd (let k : Equal ≡ Less = less refl in cc)
no_later Equal Equal less greater = tt
no_later Equal Greater less greater = tt
no_later Greater Less less greater = absurd (let k : Less ≡ Greater = greater refl in cc)
no_later Greater Equal less greater = absurd (let k : Equal ≡ Greater = greater refl in cc)
no_later Greater Greater less greater = tt

pub place_later : (ps : List KeyPart) (k : Probe) → IsMonotone (stored_order ps) (λ v. place_in ps v k)
place_later ps k x y upto = let r = rises ps k x y (not_greater (stored_order ps x y) upto) in no_later (place_in ps x k) (place_in ps y k) r.less r.greater
