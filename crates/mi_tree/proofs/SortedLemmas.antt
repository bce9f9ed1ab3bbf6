-- Lists in order, and where a node stands in one.
-- Cited by `Tree::bound`, `Tree::find`, `Tree::keeps_place`, `keeping::passes_none`, `keeping::passes_none_above`, 16 more and `mi_index`.
use Rattle.std.proofs.Common.{◌≡◌, ℕ, List, [], ◌∷◌, ◌++◌, Option, Some, None, refl, sym, ap, ◌∙◌, subst, append_assoc}
use Rattle.std.specs.declared.cmp.Ordering.{Ordering}
use Rattle.std.specs.declared.cmp.Ordering.TheVariants.{Less, Equal, Greater}
use Rattle.std.specs.Ordering.{ordering_reverse}
use Rattle.std.specs.Cmp.{IsTotalOrder}
use Rattle.std.proofs.lemmas.Cmp.{then_total, on_total, nat_cmp_total}
use Rattle.mi_node.specs.Pool.{Pooled, value_of, link_of, IsHeld}
use Rattle.mi_node.specs.declared.link.Tag.{Tag}
use Rattle.mi_node.specs.Refs.{Ref}
use Rattle.mi_tree.specs.Sorted.{AllAre, NoneAre, Rising, IsPutIn, IsTagOf, HasTag, AreTagged, compared, by_stamp, stamped, item_of, side}

less_equal : Less ≡ Equal → ⊥
less_equal e = cc

less_greater : Less ≡ Greater → ⊥
less_greater e = cc

greater_equal : Greater ≡ Equal → ⊥
greater_equal e = cc

-- what is needed of the order on nodes
pub record IsOrder (R : Ref → Ref → Ordering) : Type 0 where
  pub antisymm : (x y : Ref) → R x y ≡ ordering_reverse (R y x)
  pub trans : (x y z : Ref) → R x y ≡ Less → R y z ≡ Less → R x z ≡ Less

module _ {X : Type 0} where
  pub compared_antisymm : (order : X → X → Ordering) → IsTotalOrder order → (a b : Option X) → compared order a b ≡ ordering_reverse (compared order b a)
  compared_antisymm order o None None = refl
  compared_antisymm order o None (Some y) = refl
  compared_antisymm order o (Some x) None = refl
  compared_antisymm order o (Some x) (Some y) = o.antisymm x y

  pub compared_trans : (order : X → X → Ordering) → IsTotalOrder order → (a b c : Option X)
      → compared order a b ≡ Less → compared order b c ≡ Less → compared order a c ≡ Less
  compared_trans order o None b c e f = absurd (less_equal (sym e))
  compared_trans order o (Some x) None c e f = absurd (less_equal (sym e))
  compared_trans order o (Some x) (Some y) None e f = absurd (less_equal (sym f))
  compared_trans order o (Some x) (Some y) (Some z) e f = o.trans x y z e f

module _ {T : Type 0} where
  pub by_stamp_total : (order : T → T → Ordering) → IsTotalOrder order → IsTotalOrder (by_stamp order)
  by_stamp_total order o = then_total (on_total (λ (x : T × ℕ). x.0) o) (on_total (λ (x : T × ℕ). x.1) nat_cmp_total)

  pub side_order : (order : T → T → Ordering) (m : Pooled T) (s : ℕ) → IsTotalOrder order → IsOrder (side order m s)
  unfolding side
  side_order order m s o = let b = by_stamp_total order o in record {
    antisymm = λ x y. compared_antisymm (by_stamp order) b (item_of m s x.name) (item_of m s y.name);
    trans = λ x y z e f. compared_trans (by_stamp order) b (item_of m s x.name) (item_of m s y.name) (item_of m s z.name) e f;
  }

  -- two nodes, by what was read of their links
  pub side_is : (order : T → T → Ordering) (m : Pooled T) (s : ℕ) (a b : Ref) (y z : Tag) → y ≡ (link_of m a.name s).tag → z ≡ (link_of m b.name s).tag
      → side order m s a b ≡ compared (by_stamp order) (stamped (value_of m a.name) y.stamp) (stamped (value_of m b.name) z.stamp)
  unfolding side item_of
  side_is order m s a b y z e f = λ i. compared (by_stamp order) (stamped (value_of m a.name) (sym e i).stamp) (stamped (value_of m b.name) (sym f i).stamp)

  -- the side that a comparison found in a pool n that is as m is
  pub side_read : (order : T → T → Ordering) (s : ℕ) (a b : Ref) {m n : Pooled T} {y z : Tag} {o : Ordering} → n ≡ m → y ≡ (link_of m a.name s).tag
      → z ≡ (link_of m b.name s).tag → o ≡ compared (by_stamp order) (stamped (value_of n a.name) y.stamp) (stamped (value_of n b.name) z.stamp)
      → side order m s a b ≡ o
  side_read order s a b {m} {n} {y} {z} same e f is = side_is order m s a b y z e f
      ∙ ap (λ (k : Pooled T). compared (by_stamp order) (stamped (value_of k a.name) y.stamp) (stamped (value_of k b.name) z.stamp)) (sym same) ∙ sym is

  -- what a comparison asks of a node there
  pub tagged_read : (tag : T → ℕ) (s : ℕ) (r : Ref) {m n : Pooled T} {y : Tag} → n ≡ m → y ≡ (link_of m r.name s).tag
      → IsHeld m r → HasTag tag m s r → IsHeld n r × IsTagOf tag (value_of n r.name) y.key
  tagged_read tag s r {m} {n} {y} same e held has = subst (λ (z : Pooled T). IsHeld z r × IsTagOf tag (value_of z r.name) y.key) (sym same)
      (held, subst (λ (k : Tag). IsTagOf tag (value_of m r.name) k.key) (sym e) has)

  -- what a tree's nodes are, where neither values nor tags changed
  pub item_kept : (m n : Pooled T) (s k : ℕ) → value_of n k ≡ value_of m k → (link_of n k s).tag ≡ (link_of m k s).tag → item_of n s k ≡ item_of m s k
  unfolding item_of
  item_kept m n s k e f = λ i. stamped (e i) (f i).stamp

  pub side_kept : (order : T → T → Ordering) (m n : Pooled T) (s : ℕ) (a b : Ref) → item_of n s a.name ≡ item_of m s a.name
      → item_of n s b.name ≡ item_of m s b.name → side order n s a b ≡ side order m s a b
  unfolding side
  side_kept order m n s a b e f = λ i. compared (by_stamp order) (e i) (f i)

  pub has_tag_kept : (tag : T → ℕ) (m n : Pooled T) (s : ℕ) (r : Ref) → value_of n r.name ≡ value_of m r.name
      → (link_of n r.name s).tag ≡ (link_of m r.name s).tag → HasTag tag m s r → HasTag tag n s r
  has_tag_kept tag m n s r e f h = subst (λ (z : Option T × Tag). IsTagOf tag z.0 z.1.key) (λ i. (sym e i, sym f i)) h

-- tags of a list's parts
module _ {T : Type 0} (tag : T → ℕ) (m : Pooled T) (s : ℕ) where
  pub tagged_left : (xs ys : List Ref) → AreTagged tag m s (xs ++ ys) → AreTagged tag m s xs
  tagged_left [] ys h = tt
  tagged_left (x ∷ xs) ys h = (h.0, tagged_left xs ys h.1)

  pub tagged_right : (xs ys : List Ref) → AreTagged tag m s (xs ++ ys) → AreTagged tag m s ys
  tagged_right [] ys h = h
  tagged_right (x ∷ xs) ys h = tagged_right xs ys h.1

  pub tagged_both : (xs ys : List Ref) → AreTagged tag m s xs → AreTagged tag m s ys → AreTagged tag m s (xs ++ ys)
  tagged_both [] ys g h = h
  tagged_both (x ∷ xs) ys g h = (g.0, tagged_both xs ys g.1 h)

-- lists of nodes that compare alike
pub are_left : (f : Ref → Ordering) (o : Ordering) (xs ys : List Ref) → AllAre f o (xs ++ ys) → AllAre f o xs
are_left f o [] ys h = tt
are_left f o (x ∷ xs) ys h = (h.0, are_left f o xs ys h.1)

pub are_right : (f : Ref → Ordering) (o : Ordering) (xs ys : List Ref) → AllAre f o (xs ++ ys) → AllAre f o ys
are_right f o [] ys h = h
are_right f o (x ∷ xs) ys h = are_right f o xs ys h.1

pub are_both : (f : Ref → Ordering) (o : Ordering) (xs ys : List Ref) → AllAre f o xs → AllAre f o ys → AllAre f o (xs ++ ys)
are_both f o [] ys g h = h
are_both f o (x ∷ xs) ys g h = (g.0, are_both f o xs ys g.1 h)

pub none_left : (f : Ref → Ordering) (o : Ordering) (xs ys : List Ref) → NoneAre f o (xs ++ ys) → NoneAre f o xs
none_left f o [] ys h = tt
none_left f o (x ∷ xs) ys h = (h.0, none_left f o xs ys h.1)

pub none_right : (f : Ref → Ordering) (o : Ordering) (xs ys : List Ref) → NoneAre f o (xs ++ ys) → NoneAre f o ys
none_right f o [] ys h = h
none_right f o (x ∷ xs) ys h = none_right f o xs ys h.1

pub rising_left : (R : Ref → Ref → Ordering) (xs ys : List Ref) → Rising R (xs ++ ys) → Rising R xs
rising_left R [] ys h = tt
rising_left R (x ∷ xs) ys h = (are_left (R x) Less xs ys h.0, rising_left R xs ys h.1)

pub rising_right : (R : Ref → Ref → Ordering) (xs ys : List Ref) → Rising R (xs ++ ys) → Rising R ys
rising_right R [] ys h = h
rising_right R (x ∷ xs) ys h = rising_right R xs ys h.1

module _ (R : Ref → Ref → Ordering) (o : IsOrder R) where
  turned : (x y : Ref) → R x y ≡ Less → R y x ≡ Greater
  turned x y e = o.antisymm y x ∙ ap ordering_reverse e

  turned_back : (x y : Ref) → R x y ≡ Greater → R y x ≡ Less
  turned_back x y e = o.antisymm y x ∙ ap ordering_reverse e

  -- before r, so before all that r is before
  above_all : (x r : Ref) (ys : List Ref) → R x r ≡ Less → AllAre (R r) Less ys → AllAre (R x) Less ys
  above_all x r [] e h = tt
  above_all x r (y ∷ ys) e h = (o.trans x r y e h.0, above_all x r ys e h.1)

  -- in rising nodes, r is after all that stand to its left
  pub left_below : (xs : List Ref) (r : Ref) (ys : List Ref) → Rising R (xs ++ r ∷ ys) → AllAre (R r) Greater xs
  left_below [] r ys h = tt
  left_below (x ∷ xs) r ys h = (turned x r (are_right (R x) Less xs (r ∷ ys) h.0).0, left_below xs r ys h.1)

  below_all : (x r : Ref) (xs : List Ref) → R x r ≡ Greater → AllAre (R r) Greater xs → AllAre (R x) Greater xs
  below_all x r [] e h = tt
  below_all x r (y ∷ ys) e h = (turned y x (o.trans y r x (turned_back r y h.0) (turned_back x r e)), below_all x r ys e h.1)

  pub put_left : (x : Ref) (L : List Ref) (r : Ref) (Q us : List Ref) → Rising R (L ++ r ∷ Q)
      → R x r ≡ Less → IsPutIn (R x) x L us → IsPutIn (R x) x (L ++ r ∷ Q) (us ++ r ∷ Q)
  put_left x L r Q us h e p = record {
    xs = p.xs;
    ys = p.ys ++ r ∷ Q;
    was = ap (λ u. u ++ r ∷ Q) p.was ∙ append_assoc p.xs p.ys (r ∷ Q);
    now = ap (λ u. u ++ r ∷ Q) p.now ∙ append_assoc p.xs (x ∷ p.ys) (r ∷ Q);
    below = p.below;
    above = are_both (R x) Less p.ys (r ∷ Q) p.above (e, above_all x r Q e (rising_right R L (r ∷ Q) h).0);
  }

  pub put_right : (x : Ref) (L : List Ref) (r : Ref) (Q us : List Ref) → Rising R (L ++ r ∷ Q)
      → R x r ≡ Greater → IsPutIn (R x) x Q us → IsPutIn (R x) x (L ++ r ∷ Q) (L ++ r ∷ us)
  put_right x L r Q us h e p = record {
    xs = L ++ r ∷ p.xs;
    ys = p.ys;
    was = ap (λ u. L ++ r ∷ u) p.was ∙ sym (append_assoc L (r ∷ p.xs) p.ys);
    now = ap (λ u. L ++ r ∷ u) p.now ∙ sym (append_assoc L (r ∷ p.xs) (x ∷ p.ys));
    below = are_both (R x) Greater L (r ∷ p.xs) (below_all x r L e (left_below L r Q h)) (e, p.below);
    above = p.above;
  }

  -- what was in order is still
  pub rising_both : (xs ys : List Ref) (x : Ref) → Rising R (xs ++ ys) → AllAre (R x) Greater xs → AllAre (R x) Less ys → Rising R (xs ++ x ∷ ys)
  rising_both [] ys x h b a = (a, h)
  rising_both (y ∷ xs) ys x h b a = (
    are_both (R y) Less xs (x ∷ ys) (are_left (R y) Less xs ys h.0) (turned_back x y b.0, are_right (R y) Less xs ys h.0),
    rising_both xs ys x h.1 b.1 a,
  )

  pub rising_put : (x : Ref) (rs us : List Ref) → Rising R rs → IsPutIn (R x) x rs us → Rising R us
  rising_put x rs us h p = subst (Rising R) (sym p.now) (rising_both p.xs p.ys x (subst (Rising R) p.was h) p.below p.above)

-- where x stands in a list that is cut at r
pub data Where (A : List Ref) (r : Ref) (C xs : List Ref) (x : Ref) (ys : List Ref) : Type 0 where
  InLeft : (zs : List Ref) → A ≡ xs ++ x ∷ zs → ys ≡ zs ++ r ∷ C → Where A r C xs x ys
  Here : A ≡ xs → r ≡ x → C ≡ ys → Where A r C xs x ys
  InRight : (zs : List Ref) → xs ≡ A ++ r ∷ zs → C ≡ zs ++ x ∷ ys → Where A r C xs x ys

later : (a : Ref) (A : List Ref) (r : Ref) (C : List Ref) (z : Ref) (xs : List Ref) (x : Ref) (ys : List Ref)
    → a ≡ z → Where A r C xs x ys → Where (a ∷ A) r C (z ∷ xs) x ys
later a A r C z xs x ys e (InLeft zs f g) = InLeft zs (λ i. e i ∷ f i) g
later a A r C z xs x ys e (Here f g h) = Here (λ i. e i ∷ f i) g h
later a A r C z xs x ys e (InRight zs f g) = InRight zs (λ i. sym e i ∷ f i) g

first_same : (a b : Ref) (us vs : List Ref) → a ∷ us ≡ b ∷ vs → a ≡ b
first_same a b us vs e = cc

rest_same : (a b : Ref) (us vs : List Ref) → a ∷ us ≡ b ∷ vs → us ≡ vs
rest_same a b us vs e = cc

pub where_is : (A : List Ref) (r : Ref) (C xs : List Ref) (x : Ref) (ys : List Ref) → A ++ r ∷ C ≡ xs ++ x ∷ ys → Where A r C xs x ys
where_is [] r C [] x ys e = Here refl (first_same r x C ys e) (rest_same r x C ys e)
where_is [] r C (z ∷ xs) x ys e = InRight xs (ap (λ k. k ∷ xs) (sym (first_same r z C (xs ++ x ∷ ys) e))) (rest_same r z C (xs ++ x ∷ ys) e)
where_is (a ∷ A) r C [] x ys e = InLeft A (ap (λ k. k ∷ A) (first_same a x (A ++ r ∷ C) ys e)) (sym (rest_same a x (A ++ r ∷ C) ys e))
where_is (a ∷ A) r C (z ∷ xs) x ys e = later a A r C z xs x ys (first_same a z (A ++ r ∷ C) (xs ++ x ∷ ys) e)
    (where_is A r C xs x ys (rest_same a z (A ++ r ∷ C) (xs ++ x ∷ ys) e))

reversed_less : (o : Ordering) → o ≡ ordering_reverse o → o ≡ Equal
reversed_less Less e = absurd (less_greater e)
reversed_less Equal e = refl
reversed_less Greater e = absurd (less_greater (sym e))

pub self_equal : (R : Ref → Ref → Ordering) → IsOrder R → (x : Ref) → R x x ≡ Equal
self_equal R o x = reversed_less (R x x) (o.antisymm x x)

module _ (R : Ref → Ref → Ordering) (o : IsOrder R) (A : List Ref) (r : Ref) (C xs : List Ref) (x : Ref) (ys : List Ref) (h : Rising R (A ++ r ∷ C)) where
  left_less : (zs : List Ref) → A ≡ xs ++ x ∷ zs → R x r ≡ Less
  left_less zs e =
      let all = subst (Rising R) (ap (λ v. v ++ r ∷ C) e ∙ append_assoc xs (x ∷ zs) (r ∷ C)) h in
      (are_right (R x) Less zs (r ∷ C) (rising_right R xs (x ∷ (zs ++ r ∷ C)) all).0).0

  right_more : (zs : List Ref) → C ≡ zs ++ x ∷ ys → R x r ≡ Greater
  right_more zs e = turned R o r x (are_right (R r) Less zs (x ∷ ys) (subst (AllAre (R r) Less) e (rising_right R A (r ∷ C) h).0)).0

  here_equal : r ≡ x → R x r ≡ Equal
  here_equal e = reversed_less (R x r) (ap (R x) e ∙ o.antisymm x x ∙ ap (λ k. ordering_reverse (R x k)) (sym e))

  pub go_left : R x r ≡ Less → Where A r C xs x ys → (zs : List Ref) × (A ≡ xs ++ x ∷ zs) × (ys ≡ zs ++ r ∷ C)
  go_left e (InLeft zs f g) = (zs, f, g)
  go_left e (Here f g k) = absurd (less_equal (sym e ∙ here_equal g))
  go_left e (InRight zs f g) = absurd (less_greater (sym e ∙ right_more zs g))

  pub go_here : R x r ≡ Equal → Where A r C xs x ys → (A ≡ xs) × (r ≡ x) × (C ≡ ys)
  go_here e (InLeft zs f g) = absurd (less_equal (sym (left_less zs f) ∙ e))
  go_here e (Here f g k) = (f, g, k)
  go_here e (InRight zs f g) = absurd (greater_equal (sym (right_more zs g) ∙ e))

  pub go_right : R x r ≡ Greater → Where A r C xs x ys → (zs : List Ref) × (xs ≡ A ++ r ∷ zs) × (C ≡ zs ++ x ∷ ys)
  go_right e (InLeft zs f g) = absurd (less_greater (sym (left_less zs f) ∙ e))
  go_right e (Here f g k) = absurd (greater_equal (sym e ∙ here_equal g))
  go_right e (InRight zs f g) = (zs, f, g)

pub none_here : (xs : List Ref) (x : Ref) (ys : List Ref) → [] ≡ xs ++ x ∷ ys → ⊥
none_here [] x ys e = cc
none_here (z ∷ xs) x ys e = cc
