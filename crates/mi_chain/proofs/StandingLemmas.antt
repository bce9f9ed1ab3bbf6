-- Chains as a whole: what a search in one bucket tells of all nodes, and what a change of one bucket leaves.
-- Cited by `Chains::first_of`, `Chains::head`, `Chains::move_bucket`, `CallLemmas`, `ChangeLemmas` and 1 more.
use Rattle.std.proofs.Common.{◌≡◌, ℕ, zero, suc, ◌==◌, ◌<◌, ◌%◌, Bool, true, false, not, cond, List, [], ◌∷◌}
use Rattle.std.proofs.Common.{◌++◌, length, slice_index_or, Option, Some, None, refl, sym, ap, ◌∙◌, subst, arith}
use Rattle.std.specs.List.{filter}
use Rattle.std.proofs.lemmas.List.{get_or-set_same, get_or-set_other}
use Rattle.std.proofs.lemmas.List.Elements.{filter-append}
use Rattle.mi_node.specs.Pool.{Pooled, IsHeld, Keeps}
use Rattle.mi_node.specs.Neighbours.{kept_if, AreHeld, IsLinked}
use Rattle.mi_node.specs.declared.link.Link.{Link}
use Rattle.mi_node.specs.Refs.{Ref, first_of, last_of, IsOut, IsApart, AreOut}
use Rattle.mi_node.proofs.EntryLemmas.{same_refl}
use Rattle.mi_node.proofs.KeepingLemmas.{held_kept}
use Rattle.mi_node.proofs.RefLemmas.{apart_insert, apart_remove, are_out_cons}
use Rattle.mi_chain.specs.Groups.{members, unalike, first_in, ArePassed, IsChained, IsChain, IsGrouped}
use Rattle.mi_chain.specs.Places.{Found, IsFirst, AreBelow, AreNotBelow, IsBelowIf}
use Rattle.mi_chain.specs.Heads.{heads_joined}
use Rattle.mi_chain.specs.Chained.{AreAfter, AreBefore, IsRising, in_bucket, IsBucket, AreBuckets}
use Rattle.mi_chain.proofs.GroupLemmas.{IsAlike, IsOfKey, not_both, no_is_false, filter_both, filter_swap, filter_with, filter_without, out_filter}
use Rattle.mi_chain.proofs.GroupLemmas.{are_out_filter}
use Rattle.mi_chain.proofs.GroupLemmas.{apart_filter, apart_tests, grouped_are_out, grouped_apart, grouped_full, key_of_none, key_of_group, of_key_of}
use Rattle.mi_chain.proofs.CutLemmas.{are_out_xs, are_out_ys}

abbrev Test : Type 0
Test = Ref → Bool

eq_other : (a i j : ℕ) → (a == i) ≡ true → (i ≡ j → ⊥) → (a == j) ≡ false
eq_other a i j e n = no_is_false (a == j) (λ t. n (grind arith))

pub held_all : {T : Type 0} (s : ℕ) (m n : Pooled T) (ws rs : List Ref) → Keeps m n s ws → AreHeld m rs → AreHeld n rs
held_all s m n ws [] k h = tt
held_all s m n ws (r ∷ rs) k h = (held_kept s m n ws r k h.0, held_all s m n ws rs k h.1)

pub held_at : {T : Type 0} (m : Pooled T) (xs : List Ref) (r : Ref) (ys : List Ref) → AreHeld m (xs ++ r ∷ ys) → IsHeld m r
held_at m [] r ys h = h.0
held_at m (x ∷ xs) r ys h = held_at m xs r ys h.1

held_insert : {T : Type 0} (m : Pooled T) (xs : List Ref) (r : Ref) (ys : List Ref) → IsHeld m r → AreHeld m (xs ++ ys) → AreHeld m (xs ++ r ∷ ys)
held_insert m [] r ys g h = (g, h)
held_insert m (x ∷ xs) r ys g h = (h.0, held_insert m xs r ys g h.1)

held_remove : {T : Type 0} (m : Pooled T) (xs : List Ref) (r : Ref) (ys : List Ref) → AreHeld m (xs ++ r ∷ ys) → AreHeld m (xs ++ ys)
held_remove m [] r ys h = h.1
held_remove m (x ∷ xs) r ys h = (h.0, held_remove m xs r ys h.1)

linked_kept : {T : Type 0} (s : ℕ) (m n : Pooled T) (ws : List Ref) (b : Option Ref) (rs : List Ref) (f : Option Ref)
    → Keeps m n s ws → AreOut rs ws → IsLinked m s b rs f → IsLinked n s b rs f
linked_kept s m n ws b [] f k o h = tt
linked_kept s m n ws b (r ∷ rs) f k o h = let same = k.other_nodes r.name s o.0 in
    (held_kept s m n ws r k h.0, ap (λ (l : Link). l.back) same ∙ h.1, ap (λ (l : Link). l.forth) same ∙ h.2, linked_kept s m n ws (Some r) rs f k o.1 h.3)

pub chained_kept : {T : Type 0} (s : ℕ) (m n : Pooled T) (ws : List Ref) (gs : List (List Ref)) (f : Option Ref)
    → Keeps m n s ws → AreOut (members gs) ws → IsChained m s gs f → IsChained n s gs f
chained_kept s m n ws [] f k o h = tt
chained_kept s m n ws (g ∷ gs) f k o h = (
  linked_kept s m n ws (last_of None g) g (first_in gs f) k (are_out_xs g (members gs) ws o) h.0,
  chained_kept s m n ws gs f k (are_out_ys g (members gs) ws o) h.1,
)

module _ (R : Ref → Ref → Bool) (stamp : Ref → ℕ) where
  -- around a node of a list whose stamps rise
  pub rising_after : (us : List Ref) (r : Ref) (vs : List Ref) → IsRising R stamp (us ++ r ∷ vs) → AreAfter R stamp r (stamp r) vs
  rising_after [] r vs h = h.0
  rising_after (u ∷ us) r vs h = rising_after us r vs h.1

  below_at : (u : Ref) (us : List Ref) (r : Ref) (vs : List Ref) → AreAfter R stamp u (stamp u) (us ++ r ∷ vs) → R u r ≡ true → stamp u < stamp r
  below_at u [] r vs h e = h.0 e
  below_at u (x ∷ us) r vs h e = below_at u us r vs h.1 e

  pub rising_before : IsAlike R → (us : List Ref) (r : Ref) (vs : List Ref) → IsRising R stamp (us ++ r ∷ vs) → AreBefore R stamp r (stamp r) us
  rising_before A [] r vs h = tt
  rising_before A (u ∷ us) r vs h = ((λ e. below_at u us r vs h.0 (A.symmetric r u e)), rising_before A us r vs h.1)

module _ (R : Ref → Ref → Bool) (A : IsAlike R) (stamp hash : Ref → ℕ) (H : (a b : Ref) → R a b ≡ true → hash a ≡ hash b) where
  pub in_is : (n i : ℕ) (r : Ref) → hash r % n ≡ i → in_bucket hash n i r ≡ true
  unfolding in_bucket
  in_is n i r e = ap (λ z. z == i) e ∙ same_refl i

  pub in_not : (n i j : ℕ) → (i ≡ j → ⊥) → (r : Ref) → in_bucket hash n i r ≡ true → in_bucket hash n j r ≡ false
  unfolding in_bucket
  in_not n i j d r e = eq_other (hash r % n) i j e d

  in_class : (n : ℕ) (r q : Ref) → R r q ≡ true → in_bucket hash n (hash r % n) q ≡ true
  in_class n r q e = in_is n (hash r % n) q (ap (λ z. z % n) (sym (H r q e)))

  after_insert : (q : Ref) (xs : List Ref) (r : Ref) (ys : List Ref) → AreAfter R stamp q (stamp q) (xs ++ ys)
      → (R q r ≡ true → stamp q < stamp r) → AreAfter R stamp q (stamp q) (xs ++ r ∷ ys)
  after_insert q [] r ys h e = (e, h)
  after_insert q (x ∷ xs) r ys h e = (h.0, after_insert q xs r ys h.1 e)

  rising_insert : (xs : List Ref) (r : Ref) (ys : List Ref) → IsRising R stamp (xs ++ ys)
      → AreBefore R stamp r (stamp r) xs → AreAfter R stamp r (stamp r) ys → IsRising R stamp (xs ++ r ∷ ys)
  rising_insert [] r ys h b a = (a, h)
  rising_insert (x ∷ xs) r ys h b a = (after_insert x xs r ys h.0 (λ e. b.0 (A.symmetric x r e)), rising_insert xs r ys h.1 b.1 a)

  after_remove : (q : Ref) (xs : List Ref) (r : Ref) (ys : List Ref) → AreAfter R stamp q (stamp q) (xs ++ r ∷ ys) → AreAfter R stamp q (stamp q) (xs ++ ys)
  after_remove q [] r ys h = h.1
  after_remove q (x ∷ xs) r ys h = (h.0, after_remove q xs r ys h.1)

  rising_remove : (xs : List Ref) (r : Ref) (ys : List Ref) → IsRising R stamp (xs ++ r ∷ ys) → IsRising R stamp (xs ++ ys)
  rising_remove [] r ys h = h.1
  rising_remove (x ∷ xs) r ys h = (after_remove x xs r ys h.0, rising_remove xs r ys h.1)

  module _ {T : Type 0} (m : Pooled T) (s : ℕ) (heads : List (Option Ref)) (n : ℕ) where
    pub chain_of : (rs : List Ref) (h : AreBuckets R stamp hash m s heads n rs) (i : ℕ) (lt : i < n)
        → IsChain m s (slice_index_or heads i None) (h.each i lt).groups
    chain_of rs h i lt = let b = h.each i lt in record {
      first_is = b.first_is;
      chained = b.chained;
      apart = grouped_apart R A b.groups (filter (in_bucket hash n i) rs) b.grouped (apart_filter (in_bucket hash n i) rs h.apart);
      full = grouped_full R A b.groups (filter (in_bucket hash n i) rs) b.grouped;
    }

    -- what a search tells of the nodes of a key
    pub first_found : (rs : List Ref) (h : AreBuckets R stamp hash m s heads n rs) (K : Test) (O : IsOfKey R A K) (i : ℕ) (lt : i < n)
        → ((q : Ref) → K q ≡ true → in_bucket hash n i q ≡ true) → (result : Option Ref)
        → IsFirst K (h.each i lt).groups result → result ≡ first_of (filter K rs) None
    first_found rs h K O i lt all None w = let b = h.each i lt in
        ap (λ z. first_of z None) (sym (sym (filter_both K (in_bucket hash n i) rs all)
        ∙ key_of_none R A K O b.groups (filter (in_bucket hash n i) rs) b.grouped w.1))
    first_found rs h K O i lt all (Some y) w = let b = h.each i lt in let f = w.1 in
        let here = key_of_group R A K O f.xs f.group f.ys (filter (in_bucket hash n i) rs) y
        (subst (λ z. IsGrouped R z (filter (in_bucket hash n i) rs)) f.parts b.grouped) f.passed f.first_is f.of_key in
        sym (ap (λ z. first_of z None) (sym (filter_both K (in_bucket hash n i) rs all) ∙ here) ∙ f.first_is)

    pub class_in : (rs : List Ref) (r : Ref) → filter (R r) (filter (in_bucket hash n (hash r % n)) rs) ≡ filter (R r) rs
    class_in rs r = filter_both (R r) (in_bucket hash n (hash r % n)) rs (in_class n r)

    -- the group of a node that stands among others
    pub group_found : (rs : List Ref) (h : AreBuckets R stamp hash m s heads n rs) (r : Ref) (lt : hash r % n < n)
        (before : Option Ref) (y : Ref) (f : Found (R r) (h.each (hash r % n) lt).groups before y)
        → filter (R r) rs ≡ f.group
    group_found rs h r lt before y f = let i = hash r % n in let b = h.each i lt in
        sym (filter_both (R r) (in_bucket hash n i) rs (in_class n r))
        ∙ key_of_group R A (R r) (of_key_of R A r) f.xs f.group f.ys (filter (in_bucket hash n i) rs) y
        (subst (λ z. IsGrouped R z (filter (in_bucket hash n i) rs)) f.parts b.grouped) f.passed f.first_is f.of_key

    pub none_found : (rs : List Ref) (h : AreBuckets R stamp hash m s heads n rs) (r : Ref) (lt : hash r % n < n)
        → ArePassed (R r) (h.each (hash r % n) lt).groups → filter (R r) rs ≡ []
    none_found rs h r lt p = let i = hash r % n in let b = h.each i lt in
        sym (filter_both (R r) (in_bucket hash n i) rs (in_class n r))
        ∙ key_of_none R A (R r) (of_key_of R A r) b.groups (filter (in_bucket hash n i) rs) b.grouped p

    -- buckets stand on in a pool in which other nodes were changed
    pub buckets_kept : (m2 : Pooled T) (ws rs : List Ref) → Keeps m m2 s ws → AreOut rs ws
        → AreBuckets R stamp hash m s heads n rs → AreBuckets R stamp hash m2 s heads n rs
    buckets_kept m2 ws rs k o h = record {
      slot = subst (λ z. s < z) (sym k.slots) h.slot;
      some = h.some;
      held = held_all s m m2 ws rs k h.held;
      apart = h.apart;
      rising = h.rising;
      each = λ i lt. let b = h.each i lt in record {
        groups = b.groups;
        first_is = b.first_is;
        chained = chained_kept s m m2 ws b.groups None k
            (grouped_are_out R A b.groups (filter (in_bucket hash n i) rs) ws b.grouped (are_out_filter (in_bucket hash n i) rs ws o)) b.chained;
        grouped = b.grouped;
      };
    }

    module _ (m2 : Pooled T) (heads2 : List (Option Ref)) (xs : List Ref) (r : Ref) (ys : List Ref) where
      abbrev mine : ℕ
      mine = hash r % n

      other_bucket : (i : ℕ) (head : Option Ref) → (i ≡ mine → ⊥) → IsApart (xs ++ ys)
          → IsOut r.name (xs ++ ys) → Keeps m m2 s (r ∷ filter (in_bucket hash n mine) (xs ++ ys))
          → IsBucket R m s head (filter (in_bucket hash n i) (xs ++ ys)) → IsBucket R m2 s head (filter (in_bucket hash n i) (xs ++ ys))
      other_bucket i head d a o k b =
          let us = xs ++ ys in let I = in_bucket hash n i in let J = in_bucket hash n mine in
          let out : AreOut (filter I us) (r ∷ filter J us) = are_out_cons (filter I us) r
          (filter J us) (out_filter I r.name us o) (apart_tests I J us (in_not n i mine d) a) in
          record {
            groups = b.groups;
            first_is = b.first_is;
            chained = chained_kept s m m2 (r ∷ filter J us) b.groups None k
                (grouped_are_out R A b.groups (filter I us) (r ∷ filter J us) b.grouped out) b.chained;
            grouped = b.grouped;
          }

      not_in : (i : ℕ) → (i ≡ mine → ⊥) → filter (in_bucket hash n i) (xs ++ r ∷ ys) ≡ filter (in_bucket hash n i) (xs ++ ys)
      not_in i d = filter_without (in_bucket hash n i) xs r ys (in_not n mine i (λ e. d (sym e)) r (in_is n mine r refl))

      pub settled : AreBuckets R stamp hash m s heads n (xs ++ ys) → IsHeld m r → IsOut r.name (xs ++ ys) → AreBefore R stamp r (stamp r) xs
          → AreAfter R stamp r (stamp r) ys → Keeps m m2 s (r ∷ filter (in_bucket hash n mine) (xs ++ ys))
          → ((i : ℕ) → (i ≡ mine → ⊥) → slice_index_or heads2 i None ≡ slice_index_or heads i None)
          → IsBucket R m2 s (slice_index_or heads2 mine None) (filter (in_bucket hash n mine) (xs ++ r ∷ ys))
          → AreBuckets R stamp hash m2 s heads2 n (xs ++ r ∷ ys)
      settled h held out before after k same new = record {
        slot = subst (λ z. s < z) (sym k.slots) h.slot;
        some = h.some;
        held = held_insert m2 xs r ys (held_kept s m m2 _ r k held) (held_all s m m2 _ (xs ++ ys) k h.held);
        apart = apart_insert xs r ys h.apart out;
        rising = rising_insert xs r ys h.rising before after;
        each = λ i lt. (elim (i == mine)
            as (λ b. (i == mine) ≡ b → IsBucket R m2 s (slice_index_or heads2 i None) (filter (in_bucket hash n i) (xs ++ r ∷ ys))) [
              | true ↦ λ e.
                  let q : i ≡ mine = grind (arith, e) in
                  subst (λ z. IsBucket R m2 s (slice_index_or heads2 z None) (filter (in_bucket hash n z) (xs ++ r ∷ ys))) (sym q) new
              | false ↦ λ e. let d : i ≡ mine → ⊥ = λ q. not_both (i == mine) (ap (λ z. z == mine) q ∙ same_refl mine) e in
                  subst (λ z. IsBucket R m2 s z (filter (in_bucket hash n i) (xs ++ r ∷ ys))) (sym (same i d))
                  (subst (IsBucket R m2 s (slice_index_or heads i None)) (sym (not_in i d))
                  (other_bucket i (slice_index_or heads i None) d h.apart out k (h.each i lt)))
            ]) refl;
      }

      pub unsettled : AreBuckets R stamp hash m s heads n (xs ++ r ∷ ys) → Keeps m m2 s (r ∷ filter (in_bucket hash n mine) (xs ++ ys))
          → ((i : ℕ) → (i ≡ mine → ⊥) → slice_index_or heads2 i None ≡ slice_index_or heads i None)
          → IsBucket R m2 s (slice_index_or heads2 mine None) (filter (in_bucket hash n mine) (xs ++ ys))
          → AreBuckets R stamp hash m2 s heads2 n (xs ++ ys)
      unsettled h k same new = let a = apart_remove xs r ys h.apart in record {
        slot = subst (λ z. s < z) (sym k.slots) h.slot;
        some = h.some;
        held = held_all s m m2 _ (xs ++ ys) k (held_remove m xs r ys h.held);
        apart = a.0;
        rising = rising_remove xs r ys h.rising;
        each = λ i lt. (elim (i == mine) as (λ b. (i == mine) ≡ b → IsBucket R m2 s (slice_index_or heads2 i None) (filter (in_bucket hash n i) (xs ++ ys))) [
          | true ↦ λ e.
              let q : i ≡ mine = grind (arith, e) in
              subst (λ z. IsBucket R m2 s (slice_index_or heads2 z None) (filter (in_bucket hash n z) (xs ++ ys))) (sym q) new
          | false ↦ λ e. let d : i ≡ mine → ⊥ = λ q. not_both (i == mine) (ap (λ z. z == mine) q ∙ same_refl mine) e in
              subst (λ z. IsBucket R m2 s z (filter (in_bucket hash n i) (xs ++ ys))) (sym (same i d))
              (other_bucket i (slice_index_or heads i None) d a.0 a.1 k (subst (IsBucket R m s (slice_index_or heads i None)) (not_in i d) (h.each i lt)))
        ]) refl;
      }

      -- the nodes of other keys in this bucket are the same
      pub others_same : unalike R r (filter (in_bucket hash n mine) (xs ++ r ∷ ys)) ≡ unalike R r (filter (in_bucket hash n mine) (xs ++ ys))
      others_same = let N : Test = λ q. not (R r q) in let J = in_bucket hash n mine in
          filter_swap N J (xs ++ r ∷ ys) ∙ ap (filter J) (filter_without N xs r ys (ap not (A.reflexive r))) ∙ sym (filter_swap N J (xs ++ ys))

      pub class_with : filter (R r) (filter (in_bucket hash n mine) (xs ++ r ∷ ys)) ≡ filter (R r) xs ++ r ∷ filter (R r) ys
      class_with = filter_both (R r) (in_bucket hash n mine) (xs ++ r ∷ ys) (in_class n r) ∙ filter_with (R r) xs r ys (A.reflexive r)

      pub class_without : filter (R r) (filter (in_bucket hash n mine) (xs ++ ys)) ≡ filter (R r) xs ++ filter (R r) ys
      class_without = filter_both (R r) (in_bucket hash n mine) (xs ++ ys) (in_class n r) ∙ filter-append (R r) xs ys

-- heads
pub any_head : {X : Type 0} (l : List X) (i : ℕ) (a b : X) → i < length l → slice_index_or l i a ≡ slice_index_or l i b
any_head [] i a b lt = absurd (omega arith)
any_head (x ∷ l) zero a b lt = refl
any_head (x ∷ l) (suc i) a b lt = any_head l i a b (omega arith)

pub other_head : (left : Option Ref) (heads : List (Option Ref)) (j : ℕ) (f : Option Ref) (i : ℕ)
    → (i ≡ j → ⊥) → slice_index_or (heads_joined left heads j f) i None ≡ slice_index_or heads i None
other_head None heads j f i d = get_or-set_other heads j i f None d
other_head (Some r) heads j f i d = refl

pub this_head : (left : Option Ref) (heads : List (Option Ref)) (j : ℕ) (f : Option Ref) → j < length heads
    → slice_index_or (heads_joined left heads j f) j None ≡ kept_if left (slice_index_or heads j None) f
this_head None heads j f lt = get_or-set_same heads j f None lt
this_head (Some r) heads j f lt = refl

-- one list is cut at one place by its stamps
below_last : (stamp : Ref → ℕ) (n : ℕ) (u : Ref) (us vs : List Ref) → AreNotBelow stamp n (u ∷ us ++ vs) → IsBelowIf stamp n (last_of (Some u) us) → ⊥
below_last stamp n u [] vs h b = let le = h.0 in omega arith
below_last stamp n u (w ∷ us) vs h b = below_last stamp n w us vs h.1 b

below_next : (stamp : Ref → ℕ) (n : ℕ) (u : Ref) (us : List Ref) → IsBelowIf stamp n (last_of (Some u) us) → IsBelowIf stamp n (last_of None us)
below_next stamp n u [] b = tt
below_next stamp n u (w ∷ us) b = b

pub same_cut : (stamp : Ref → ℕ) (n : ℕ) (cs bs us vs : List Ref) → cs ++ bs ≡ us ++ vs → AreBelow stamp n cs
    → AreNotBelow stamp n bs → IsBelowIf stamp n (last_of None us) → AreNotBelow stamp n vs → (cs ≡ us) × (bs ≡ vs)
same_cut stamp n [] bs [] vs e a b u v = (refl, e)
same_cut stamp n [] bs (w ∷ us) vs e a b u v = absurd (below_last stamp n w us vs (subst (AreNotBelow stamp n) e b) u)
same_cut stamp n (q ∷ cs) bs [] vs e a b u v = let h = subst (AreNotBelow stamp n) (sym e) v in let le = h.0 in let lt = a.0 in absurd (omega arith)
same_cut stamp n (q ∷ cs) bs (w ∷ us) vs e a b u v =
    let here : q ≡ w = cc in let rest : cs ++ bs ≡ us ++ vs = cc in
    let on = same_cut stamp n cs bs us vs rest a.1 b (below_next stamp n w us u) v in (λ i. here i ∷ on.0 i, on.1)

pub class_below : (R : Ref → Ref → Bool) (stamp : Ref → ℕ) (r : Ref) (t : ℕ) (xs : List Ref)
    → AreBefore R stamp r t xs → AreBelow stamp t (filter (R r) xs)
class_below R stamp r t [] h = tt
class_below R stamp r t (x ∷ xs) h = (elim (R r x) as (λ b. R r x ≡ b → AreBelow stamp t (cond b (x ∷ filter (R r) xs) (filter (R r) xs))) [
  | true ↦ λ e. (h.0 e, class_below R stamp r t xs h.1)
  | false ↦ λ e. class_below R stamp r t xs h.1
]) refl

pub class_above : (R : Ref → Ref → Bool) (stamp : Ref → ℕ) (r : Ref) (t : ℕ) (xs : List Ref)
    → AreAfter R stamp r t xs → AreNotBelow stamp t (filter (R r) xs)
class_above R stamp r t [] h = tt
class_above R stamp r t (x ∷ xs) h = (elim (R r x) as (λ b. R r x ≡ b → AreNotBelow stamp t (cond b (x ∷ filter (R r) xs) (filter (R r) xs))) [
  | true ↦ λ e. let lt = h.0 e in (omega arith, class_above R stamp r t xs h.1)
  | false ↦ λ e. class_above R stamp r t xs h.1
]) refl
