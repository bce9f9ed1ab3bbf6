-- Chains stand in another pool, where each of their nodes has the same link and a value of the same key.
--     AllOf      each node of a list is so
--     IsSame      a node has the same link and key in both pools
--     chained_elsewhere      for a pool after `take`, `give` or `swap_value`, or after a call on another structure
--     chained_taken      for a pool with one more node
--     chained_swapped      for a pool after a value was exchanged for one of an equal key
-- Cited by `laws::chains_stand_where_swapped`, `mi_index` and `test_storage`.
use Rattle.std.proofs.Common.{◌≡◌, ℕ, ◌+◌, ◌<◌, ◌%◌, ◌==◌, Bool, true, false, not, cond, option_map, List}
use Rattle.std.proofs.Common.{[], ◌∷◌, ◌++◌, Option, Some, None, vec_len, refl, sym, ap, ◌∙◌, subst, arith}
use Rattle.std.specs.List.{filter}
use Rattle.mi_node.specs.Pool.{Pooled, ref_of, value_of, link_of, no_link, taken, with_value, IsHeld}
use Rattle.mi_node.specs.Neighbours.{AreHeld, IsLinked}
use Rattle.mi_node.specs.declared.link.Link.{Link}
use Rattle.mi_node.specs.Refs.{Ref, last_of}
use Rattle.mi_node.proofs.EntryLemmas.{held_has, held-taken, apart_of_free, link-taken, value-taken, slots-taken, same_name}
use Rattle.mi_node.proofs.EntryLemmas.{value-with_value, value_there, ref-with_value, link-with_value, slots-with_value}
use Rattle.mi_value.specs.declared.bound.Probe.{Probe}
use Rattle.mi_chain.specs.Keying.{Keying, IsLawful, same_nodes, hash_node, has_key, stamp_at}
use Rattle.mi_chain.specs.Groups.{members, first_in, unalike, has_none, key_count, IsChained, IsGrouped}
use Rattle.mi_chain.specs.Chained.{AreAfter, IsRising, in_bucket, AreBuckets, AreTagged, AreChained}
use Rattle.mi_chain.specs.Frame.{StandWhereSwapped}
use Rattle.mi_chain.specs.declared.chains.Chains.{Chains}
use Rattle.mi_chain.proofs.GroupLemmas.{IsAlike, like, first_passes}
use Rattle.mi_chain.proofs.KeyingLemmas.{alike, same_nodes_is, has_key_is, hash_is}

abbrev pub AllOf : (Ref → Type 0) → List Ref → Type 0
AllOf P [] = Unit {0}
AllOf P (r ∷ rs) = P r × AllOf P rs

both_ways : (a b : Bool) → (a ≡ true → b ≡ true) → (b ≡ true → a ≡ true) → a ≡ b
both_ways true b h g = sym (h refl)
both_ways false true h g = g refl
both_ways false false h g = refl

module _ (P : Ref → Type 0) where
  all_filter : (f : Ref → Bool) (rs : List Ref) → AllOf P rs → AllOf P (filter f rs)
  all_filter f [] h = tt
  all_filter f (r ∷ rs) h = elim (f r) as (λ b. AllOf P (cond b (r ∷ filter f rs) (filter f rs))) [
    | true ↦ (h.0, all_filter f rs h.1)
    | false ↦ all_filter f rs h.1
  ]

  all_both : (xs ys : List Ref) → AllOf P xs → AllOf P ys → AllOf P (xs ++ ys)
  all_both [] ys g h = h
  all_both (x ∷ xs) ys g h = (g.0, all_both xs ys g.1 h)

  filter_on : (f g : Ref → Bool) → ((q : Ref) → P q → f q ≡ g q) → (rs : List Ref) → AllOf P rs → filter f rs ≡ filter g rs
  filter_on f g e [] h = refl
  filter_on f g e (r ∷ rs) h = λ i. cond (e r h.0 i) (r ∷ filter_on f g e rs h.1 i) (filter_on f g e rs h.1 i)

  module _ (R Q : Ref → Ref → Bool) (A : IsAlike R) (agree : (a b : Ref) → P a → P b → Q a b ≡ R a b) where
    grouped_on : (gs : List (List Ref)) (rs : List Ref) → AllOf P rs → IsGrouped R gs rs → IsGrouped Q gs rs
    grouped_on [] rs all h = h
    grouped_on ([] ∷ gs) rs all h = absurd (h.1 refl)
    grouped_on ((y ∷ ys) ∷ gs) rs all h =
        let x = h.0 in let xy = first_passes (R x) rs (y ∷ ys) y h.2 refl in
        let here = subst (AllOf P) h.2 (all_filter (R x) rs all) in
        let same : (q : Ref) → P q → Q y q ≡ R x q = λ q p. agree y q here.0 p ∙ sym (like R A x y q xy) in
        let rest = filter_on (λ q. not (Q y q)) (λ q. not (R x q)) (λ q p. ap not (same q p)) rs all in (
          y,
          h.1,
          filter_on (Q y) (R x) same rs all ∙ h.2,
          subst (IsGrouped Q gs) (sym rest) (grouped_on gs (unalike R x rs) (all_filter (λ q. not (R x q)) rs all) h.3),
        )

    count_on : (rs : List Ref) → AllOf P rs → key_count Q rs ≡ key_count R rs
    count_on [] all = refl
    count_on (r ∷ rs) all =
        let same = filter_on (Q r) (R r) (λ q p. agree r q all.0 p) rs all.1 in
        λ i. cond (has_none (same i)) (count_on rs all.1 i + 1) (count_on rs all.1 i)

    grouped_all : (gs : List (List Ref)) (rs : List Ref) → AllOf P rs → IsGrouped R gs rs → AllOf P (members gs)
    grouped_all [] rs all h = tt
    grouped_all (g ∷ gs) rs all h = all_both g (members gs) (subst (AllOf P) h.2 (all_filter (R h.0) rs all))
        (grouped_all gs (unalike R h.0 rs) (all_filter (λ q. not (R h.0 q)) rs all) h.3)

    module _ (stamp stamp2 : Ref → ℕ) (stamps : (q : Ref) → P q → stamp2 q ≡ stamp q) where
      after_on : (q : Ref) (rs : List Ref) → P q → AllOf P rs → AreAfter R stamp q (stamp q) rs → AreAfter Q stamp2 q (stamp2 q) rs
      after_on q [] p all h = tt
      after_on q (r ∷ rs) p all h = (
        λ e. (let lt = h.0 (sym (agree q r p all.0) ∙ e) in let a = stamps q p in let b = stamps r all.0 in omega arith),
        after_on q rs p all.1 h.1,
      )

      rising_on : (rs : List Ref) → AllOf P rs → IsRising R stamp rs → IsRising Q stamp2 rs
      rising_on [] all h = tt
      rising_on (r ∷ rs) all h = (after_on r rs all.0 all.1 h.0, rising_on rs all.1 h.1)

  in_same : (hash hash2 : Ref → ℕ) (n i : ℕ) (q : Ref) → hash2 q ≡ hash q → in_bucket hash2 n i q ≡ in_bucket hash n i q
  unfolding in_bucket
  in_same hash hash2 n i q e = ap (λ z. (z % n) == i) e

  module _ {T : Type 0} (m n : Pooled T) (s : ℕ) (held : (q : Ref) → P q → IsHeld n q) (link : (q : Ref) → P q → link_of n q.name s ≡ link_of m q.name s) where
    linked_on : (b : Option Ref) (rs : List Ref) (f : Option Ref) → AllOf P rs → IsLinked m s b rs f → IsLinked n s b rs f
    linked_on b [] f all h = tt
    linked_on b (r ∷ rs) f all h =
        let same = link r all.0 in
        (held r all.0, ap (λ (l : Link). l.back) same ∙ h.1, ap (λ (l : Link). l.forth) same ∙ h.2, linked_on (Some r) rs f all.1 h.3)

    tagged_on : (hash hash2 : Ref → ℕ) → ((q : Ref) → P q → hash2 q ≡ hash q) → (rs : List Ref) → AllOf P rs → AreTagged hash m s rs → AreTagged hash2 n s rs
    tagged_on hash hash2 same [] all h = tt
    tagged_on hash hash2 same (r ∷ rs) all h = (ap (λ (l : Link). l.tag.key) (link r all.0) ∙ h.0 ∙ sym (same r all.0), tagged_on hash hash2 same rs all.1 h.1)

    all_left : (xs ys : List Ref) → AllOf P (xs ++ ys) → AllOf P xs
    all_left [] ys h = tt
    all_left (x ∷ xs) ys h = (h.0, all_left xs ys h.1)

    all_right : (xs ys : List Ref) → AllOf P (xs ++ ys) → AllOf P ys
    all_right [] ys h = h
    all_right (x ∷ xs) ys h = all_right xs ys h.1

    chained_on : (gs : List (List Ref)) (f : Option Ref) → AllOf P (members gs) → IsChained m s gs f → IsChained n s gs f
    chained_on [] f all h = tt
    chained_on (g ∷ gs) f all h = (
      linked_on (last_of None g) g (first_in gs f) (all_left g (members gs) all) h.0,
      chained_on gs f (all_right g (members gs) all) h.1,
    )

    held_on : (rs : List Ref) → AllOf P rs → AreHeld n rs
    held_on [] all = tt
    held_on (r ∷ rs) all = (held r all.0, held_on rs all.1)

-- a node has the same link in both pools, and values of one key
pub record IsSame {T : Type 0} (k : Keying T) (m n : Pooled T) (s : ℕ) (r : Ref) : Type 0 where
  pub held : IsHeld n r
  pub link : link_of n r.name s ≡ link_of m r.name s
  pub old : T
  pub new : T
  pub was : value_of m r.name ≡ Some old
  pub is : value_of n r.name ≡ Some new
  pub one_key : k.same old new ≡ true

module _ {T : Type 0} (k : Keying T) (w : IsLawful k) (m n : Pooled T) (s : ℕ) where
  agreed : (a b : Ref) → IsSame k m n s a → IsSame k m n s b → same_nodes k n a b ≡ same_nodes k m a b
  agreed a b p q = same_nodes_is k n a b p.new q.new p.is q.is
      ∙ both_ways (k.same p.new q.new) (k.same p.old q.old)
      (λ e. w.transitive p.old p.new q.old p.one_key (w.transitive p.new q.new q.old e (w.symmetric q.old q.new q.one_key)))
      (λ e. w.transitive p.new p.old q.new (w.symmetric p.old p.new p.one_key) (w.transitive p.old q.old q.new e q.one_key))
      ∙ sym (same_nodes_is k m a b p.old q.old p.was q.was)

  stamps_agree : (a : Ref) → IsSame k m n s a → stamp_at n s a ≡ stamp_at m s a
  stamps_agree a p = ap (λ (l : Link). l.tag.stamp) p.link

  hashes_agree : (a : Ref) → IsSame k m n s a → hash_node k n a ≡ hash_node k m a
  hashes_agree a p = hash_is k n a p.new p.is ∙ sym (w.one_hash p.old p.new p.one_key) ∙ sym (hash_is k m a p.old p.was)

  rising_elsewhere : (rs : List Ref) → AllOf (IsSame k m n s) rs → IsRising (same_nodes k m) (stamp_at m s) rs → IsRising (same_nodes k n) (stamp_at n s) rs
  rising_elsewhere rs all h = rising_on (IsSame k m n s) (same_nodes k m) (same_nodes k n)
      (alike k m w) agreed (stamp_at m s) (stamp_at n s) stamps_agree rs all h

  buckets_elsewhere : (heads : List (Option Ref)) (count : ℕ) (rs : List Ref) → n.slots ≡ m.slots
      → AllOf (IsSame k m n s) rs → AreBuckets (same_nodes k m) (stamp_at m s) (hash_node k m) m s heads count rs
      → AreBuckets (same_nodes k n) (stamp_at n s) (hash_node k n) n s heads count rs
  buckets_elsewhere heads count rs slots all h = let P = IsSame k m n s in record {
    slot = subst (λ z. s < z) (sym slots) h.slot;
    some = h.some;
    held = held_on P m n s (λ q p. p.held) (λ q p. p.link) rs all;
    apart = h.apart;
    rising = rising_elsewhere rs all h.rising;
    each = λ i lt.
        let b = h.each i lt in let I = in_bucket (hash_node k m) count i in
        let part = all_filter P I rs all in
        let same : filter (in_bucket (hash_node k n) count i) rs ≡ filter I rs = filter_on P (in_bucket (hash_node k n) count i)
        I (λ q p. in_same P (hash_node k m) (hash_node k n) count i q (hashes_agree q p)) rs all in
        record {
          groups = b.groups;
          first_is = b.first_is;
          chained = chained_on P m n s (λ q p. p.held) (λ q p. p.link) b.groups None
              (grouped_all P (same_nodes k m) (same_nodes k n) (alike k m w) agreed b.groups (filter I rs) part b.grouped) b.chained;
          grouped = subst (IsGrouped (same_nodes k n) b.groups) (sym same)
              (grouped_on P (same_nodes k m) (same_nodes k n) (alike k m w) agreed b.groups (filter I rs) part b.grouped);
        };
  }

pub chained_elsewhere : {T H : Type 0} (c : Chains H) (k : Keying T) (w : IsLawful k) (m n : Pooled T) (rs : List Ref)
    → n.slots ≡ m.slots → AllOf (IsSame k m n c.slot) rs → AreChained c k m rs → AreChained c k n rs
chained_elsewhere c k w m n rs slots all h = let P = IsSame k m n c.slot in record {
  buckets = buckets_elsewhere k w m n c.slot c.buckets.items (vec_len c.buckets) rs slots all h.buckets;
  tagged = tagged_on P m n c.slot (λ q p. p.held) (λ q p. p.link) (hash_node k m) (hash_node k n) (hashes_agree k w m n c.slot) rs all h.tagged;
  power = h.power;
  counted = h.counted ∙ sym (count_on P (same_nodes k m) (same_nodes k n) (alike k m w) (agreed k w m n c.slot) rs all);
  few = h.few;
}

module _ {T : Type 0} (k : Keying T) (w : IsLawful k) (m : Pooled T) (x : Ref) (old new : T)
    (was : value_of m x.name ≡ Some old) (one_key : k.same old new ≡ true) (s : ℕ) where
  abbrev n : Pooled T
  n = with_value m x.name new

  value_now : (r : Ref) → (x.name == r.name) ≡ true → value_of m r.name ≡ Some old → value_of n r.name ≡ Some new
  value_now r is e = value-with_value m x.name new r.name ∙ (λ i. cond (is i) (option_map (λ (_ : T). new) (e i)) (e i))

  same_swapped : (r : Ref) → IsHeld m r → IsSame k m n s r
  same_swapped r h = (elim (x.name == r.name) as (λ b. (x.name == r.name) ≡ b → IsSame k m n s r) [
    | true ↦ λ is. let here = ap (value_of m) (sym (same_name x.name r.name is)) ∙ was in
        record {
          held = ref-with_value m x.name new r.name ∙ h;
          link = link-with_value m x.name new r.name s;
          old = old;
          new = new;
          was = here;
          is = value_now r is here;
          one_key = one_key;
        }
    | false ↦ λ is. let v = held_has m r h in record {
      held = ref-with_value m x.name new r.name ∙ h;
      link = link-with_value m x.name new r.name s;
      old = v.0;
      new = v.0;
      was = v.1;
      is = value_there m x.name new r.name is ∙ v.1;
      one_key = w.reflexive v.0;
    }
  ]) refl

  all_swapped : (rs : List Ref) → AreHeld m rs → AllOf (IsSame k m n s) rs
  all_swapped [] h = tt
  all_swapped (r ∷ rs) h = (same_swapped r h.0, all_swapped rs h.1)

  probe_agrees : (p : Probe) (r : Ref) → IsSame k m n s r → has_key k n p r ≡ has_key k m p r
  probe_agrees p r h = has_key_is k n p r h.new h.is
      ∙ both_ways (k.same_key h.new p) (k.same_key h.old p) (w.agrees h.new h.old p (w.symmetric h.old h.new h.one_key)) (w.agrees h.old h.new p h.one_key)
      ∙ sym (has_key_is k m p r h.old h.was)

pub chained_swapped : {T H : Type 0} (k : Keying T) → IsLawful k → StandWhereSwapped T H k
chained_swapped k w c m rs x old new h was one_key =
    let n = with_value m x.name new in let all = all_swapped k w m x old new was one_key c.slot rs h.buckets.held in (
      chained_elsewhere c k w m n rs (slots-with_value m x.name new) all h,
      λ p. filter_on (IsSame k m n c.slot) (has_key k n p) (has_key k m p) (probe_agrees k w m x old new was one_key c.slot p) rs all,
    )

module _ {T : Type 0} (k : Keying T) (w : IsLawful k) (m : Pooled T) (r : Ref) (v : T) (free : ref_of m r.name ≡ None) (s : ℕ) where
  same_taken : (q : Ref) → IsHeld m q → IsSame k m (taken m r v) s q
  same_taken q h = let other : (r.name == q.name) ≡ false = apart_of_free m q r h free in let had = held_has m q h in record {
    held = held-taken m q r v h free;
    link = link-taken m r v q.name s ∙ ap (λ b. cond b no_link (link_of m q.name s)) other;
    old = had.0;
    new = had.0;
    was = had.1;
    is = value-taken m r v q.name ∙ ap (λ b. cond b (Some v) (value_of m q.name)) other ∙ had.1;
    one_key = w.reflexive had.0;
  }

  all_taken : (rs : List Ref) → AreHeld m rs → AllOf (IsSame k m (taken m r v) s) rs
  all_taken [] h = tt
  all_taken (q ∷ rs) h = (same_taken q h.0, all_taken rs h.1)

pub chained_taken : {T H : Type 0} (c : Chains H) (k : Keying T) → IsLawful k → (m : Pooled T) (r : Ref) (v : T) (rs : List Ref) → ref_of m r.name ≡ None
    → AreChained c k m rs → AreChained c k (taken m r v) rs
chained_taken c k w m r v rs free h =
    chained_elsewhere c k w m (taken m r v) rs (slots-taken m r v) (all_taken k w m r v free c.slot rs h.buckets.held) h
