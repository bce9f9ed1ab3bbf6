-- The same by keys and pools: what the calls of the chains cite.
-- Cited by `Chains::first_of`, `Chains::insert`, `Chains::next_of`, `Chains::prev_of`, 5 more, `mi_index` and `test_storage`.
use Rattle.std.proofs.Common.{◌≡◌, ℕ, ◌+◌, ◌-◌, ◌==◌, ◌<◌, ◌≤◌, ◌%◌, ◌^◌, ◌⊎◌, inl, inr, Bool, true, false, not, cond, List, [], ◌∷◌, ◌++◌}
use Rattle.std.proofs.Common.{length, slice_index_or, vec_len, Option, Some, None, refl, sym, ap, ◌∙◌, subst, arith, length-append}
use Rattle.std.specs.List.{filter}
use Rattle.std.specs.Int.{IsPowerOfTwo}
use Rattle.std.specs.Option.{option_or}
use Rattle.std.proofs.Math.Nat.{mod-lt}
use Rattle.std.proofs.lemmas.List.{append-nil}
use Rattle.std.proofs.lemmas.List.Elements.{filter-append}
use Rattle.mi_node.specs.Pool.{Pooled, value_of, link_of, IsHeld, IsHeldIf, Keeps, with_link}
use Rattle.mi_node.specs.Neighbours.{AreHeld, IsLinked, joined}
use Rattle.mi_node.specs.Refs.{Ref, first_of, last_of, IsOut, IsApart, AreOut}
use Rattle.mi_node.specs.declared.link.Link.{Link}
use Rattle.mi_node.specs.declared.link.Tag.{Tag}
use Rattle.mi_node.proofs.EntryLemmas.{same_refl, link_here, link_there, link-with_link}
use Rattle.mi_node.proofs.KeepingLemmas.{keeps_link, keeps_then, keeps_more, held_kept}
use Rattle.mi_node.proofs.NeighbourLemmas.{linked_held, tag-joined, tag-with_link}
use Rattle.mi_node.proofs.RefLemmas.{out_left, out_right, out_both, apart_left, apart_right, apart_remove, apart_across, are_out_tail, are_out_flip, last_push}
use Rattle.mi_chain.specs.Keying.{Keying, IsLawful, same_nodes, hash_node, stamp_at}
use Rattle.mi_chain.specs.Groups.{members, unalike, first_in, last_in, key_count, AreFull, ArePassed, IsChained, IsChain, IsGrouped}
use Rattle.mi_chain.specs.Places.{Found, IsFound, IsCut, IsGap, IsEnd, AreNotBelow, IsBelowIf, is_named}
use Rattle.mi_chain.specs.Places.{is_empty, other_than, end_at, end_beside, ends_with, back_of, forth_of}
use Rattle.mi_chain.specs.Heads.{heads_joined}
use Rattle.mi_chain.specs.Chained.{AreAfter, AreBefore, IsRising, in_bucket, IsPlaced, FitsBetween, AreTagged, AreBuckets, AreChained, AreNew}
use Rattle.mi_chain.specs.declared.chains.Chains.{Chains}
use Rattle.mi_chain.proofs.GroupLemmas.{out_filter, apart_filter, not_empty, filter_with, passed_all}
use Rattle.mi_chain.proofs.KeyingLemmas.{alike, same_hash, same_kept, hash_kept}
use Rattle.mi_chain.proofs.CutLemmas.{left_of, right_of, some_last as last_some, back_between, forth_between}
use Rattle.mi_chain.proofs.CutLemmas.{members-append, chained_left, chained_right, last_held, first_held, last_in_held}
use Rattle.mi_chain.proofs.SearchLemmas.{Walked, begins, full_right, first_is_held, after_last}
use Rattle.mi_chain.proofs.StandingLemmas.{chain_of, none_found, group_found, class_below, class_above, class_in, held_at, buckets_kept, rising_before, rising_after}
use Rattle.mi_chain.proofs.ChangeLemmas.{put_new, put_old, spot_held, gap_spot, take_old, ends_held, link_back}
use Rattle.mi_chain.proofs.ChangeLemmas.{next_says, none_says, prev_says, back_is_held, some_found, end_found}
use Rattle.mi_chain.proofs.CountLemmas.{count_new, count_old, count_least, count_some}

some_ref : (x y : Ref) → Some x ≡ Some y → x ≡ y
some_ref x y e = cc

pub held_or : {T : Type 0} (m : Pooled T) (o p : Option Ref) → IsHeldIf m o → IsHeldIf m p → IsHeldIf m (option_or o p)
held_or m None p g h = h
held_or m (Some x) p g h = g

-- tags of parts of a list
module _ {T : Type 0} (hash : Ref → ℕ) (m : Pooled T) (s : ℕ) where
  pub tagged_filter : (f : Ref → Bool) (rs : List Ref) → AreTagged hash m s rs → AreTagged hash m s (filter f rs)
  tagged_filter f [] h = tt
  tagged_filter f (r ∷ rs) h = elim (f r) as (λ b. AreTagged hash m s (cond b (r ∷ filter f rs) (filter f rs))) [
    | true ↦ (h.0, tagged_filter f rs h.1)
    | false ↦ tagged_filter f rs h.1
  ]

  tagged_both : (xs ys : List Ref) → AreTagged hash m s xs → AreTagged hash m s ys → AreTagged hash m s (xs ++ ys)
  tagged_both [] ys g h = h
  tagged_both (x ∷ xs) ys g h = (g.0, tagged_both xs ys g.1 h)

  pub tagged_groups : (R : Ref → Ref → Bool) (gs : List (List Ref)) (rs : List Ref)
      → IsGrouped R gs rs → AreTagged hash m s rs → AreTagged hash m s (members gs)
  tagged_groups R [] rs g h = tt
  tagged_groups R (u ∷ gs) rs g h = tagged_both u (members gs) (subst (AreTagged hash m s) g.2 (tagged_filter (R g.0) rs h))
      (tagged_groups R gs (unalike R g.0 rs) g.3 (tagged_filter (λ q. not (R g.0 q)) rs h))

  tagged_at : (xs : List Ref) (r : Ref) (ys : List Ref) → AreTagged hash m s (xs ++ r ∷ ys) → (link_of m r.name s).tag.key ≡ hash r
  tagged_at [] r ys h = h.0
  tagged_at (x ∷ xs) r ys h = tagged_at xs r ys h.1

  tagged_without : (xs : List Ref) (r : Ref) (ys : List Ref) → AreTagged hash m s (xs ++ r ∷ ys) → AreTagged hash m s (xs ++ ys)
  tagged_without [] r ys h = h.1
  tagged_without (x ∷ xs) r ys h = (h.0, tagged_without xs r ys h.1)

  tagged_with : (xs : List Ref) (r : Ref) (ys : List Ref) → (link_of m r.name s).tag.key ≡ hash r
      → AreTagged hash m s (xs ++ ys) → AreTagged hash m s (xs ++ r ∷ ys)
  tagged_with [] r ys e h = (e, h)
  tagged_with (x ∷ xs) r ys e h = (h.0, tagged_with xs r ys e h.1)

  pub tagged_same : (n : Pooled T) (rs : List Ref) → ((q : Ref) → (link_of n q.name s).tag ≡ (link_of m q.name s).tag)
      → AreTagged hash m s rs → AreTagged hash n s rs
  tagged_same n [] same h = tt
  tagged_same n (r ∷ rs) same h = (ap (λ (t : Tag). t.key) (same r) ∙ h.0, tagged_same n rs same h.1)

-- a walk is at a node whose tag has its hash
pub walk_tag : {T : Type 0} (hash : Ref → ℕ) (m : Pooled T) (s : ℕ) (head : Option Ref)
    (gs : List (List Ref)) (h : IsChain m s head gs) (K : Ref → Bool) (before at : Option Ref) (y : Ref)
    → Walked K gs before at → at ≡ Some y → AreTagged hash m s (members gs)
    → (link_of m y.name s).tag.key ≡ hash y
walk_tag hash m s head gs h K before at y w e t =
    let b = begins w.ys y (full_right w.xs w.ys (subst AreFull w.parts h.full)) (sym w.at_is ∙ e) in
    tagged_at hash m s (members w.xs) y (b.0 ++ members b.1)
    (subst (AreTagged hash m s) (ap members (w.parts ∙ ap (λ z. w.xs ++ z) b.2) ∙ members-append w.xs ((y ∷ b.0) ∷ b.1)) t)

-- a found group is linked, and its first node is held
pub record Group {T : Type 0} (m : Pooled T) (s : ℕ) (bef : Option Ref) (first : Ref) (g : List Ref) : Type 0 where
  pub rest : Option Ref
  pub linked : IsLinked m s (last_of None g) g rest
  pub apart : IsApart g
  pub first_is : first_of g None ≡ Some first
  pub before_held : IsHeldIf m bef
  pub first_held : IsHeld m first
  pub all_held : AreHeld m g

pub group_at : {T : Type 0} (m : Pooled T) (s : ℕ) (head : Option Ref) (gs : List (List Ref)) (K : Ref → Bool) (bef : Option Ref) (first : Ref)
    → IsChain m s head gs → (f : Found K gs bef first) → Group m s bef first f.group
group_at m s head gs K bef first h f =
    let linked = subst (λ z. IsChained m s z None) f.parts h.chained in
    let on = chained_right s m f.xs (f.group ∷ f.ys) None linked in
    let all : IsApart (members f.xs ++ (f.group ++ members f.ys)) = subst IsApart (ap members f.parts ∙ members-append f.xs (f.group ∷ f.ys)) h.apart in
    let a = apart_left f.group (members f.ys) (apart_right (members f.xs) (f.group ++ members f.ys) all) in record {
      rest = first_in f.ys None;
      linked = on.0;
      apart = a;
      first_is = f.first_is;
      before_held = subst (IsHeldIf m) (sym f.before_is) (last_in_held s m None f.xs _ tt (chained_left s m f.xs (f.group ∷ f.ys) None linked));
      first_held = first_is_held m s first f.group (first_in f.ys None) on.0 a f.first_is;
      all_held = linked_held s m (last_of None f.group) f.group (first_in f.ys None) on.0;
    }

held_xs : {T : Type 0} (m : Pooled T) (xs ys : List Ref) → AreHeld m (xs ++ ys) → AreHeld m xs
held_xs m [] ys h = tt
held_xs m (x ∷ xs) ys h = (h.0, held_xs m xs ys h.1)

held_ys : {T : Type 0} (m : Pooled T) (xs ys : List Ref) → AreHeld m (xs ++ ys) → AreHeld m ys
held_ys m [] ys h = h
held_ys m (x ∷ xs) ys h = held_ys m xs ys h.1

pub gap_ends : {T : Type 0} (m : Pooled T) (stamp : Ref → ℕ) (n : ℕ) (g : List Ref) (prev next : Option Ref)
    → AreHeld m g → IsGap stamp n g prev next → IsHeldIf m prev × IsHeldIf m next
gap_ends m stamp n g prev next h q =
    let all = subst (AreHeld m) q.parts h in (
      subst (IsHeldIf m) (sym q.prev_is) (last_held 0 m None q.us tt (held_xs m q.us q.vs all)),
      subst (IsHeldIf m) (sym q.next_is) (first_held 0 m q.vs None tt (held_ys m q.us q.vs all)),
    )

module _ {T H : Type 0} (c : Chains H) (k : Keying T) (w : IsLawful k) (m : Pooled T) where
  abbrev n : ℕ
  n = vec_len c.buckets

  abbrev s : ℕ
  s = c.slot

  abbrev heads : List (Option Ref)
  heads = c.buckets.items

  count_is : n ≡ length heads
  count_is = c.buckets.ok.0

  pub here : (rs : List Ref) (x : ℕ) → AreChained c k m rs → x % n < n
  here rs x h = let b = h.buckets in mod-lt x b.some

  abbrev pub groups_at : (rs : List Ref) → AreChained c k m rs → ℕ → List (List Ref)
  groups_at rs h x = let b = h.buckets in (b.each (x % n) (here rs x h)).groups

  pub chain_here : (rs : List Ref) (h : AreChained c k m rs) (x : ℕ) (head : Option Ref)
      → head ≡ slice_index_or heads (x % n) None → IsChain m s head (groups_at rs h x)
  chain_here rs h x head e = subst (λ o. IsChain m s o (groups_at rs h x)) (sym e)
      (chain_of (same_nodes k m) (alike k m w) (stamp_at m s) (hash_node k m) (same_hash k m w) m s heads n rs h.buckets (x % n) (here rs x h))

  pub tags_here : (rs : List Ref) (h : AreChained c k m rs) (x : ℕ) → AreTagged (hash_node k m) m s (members (groups_at rs h x))
  tags_here rs h x = let b = h.buckets in let u = b.each (x % n) (here rs x h) in
      tagged_groups (hash_node k m) m s (same_nodes k m) u.groups (filter (in_bucket (hash_node k m) n (x % n)) rs)
      u.grouped (tagged_filter (hash_node k m) m s (in_bucket (hash_node k m) n (x % n)) rs h.tagged)

  pub few_groups : (rs : List Ref) → AreChained c k m rs → c.groups < 2 ^ 32
  few_groups rs h = let e = h.counted in let few = h.few in omega (arith, count_least (same_nodes k m) rs)

  -- a search that passes all groups
  pub none_left : (xs : List Ref) (r : Ref) (ys : List Ref) (h : AreChained c k m (xs ++ ys))
      → ArePassed (same_nodes k m r) (groups_at (xs ++ ys) h (hash_node k m r)) → filter (same_nodes k m r) (xs ++ ys) ≡ []
  none_left xs r ys h p = none_found (same_nodes k m) (alike k m w) (stamp_at m s) (hash_node k m)
      (same_hash k m w) m s heads n (xs ++ ys) h.buckets r (here (xs ++ ys) (hash_node k m r) h) p

  -- in the group of a node's key those with a lower stamp stand first
  pub cut_at : (xs : List Ref) (r : Ref) (ys : List Ref) (t : ℕ) (h : AreChained c k m (xs ++ ys)) → IsPlaced k m s r t xs ys
      → (bef : Option Ref) (first : Ref) (f : Found (same_nodes k m r) (groups_at (xs ++ ys) h (hash_node k m r)) bef first)
      → IsCut (stamp_at m s) t f.group
  cut_at xs r ys t h p bef first f =
      let all = group_found (same_nodes k m) (alike k m w) (stamp_at m s) (hash_node k m)
      (same_hash k m w) m s heads n (xs ++ ys) h.buckets r (here (xs ++ ys) (hash_node k m r) h) bef first f in record {
        us = filter (same_nodes k m r) xs;
        vs = filter (same_nodes k m r) ys;
        parts = sym all ∙ filter-append (same_nodes k m r) xs ys;
        below = class_below (same_nodes k m) (stamp_at m s) r t xs p.before;
        above = class_above (same_nodes k m) (stamp_at m s) r t ys p.after;
      }

  -- chains in a pool with the same values, where a list stands with some stamps
  arrive : (c2 : Chains H) (m2 : Pooled T) (stamp : Ref → ℕ) (rs : List Ref) → c2.slot ≡ s → vec_len c2.buckets ≡ n
      → ((q : ℕ) → value_of m2 q ≡ value_of m q) → stamp ≡ stamp_at m2 s → AreBuckets (same_nodes k m) stamp (hash_node k m) m2 s c2.buckets.items n rs
      → AreTagged (hash_node k m) m2 s rs → IsPowerOfTwo n → c2.groups ≡ key_count (same_nodes k m) rs → length rs < 2 ^ 32 → AreChained c2 k m2 rs
  arrive c2 m2 stamp rs es en values stamps b t p g few =
      let R = same_kept k m m2 values in let h = hash_kept k m m2 values in record {
        buckets = subst (λ (z : ℕ × ℕ). AreBuckets (same_nodes k m2) (stamp_at m2 z.0) (hash_node k m2) m2 z.0 c2.buckets.items z.1 rs)
            (λ i. (sym es i, sym en i))
            (subst (λ (z : (Ref → Ref → Bool) × (Ref → ℕ) × (Ref → ℕ)). AreBuckets z.0 z.1 z.2 m2 s c2.buckets.items n rs)
            (λ i. (sym R i, stamps i, sym h i)) b);
        tagged = subst (λ (z : (Ref → ℕ) × ℕ). AreTagged z.0 m2 z.1 rs) (λ i. (sym h i, sym es i)) t;
        power = subst IsPowerOfTwo (sym en) p;
        counted = g ∙ ap (λ (f : Ref → Ref → Bool). key_count f rs) (sym R);
        few = few;
      }

  -- a node is put in, with the tag of a link
  module _ (xs : List Ref) (r : Ref) (ys : List Ref) (t : ℕ) (l : Link) (h : AreChained c k m (xs ++ ys))
      (p : IsPlaced k m s r t xs ys) (el : l.tag.stamp ≡ t) (et : l.tag.key ≡ hash_node k m r) where
    abbrev m1 : Pooled T
    m1 = with_link m r.name s l

    abbrev pub stamp1 : Ref → ℕ
    stamp1 = stamp_at m1 s

    stamp_mine : stamp1 r ≡ t
    stamp_mine = ap (λ (z : Link). z.tag.stamp) (link_here m r s l p.held) ∙ el

    stamp_theirs : (q : Ref) → (r.name == q.name) ≡ false → stamp1 q ≡ stamp_at m s q
    stamp_theirs q e = ap (λ (z : Link). z.tag.stamp) (link_there m r.name s l q.name s e)

    after_there : (q : Ref) (rs : List Ref) → (r.name == q.name) ≡ false → IsOut r.name rs
        → AreAfter (same_nodes k m) (stamp_at m s) q (stamp_at m s q) rs → AreAfter (same_nodes k m) stamp1 q (stamp1 q) rs
    after_there q [] d o a = tt
    after_there q (z ∷ rs) d o a = ((λ e. let lt = a.0 e in let u = stamp_theirs q d in let v = stamp_theirs z o.0 in omega arith), after_there q rs d o.1 a.1)

    pub rising_there : (rs : List Ref) → IsOut r.name rs → IsRising (same_nodes k m) (stamp_at m s) rs → IsRising (same_nodes k m) stamp1 rs
    rising_there [] o a = tt
    rising_there (z ∷ rs) o a = (after_there z rs o.0 o.1 a.0, rising_there rs o.1 a.1)

    before_mine : (rs : List Ref) → IsOut r.name rs → AreBefore (same_nodes k m) (stamp_at m s) r t rs → AreBefore (same_nodes k m) stamp1 r (stamp1 r) rs
    before_mine [] o a = tt
    before_mine (z ∷ rs) o a = ((λ e. let lt = a.0 e in let u = stamp_mine in let v = stamp_theirs z o.0 in omega arith), before_mine rs o.1 a.1)

    after_mine : (rs : List Ref) → IsOut r.name rs → AreAfter (same_nodes k m) (stamp_at m s) r t rs → AreAfter (same_nodes k m) stamp1 r (stamp1 r) rs
    after_mine [] o a = tt
    after_mine (z ∷ rs) o a = ((λ e. let lt = a.0 e in let u = stamp_mine in let v = stamp_theirs z o.0 in omega arith), after_mine rs o.1 a.1)

    abbrev pub h1 : AreBuckets (same_nodes k m) stamp1 (hash_node k m) m s heads n (xs ++ ys)
    h1 =
        let b = h.buckets in
        record { slot = b.slot; some = b.some; held = b.held; apart = b.apart; rising = rising_there (xs ++ ys) p.out b.rising; each = b.each }

    before1 : AreBefore (same_nodes k m) stamp1 r (stamp1 r) xs
    before1 = before_mine xs (out_left r.name xs ys p.out) p.before

    after1 : AreAfter (same_nodes k m) stamp1 r (stamp1 r) ys
    after1 = after_mine ys (out_right r.name xs ys p.out) p.after

    abbrev pub C : List (List Ref)
    C = groups_at (xs ++ ys) h (hash_node k m r)

    abbrev lt : hash_node k m r % n < n
    lt = here (xs ++ ys) (hash_node k m r) h

    not_below : (g : List Ref) → AreNotBelow (stamp_at m s) t g → IsOut r.name g → AreNotBelow stamp1 (stamp1 r) g
    not_below [] a o = tt
    not_below (z ∷ g) a o = ((let le = a.0 in let u = stamp_mine in let v = stamp_theirs z o.0 in omega arith), not_below g a.1 o.1)

    below : (us : List Ref) (o : Option Ref) → o ≡ last_of None us → IsOut r.name us → IsBelowIf (stamp_at m s) t o → IsBelowIf stamp1 (stamp1 r) o
    below us None e out b = tt
    below us (Some z) e out b = let u = stamp_mine in let v = stamp_theirs z (last_apart None us (λ q d. absurd cc) out z (sym e)) in omega arith
      where
        last_apart : (b : Option Ref) (us : List Ref) → ((q : Ref) → b ≡ Some q → (r.name == q.name) ≡ false)
            → IsOut r.name us → (q : Ref) → last_of b us ≡ Some q → (r.name == q.name) ≡ false
        last_apart b [] h o q e = h q e
        last_apart b (u ∷ us) h o q e = last_apart (Some u) us
            (λ z d. let same : u ≡ z = cc in subst (λ (x : Ref). (r.name == x.name) ≡ false) same o.0) o.1 q e

    -- the place that a stamp's neighbours tell
    pub spot_of_gap : (bef : Option Ref) (first : Ref) (f : Found (same_nodes k m r) C bef first) (prev next : Option Ref)
        → IsGap (stamp_at m s) t f.group prev next
        → (option_or prev bef ≡ left_of f.xs (filter (same_nodes k m r) xs))
        × (option_or next (Some first) ≡ right_of (filter (same_nodes k m r) xs) (filter (same_nodes k m r) ys))
        × (option_or prev (back_of m s first) ≡ back_between (filter (same_nodes k m r) xs) r (filter (same_nodes k m r) ys))
        × (option_or next (forth_of m s prev) ≡ forth_between (filter (same_nodes k m r) ys) f.ys)
    spot_of_gap bef first f prev next g =
        let all = group_found (same_nodes k m) (alike k m w) (stamp_at m s) (hash_node k m)
        (same_hash k m w) m s heads n (xs ++ ys) h.buckets r lt bef first f in
        let out : IsOut r.name f.group = subst (IsOut r.name) all (out_filter (same_nodes k m r) r.name (xs ++ ys) p.out) in
        let parts_out = subst (IsOut r.name) g.parts out in
        gap_spot (same_nodes k m) (alike k m w) stamp1 (hash_node k m) (same_hash k m w) m m1 s heads heads n xs r ys
        h1 p.held p.out before1 after1 lt (subst (λ z. hash_node k m r % n < z) count_is lt) bef first f prev next
        (record {
          us = g.us;
          vs = g.vs;
          parts = g.parts;
          prev_is = g.prev_is;
          next_is = g.next_is;
          below = below g.us prev g.prev_is (out_left r.name g.us g.vs parts_out) g.below;
          above = not_below g.vs g.above (out_right r.name g.us g.vs parts_out);
        })

    module _ (c2 : Chains H) (m2 : Pooled T) (es : c2.slot ≡ s) (en : vec_len c2.buckets ≡ n) where
      landed : (left right : Option Ref) → m2 ≡ joined m1 s left (Some r) right (Some r) → c2.groups ≡ key_count (same_nodes k m) (xs ++ r ∷ ys)
          → AreBuckets (same_nodes k m) stamp1 (hash_node k m) m2 s c2.buckets.items n (xs ++ r ∷ ys)
          × Keeps m m2 s (r ∷ filter (in_bucket (hash_node k m) n (hash_node k m r % n)) (xs ++ ys))
          → AreChained c2 k m2 (xs ++ r ∷ ys) × Keeps m m2 s (r ∷ (xs ++ ys))
      landed left right e g on =
          let tags : (q : Ref) → (link_of m2 q.name s).tag ≡ (link_of m1 q.name s).tag = λ q.
          ap (λ (z : Pooled T). (link_of z q.name s).tag) e ∙ tag-joined s m1 left (Some r) right (Some r) q.name s in
          let stamps : stamp1 ≡ stamp_at m2 s = λ i q. (sym (tags q) i).stamp in
          let mine : (link_of m1 r.name s).tag.key ≡ hash_node k m r = ap (λ (z : Link). z.tag.key) (link_here m r s l p.held) ∙ et in
          let tagged : AreTagged (hash_node k m) m1 s (xs ++ r ∷ ys) = tagged_with (hash_node k m) m1 s xs r ys mine (theirs (xs ++ ys) p.out h.tagged) in
          let wide = keeps_more s m m2 (r ∷ filter (in_bucket (hash_node k m) n (hash_node k m r % n)) (xs ++ ys)) (r ∷ (xs ++ ys))
          on.1 (λ q o. (o.0, out_filter (in_bucket (hash_node k m) n (hash_node k m r % n)) q (xs ++ ys) o.1)) in (
            arrive c2 m2 stamp1 (xs ++ r ∷ ys) es en wide.values stamps on.0 (tagged_same (hash_node k m) m1 s m2 (xs ++ r ∷ ys) tags tagged) h.power g p.few,
            wide,
          )
        where
          theirs : (rs : List Ref) → IsOut r.name rs → AreTagged (hash_node k m) m s rs → AreTagged (hash_node k m) m1 s rs
          theirs [] o t = tt
          theirs (q ∷ rs) o t = (ap (λ (z : Link). z.tag.key) (link_there m r.name s l q.name s o.0) ∙ t.0, theirs rs o.1 t.1)

      -- its key has no node
      pub inserted_new : filter (same_nodes k m r) (xs ++ ys) ≡ [] → l.back ≡ Some r → l.forth ≡ slice_index_or heads (hash_node k m r % n) None
          → m2 ≡ m1 → c2.buckets.items ≡ heads_joined None heads (hash_node k m r % n) (Some r)
          → c2.groups ≡ c.groups + 1 → AreChained c2 k m2 (xs ++ r ∷ ys) × Keeps m m2 s (r ∷ (xs ++ ys))
      inserted_new none lb lf e he g =
          let b = h.buckets in let u = b.each (hash_node k m r % n) lt in
          let inside = sym (class_here) ∙ none in
          landed None None e (g ∙ ap (λ z. z + 1) h.counted ∙ sym (count_new (same_nodes k m) (alike k m w) r ys xs none))
          (put_new (same_nodes k m) (alike k m w) stamp1 (hash_node k m) (same_hash k m w) m m2 s heads c2.buckets.items
          n xs r ys h1 p.held p.out before1 after1 lt (subst (λ z. hash_node k m r % n < z) count_is lt)
          l lb lf (passed_all (same_nodes k m) (alike k m w) r u.groups
          (filter (in_bucket (hash_node k m) n (hash_node k m r % n)) (xs ++ ys)) u.grouped inside)
          none e he)
        where
          class_here : filter (same_nodes k m r) (xs ++ ys) ≡ filter (same_nodes k m r) (filter (in_bucket (hash_node k m) n (hash_node k m r % n)) (xs ++ ys))
          class_here = sym (class_in (same_nodes k m) (alike k m w) (stamp_at m s) (hash_node k m) (same_hash k m w) m s heads n (xs ++ ys) r)

      -- its key has others
      pub inserted_old : (bef : Option Ref) (first : Ref) (f : Found (same_nodes k m r) C bef first) (left right : Option Ref)
          → left ≡ left_of f.xs (filter (same_nodes k m r) xs)
          → right ≡ right_of (filter (same_nodes k m r) xs) (filter (same_nodes k m r) ys)
          → l.back ≡ back_between (filter (same_nodes k m r) xs) r (filter (same_nodes k m r) ys) → l.forth ≡ forth_between (filter (same_nodes k m r) ys) f.ys
          → m2 ≡ joined m1 s left (Some r) right (Some r) → c2.buckets.items ≡ heads_joined left heads (hash_node k m r % n) (Some r) → c2.groups ≡ c.groups
          → AreChained c2 k m2 (xs ++ r ∷ ys) × Keeps m m2 s (r ∷ (xs ++ ys))
      inserted_old bef first f left right fl fr lb lf e he g =
          let all = group_found (same_nodes k m) (alike k m w) (stamp_at m s) (hash_node k m)
          (same_hash k m w) m s heads n (xs ++ ys) h.buckets r lt bef first f in
          let some : filter (same_nodes k m r) (xs ++ ys) ≡ [] → ⊥ = λ z.
          (let d : None ≡ Some first = ap (λ q. first_of q None) (sym z ∙ all) ∙ f.first_is in cc) in
          landed left right e (g ∙ h.counted ∙ sym (count_old (same_nodes k m) (alike k m w) r ys xs some))
          (put_old (same_nodes k m) (alike k m w) stamp1 (hash_node k m) (same_hash k m w) m m2 s heads c2.buckets.items
          n xs r ys h1 p.held p.out before1 after1 lt (subst (λ z. hash_node k m r % n < z) count_is lt)
          bef first f l left right fl fr lb lf e he)

  -- what a node's tags are after it was put in
  pub tags_put : (r : Ref) (l : Link) (left right a b : Option Ref) (m2 : Pooled T) → IsHeld m r
      → m2 ≡ joined (with_link m r.name s l) s left a right b → (q : ℕ) → (link_of m2 q s).tag ≡ cond (r.name == q) l.tag (link_of m q s).tag
  tags_put r l left right a b m2 held e q =
      ap (λ (z : Pooled T). (link_of z q s).tag) e ∙ tag-joined s (with_link m r.name s l) left a right b q s
      ∙ ap (λ (z : Link). z.tag) (link-with_link m r s l held q s)
      ∙ ap (λ c. (cond (r.name == q) (cond c l (link_of m q s)) (link_of m q s)).tag) (same_refl s)
      ∙ (elim (r.name == q) as (λ d. (cond d l (link_of m q s)).tag ≡ cond d l.tag (link_of m q s).tag) [ true ↦ refl | false ↦ refl ])

  held_filter : (f : Ref → Bool) (rs : List Ref) → AreHeld m rs → AreHeld m (filter f rs)
  held_filter f [] h = tt
  held_filter f (r ∷ rs) h =
      elim (f r) as (λ b. AreHeld m (cond b (r ∷ filter f rs) (filter f rs))) [ true ↦ (h.0, held_filter f rs h.1) | false ↦ held_filter f rs h.1 ]

  -- a node is put back between the nodes that a link names
  module _ (xs : List Ref) (r : Ref) (ys : List Ref) (l : Link) (h : AreChained c k m (xs ++ ys)) (q : FitsBetween k m s r l xs ys) where
    abbrev us' : List Ref
    us' = filter (same_nodes k m r) xs

    abbrev vs' : List Ref
    vs' = filter (same_nodes k m r) ys

    abbrev E : List (List Ref)
    E = groups_at (xs ++ ys) h (hash_node k m r)

    abbrev low : hash_node k m r % n < n
    low = here (xs ++ ys) (hash_node k m r) h

    class_of : filter (same_nodes k m r) (xs ++ ys) ≡ us' ++ vs'
    class_of = filter-append (same_nodes k m r) xs ys

    pub sides_held : IsHeldIf m l.back × IsHeldIf m l.forth
    sides_held =
        let b = h.buckets in let all = b.held in (
          subst (IsHeldIf m) (sym q.back_is) (last_held 0 m None us' tt (held_filter (same_nodes k m r) xs (held_xs m xs ys all))),
          subst (IsHeldIf m) (sym q.forth_is) (first_held 0 m vs' None tt (held_filter (same_nodes k m r) ys (held_ys m xs ys all))),
        )

    -- with no neighbour there is no node of the key
    pub none_beside : is_empty l.back l.forth ≡ true → filter (same_nodes k m r) (xs ++ ys) ≡ []
    none_beside e = by us' vs' refl refl (sym (λ i. is_empty (q.back_is i) (q.forth_is i)) ∙ e)
      where
        by : (ws zs : List Ref) → us' ≡ ws → vs' ≡ zs → is_empty (last_of None us') (first_of vs' None) ≡ true → filter (same_nodes k m r) (xs ++ ys) ≡ []
        by [] [] eu ev t = class_of ∙ (λ i. eu i ++ ev i)
        by [] (v ∷ zs) eu ev t = let f : false ≡ true = sym (λ i. is_empty (last_of None (eu i)) (first_of (ev i) None)) ∙ t in absurd cc
        by (u ∷ ws) zs eu ev t = let last = last_some u ws in
            let f : false ≡ true = sym (λ i. is_empty ((ap (last_of None) eu ∙ last.1) i) (first_of vs' None)) ∙ t in absurd cc

    pub record Room (left right back forth : Option Ref) : Type 0 where
      pub bef : Option Ref
      pub first : Ref
      pub found : Found (same_nodes k m r) E bef first
      pub left_is : left ≡ left_of found.xs us'
      pub right_is : right ≡ right_of us' vs'
      pub back_is : back ≡ back_between us' r vs'
      pub forth_is : forth ≡ forth_between vs' found.ys

    pub room_for : (before first end : Option Ref) → is_empty l.back l.forth ≡ false → end ≡ end_beside m s l.back l.forth
        → ((z : Ref) → IsEnd l.back l.forth → end ≡ Some z → IsFound (ends_with m s z.name) E before first)
        → Room (option_or l.back before) (option_or l.forth first) (option_or l.back end) (option_or l.forth (forth_of m s l.back))
    room_for before first end full ee tells = by us' vs' refl refl
      where
        ended : (z : Ref) → last_of None (us' ++ vs') ≡ Some z → IsFound (ends_with m s z.name) E before first
            → (y : Ref) × (first ≡ Some y) × Found (same_nodes k m r) E before y
        ended z e f = end_found (same_nodes k m) (alike k m w) (stamp_at m s) (hash_node k m) (same_hash k m w)
            m s heads n (xs ++ ys) h.buckets r low z (ap (last_of None) class_of ∙ e) before first f

        some_one : (filter (same_nodes k m r) (xs ++ ys) ≡ [] → ⊥) → (bef : Option Ref) × (y : Ref) × Found (same_nodes k m r) E bef y
        some_one some = some_found (same_nodes k m) (alike k m w) (stamp_at m s) (hash_node k m) (same_hash k m w) m s heads n (xs ++ ys) h.buckets r low some

        group_is : (bef : Option Ref) (y : Ref) (f : Found (same_nodes k m r) E bef y) → us' ++ vs' ≡ f.group
        group_is bef y f = sym class_of
            ∙ group_found (same_nodes k m) (alike k m w) (stamp_at m s) (hash_node k m) (same_hash k m w) m s heads n (xs ++ ys) h.buckets r low bef y f

        in_chain : (bef : Option Ref) (y : Ref) (f : Found (same_nodes k m r) E bef y)
            → IsLinked m s (last_of None (us' ++ vs')) (us' ++ vs') (first_in f.ys None)
        in_chain bef y f =
            let chain = chain_of (same_nodes k m) (alike k m w) (stamp_at m s) (hash_node k m)
            (same_hash k m w) m s heads n (xs ++ ys) h.buckets (hash_node k m r % n) low in
            let on = chained_right s m f.xs (f.group ∷ f.ys) None (subst (λ g. IsChained m s g None) f.parts chain.chained) in
            subst (λ g. IsLinked m s (last_of None g) g (first_in f.ys None)) (sym (group_is bef y f)) on.0

        by : (ws zs : List Ref) → us' ≡ ws → vs' ≡ zs
            → Room (option_or l.back before) (option_or l.forth first) (option_or l.back end) (option_or l.forth (forth_of m s l.back))
        by [] [] eu ev =
            let t : true ≡ false = sym (λ i. is_empty ((q.back_is ∙ ap (last_of None) eu) i) ((q.forth_is ∙ ap (λ z. first_of z None) ev) i)) ∙ full in
            absurd cc
        by [] (v ∷ zs) eu ev =
            let np : l.back ≡ None = q.back_is ∙ ap (last_of None) eu in let nn : l.forth ≡ Some v = q.forth_is ∙ ap (λ z. first_of z None) ev in
            let top = last_some v zs in
            let g = some_one (λ none. let e : [] ≡ v ∷ zs = sym none ∙ class_of ∙ (λ i. eu i ++ ev i) in cc) in
            let linked = subst (λ ws. IsLinked m s (last_of None ws) ws (first_in g.2.ys None)) (λ i. eu i ++ ev i) (in_chain g.0 g.1 g.2) in
            let back : end ≡ Some top.0 = ee ∙ (λ i. end_beside m s (np i) (nn i)) ∙ linked.1 ∙ top.1 in
            let on = ended top.0 ((λ i. last_of None (eu i ++ ev i)) ∙ top.1) (tells top.0 (inl np) back) in
            let f = on.2 in record {
              bef = before;
              first = on.0;
              found = on.2;
              left_is = ap (λ z. option_or z before) np ∙ f.before_is ∙ ap (λ z. left_of f.xs z) (sym eu);
              right_is = ap (λ z. option_or z first) nn ∙ (λ i. right_of (sym eu i) (sym ev i));
              back_is = ap (λ z. option_or z end) np ∙ back ∙ sym top.1 ∙ (λ i. back_between (sym eu i) r (sym ev i));
              forth_is = ap (λ z. option_or z (forth_of m s l.back)) nn ∙ (λ i. forth_between (sym ev i) f.ys);
            }
        by (u ∷ ws) [] eu ev =
            let last = last_some u ws in
            let np : l.back ≡ Some last.0 = q.back_is ∙ ap (last_of None) eu ∙ last.1 in let nn : l.forth ≡ None = q.forth_is ∙ ap (λ z. first_of z None) ev in
            let all : us' ++ vs' ≡ u ∷ ws = (λ i. eu i ++ ev i) ∙ append-nil (u ∷ ws) in
            let on = ended last.0 (ap (last_of None) all ∙ last.1) (tells last.0 (inr nn) (ee ∙ ap (end_beside m s l.back) nn ∙ np)) in
            let f = on.2 in
            let linked = subst (λ ts. IsLinked m s (last_of None ts) ts (first_in f.ys None)) all (in_chain before on.0 on.2) in
            let top : Some u ≡ Some on.0 = ap (λ z. first_of z None) (sym all ∙ group_is before on.0 on.2) ∙ f.first_is in
            let next : forth_of m s (last_of (Some u) ws) ≡ first_in f.ys None = after_last m s (last_of None (u ∷ ws)) u ws (first_in f.ys None) linked in
            record {
              bef = before;
              first = on.0;
              found = on.2;
              left_is = ap (λ z. option_or z before) np ∙ sym last.1 ∙ ap (λ z. last_of (last_in None f.xs) z) (sym eu);
              right_is = (λ i. option_or (nn i) (on.1 i)) ∙ sym top ∙ (λ i. right_of (sym eu i) (sym ev i));
              back_is = ap (λ z. option_or z end) np ∙ sym last.1 ∙ (λ i. back_between (sym eu i) r (sym ev i));
              forth_is = (λ i. option_or (nn i) (forth_of m s (np i))) ∙ ap (forth_of m s) (sym last.1) ∙ next ∙ (λ i. forth_between (sym ev i) f.ys);
            }
        by (u ∷ ws) (v ∷ zs) eu ev =
            let last = last_some u ws in
            let np : l.back ≡ Some last.0 = q.back_is ∙ ap (last_of None) eu ∙ last.1 in
            let nn : l.forth ≡ Some v = q.forth_is ∙ ap (λ z. first_of z None) ev in
            let f = some_one (λ none. let e : [] ≡ u ∷ ws ++ v ∷ zs = sym none ∙ class_of ∙ (λ i. eu i ++ ev i) in cc) in record {
              bef = f.0;
              first = f.1;
              found = f.2;
              left_is = ap (λ z. option_or z before) np ∙ sym last.1 ∙ ap (λ z. last_of (last_in None f.2.xs) z) (sym eu);
              right_is = ap (λ z. option_or z first) nn ∙ (λ i. right_of (sym eu i) (sym ev i));
              back_is = ap (λ z. option_or z end) np ∙ sym last.1 ∙ (λ i. back_between (sym eu i) r (sym ev i));
              forth_is = ap (λ z. option_or z (forth_of m s l.back)) nn ∙ (λ i. forth_between (sym ev i) f.2.ys);
            }

    pub room_holds : (left right back forth : Option Ref) → Room left right back forth → IsHeldIf m left × IsHeldIf m right
    room_holds left right back forth o =
        let p = q.placed in
        let on = spot_held (same_nodes k m) (alike k m w) (stamp1 xs r ys l.tag.stamp l h p refl q.hash_is) (hash_node k m)
        (same_hash k m w) m m s heads heads n xs r ys (h1 xs r ys l.tag.stamp l h p refl q.hash_is) p.held p.out
        (before1 xs r ys l.tag.stamp l h p refl q.hash_is) (after1 xs r ys l.tag.stamp l h p refl q.hash_is)
        low (subst (λ z. hash_node k m r % n < z) count_is low) o.bef o.first o.found in
        (subst (IsHeldIf m) (sym o.left_is) on.0, subst (IsHeldIf m) (sym o.right_is) on.1)

  -- a node is taken out, and its link then says where it stood
  module _ (xs : List Ref) (r : Ref) (ys : List Ref) (h : AreChained c k m (xs ++ r ∷ ys)) where
    abbrev us : List Ref
    us = filter (same_nodes k m r) xs

    abbrev vs : List Ref
    vs = filter (same_nodes k m r) ys

    abbrev D : List (List Ref)
    D = groups_at (xs ++ r ∷ ys) h (hash_node k m r)

    abbrev less : hash_node k m r % n < n
    less = here (xs ++ r ∷ ys) (hash_node k m r) h

    whole : filter (same_nodes k m r) (xs ++ r ∷ ys) ≡ us ++ r ∷ vs
    whole = let A = alike k m w in filter_with (same_nodes k m r) xs r ys (A.reflexive r)

    pub tag_is : (link_of m r.name s).tag.key ≡ hash_node k m r
    tag_is = tagged_at (hash_node k m) m s xs r ys h.tagged

    found_it : (bef : Option Ref) × (first : Ref) × Found (same_nodes k m r) D bef first
    found_it = some_found (same_nodes k m) (alike k m w) (stamp_at m s) (hash_node k m) (same_hash k m w)
        m s heads n (xs ++ r ∷ ys) h.buckets r less (λ z. not_empty us r vs (sym whole ∙ z))

    pub held_it : IsHeld m r
    held_it = let b = h.buckets in held_at m xs r ys b.held

    pub next_of_it : (q : Ref) → (link_of m r.name s).forth ≡ Some q
        → IsHeld m q
        × (((is_named r.name (back_of m s q) ≡ true) × (first_of vs None ≡ Some q))
        ⊎ ((is_named r.name (back_of m s q) ≡ false) × (first_of vs None ≡ None)))
    next_of_it =
        let f = found_it in
        next_says (same_nodes k m) (alike k m w) (stamp_at m s) (hash_node k m) (same_hash k m w) m m s heads
        heads n xs r ys h.buckets less (subst (λ z. hash_node k m r % n < z) count_is less) f.0 f.1 f.2

    pub none_of_it : (link_of m r.name s).forth ≡ None → first_of vs None ≡ None
    none_of_it =
        let f = found_it in
        none_says (same_nodes k m) (alike k m w) (stamp_at m s) (hash_node k m) (same_hash k m w) m m s heads
        heads n xs r ys h.buckets less (subst (λ z. hash_node k m r % n < z) count_is less) f.0 f.1 f.2

    pub prev_of_it : ((is_named r.name (forth_of m s (link_of m r.name s).back) ≡ true) × ((link_of m r.name s).back ≡ last_of None us))
        ⊎ ((is_named r.name (forth_of m s (link_of m r.name s).back) ≡ false) × (last_of None us ≡ None))
    prev_of_it =
        let f = found_it in
        prev_says (same_nodes k m) (alike k m w) (stamp_at m s) (hash_node k m) (same_hash k m w) m m s heads
        heads n xs r ys h.buckets less (subst (λ z. hash_node k m r % n < z) count_is less) f.0 f.1 f.2

    pub back_held : IsHeldIf m (link_of m r.name s).back
    back_held =
        let f = found_it in
        back_is_held (same_nodes k m) (alike k m w) (stamp_at m s) (hash_node k m) (same_hash k m w) m m s
        heads heads n xs r ys h.buckets less (subst (λ z. hash_node k m r % n < z) count_is less) f.0 f.1 f.2

    link_back_is : (link_of m r.name s).back ≡ back_between us r vs
    link_back_is =
        let f = found_it in
        link_back (same_nodes k m) (alike k m w) (stamp_at m s) (hash_node k m) (same_hash k m w) m m s heads
        heads n xs r ys h.buckets less (subst (λ z. hash_node k m r % n < z) count_is less) f.0 f.1 f.2

    -- what the search tells, at an end of the group
    abbrev pub Tells : Option Ref → Option Ref → Option Ref → Option Ref → Option Ref → Type 0
    Tells prev next end before first = (z : Ref) → IsEnd prev next → end ≡ Some z → IsFound (ends_with m s z.name) D before first

    abbrev pub ends_at : Option Ref → Option Ref
    ends_at o = end_at r (link_of m r.name s).back o

    pub some_groups : 0 < c.groups
    some_groups = let e = h.counted in let some = count_some (same_nodes k m) (xs ++ r ∷ ys) (not_empty xs r ys) in omega arith

    pub record Spot (left right : Option Ref) : Type 0 where
      pub bef : Option Ref
      pub first : Ref
      pub found : Found (same_nodes k m r) D bef first
      pub left_is : left ≡ left_of found.xs us
      pub right_is : right ≡ right_of us vs

    pub spot : (prev next before first : Option Ref) → prev ≡ last_of None us → next ≡ first_of vs None
        → Tells prev next (ends_at next) before first → Spot (option_or prev before) (option_or next (other_than r.name first))
    spot prev next before first ep en tells = by us vs refl refl
      where
        apart_group : (ws zs : List Ref) → us ≡ ws → vs ≡ zs → IsApart (ws ++ r ∷ zs)
        apart_group ws zs eu ev = let b = h.buckets in subst IsApart (whole ∙ (λ i. eu i ++ r ∷ ev i)) (apart_filter (same_nodes k m r) (xs ++ r ∷ ys) b.apart)

        ended : (z : Ref) → last_of None (us ++ r ∷ vs) ≡ Some z → IsFound (ends_with m s z.name) D before first
            → (y : Ref) × (first ≡ Some y) × Found (same_nodes k m r) D before y
        ended z e f = end_found (same_nodes k m) (alike k m w) (stamp_at m s) (hash_node k m) (same_hash k m w)
            m s heads n (xs ++ r ∷ ys) h.buckets r less z (ap (last_of None) whole ∙ e) before first f

        group_is : (bef : Option Ref) (y : Ref) (f : Found (same_nodes k m r) D bef y) → first_of (us ++ r ∷ vs) None ≡ Some y
        group_is bef y f =
            ap (λ z. first_of z None) (sym whole
            ∙ group_found (same_nodes k m) (alike k m w) (stamp_at m s) (hash_node k m)
            (same_hash k m w) m s heads n (xs ++ r ∷ ys) h.buckets r less bef y f)
            ∙ f.first_is

        by : (ws zs : List Ref) → us ≡ ws → vs ≡ zs → Spot (option_or prev before) (option_or next (other_than r.name first))
        by [] [] eu ev =
            let np : prev ≡ None = ep ∙ ap (last_of None) eu in let nn : next ≡ None = en ∙ ap (λ z. first_of z None) ev in
            let on = ended r ((λ i. last_of None (eu i ++ r ∷ ev i))) (tells r (inl np) (ap ends_at nn)) in
            let f = on.2 in
            let same : r ≡ on.0 = some_ref r on.0 (sym (λ i. first_of (eu i ++ r ∷ ev i) None) ∙ group_is before on.0 on.2) in record {
              bef = before;
              first = on.0;
              found = on.2;
              left_is = ap (λ z. option_or z before) np ∙ f.before_is ∙ ap (λ z. left_of f.xs z) (sym eu);
              right_is = (λ i. option_or (nn i) (other_than r.name (on.1 i))) ∙ ap (λ (z : Ref). other_than r.name (Some z)) (sym same)
                  ∙ ap (λ b. cond b None (Some r)) (same_refl r.name) ∙ (λ i. right_of (sym eu i) (sym ev i));
            }
        by [] (v ∷ zs) eu ev =
            let np : prev ≡ None = ep ∙ ap (last_of None) eu in let nn : next ≡ Some v = en ∙ ap (λ z. first_of z None) ev in
            let top = last_some v zs in
            let back : (link_of m r.name s).back ≡ Some top.0 = link_back_is ∙ (λ i. back_between (eu i) r (ev i)) ∙ top.1 in
            let on = ended top.0 ((λ i. last_of None (eu i ++ r ∷ ev i)) ∙ top.1) (tells top.0 (inl np) (ap ends_at nn ∙ back)) in
            let f = on.2 in record {
              bef = before;
              first = on.0;
              found = on.2;
              left_is = ap (λ z. option_or z before) np ∙ f.before_is ∙ ap (λ z. left_of f.xs z) (sym eu);
              right_is = ap (λ z. option_or z (other_than r.name first)) nn ∙ (λ i. right_of (sym eu i) (sym ev i));
            }
        by (u ∷ ws) [] eu ev =
            let last = last_some u ws in
            let np : prev ≡ Some last.0 = ep ∙ ap (last_of None) eu ∙ last.1 in let nn : next ≡ None = en ∙ ap (λ z. first_of z None) ev in
            let on = ended r ((λ i. last_of None (eu i ++ r ∷ ev i)) ∙ last_push None (u ∷ ws) r []) (tells r (inr nn) (ap ends_at nn)) in
            let same : u ≡ on.0 = some_ref u on.0 (sym (λ i. first_of (eu i ++ r ∷ ev i) None) ∙ group_is before on.0 on.2) in
            let far : (r.name == u.name) ≡ false =
            let a = apart_group (u ∷ ws) [] eu ev in (are_out_tail (u ∷ ws) r [] (apart_across (u ∷ ws) (r ∷ []) a)).1.0 in
            let f = on.2 in record {
              bef = before;
              first = on.0;
              found = on.2;
              left_is = ap (λ z. option_or z before) np ∙ sym last.1 ∙ ap (λ z. last_of (last_in None f.xs) z) (sym eu);
              right_is = (λ i. option_or (nn i) (other_than r.name (on.1 i))) ∙ ap (λ (z : Ref). other_than r.name (Some z)) (sym same)
                  ∙ ap (λ b. cond b None (Some u)) far ∙ (λ i. right_of (sym eu i) (sym ev i));
            }
        by (u ∷ ws) (v ∷ zs) eu ev =
            let last = last_some u ws in
            let np : prev ≡ Some last.0 = ep ∙ ap (last_of None) eu ∙ last.1 in let nn : next ≡ Some v = en ∙ ap (λ z. first_of z None) ev in
            let f = found_it in record {
              bef = f.0;
              first = f.1;
              found = f.2;
              left_is = ap (λ z. option_or z before) np ∙ sym last.1 ∙ ap (λ z. last_of (last_in None f.2.xs) z) (sym eu);
              right_is = ap (λ z. option_or z (other_than r.name first)) nn ∙ (λ i. right_of (sym eu i) (sym ev i));
            }

    pub spot_holds : (left right : Option Ref) → Spot left right → IsHeldIf m left × IsHeldIf m right
    spot_holds left right sp =
        let on = ends_held (same_nodes k m) (alike k m w) (stamp_at m s) (hash_node k m) (same_hash k m w) m m s heads
        heads n xs r ys h.buckets less (subst (λ z. hash_node k m r % n < z) count_is less) sp.bef sp.first sp.found in
        (subst (IsHeldIf m) (sym sp.left_is) on.0, subst (IsHeldIf m) (sym sp.right_is) on.1)

    count_left : (g : ℕ) (prev next : Option Ref) → prev ≡ last_of None us → next ≡ first_of vs None
        → g ≡ cond (is_empty prev next) (c.groups - 1) c.groups → g ≡ key_count (same_nodes k m) (xs ++ ys)
    count_left g prev next ep en eg = eg ∙ (λ i. cond (is_empty (ep i) (en i)) (c.groups - 1) c.groups) ∙ by us vs refl refl
      where
        both : filter (same_nodes k m r) (xs ++ ys) ≡ us ++ vs
        both = filter-append (same_nodes k m r) xs ys

        others_there : (filter (same_nodes k m r) (xs ++ ys) ≡ [] → ⊥) → c.groups ≡ key_count (same_nodes k m) (xs ++ ys)
        others_there some = h.counted ∙ count_old (same_nodes k m) (alike k m w) r ys xs some

        by : (ws zs : List Ref) → us ≡ ws → vs ≡ zs
            → cond (is_empty (last_of None us) (first_of vs None)) (c.groups - 1) c.groups ≡ key_count (same_nodes k m) (xs ++ ys)
        by [] [] eu ev =
            let total : c.groups ≡ key_count (same_nodes k m) (xs ++ ys) + 1 = h.counted
            ∙ count_new (same_nodes k m) (alike k m w) r ys xs (both ∙ (λ i. eu i ++ ev i)) in
            (λ i. cond (is_empty (last_of None (eu i)) (first_of (ev i) None)) (c.groups - 1) c.groups) ∙ omega arith
        by [] (v ∷ zs) eu ev = (λ i. cond (is_empty (last_of None (eu i)) (first_of (ev i) None)) (c.groups - 1) c.groups)
            ∙ others_there (λ z. let e : [] ≡ v ∷ zs = sym z ∙ both ∙ (λ i. eu i ++ ev i) in cc)
        by (u ∷ ws) zs eu ev = let last = last_some u ws in
            (λ i. cond (is_empty ((ap (last_of None) eu ∙ last.1) i) (first_of vs None)) (c.groups - 1) c.groups)
            ∙ others_there (λ z. let e : [] ≡ u ∷ ws ++ zs = sym z ∙ both ∙ (λ i. eu i ++ ev i) in cc)

    pub removed : (c2 : Chains H) (m2 m3 : Pooled T) (l : Link) (left right : Option Ref) → c2.slot ≡ s → vec_len c2.buckets ≡ n
        → Spot left right → m2 ≡ joined m s left (link_of m r.name s).forth right (link_of m r.name s).back
        → c2.buckets.items ≡ heads_joined left heads (hash_node k m r % n) (link_of m r.name s).forth
        → m3 ≡ with_link m2 r.name s l → l.tag ≡ (link_of m r.name s).tag → l.back ≡ last_of None us → l.forth ≡ first_of vs None
        → c2.groups ≡ cond (is_empty l.back l.forth) (c.groups - 1) c.groups
        → AreChained c2 k m3 (xs ++ ys) × Keeps m m3 s (xs ++ r ∷ ys)
        × FitsBetween k m3 s r (link_of m3 r.name s) xs ys × ((q : ℕ) → (link_of m3 q s).tag ≡ (link_of m q s).tag)
    removed c2 m2 m3 l left right es en sp e he e3 et eb ef eg =
        let b = h.buckets in let R = same_nodes k m in let A = alike k m w in let stamp = stamp_at m s in let hash = hash_node k m in let K = same_hash k m w in
        let on = take_old R A stamp hash K m m2 s heads c2.buckets.items n xs r ys b less
        (subst (λ z. hash_node k m r % n < z) count_is less) sp.bef sp.first sp.found left right sp.left_is sp.right_is e he in
        let out = (apart_remove xs r ys b.apart) in
        let J = in_bucket hash n (hash_node k m r % n) in
        let tags2 : (q : ℕ) → (link_of m2 q s).tag ≡ (link_of m q s).tag = λ q. ap (λ (z : Pooled T). (link_of z q s).tag) e
        ∙ tag-joined s m left (link_of m r.name s).forth right (link_of m r.name s).back q s in
        let tags : (q : ℕ) → (link_of m3 q s).tag ≡ (link_of m q s).tag = λ q. ap (λ (z : Pooled T). (link_of z q s).tag) e3
        ∙ tag-with_link s m2 r.name l q s (et ∙ sym (tags2 r.name)) ∙ tags2 q in
        let own : Keeps m2 m3 s (r ∷ []) = subst (λ z. Keeps m2 z s (r ∷ [])) (sym e3) (keeps_link s m2 r l) in
        let wide : Keeps m m3 s (xs ++ r ∷ ys) = keeps_then s m m2 m3 (filter J (xs ++ ys)) (r ∷ []) (xs ++ r ∷ ys) on.1 own
        (λ q o. let t = out_right q xs (r ∷ ys) o in (out_filter J q (xs ++ ys) (out_both q xs ys (out_left q xs (r ∷ ys) o) t.1), (t.0, tt))) in
        let far : AreOut (xs ++ ys) (r ∷ []) = are_out_flip (r ∷ []) (xs ++ ys) (out.1, tt) in
        let still = buckets_kept R A stamp hash K m2 s c2.buckets.items n m3 (r ∷ []) (xs ++ ys) own far on.0 in
        let held2 : IsHeld m2 r = held_kept s m m2 (filter J (xs ++ ys)) r on.1 held_it in
        let mine : link_of m3 r.name s ≡ l = ap (λ (z : Pooled T). link_of z r.name s) e3 ∙ link_here m2 r s l held2 in
        let stamps : stamp ≡ stamp_at m3 s = λ i q. (sym (tags q.name) i).stamp in
        let RR = same_kept k m m3 wide.values in let HH = hash_kept k m m3 wide.values in
        let g = count_left c2.groups l.back l.forth eb ef eg in
        let short : length (xs ++ ys) ≤ length (xs ++ r ∷ ys) = omega (arith, length-append xs ys, length-append xs (r ∷ ys)) in
        let few = h.few in (
          arrive c2 m3 stamp (xs ++ ys) es en wide.values stamps still
              (tagged_same hash m s m3 (xs ++ ys) (λ q. tags q.name) (tagged_without hash m s xs r ys h.tagged)) h.power g (omega arith),
          wide,
          record {
            placed = record {
              held = held_kept s m m3 (xs ++ r ∷ ys) r wide held_it;
              out = out.1;
              before = subst (λ (z : (Ref → Ref → Bool) × (Ref → ℕ) × ℕ). AreBefore z.0 z.1 r z.2 xs)
                  (λ i. (sym RR i, stamps i, (sym (tags r.name) i).stamp)) (rising_before R stamp A xs r ys b.rising);
              after = subst (λ (z : (Ref → Ref → Bool) × (Ref → ℕ) × ℕ). AreAfter z.0 z.1 r z.2 ys)
                  (λ i. (sym RR i, stamps i, (sym (tags r.name) i).stamp)) (rising_after R stamp xs r ys b.rising);
              few = few;
            };
            hash_is = ap (λ (t : Tag). t.key) (tags r.name) ∙ tag_is ∙ (λ i. sym HH i r);
            back_is = ap (λ (z : Link). z.back) mine ∙ eb ∙ (λ i. last_of None (filter (sym RR i r) xs));
            forth_is = ap (λ (z : Link). z.forth) mine ∙ ef ∙ (λ i. first_of (filter (sym RR i r) ys) None);
          },
          tags,
        )

-- chains of no node stand in every pool that has their slot
pub new_chains : {T H : Type 0} (c : Chains H) (s : ℕ) (keys : H) (k : Keying T) (m : Pooled T) → AreNew c s keys → s < m.slots → AreChained c k m []
new_chains c s keys k m new fits = record {
  buckets = record {
    slot = subst (λ z. z < m.slots) (sym new.slot) fits;
    some = new.some;
    held = tt;
    apart = tt;
    rising = tt;
    each = λ i lt. record { groups = []; first_is = new.empty i lt; chained = tt; grouped = refl };
  };
  tagged = tt;
  power = new.power;
  counted = new.none;
  few = omega arith;
}
