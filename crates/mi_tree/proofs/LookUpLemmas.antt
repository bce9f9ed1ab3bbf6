-- What the paths down find.
-- Cited by `Tree::bound`, `Tree::find`, `look::bound_rank_in`, `look::count_in`, `look::nth_in`, 4 more and `mi_index`.
use Rattle.std.proofs.Common.{◌≡◌, ℕ, suc, ◌+◌, ◌*◌, ◌<◌, ◌≤◌, Bool, true, false, cond, List, [], ◌∷◌}
use Rattle.std.proofs.Common.{◌++◌, length, Option, Some, None, refl, sym, ap, ◌∙◌, subst, arith}
use Rattle.std.specs.declared.cmp.Ordering.{Ordering}
use Rattle.std.specs.declared.cmp.Ordering.TheVariants.{Less, Equal, Greater}
use Rattle.std.specs.Ordering.{is_eq, nat_cmp, ordering_then}
use Rattle.mi_node.proofs.EntryLemmas.{held_has}
use Rattle.mi_node.specs.Neighbours.{AreHeld}
use Rattle.mi_node.specs.Pool.{Pooled, link_of, value_of, IsHeld, IsHeldIf}
use Rattle.mi_node.specs.Refs.{Ref}
use Rattle.mi_node.specs.declared.link.Link.{Link}
use Rattle.mi_tree.specs.BinaryTree.{BinaryTree, nodes, height, Stands, IsRooted, size_at, height_at, link_at, links_of, nth_of}
use Rattle.mi_tree.specs.Order.{IsNoLater, IsMonotone}
use Rattle.mi_tree.specs.Sorted.{AllAre, Rising, HasTag, AreTagged, by_stamp, stamped, compared, item_of, side}
use Rattle.mi_tree.specs.Probed.{past, place_at, past_value, is_past_node, is_value_at, is_node_at, first_where, AllWhere, IsSteady}
use Rattle.mi_tree.proofs.BinaryTreeLemmas.{moved, tip_is, same_tree, Sides, sides, size-root, height-root}
use Rattle.mi_tree.proofs.BinaryTreeLemmas.{held-root, size-nodes, nth-before, nth-at, nth-after, all_held}
use Rattle.mi_tree.proofs.SortedLemmas.{tagged_left, tagged_right}

-- the first, or what was found before
abbrev pub or_found : Option Ref → Option Ref → Option Ref
or_found None o = o
or_found (Some r) o = Some r

first_or : (f : Ref → Bool) (A : List Ref) (r : Ref) (C : List Ref) (o : Option Ref)
    → f r ≡ true → or_found (first_where f (A ++ r ∷ C)) o ≡ or_found (first_where f A) (Some r)
first_or f [] r C o is = ap (λ b. or_found (cond b (Some r) (first_where f C)) o) is
first_or f (a ∷ A) r C o is = (elim (f a)
    as (λ b. f a ≡ b → or_found (cond b (Some a) (first_where f (A ++ r ∷ C))) o ≡ or_found (cond b (Some a) (first_where f A)) (Some r)) [
      | true ↦ λ h. refl
      | false ↦ λ h. first_or f A r C o is
    ]) refl

pub true_false : (b : Bool) → b ≡ true → b ≡ false → ⊥
true_false b e f = cc

pub where_right : (f : Ref → Bool) (xs : List Ref) (r : Ref) (ys : List Ref) → AllWhere f (xs ++ r ∷ ys) → f r ≡ true
where_right f [] r ys h = h.0
where_right f (x ∷ xs) r ys h = where_right f xs r ys h.1

-- before a node that isn't past none is
first_after : (f : Ref → Bool) (A : List Ref) (r : Ref) (C : List Ref) → f r ≡ false
    → IsSteady f (A ++ r ∷ C) → first_where f (A ++ r ∷ C) ≡ first_where f C
first_after f [] r C is h = ap (λ b. cond b (Some r) (first_where f C)) is
first_after f (a ∷ A) r C is h = (elim (f a) as (λ b. f a ≡ b → first_where f (a ∷ A ++ r ∷ C) ≡ first_where f C) [
  | true ↦ λ e. absurd (true_false (f r) (where_right f A r C (h.0 e)) is)
  | false ↦ λ e. ap (λ b. cond b (Some a) (first_where f (A ++ r ∷ C))) e ∙ first_after f A r C is h.1
]) refl

where_left : (f : Ref → Bool) (xs ys : List Ref) → AllWhere f (xs ++ ys) → AllWhere f xs
where_left f [] ys h = tt
where_left f (x ∷ xs) ys h = (h.0, where_left f xs ys h.1)

pub steady_left : (f : Ref → Bool) (xs ys : List Ref) → IsSteady f (xs ++ ys) → IsSteady f xs
steady_left f [] ys h = tt
steady_left f (x ∷ xs) ys h = (λ e. where_left f xs ys (h.0 e), steady_left f xs ys h.1)

pub steady_right : (f : Ref → Bool) (xs ys : List Ref) → IsSteady f (xs ++ ys) → IsSteady f ys
steady_right f [] ys h = h
steady_right f (x ∷ xs) ys h = steady_right f xs ys h.1

-- a probe's answers rise along nodes that rise
past_later : (is_upper : Bool) (a b : Ordering) → IsNoLater a b → past is_upper a ≡ true → past is_upper b ≡ true
past_later is_upper Less b h e = absurd (true_false false e refl)
past_later is_upper Equal Less h e = absurd h
past_later is_upper Equal Equal h e = e
past_later is_upper Equal Greater h e = refl
past_later is_upper Greater Less h e = absurd h
past_later is_upper Greater Equal h e = absurd h
past_later is_upper Greater Greater h e = refl

equal_less : Equal ≡ Less → ⊥
equal_less e = cc

greater_less : Greater ≡ Less → ⊥
greater_less e = cc

-- a node before another has no greater key
not_greater : (a b : Ordering) → ordering_then a b ≡ Less → a ≡ Greater → ⊥
not_greater a b e f = greater_less (ap (λ o. ordering_then o b) (sym f) ∙ e)

module _ {T : Type 0} (order : T → T → Ordering) (place : T → Ordering) (mono : IsMonotone order place) (is_upper : Bool) where
  value_later : (a b : Option T) (i j : ℕ) → compared (by_stamp order) (stamped a i) (stamped b j) ≡ Less
      → past_value is_upper place a ≡ true → past_value is_upper place b ≡ true
  value_later None b i j e f = absurd (equal_less e)
  value_later (Some x) None i j e f = absurd (equal_less e)
  value_later (Some x) (Some y) i j e f = past_later is_upper (place x) (place y) (mono x y (not_greater (order x y) (nat_cmp i j) e)) f

  all_later : (m : Pooled T) (s : ℕ) (r : Ref) (rs : List Ref) → AllAre (side order m s r) Less rs
      → is_past_node is_upper place m r ≡ true → AllWhere (is_past_node is_upper place m) rs
  unfolding side item_of is_past_node
  all_later m s r [] h e = tt
  all_later m s r (q ∷ rs) h e =
      (value_later (value_of m r.name) (value_of m q.name) (link_of m r.name s).tag.stamp (link_of m q.name s).tag.stamp h.0 e, all_later m s r rs h.1 e)

  pub steady : (m : Pooled T) (s : ℕ) (rs : List Ref) → Rising (side order m s) rs → IsSteady (is_past_node is_upper place m) rs
  steady m s [] h = tt
  steady m s (r ∷ rs) h = (all_later m s r rs h.0, steady m s rs h.1)

-- whether a held node is past the probe, by its place as it was found in a pool n that is as m is
pub past_read : {T : Type 0} (is_upper : Bool) (place : T → Ordering) (r : Ref) {m n : Pooled T} {o : Ordering} {b : Bool} → n ≡ m → IsHeld m r
    → o ≡ place_at place (value_of n r.name) → b ≡ past is_upper o → is_past_node is_upper place m r ≡ b
unfolding is_past_node
past_read is_upper place r {m} {n} same h e f = let v = held_has m r h in
    ap (past_value is_upper place) v.1 ∙ ap (λ o. past is_upper (place_at place o)) (sym v.1)
    ∙ ap (λ (z : Pooled _). past is_upper (place_at place (value_of z r.name))) (sym same) ∙ ap (past is_upper) (sym e) ∙ sym f

-- whether it is at the probe
pub node_read : {T : Type 0} (place : T → Ordering) (r : Ref) {m n : Pooled T} {o : Ordering} → n ≡ m → IsHeld m r
    → o ≡ place_at place (value_of n r.name) → is_node_at place m r ≡ is_eq o
unfolding is_node_at
node_read place r {m} {n} same h e = let v = held_has m r h in
    ap (is_value_at place) v.1 ∙ ap (λ o. is_eq (place_at place o)) (sym v.1)
    ∙ ap (λ (z : Pooled _). is_eq (place_at place (value_of z r.name))) (sym same) ∙ ap is_eq (sym e)

here_past : (o : Ordering) → is_eq o ≡ true → past false o ≡ true
here_past Less e = absurd (true_false false e refl)
here_past Equal e = refl
here_past Greater e = refl

here_after : (a b : Ordering) → IsNoLater a b → past false a ≡ true → is_eq a ≡ false → is_eq b ≡ false
here_after Less b h e f = absurd (true_false false e refl)
here_after Equal b h e f = absurd (true_false true refl f)
here_after Greater Less h e f = refl
here_after Greater Equal h e f = absurd h
here_after Greater Greater h e f = refl

pub not_here : (o : Ordering) → (o ≡ Equal → ⊥) → is_eq o ≡ false
not_here Less h = refl
not_here Equal h = absurd (h refl)
not_here Greater h = refl

pub is_false : (b : Bool) → (b ≡ true → ⊥) → b ≡ false
is_false true h = absurd (h refl)
is_false false h = refl

abbrev NoneWhere : (Ref → Bool) → List Ref → Type 0
NoneWhere f [] = Unit {0}
NoneWhere f (r ∷ rs) = (f r ≡ false) × NoneWhere f rs

first_none : (f : Ref → Bool) (rs : List Ref) → NoneWhere f rs → first_where f rs ≡ None
first_none f [] h = refl
first_none f (r ∷ rs) h = ap (λ b. cond b (Some r) (first_where f rs)) h.0 ∙ first_none f rs h.1

module _ {T : Type 0} (order : T → T → Ordering) (place : T → Ordering) (mono : IsMonotone order place) (m : Pooled T) (s : ℕ) where
  value_here : (a : Option T) → is_value_at place a ≡ true → past_value false place a ≡ true
  value_here None e = e
  value_here (Some x) e = here_past (place x) e

  value_after : (a b : Option T) (i j : ℕ) → compared (by_stamp order) (stamped a i) (stamped b j) ≡ Less
      → past_value false place a ≡ true → is_value_at place a ≡ false → is_value_at place b ≡ false
  value_after None b i j e f g = absurd (equal_less e)
  value_after (Some x) None i j e f g = refl
  value_after (Some x) (Some y) i j e f g = here_after (place x) (place y) (mono x y (not_greater (order x y) (nat_cmp i j) e)) f g

  none_after : (r : Ref) (rs : List Ref) → AllAre (side order m s r) Less rs
      → is_past_node false place m r ≡ true → is_node_at place m r ≡ false → NoneWhere (is_node_at place m) rs
  unfolding side item_of is_past_node is_node_at
  none_after r [] h e f = tt
  none_after r (q ∷ rs) h e f =
      (value_after (value_of m r.name) (value_of m q.name) (link_of m r.name s).tag.stamp (link_of m q.name s).tag.stamp h.0 e f, none_after r rs h.1 e f)

  node_here : (r : Ref) → is_node_at place m r ≡ true → is_past_node false place m r ≡ true
  unfolding is_past_node is_node_at
  node_here r e = value_here (value_of m r.name) e

  -- the first that isn't before the probe, if it is at the probe
  abbrev if_here : Option Ref → Option Ref
  if_here None = None
  if_here (Some r) = cond (is_node_at place m r) (Some r) None

  pub found : (rs : List Ref) → Rising (side order m s) rs → first_where (is_node_at place m) rs ≡ if_here (first_where (is_past_node false place m) rs)
  found [] h = refl
  found (r ∷ rs) h =
      let P = is_past_node false place m in let H = is_node_at place m in
      (elim (P r) as (λ b. P r ≡ b → first_where H (r ∷ rs) ≡ if_here (cond b (Some r) (first_where P rs))) [
        | true ↦ λ e. (elim (H r) as (λ b. H r ≡ b → cond b (Some r) (first_where H rs) ≡ cond b (Some r) None) [
          | true ↦ λ g. refl
          | false ↦ λ g. first_none H rs (none_after r rs h.0 e g)
        ]) refl
        | false ↦ λ e. ap (λ b. cond b (Some r) (first_where H rs)) (is_false (H r) (λ g. true_false (P r) (node_here r g) e)) ∙ found rs h.1
      ]) refl

  -- what `find` answers, by what `lower` gives
  pub found_none : (rs : List Ref) → Rising (side order m s) rs
      → None ≡ first_where (is_past_node false place m) rs → None ≡ first_where (is_node_at place m) rs
  found_none rs h e = ap if_here e ∙ sym (found rs h)

  pub found_some : (rs : List Ref) (r : Ref) → Rising (side order m s) rs → Some r ≡ first_where (is_past_node false place m) rs
      → is_node_at place m r ≡ true → Some r ≡ first_where (is_node_at place m) rs
  found_some rs r h e g = sym (ap (λ b. cond b (Some r) None) g) ∙ ap if_here e ∙ sym (found rs h)

  pub found_other : (rs : List Ref) (r : Ref) → Rising (side order m s) rs → Some r ≡ first_where (is_past_node false place m) rs
      → is_node_at place m r ≡ false → None ≡ first_where (is_node_at place m) rs
  found_other rs r h e g = sym (ap (λ b. cond b (Some r) None) g) ∙ ap if_here e ∙ sym (found rs h)

some_one : (r q : Ref) → Some r ≡ Some q → r ≡ q
some_one r q e = cc

none_one : (r : Ref) → Some r ≡ None → ⊥
none_one r e = cc

first_held : {T : Type 0} (m : Pooled T) (f : Ref → Bool) (rs : List Ref) (r : Ref) → AreHeld m rs → Some r ≡ first_where f rs → IsHeld m r
first_held m f [] r h e = absurd (none_one r e)
first_held m f (q ∷ rs) r h e = (elim (f q) as (λ b. Some r ≡ cond b (Some q) (first_where f rs) → IsHeld m r) [
  | true ↦ λ k. subst (IsHeld m) (sym (some_one r q k)) h.0
  | false ↦ λ k. first_held m f rs r h.1 k
]) e

-- what is found stands in the pool
pub found_held : {T : Type 0} (m : Pooled T) (s : ℕ) (t : BinaryTree) (f : Ref → Bool) (r : Ref) → Stands m s t → Some r ≡ first_where f (nodes t) → IsHeld m r
found_held m s t f r h e = first_held m f (nodes t) r (all_held m s t h) e

or_none : (o : Option Ref) → o ≡ or_found o None
or_none None = refl
or_none (Some r) = refl

-- the path of a search: what is found in the whole is found below, or was found before
module _ {T : Type 0} where
  pub record Seeking (m : Pooled T) (s : ℕ) (tag : T → ℕ) (f : Ref → Bool) (root at found : Option Ref) (read0 read step0 step : ℕ) : Type 0 where
    pub t : BinaryTree
    pub u : BinaryTree
    pub whole : IsRooted m s root t
    pub rooted : IsRooted m s at u
    pub tagged : AreTagged tag m s (nodes u)
    pub steady : IsSteady f (nodes u)
    pub is : first_where f (nodes t) ≡ or_found (first_where f (nodes u)) found
    pub reads : read + height u ≤ read0 + height t
    pub steps : step + height u ≤ step0 + height t

  module _ {m : Pooled T} {s : ℕ} {tag : T → ℕ} {f : Ref → Bool} {root : Option Ref} where
    pub seek_start : (t : BinaryTree) → IsRooted m s root t → AreTagged tag m s (nodes t) → IsSteady f (nodes t)
        → (a c : ℕ) → Seeking m s tag f root root None a a c c
    seek_start t h tags up a c =
        record { t = t; u = t; whole = h; rooted = h; tagged = tags; steady = up; is = or_none (first_where f (nodes t)); reads = omega arith; steps = omega arith }

    module _ {at : Option Ref} {r : Ref} {y : Link} {found : Option Ref} {a b c d : ℕ}
        (h : Seeking m s tag f root at found a b c d) (e : at ≡ Some r) (i : y ≡ link_of m r.name s) where
      pub seek_held : IsHeld m r
      seek_held = (sides m s at r y h.u h.rooted e i).held

      pub seek_tag : HasTag tag m s r
      seek_tag =
          let o = sides m s at r y h.u h.rooted e i in
          (tagged_right tag m s (nodes o.A) (r ∷ nodes o.B) (subst (λ k. AreTagged tag m s (nodes k)) o.is h.tagged)).0

      pub seek_lower : (height_at m s y.back < height_at m s at) × (height_at m s y.forth < height_at m s at)
      seek_lower =
          let o = sides m s at r y h.u h.rooted e i in let n = height-root m s at h.u h.rooted in let p = o.left_lower in let q = o.right_lower in
          (omega arith, omega arith)

      pub seek_left : {j k : ℕ} → j ≡ b + 1 → k ≡ d + 1 → f r ≡ true → Seeking m s tag f root y.back (Some r) a j c k
      seek_left reads ticks p = let o = sides m s at r y h.u h.rooted e i in let n = h.reads in let k = h.steps in let w = o.height_is in record {
        t = h.t;
        u = o.A;
        whole = h.whole;
        rooted = o.left;
        tagged = tagged_left tag m s (nodes o.A) (r ∷ nodes o.B) (subst (λ k. AreTagged tag m s (nodes k)) o.is h.tagged);
        steady = steady_left f (nodes o.A) (r ∷ nodes o.B) (subst (λ k. IsSteady f (nodes k)) o.is h.steady);
        is = h.is ∙ ap (λ k. or_found (first_where f (nodes k)) found) o.is ∙ first_or f (nodes o.A) r (nodes o.B) found p;
        reads = omega arith;
        steps = omega arith;
      }

      pub seek_right : {j k : ℕ} → j ≡ b + 1 → k ≡ d + 1 → f r ≡ false → Seeking m s tag f root y.forth found a j c k
      seek_right reads ticks p =
          let o = sides m s at r y h.u h.rooted e i in let n = h.reads in let k = h.steps in let w = o.height_is in
          let all = subst (λ k. IsSteady f (nodes k)) o.is h.steady in
          record {
            t = h.t;
            u = o.B;
            whole = h.whole;
            rooted = o.right;
            tagged = (tagged_right tag m s (nodes o.A) (r ∷ nodes o.B) (subst (λ k. AreTagged tag m s (nodes k)) o.is h.tagged)).1;
            steady = (steady_right f (nodes o.A) (r ∷ nodes o.B) all).1;
            is = h.is ∙ ap (λ k. or_found (first_where f (nodes k)) found) o.is ∙ ap (λ k. or_found k found) (first_after f (nodes o.A) r (nodes o.B) p all);
            reads = omega arith;
            steps = omega arith;
          }

    pub seek_end : {at found : Option Ref} {a b c d : ℕ} (h : Seeking m s tag f root at found a b c d) → at ≡ None
        → (t : BinaryTree) → IsRooted m s root t → (found ≡ first_where f (nodes t)) × (b ≤ a + height t) × (d ≤ c + height t)
    seek_end {at} {found} h e t w =
        let same = same_tree m s root t h.t w h.whole in let tall = ap height same in let n = h.reads in let k = h.steps in
        let tip = tip_is m s h.u (moved m m s at None h.u refl e h.rooted) in
        (sym (ap (λ k. first_where f (nodes k)) same ∙ h.is ∙ ap (λ k. or_found (first_where f (nodes k)) found) tip), omega arith, omega arith)

  -- the path to a node of an index
  pub record Counting (m : Pooled T) (s : ℕ) (root at : Option Ref) (n0 n read0 read : ℕ) : Type 0 where
    pub t : BinaryTree
    pub u : BinaryTree
    pub whole : IsRooted m s root t
    pub rooted : IsRooted m s at u
    pub is : nth_of (nodes t) n0 ≡ nth_of (nodes u) n
    pub reads : read + 2 * height u ≤ read0 + 2 * height t

  module _ (m : Pooled T) (s : ℕ) (root : Option Ref) (n0 : ℕ) where
    count_start : (t : BinaryTree) → IsRooted m s root t → (a : ℕ) → Counting m s root root n0 n0 a a
    count_start t h a = record { t = t; u = t; whole = h; rooted = h; is = refl; reads = omega arith }

    module _ (at : Option Ref) (r : Ref) (y : Link) (n a b : ℕ) (h : Counting m s root at n0 n a b) (e : at ≡ Some r) (i : y ≡ link_of m r.name s) where
      count_sides : Sides m s r y h.u
      count_sides = sides m s at r y h.u h.rooted e i

      count_lower : (height_at m s y.back < height_at m s at) × (height_at m s y.forth < height_at m s at)
      count_lower =
          let o = count_sides in let k = height-root m s at h.u h.rooted in let p = o.left_lower in let q = o.right_lower in (omega arith, omega arith)

      module _ (c : ℕ) (low : c ≤ b + 2) where
        count_here : n ≡ size_at m s y.back → (t : BinaryTree) → IsRooted m s root t → (Some r ≡ nth_of (nodes t) n0) × (c ≤ a + 2 * height t)
        count_here f t w =
            let o = count_sides in let k = size-root m s y.back o.A o.left in let j = size-nodes o.A in let q : n ≡ length (nodes o.A) = omega arith in
            let same = same_tree m s root t h.t w h.whole in let tall = ap height same in let z = h.reads in let g = o.height_is in (
              sym (ap (λ k. nth_of (nodes k) n0) same ∙ h.is ∙ ap (λ k. nth_of (nodes k) n) o.is
                  ∙ ap (nth_of (nodes o.A ++ r ∷ nodes o.B)) q ∙ nth-at (nodes o.A) r (nodes o.B)),
              omega arith,
            )

        count_left : n < size_at m s y.back → Counting m s root y.back n0 n a c
        count_left f =
            let o = count_sides in let k = size-root m s y.back o.A o.left in let j = size-nodes o.A in let z = h.reads in let g = o.height_is in record {
              t = h.t;
              u = o.A;
              whole = h.whole;
              rooted = o.left;
              is = h.is ∙ ap (λ k. nth_of (nodes k) n) o.is ∙ nth-before (nodes o.A) r (nodes o.B) n (omega arith);
              reads = omega arith;
            }

        count_right : (d : ℕ) → n ≡ suc (size_at m s y.back + d) → Counting m s root y.forth n0 d a c
        count_right d f =
            let o = count_sides in let k = size-root m s y.back o.A o.left in let j = size-nodes o.A in let z = h.reads in let g = o.height_is in
            let q : n ≡ suc (length (nodes o.A) + d) = omega arith in
            record {
              t = h.t;
              u = o.B;
              whole = h.whole;
              rooted = o.right;
              is = h.is ∙ ap (λ k. nth_of (nodes k) n) o.is ∙ ap (nth_of (nodes o.A ++ r ∷ nodes o.B)) q ∙ nth-after (nodes o.A) r (nodes o.B) d;
              reads = omega arith;
            }

    count_end : (at : Option Ref) (n a b : ℕ) (h : Counting m s root at n0 n a b) → at ≡ None
        → (t : BinaryTree) → IsRooted m s root t → (None ≡ nth_of (nodes t) n0) × (b ≤ a + 2 * height t)
    count_end at n a b h e t w =
        let same = same_tree m s root t h.t w h.whole in let tall = ap height same in let k = h.reads in
        let tip = tip_is m s h.u (moved m m s at None h.u refl e h.rooted) in
        (sym (ap (λ k. nth_of (nodes k) n0) same ∙ h.is ∙ ap (λ k. nth_of (nodes k) n) tip), omega arith)

at_most_one : (o : Option Ref) → links_of o ≤ 1
at_most_one None = omega arith
at_most_one (Some r) = omega arith

module _ {T : Type 0} where
  pub size_of_link : (m : Pooled T) (s : ℕ) (o : Option Ref) (y : Link) → y ≡ link_at m s o → y.size ≡ size_at m s o
  size_of_link m s None y e = ap (λ (z : Link). z.size) e
  size_of_link m s (Some r) y e = ap (λ (z : Link). z.size) e

  -- a path down on which the link of the next node is read already
  pub record Carrying (m : Pooled T) (s : ℕ) (root at back forth : Option Ref) (n0 n read0 read : ℕ) : Type 0 where
    pub counted : ℕ
    pub counting : Counting m s root at n0 n read0 counted
    pub back_is : back ≡ (link_at m s at).back
    pub forth_is : forth ≡ (link_at m s at).forth
    pub reads : read ≤ counted + links_of at

  module _ {m : Pooled T} {s : ℕ} {root : Option Ref} {n0 : ℕ} where
    pub carry_start : (t : BinaryTree) {y : Link} {a b : ℕ} → IsRooted m s root t → y ≡ link_at m s root → b ≡ a + links_of root
        → Carrying m s root root y.back y.forth n0 n0 a b
    carry_start t {y} {a} {b} h i e = record {
      counted = a;
      counting = count_start m s root n0 t h a;
      back_is = ap (λ (z : Link). z.back) i;
      forth_is = ap (λ (z : Link). z.forth) i;
      reads = omega arith;
    }

    module _ {at back forth : Option Ref} {r : Ref} {n a b : ℕ} (h : Carrying m s root at back forth n0 n a b) (e : at ≡ Some r) where
      abbrev here : Link
      here = link_of m r.name s

      is_back : here.back ≡ back
      is_back = sym (h.back_is ∙ ap (λ o. (link_at m s o).back) e)

      is_forth : here.forth ≡ forth
      is_forth = sym (h.forth_is ∙ ap (λ o. (link_at m s o).forth) e)

      pub carry_held : IsHeldIf m back × IsHeldIf m forth
      carry_held = let o = count_sides m s root n0 at r here n a h.counted h.counting e refl in
          (subst (IsHeldIf m) is_back (held-root m s here.back o.A o.left), subst (IsHeldIf m) is_forth (held-root m s here.forth o.B o.right))

      pub carry_lower : (height_at m s back < height_at m s at) × (height_at m s forth < height_at m s at)
      carry_lower = let o = count_lower m s root n0 at r here n a h.counted h.counting e refl in
          (subst (λ k. height_at m s k < height_at m s at) is_back o.0, subst (λ k. height_at m s k < height_at m s at) is_forth o.1)

      module _ {w : Link} (i : w ≡ link_at m s back) {c : ℕ} (f : c ≡ b + links_of back) where
        low : c ≤ h.counted + 2
        low = let k = h.reads in let j = ap links_of e in let g = at_most_one back in omega arith

        before_is : w.size ≡ size_at m s here.back
        before_is = size_of_link m s back w i ∙ ap (size_at m s) (sym is_back)

        pub carry_ends : n ≡ w.size → (t : BinaryTree) → IsRooted m s root t → (Some r ≡ nth_of (nodes t) n0) × (c ≤ a + 2 * height t)
        carry_ends g t k = count_here m s root n0 at r here n a h.counted h.counting e refl c low (g ∙ before_is) t k

        pub carry_left : n < w.size → Carrying m s root back w.back w.forth n0 n a c
        carry_left g = let k = h.reads in let j = ap links_of e in let z = before_is in record {
          counted = h.counted + 2;
          counting = subst (λ o. Counting m s root o n0 n a (h.counted + 2)) is_back
              (count_left m s root n0 at r here n a h.counted h.counting e refl (h.counted + 2) (omega arith) (omega arith));
          back_is = ap (λ (z : Link). z.back) i;
          forth_is = ap (λ (z : Link). z.forth) i;
          reads = omega arith;
        }

        pub carry_right : {d : ℕ} {v : Link} {c2 : ℕ} → n ≡ suc (w.size + d) → v ≡ link_at m s forth → c2 ≡ c + links_of forth
            → Carrying m s root forth v.back v.forth n0 d a c2
        carry_right {d} {v} {c2} g l x = let k = h.reads in let j = ap links_of e in let u = at_most_one back in let z = before_is in record {
          counted = h.counted + 2;
          counting = subst (λ o. Counting m s root o n0 d a (h.counted + 2)) is_forth
              (count_right m s root n0 at r here n a h.counted h.counting e refl (h.counted + 2) (omega arith) d (omega arith));
          back_is = ap (λ (z : Link). z.back) l;
          forth_is = ap (λ (z : Link). z.forth) l;
          reads = omega arith;
        }

    pub carry_none : {at back forth : Option Ref} {n a b : ℕ} (h : Carrying m s root at back forth n0 n a b)
        → at ≡ None → (t : BinaryTree) → IsRooted m s root t → (None ≡ nth_of (nodes t) n0) × (b ≤ a + 2 * height t)
    carry_none {at} {n = n} {a = a} {b = b} h e t w =
        let on = count_end m s root n0 at n a h.counted h.counting e t w in let k = h.reads in let j = ap links_of e in let g = on.1 in (on.0, omega arith)

-- and has the tag of its value
pub found_tag : {T : Type 0} (tag : T → ℕ) (m : Pooled T) (s : ℕ) (f : Ref → Bool) (rs : List Ref) (r : Ref)
    → AreTagged tag m s rs → Some r ≡ first_where f rs → HasTag tag m s r
found_tag tag m s f [] r h e = absurd (none_one r e)
found_tag tag m s f (q ∷ rs) r h e = (elim (f q) as (λ b. Some r ≡ cond b (Some q) (first_where f rs) → HasTag tag m s r) [
  | true ↦ λ k. subst (HasTag tag m s) (sym (some_one r q k)) h.0
  | false ↦ λ k. found_tag tag m s f rs r h.1 k
]) e

-- what is found is among some
pub some_found : (f : Ref → Bool) (rs : List Ref) (r : Ref) → Some r ≡ first_where f rs → 1 ≤ length rs
some_found f [] r e = absurd (none_one r e)
some_found f (q ∷ rs) r e = omega arith
