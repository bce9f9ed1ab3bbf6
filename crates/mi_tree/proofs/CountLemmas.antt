-- The path down that counts the nodes at a probe: what it takes away on either side is taken away from both places.
-- Cited by `Tree::count`, `look::count_beside` and `look::count_in`.
use Rattle.std.proofs.Common.{◌≡◌, ℕ, ◌+◌, ◌*◌, ◌^◌, ◌<◌, ◌≤◌, Bool, true, false, not, cond, List, [], ◌∷◌, ◌++◌, length}
use Rattle.std.proofs.Common.{Option, Some, None, refl, sym, ap, ◌∙◌, subst, arith}
use Rattle.std.specs.List.{position_or_len, filter}
use Rattle.std.specs.declared.cmp.Ordering.{Ordering}
use Rattle.std.specs.declared.cmp.Ordering.TheVariants.{Less, Equal, Greater}
use Rattle.std.specs.Ordering.{is_eq}
use Rattle.mi_node.specs.Pool.{Pooled, link_of, value_of, IsHeld}
use Rattle.mi_node.specs.Refs.{Ref}
use Rattle.mi_node.specs.declared.link.Link.{Link}
use Rattle.mi_tree.specs.BinaryTree.{BinaryTree, nodes, forks, height, IsRooted, size_at, height_at}
use Rattle.mi_tree.specs.Sorted.{HasTag, AreTagged}
use Rattle.mi_tree.specs.Probed.{past, past_value, is_past_node, is_value_at, is_node_at, AllWhere, IsSteady}
use Rattle.mi_tree.proofs.BinaryTreeLemmas.{moved, tip_is, same_tree, Sides, sides, size-root, size-nodes, height-root}
use Rattle.mi_tree.proofs.LookUpLemmas.{steady_left, steady_right}
use Rattle.mi_tree.proofs.ProbeRankLemmas.{place_within, place_left, place_right}
use Rattle.mi_tree.proofs.SortedLemmas.{tagged_left, tagged_right}

-- whether one isn't before a probe, is behind it, and is at it
abbrev Sided : Bool → Bool → Bool → Type 0
Sided true true e = e ≡ false
Sided true false e = e ≡ true
Sided false q e = (q ≡ false) × (e ≡ false)

by_side : (o : Ordering) → Sided (past false o) (past true o) (is_eq o)
by_side Less = (refl, refl)
by_side Equal = refl
by_side Greater = refl

sided_value : {T : Type 0} (place : T → Ordering) (a : Option T) → Sided (past_value false place a) (past_value true place a) (is_value_at place a)
sided_value place None = (refl, refl)
sided_value place (Some v) = by_side (place v)

place_all : (f : Ref → Bool) (rs : List Ref) → AllWhere f rs → position_or_len f rs ≡ 0
place_all f [] h = refl
place_all f (r ∷ rs) h = ap (λ b. cond (not b) (1 + position_or_len f rs) 0) h.0

-- one node more, in front of others
one_more : (p q e : Bool) → Sided p q e → (r : Ref) (xs : List Ref) (k j : ℕ) → length xs + k ≡ j → (p ≡ true → k ≡ 0) → (q ≡ true → j ≡ 0)
    → length (cond e (r ∷ xs) xs) + cond (not p) (1 + k) 0 ≡ cond (not q) (1 + j) 0
one_more true true e is r xs k j sum f g = let z = g refl in let n : length xs + 0 ≡ 0 = omega arith in ap (λ b. length (cond b (r ∷ xs) xs) + 0) is ∙ n
one_more true false e is r xs k j sum f g =
    let z = f refl in let n : length (r ∷ xs) + 0 ≡ 1 + j = omega arith in ap (λ b. length (cond b (r ∷ xs) xs) + 0) is ∙ n
one_more false q e is r xs k j sum f g =
    let n : length xs + (1 + k) ≡ 1 + j = omega arith in
    ap (λ b. length (cond b (r ∷ xs) xs) + (1 + k)) is.1 ∙ n ∙ sym (ap (λ b. cond (not b) (1 + j) 0) is.0)

-- the nodes at a probe stand between the first that isn't before it and the first that is behind it
module _ {T : Type 0} (place : T → Ordering) (m : Pooled T) where
  sided_node : (r : Ref) → Sided (is_past_node false place m r) (is_past_node true place m r) (is_node_at place m r)
  unfolding is_past_node is_node_at
  sided_node r = sided_value place (value_of m r.name)

  pub count_between : (rs : List Ref) → IsSteady (is_past_node false place m) rs → IsSteady (is_past_node true place m) rs
      → length (filter (is_node_at place m) rs) + position_or_len (is_past_node false place m) rs ≡ position_or_len (is_past_node true place m) rs
  count_between [] h k = refl
  count_between (r ∷ rs) h k =
      one_more _ _ _ (sided_node r) r (filter (is_node_at place m) rs) _ _ (count_between rs h.1 k.1)
      (λ e. place_all (is_past_node false place m) rs (h.0 e)) (λ e. place_all (is_past_node true place m) rs (k.0 e))

-- a subtree in which a place may be sought
module _ {T : Type 0} (s : ℕ) (tag : T → ℕ) (place : T → Ordering) (is_upper : Bool) (at : Option Ref) where
  abbrev pub Asked : Pooled T → Type 0
  Asked m = (t : BinaryTree) × IsRooted m s at t × (forks t < 4294967296) × AreTagged tag m s (nodes t) × IsSteady (is_past_node is_upper place m) (nodes t)

  pub asked_moved : {m n : Pooled T} → n ≡ m → (t : BinaryTree) → IsRooted m s at t → size_at m s at < 4294967296
      → AreTagged tag m s (nodes t) → IsSteady (is_past_node is_upper place m) (nodes t) → Asked n
  asked_moved {m} {n} e t h fits tags up = let z = size-root m s at t h in subst Asked (sym e) (t, h, omega arith, tags, up)

  abbrev pub Told : ℕ → Pooled T → Type 0
  Told k m = (t : BinaryTree) → IsRooted m s at t → k ≡ position_or_len (is_past_node is_upper place m) (nodes t)

  pub told_moved : {m n : Pooled T} (k : ℕ) → n ≡ m → Told k n → Told k m
  told_moved k e h = subst (Told k) e h

module _ {T : Type 0} (s : ℕ) (at : Option Ref) where
  abbrev pub Grown : ℕ → ℕ → Pooled T → Type 0
  Grown j k m = (t : BinaryTree) → IsRooted m s at t → j ≤ k + height t

  pub grown_moved : {m n : Pooled T} (j k : ℕ) → n ≡ m → Grown j k n → Grown j k m
  grown_moved j k e h = subst (Grown j k) e h

pub place_within_nodes : (f : Ref → Bool) (t : BinaryTree) → position_or_len f (nodes t) ≤ forks t
place_within_nodes f t = let z = size-nodes t in let p = place_within f (nodes t) in omega arith

-- the path down until it parts
module _ {T : Type 0} where
  pub record Parting (m : Pooled T) (s : ℕ) (tag : T → ℕ) (P Q : Ref → Bool) (root at : Option Ref) (read0 read step0 step : ℕ) : Type 0 where
    pub t : BinaryTree
    pub u : BinaryTree
    pub whole : IsRooted m s root t
    pub few : forks t < 2 ^ 32
    pub rooted : IsRooted m s at u
    pub tagged : AreTagged tag m s (nodes u)
    pub first : IsSteady P (nodes u)
    pub last : IsSteady Q (nodes u)
    pub before : ℕ
    pub first_is : position_or_len P (nodes t) ≡ before + position_or_len P (nodes u)
    pub last_is : position_or_len Q (nodes t) ≡ before + position_or_len Q (nodes u)
    pub within : forks u ≤ forks t
    pub reads : read + 2 * height u ≤ read0 + 2 * height t
    pub steps : step + 2 * height u ≤ step0 + 2 * height t

  module _ {m : Pooled T} {s : ℕ} {tag : T → ℕ} {P Q : Ref → Bool} {root : Option Ref} where
    pub part_start : (t : BinaryTree) → IsRooted m s root t → forks t < 2 ^ 32 → AreTagged tag m s (nodes t)
        → IsSteady P (nodes t) → IsSteady Q (nodes t) → (a c : ℕ) → Parting m s tag P Q root root a a c c
    part_start t h few tags f l a c = record {
      t = t;
      u = t;
      whole = h;
      few = few;
      rooted = h;
      tagged = tags;
      first = f;
      last = l;
      before = 0;
      first_is = omega arith;
      last_is = omega arith;
      within = omega arith;
      reads = omega arith;
      steps = omega arith;
    }

    module _ {at : Option Ref} {r : Ref} {y : Link} {a b c d : ℕ} (h : Parting m s tag P Q root at a b c d) (e : at ≡ Some r) (i : y ≡ link_of m r.name s) where
      abbrev o : Sides m s r y h.u
      o = sides m s at r y h.u h.rooted e i

      tags : AreTagged tag m s (nodes (o).A ++ r ∷ nodes (o).B)
      tags = subst (λ k. AreTagged tag m s (nodes k)) (o).is h.tagged

      firsts : IsSteady P (nodes (o).A ++ r ∷ nodes (o).B)
      firsts = subst (λ k. IsSteady P (nodes k)) (o).is h.first

      lasts : IsSteady Q (nodes (o).A ++ r ∷ nodes (o).B)
      lasts = subst (λ k. IsSteady Q (nodes k)) (o).is h.last

      pub part_held : IsHeld m r
      part_held = (o).held

      pub part_tag : HasTag tag m s r
      part_tag = (tagged_right tag m s (nodes (o).A) (r ∷ nodes (o).B) tags).0

      pub part_lower : (height_at m s y.back < height_at m s at) × (height_at m s y.forth < height_at m s at)
      part_lower = let k = height-root m s at h.u h.rooted in let p = (o).left_lower in let q = (o).right_lower in (omega arith, omega arith)

      all_are : forks h.u ≡ forks (o).A + forks (o).B + 1
      all_are = ap forks (o).is

      pub part_left : {j k : ℕ} → j ≡ b + 1 → k ≡ d + 1 → P r ≡ true → Q r ≡ true → Parting m s tag P Q root y.back a j c k
      part_left reads ticks p q =
          let g = h.reads in let f = h.steps in let w = (o).height_is in let all = all_are in let fits = h.within in record {
            t = h.t;
            u = (o).A;
            whole = h.whole;
            few = h.few;
            rooted = (o).left;
            tagged = tagged_left tag m s (nodes (o).A) (r ∷ nodes (o).B) tags;
            first = steady_left P (nodes (o).A) (r ∷ nodes (o).B) firsts;
            last = steady_left Q (nodes (o).A) (r ∷ nodes (o).B) lasts;
            before = h.before;
            first_is = h.first_is ∙ ap (λ k. h.before + position_or_len P (nodes k)) (o).is ∙ ap (λ k. h.before + k) (place_left P (nodes (o).A) r (nodes (o).B) p);
            last_is = h.last_is ∙ ap (λ k. h.before + position_or_len Q (nodes k)) (o).is ∙ ap (λ k. h.before + k) (place_left Q (nodes (o).A) r (nodes (o).B) q);
            within = omega arith;
            reads = omega arith;
            steps = omega arith;
          }

      behind : (f : Ref → Bool) → IsSteady f (nodes (o).A ++ r ∷ nodes (o).B) → f r ≡ false
          → h.before + position_or_len f (nodes h.u) ≡ h.before + (forks (o).A + 1) + position_or_len f (nodes (o).B)
      behind f up is =
          let place = place_right f (nodes (o).A) r (nodes (o).B) is up in let long = size-nodes (o).A in
          let on : h.before + position_or_len f (nodes (o).A ++ r ∷ nodes (o).B) ≡ h.before + (forks (o).A + 1) + position_or_len f (nodes (o).B) = omega arith in
          ap (λ k. h.before + position_or_len f (nodes k)) (o).is ∙ on

      pub part_right : {j k : ℕ} → j ≡ b + 1 → k ≡ d + 1 → P r ≡ false → Q r ≡ false → Parting m s tag P Q root y.forth a j c k
      part_right reads ticks p q =
          let g = h.reads in let f = h.steps in let w = (o).height_is in let all = all_are in let fits = h.within in record {
            t = h.t;
            u = (o).B;
            whole = h.whole;
            few = h.few;
            rooted = (o).right;
            tagged = (tagged_right tag m s (nodes (o).A) (r ∷ nodes (o).B) tags).1;
            first = (steady_right P (nodes (o).A) (r ∷ nodes (o).B) firsts).1;
            last = (steady_right Q (nodes (o).A) (r ∷ nodes (o).B) lasts).1;
            before = h.before + (forks (o).A + 1);
            first_is = h.first_is ∙ behind P firsts p;
            last_is = h.last_is ∙ behind Q lasts q;
            within = omega arith;
            reads = omega arith;
            steps = omega arith;
          }

      -- the node is at the probe: each side is asked alone
      pub part_back : (A : BinaryTree) × IsRooted m s y.back A × AreTagged tag m s (nodes A) × IsSteady P (nodes A)
      part_back = ((o).A, (o).left, tagged_left tag m s (nodes (o).A) (r ∷ nodes (o).B) tags, steady_left P (nodes (o).A) (r ∷ nodes (o).B) firsts)

      pub part_forth : (B : BinaryTree) × IsRooted m s y.forth B × AreTagged tag m s (nodes B) × IsSteady Q (nodes B)
      part_forth = ((o).B, (o).right, (tagged_right tag m s (nodes (o).A) (r ∷ nodes (o).B) tags).1, (steady_right Q (nodes (o).A) (r ∷ nodes (o).B) lasts).1)

      pub part_fits : size_at m s y.back + size_at m s y.forth + 1 < 2 ^ 32
      part_fits =
          let k = size-root m s y.back (o).A (o).left in let j = size-root m s y.forth (o).B (o).right in
          let all = all_are in let fits = h.within in let few = h.few in omega arith

      pub part_count : (n : ℕ) → P r ≡ true → Q r ≡ false
          → ((A B : BinaryTree) → IsRooted m s y.back A → IsRooted m s y.forth B → n + position_or_len P (nodes A) ≡ forks A + 1 + position_or_len Q (nodes B))
          → (t : BinaryTree) → IsRooted m s root t → n + position_or_len P (nodes t) ≡ position_or_len Q (nodes t)
      part_count n p q by t w =
          let same = same_tree m s root t h.t w h.whole in
          let is = by (o).A (o).B (o).left (o).right in
          let one : position_or_len P (nodes t) ≡ h.before + position_or_len P (nodes (o).A) =
          ap (λ k. position_or_len P (nodes k)) same ∙ h.first_is ∙ ap (λ k. h.before + position_or_len P (nodes k)) (o).is
          ∙ ap (λ k. h.before + k) (place_left P (nodes (o).A) r (nodes (o).B) p) in
          let two : position_or_len Q (nodes t) ≡ h.before + (forks (o).A + 1) + position_or_len Q (nodes (o).B) =
          ap (λ k. position_or_len Q (nodes k)) same ∙ h.last_is ∙ behind Q lasts q in
          omega arith

      pub part_reads : (f j : ℕ) → j ≡ b + 1
          → ((A B : BinaryTree) → IsRooted m s y.back A → IsRooted m s y.forth B → f ≤ j + (height A + height B + 1))
          → (t : BinaryTree) → IsRooted m s root t → f ≤ a + 2 * height t
      part_reads f j one by t w =
          let tall = ap height (same_tree m s root t h.t w h.whole) in let k = h.reads in let v = (o).height_is in
          let most = by (o).A (o).B (o).left (o).right in
          omega arith

      pub part_steps : (f j : ℕ) → j ≡ d + 1
          → ((A B : BinaryTree) → IsRooted m s y.back A → IsRooted m s y.forth B → f ≤ j + (height A + height B))
          → (t : BinaryTree) → IsRooted m s root t → f ≤ c + 2 * height t
      part_steps f j one by t w =
          let tall = ap height (same_tree m s root t h.t w h.whole) in let k = h.steps in let v = (o).height_is in
          let most = by (o).A (o).B (o).left (o).right in
          omega arith

    pub part_end : {at : Option Ref} {a b c d : ℕ} (h : Parting m s tag P Q root at a b c d) → at ≡ None
        → (t : BinaryTree) → IsRooted m s root t
        → (position_or_len P (nodes t) ≡ position_or_len Q (nodes t)) × (b ≤ a + 2 * height t) × (d ≤ c + 2 * height t)
    part_end {at} h e t w =
        let same = same_tree m s root t h.t w h.whole in let tall = ap height same in let k = h.reads in let j = h.steps in
        let tip = tip_is m s h.u (moved m m s at None h.u refl e h.rooted) in
        let one = ap (λ k. position_or_len P (nodes k)) same ∙ h.first_is ∙ ap (λ k. h.before + position_or_len P (nodes k)) tip in
        let two = ap (λ k. position_or_len Q (nodes k)) same ∙ h.last_is ∙ ap (λ k. h.before + position_or_len Q (nodes k)) tip in
        (one ∙ sym two, omega arith, omega arith)
