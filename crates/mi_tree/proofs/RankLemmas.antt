-- The path to a node of the tree, whose rank is counted.
-- Cited by `look::rank_in`.
use Rattle.std.proofs.Common.{◌≡◌, ℕ, ◌+◌, ◌-◌, ◌*◌, ◌^◌, ◌<◌, ◌≤◌, List, ◌∷◌, ◌++◌, length}
use Rattle.std.proofs.Common.{Option, Some, None, refl, sym, ap, ◌∙◌, subst, arith, length-append}
use Rattle.std.specs.declared.cmp.Ordering.{Ordering}
use Rattle.std.specs.declared.cmp.Ordering.TheVariants.{Less, Equal, Greater}
use Rattle.std.specs.Cmp.{IsTotalOrder}
use Rattle.mi_node.specs.Pool.{Pooled, link_of, IsHeld}
use Rattle.mi_node.specs.Refs.{Ref}
use Rattle.mi_node.specs.declared.link.Link.{Link}
use Rattle.mi_tree.specs.BinaryTree.{BinaryTree, nodes, forks, height, IsRooted, size_at, height_at}
use Rattle.mi_tree.specs.Sorted.{Rising, HasTag, AreTagged, side}
use Rattle.mi_tree.proofs.BinaryTreeLemmas.{moved, tip_is, same_tree, Sides, sides, size-root, height-root, size-nodes}
use Rattle.mi_tree.proofs.SortedLemmas.{side_order, tagged_left, tagged_right, rising_left, rising_right, where_is, go_left, go_here, go_right, none_here}
use Rattle.mi_tree.proofs.RemoveLemmas.{held_in}

-- where the node stands in a part of the list
pub record IsPart (node : Ref) (us : List Ref) (before : ℕ) (xs : List Ref) : Type 0 where
  pub vs : List Ref
  pub ws : List Ref
  pub is : us ≡ vs ++ node ∷ ws
  pub count : before + length vs ≡ length xs

module _ {T : Type 0} where
  pub record Ranking (m : Pooled T) (s : ℕ) (order : T → T → Ordering) (tag : T → ℕ)
      (node : Ref) (root at : Option Ref) (before read0 read step0 step : ℕ) : Type 0 where
    pub t : BinaryTree
    pub u : BinaryTree
    pub whole : IsRooted m s root t
    pub few : forks t < 2 ^ 32
    pub rooted : IsRooted m s at u
    pub rising : Rising (side order m s) (nodes u)
    pub tagged : AreTagged tag m s (nodes u)
    pub held : IsHeld m node
    pub some : (xs : List Ref) × (ys : List Ref) × (nodes t ≡ xs ++ node ∷ ys)
    pub part : (xs ys : List Ref) → nodes t ≡ xs ++ node ∷ ys → IsPart node (nodes u) before xs
    pub has_tag : HasTag tag m s node
    pub reads : read + 2 * height u ≤ read0 + 2 * height t
    pub steps : step + height u ≤ step0 + height t

  tag_in : (m : Pooled T) (s : ℕ) (tag : T → ℕ) (xs : List Ref) (x : Ref) (ys us : List Ref) → us ≡ xs ++ x ∷ ys → AreTagged tag m s us → HasTag tag m s x
  tag_in m s tag xs x ys us e h = (tagged_right tag m s xs (x ∷ ys) (subst (AreTagged tag m s) e h)).0

  module _ {m : Pooled T} {s : ℕ} {order : T → T → Ordering} {tag : T → ℕ} {node : Ref} {root : Option Ref} where
    pub rank_start : (t : BinaryTree) (xs ys : List Ref) → IsRooted m s root t → forks t < 2 ^ 32
        → Rising (side order m s) (nodes t) → AreTagged tag m s (nodes t) → nodes t ≡ xs ++ node ∷ ys → (a b : ℕ)
        → Ranking m s order tag node root root 0 a a b b
    rank_start t xs ys h f up tags e a b = record {
      t = t;
      u = t;
      whole = h;
      few = f;
      rooted = h;
      rising = up;
      tagged = tags;
      held = held_in m s t xs node ys e h.stands;
      some = (xs, ys, e);
      part = λ vs ws g. record { vs = vs; ws = ws; is = g; count = omega arith };
      has_tag = tag_in m s tag xs node ys (nodes t) e tags;
      reads = omega arith;
      steps = omega arith;
    }

    module _ {at : Option Ref} {r : Ref} {y : Link} {n a b c d : ℕ}
        (h : Ranking m s order tag node root at n a b c d) (e : at ≡ Some r) (i : y ≡ link_of m r.name s) where
      abbrev o : Sides m s r y h.u
      o = sides m s at r y h.u h.rooted e i

      rank_names : nodes h.u ≡ nodes (o).A ++ r ∷ nodes (o).B
      rank_names = ap nodes (o).is

      rank_all : Rising (side order m s) (nodes (o).A ++ r ∷ nodes (o).B)
      rank_all = subst (Rising (side order m s)) rank_names h.rising

      rank_tags : AreTagged tag m s (nodes (o).A ++ r ∷ nodes (o).B)
      rank_tags = subst (AreTagged tag m s) rank_names h.tagged

      pub rank_held : IsHeld m r
      rank_held = (o).held

      pub rank_back : IsRooted m s y.back (o).A
      rank_back = (o).left

      pub rank_forth : IsRooted m s y.forth (o).B
      rank_forth = (o).right

      pub rank_tag : HasTag tag m s r
      rank_tag = (tagged_right tag m s (nodes (o).A) (r ∷ nodes (o).B) rank_tags).0

      pub rank_lower : (height_at m s y.back < height_at m s at) × (height_at m s y.forth < height_at m s at)
      rank_lower = let k = height-root m s at h.u h.rooted in let p = (o).left_lower in let q = (o).right_lower in (omega arith, omega arith)

      -- the part of the node on either side
      module _ (total : IsTotalOrder order) where
        left_part : side order m s node r ≡ Less → (xs : List Ref) → IsPart node (nodes h.u) n xs → IsPart node (nodes (o).A) n xs
        left_part less xs p =
            let on = go_left (side order m s) (side_order order m s total) (nodes (o).A) r (nodes (o).B) p.vs node
            p.ws rank_all less (where_is (nodes (o).A) r (nodes (o).B) p.vs node p.ws (sym rank_names ∙ p.is)) in
            record { vs = p.vs; ws = on.0; is = on.1; count = p.count }

        right_part : side order m s node r ≡ Greater → (xs : List Ref) → IsPart node (nodes h.u) n xs → IsPart node (nodes (o).B) (n + (forks (o).A + 1)) xs
        right_part more xs p =
            let on = go_right (side order m s) (side_order order m s total) (nodes (o).A) r (nodes (o).B) p.vs node
            p.ws rank_all more (where_is (nodes (o).A) r (nodes (o).B) p.vs node p.ws (sym rank_names ∙ p.is)) in
            let long = ap length on.1 in let parts = length-append (nodes (o).A) (r ∷ on.0) in let count = p.count in let k = size-nodes (o).A in
            record { vs = on.0; ws = p.ws; is = on.2; count = omega arith }

        here_part : side order m s node r ≡ Equal → (xs : List Ref) → IsPart node (nodes h.u) n xs → n + size_at m s y.back ≡ length xs
        here_part same xs p =
            let on = go_here (side order m s) (side_order order m s total) (nodes (o).A) r (nodes (o).B) p.vs node
            p.ws rank_all same (where_is (nodes (o).A) r (nodes (o).B) p.vs node p.ws (sym rank_names ∙ p.is)) in
            let long = ap length on.0 in let count = p.count in let k = size-nodes (o).A in let j = size-root m s y.back (o).A (o).left in omega arith

        module _ {f : ℕ} (low : f ≤ b + 2) {g : ℕ} (ticks : g ≡ d + 1) where
          pub rank_left : side order m s node r ≡ Less → Ranking m s order tag node root y.back n a f c g
          rank_left less = let k = h.reads in let j = h.steps in let w = (o).height_is in record {
            t = h.t;
            u = (o).A;
            whole = h.whole;
            few = h.few;
            rooted = (o).left;
            rising = rising_left (side order m s) (nodes (o).A) (r ∷ nodes (o).B) rank_all;
            tagged = tagged_left tag m s (nodes (o).A) (r ∷ nodes (o).B) rank_tags;
            held = h.held;
            some = h.some;
            part = λ xs ys q. left_part less xs (h.part xs ys q);
            has_tag = h.has_tag;
            reads = omega arith;
            steps = omega arith;
          }

          pub rank_right : side order m s node r ≡ Greater → (k : ℕ)
              → k ≡ n + (y.size - size_at m s y.forth) → Ranking m s order tag node root y.forth k a f c g
          rank_right more k is =
              let z = h.reads in let j = h.steps in let w = (o).height_is in let p = (o).size_is in let q = size-root m s y.forth (o).B (o).right in
              let at_k : n + (forks (o).A + 1) ≡ k = omega arith in record {
                t = h.t;
                u = (o).B;
                whole = h.whole;
                few = h.few;
                rooted = (o).right;
                rising = (rising_right (side order m s) (nodes (o).A) (r ∷ nodes (o).B) rank_all).1;
                tagged = (tagged_right tag m s (nodes (o).A) (r ∷ nodes (o).B) rank_tags).1;
                held = h.held;
                some = h.some;
                part = λ xs ys v. subst (λ z. IsPart node (nodes (o).B) z xs) at_k (right_part more xs (h.part xs ys v));
                has_tag = h.has_tag;
                reads = omega arith;
                steps = omega arith;
              }

          pub rank_here : side order m s node r ≡ Equal → (t : BinaryTree) → IsRooted m s root t
              → ((xs ys : List Ref) → nodes t ≡ xs ++ node ∷ ys → n + size_at m s y.back ≡ length xs) × (f ≤ a + 2 * height t) × (g ≤ c + height t)
          rank_here same t w =
              let eq = same_tree m s root t h.t w h.whole in let tall = ap height eq in let z = h.reads in let j = h.steps in let v = (o).height_is in
              (λ xs ys q. here_part same xs (h.part xs ys (sym (ap nodes eq) ∙ q)), omega arith, omega arith)

        -- no sum is too large
        pub rank_fits_here : side order m s node r ≡ Equal → n + size_at m s y.back < 2 ^ 32
        rank_fits_here same =
            let w = h.some in let p = here_part same w.0 (h.part w.0 w.1 w.2) in let long = ap length w.2 in
            let parts = length-append w.0 (node ∷ w.1) in let k = size-nodes h.t in let f = h.few in
            omega arith

        pub rank_fits_right : side order m s node r ≡ Greater → n + (y.size - size_at m s y.forth) < 2 ^ 32
        rank_fits_right more =
            let w = h.some in
            let p = (right_part more w.0 (h.part w.0 w.1 w.2)).count in
            let long = ap length w.2 in let parts = length-append w.0 (node ∷ w.1) in let k = size-nodes h.t in
            let f = h.few in
            let j = (o).size_is in let q = size-root m s y.forth (o).B (o).right in omega arith

      pub rank_not_less : size_at m s y.forth ≤ y.size
      rank_not_less = let j = (o).size_is in let q = size-root m s y.forth (o).B (o).right in omega arith

    -- the node is there
    pub rank_end : {at : Option Ref} {n a b c d : ℕ} → Ranking m s order tag node root at n a b c d → at ≡ None → ⊥
    rank_end {at} h e =
        let w = h.some in let p = h.part w.0 w.1 w.2 in
        none_here p.vs node p.ws (sym (ap nodes (tip_is m s h.u (moved m m s at None h.u refl e h.rooted))) ∙ p.is)
