-- The path down that counts the nodes in front of the first that is past a probe.
-- Cited by `look::bound_rank_in`, `walk::+seek_down` and `CountLemmas`.
use Rattle.std.proofs.Common.{◌≡◌, ℕ, ◌+◌, ◌-◌, ◌^◌, ◌<◌, ◌≤◌, Bool, true, false, not, cond, List, [], ◌∷◌, ◌++◌, length}
use Rattle.std.proofs.Common.{Option, Some, None, refl, ap, ◌∙◌, subst, arith}
use Rattle.std.specs.List.{position_or_len}
use Rattle.mi_node.specs.Pool.{Pooled, link_of, IsHeld, IsHeldIf}
use Rattle.mi_node.specs.Refs.{Ref}
use Rattle.mi_node.specs.declared.link.Link.{Link}
use Rattle.mi_tree.specs.BinaryTree.{BinaryTree, nodes, forks, height, IsRooted, height_at, link_at, links_of}
use Rattle.mi_tree.specs.Sorted.{HasTag, AreTagged}
use Rattle.mi_tree.specs.Probed.{IsSteady}
use Rattle.mi_tree.proofs.BinaryTreeLemmas.{moved, tip_is, same_tree, Sides, sides, size-root, size-nodes, height-root, held-root}
use Rattle.mi_tree.proofs.LookUpLemmas.{true_false, is_false, where_right, steady_left, steady_right, size_of_link}
use Rattle.mi_tree.proofs.SortedLemmas.{tagged_left, tagged_right}

-- it stands in the list, or behind it
pub place_within : (f : Ref → Bool) (A : List Ref) → position_or_len f A ≤ length A
place_within f [] = omega arith
place_within f (a ∷ A) =
    let rest : position_or_len f A ≤ length A = place_within f A in
    elim (f a) as (λ b. cond (not b) (1 + position_or_len f A) 0 ≤ length (a ∷ A)) [
      | true ↦ omega arith
      | false ↦ omega arith
    ]

-- the first that is past stands on the left, or is this node
pub place_left : (f : Ref → Bool) (A : List Ref) (r : Ref) (C : List Ref) → f r ≡ true → position_or_len f (A ++ r ∷ C) ≡ position_or_len f A
place_left f [] r C is = ap (λ b. cond (not b) (1 + position_or_len f C) 0) is
place_left f (a ∷ A) r C is = ap (λ k. cond (not (f a)) (1 + k) 0) (place_left f A r C is)

-- it stands on the right
pub place_right : (f : Ref → Bool) (A : List Ref) (r : Ref) (C : List Ref) → f r ≡ false
    → IsSteady f (A ++ r ∷ C) → position_or_len f (A ++ r ∷ C) ≡ length A + 1 + position_or_len f C
place_right f [] r C is h = ap (λ b. cond (not b) (1 + position_or_len f C) 0) is
place_right f (a ∷ A) r C is h =
    let rest : position_or_len f (A ++ r ∷ C) ≡ length A + 1 + position_or_len f C = place_right f A r C is h.1 in
    let more : 1 + position_or_len f (A ++ r ∷ C) ≡ length (a ∷ A) + 1 + position_or_len f C = omega arith in
    ap (λ b. cond (not b) (1 + position_or_len f (A ++ r ∷ C)) 0) (is_false (f a) (λ e. true_false (f r) (where_right f A r C (h.0 e)) is)) ∙ more

module _ {T : Type 0} where
  pub record Passing (m : Pooled T) (s : ℕ) (tag : T → ℕ) (f : Ref → Bool) (root at : Option Ref) (y : Link) (before read0 read step0 step : ℕ) : Type 0 where
    pub t : BinaryTree
    pub u : BinaryTree
    pub whole : IsRooted m s root t
    pub few : forks t < 2 ^ 32
    pub rooted : IsRooted m s at u
    pub link_is : y ≡ link_at m s at
    pub tagged : AreTagged tag m s (nodes u)
    pub steady : IsSteady f (nodes u)
    pub is : position_or_len f (nodes t) ≡ before + position_or_len f (nodes u)
    pub within : before + forks u ≤ forks t
    pub reads : read + height u ≤ read0 + height t + links_of at
    pub steps : step + height u ≤ step0 + height t

  module _ {m : Pooled T} {s : ℕ} {tag : T → ℕ} {f : Ref → Bool} {root : Option Ref} where
    pub pass_start : (t : BinaryTree) → IsRooted m s root t → forks t < 2 ^ 32 → AreTagged tag m s (nodes t) → IsSteady f (nodes t)
        → {y : Link} {a b : ℕ} (c : ℕ) → y ≡ link_at m s root → b ≡ a + links_of root → Passing m s tag f root root y 0 a b c c
    pass_start t h few tags up {y} {a} {b} c i e = record {
      t = t;
      u = t;
      whole = h;
      few = few;
      rooted = h;
      link_is = i;
      tagged = tags;
      steady = up;
      is = omega arith;
      within = omega arith;
      reads = omega arith;
      steps = omega arith;
    }

    module _ {at : Option Ref} {r : Ref} {y : Link} {n a b c d : ℕ} (h : Passing m s tag f root at y n a b c d) (e : at ≡ Some r) where
      pub pass_link : y ≡ link_of m r.name s
      pass_link = h.link_is ∙ ap (link_at m s) e

      abbrev o : Sides m s r y h.u
      o = sides m s at r y h.u h.rooted e pass_link

      pub pass_held : IsHeld m r
      pass_held = (o).held

      tags : AreTagged tag m s (nodes (o).A ++ r ∷ nodes (o).B)
      tags = subst (λ k. AreTagged tag m s (nodes k)) (o).is h.tagged

      rises : IsSteady f (nodes (o).A ++ r ∷ nodes (o).B)
      rises = subst (λ k. IsSteady f (nodes k)) (o).is h.steady

      pub pass_tag : HasTag tag m s r
      pass_tag = (tagged_right tag m s (nodes (o).A) (r ∷ nodes (o).B) tags).0

      pub pass_sides : IsHeldIf m y.back × IsHeldIf m y.forth
      pass_sides = (held-root m s y.back (o).A (o).left, held-root m s y.forth (o).B (o).right)

      pub pass_lower : (height_at m s y.back < height_at m s at) × (height_at m s y.forth < height_at m s at)
      pass_lower = let k = height-root m s at h.u h.rooted in let p = (o).left_lower in let q = (o).right_lower in (omega arith, omega arith)

      -- how many there are, and how many links were read
      all_are : forks h.u ≡ forks (o).A + forks (o).B + 1
      all_are = ap forks (o).is

      one_read : links_of at ≡ 1
      one_read = ap links_of e

      -- on to a lower tree, behind k nodes
      pass_on : {next : Option Ref} {z : Link} {k j p : ℕ} (v : BinaryTree) → IsRooted m s next v → z ≡ link_at m s next → height v < height h.u
          → AreTagged tag m s (nodes v) → IsSteady f (nodes v) → n + position_or_len f (nodes (o).A ++ r ∷ nodes (o).B) ≡ k + position_or_len f (nodes v)
          → k + forks v ≤ n + forks h.u → j ≡ b + links_of next → p ≡ d + 1 → Passing m s tag f root next z k a j c p
      pass_on v rooted i lower some up is within reads ticks =
          let g = h.reads in let q = h.steps in let w = one_read in let fits = h.within in record {
            t = h.t;
            u = v;
            whole = h.whole;
            few = h.few;
            rooted = rooted;
            link_is = i;
            tagged = some;
            steady = up;
            is = h.is ∙ ap (λ k. n + position_or_len f (nodes k)) (o).is ∙ is;
            within = omega arith;
            reads = omega arith;
            steps = omega arith;
          }

      pub pass_left : {z : Link} {j k : ℕ} → z ≡ link_at m s y.back → j ≡ b + links_of y.back → k ≡ d + 1 → f r ≡ true
          → Passing m s tag f root y.back z n a j c k
      pass_left i reads ticks p =
          let w = (o).height_is in let all = all_are in
          pass_on (o).A (o).left i (omega arith) (tagged_left tag m s (nodes (o).A) (r ∷ nodes (o).B) tags) (steady_left f (nodes (o).A) (r ∷ nodes (o).B) rises)
          (ap (λ k. n + k) (place_left f (nodes (o).A) r (nodes (o).B) p)) (omega arith) reads ticks

      module _ {z : Link} (i : z ≡ link_at m s y.forth) where
        right_size : z.size ≡ forks (o).B
        right_size = size_of_link m s y.forth z i ∙ size-root m s y.forth (o).B (o).right

        pub pass_not_less : z.size ≤ y.size
        pass_not_less = let k = right_size in let g = (o).size_is in omega arith

        passed : n + (y.size - z.size) ≡ n + (forks (o).A + 1)
        passed = let k = right_size in let g = (o).size_is in omega arith

        pub pass_fits : n + (y.size - z.size) < 2 ^ 32
        pass_fits = let k = passed in let all = all_are in let within = h.within in let few = h.few in omega arith

        pub pass_right : {j k : ℕ} → j ≡ b + links_of y.forth → k ≡ d + 1 → f r ≡ false → Passing m s tag f root y.forth z (n + (y.size - z.size)) a j c k
        pass_right reads ticks p =
            let w = (o).height_is in let all = all_are in let by = passed in let long = size-nodes (o).A in
            let place = place_right f (nodes (o).A) r (nodes (o).B) p rises in
            pass_on (o).B (o).right i (omega arith) (tagged_right tag m s (nodes (o).A) (r ∷ nodes (o).B) tags).1
            (steady_right f (nodes (o).A) (r ∷ nodes (o).B) rises).1 (omega arith) (omega arith) reads ticks

    pub pass_end : {at : Option Ref} {y : Link} {n a b c d : ℕ} (h : Passing m s tag f root at y n a b c d) → at ≡ None
        → (t : BinaryTree) → IsRooted m s root t → (n ≡ position_or_len f (nodes t)) × (b ≤ a + height t) × (d ≤ c + height t)
    pass_end {at} {n = n} h e t w =
        let same = same_tree m s root t h.t w h.whole in let tall = ap height same in let k = h.reads in let j = h.steps in let one = ap links_of e in
        let tip = tip_is m s h.u (moved m m s at None h.u refl e h.rooted) in
        let place : position_or_len f (nodes t) ≡ n + 0 =
        ap (λ k. position_or_len f (nodes k)) same ∙ h.is ∙ ap (λ k. n + position_or_len f (nodes k)) tip in
        (omega arith, omega arith, omega arith)
