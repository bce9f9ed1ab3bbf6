-- A node less in a subtree, and then in the whole.
-- Cited by `change::append`, `change::take_first`, `path::+descend_to`, `KeepingLemmas`, `PathLemmas` and 3 more.
use Rattle.std.proofs.Common.{◌≡◌, ℕ, ◌+◌, ◌≤◌, max, List, [], ◌∷◌, ◌++◌, length, Option, Some, None, refl, sym, ap, ◌∙◌, subst, arith, length-append}
use Rattle.mi_node.specs.Pool.{Pooled, link_of, IsHeld}
use Rattle.mi_node.specs.declared.link.Link.{Link}
use Rattle.mi_node.specs.Refs.{Ref, IsOut, IsApart}
use Rattle.mi_node.proofs.RefLemmas.{out_left, out_right, out_both, apart_right, apart_across, apart_remove, between}
use Rattle.mi_node.proofs.KeepingLemmas.{keeps_then, keeps_more, keeps_none, held_kept}
use Rattle.mi_tree.specs.BinaryTree.{BinaryTree, Fork, nodes, forks, height, fork_link, DifferByAtMost, IsEven, Stands}
use Rattle.mi_tree.specs.Joining.{AreSides, IsBalanced}
use Rattle.mi_tree.specs.Sorted.{CanTake, HasTaken, AreEnds, AreAppended}
use Rattle.mi_tree.proofs.BinaryTreeLemmas.{moved, sides, tip_is, size-nodes, all_held}
use Rattle.mi_node.specs.Neighbours.{AreHeld}
use Rattle.mi_tree.proofs.JoinLemmas.{rooted_kept}

-- heights after the first node of the right side became the root
met : (l q u t : ℕ) → DifferByAtMost 1 l q → u ≤ q → q ≤ u + 1 → max l u ≤ t → t ≤ max l u + 1
    → (DifferByAtMost 1 l u → t ≡ max l u + 1) → (l ≤ t) × (q ≤ t) × (t ≤ max l q + 1)
met l q u t d a b low high tight = (grind arith, grind arith, grind arith)

-- one node less is one less in size
less_size : (t u : BinaryTree) (xs : List Ref) (x : Ref) (ys : List Ref) → nodes t ≡ xs ++ x ∷ ys → nodes u ≡ xs ++ ys → forks t ≡ forks u + 1
less_size t u xs x ys e f =
    let a = size-nodes t in let b = size-nodes u in let c = ap length e in
    let d = ap length f in let i = length-append xs (x ∷ ys) in let j = length-append xs ys in
    omega arith

-- what is out of a list is out of it without a node
pub out_less : (k : ℕ) (xs : List Ref) (x : Ref) (ys : List Ref) → IsOut k (xs ++ x ∷ ys) → IsOut k (xs ++ ys)
out_less k xs x ys o = out_both k xs ys (out_left k xs (x ∷ ys) o) (out_right k xs (x ∷ ys) o).1

-- a part of a list apart from others
pub apart_less : (xs : List Ref) (x : Ref) (ys : List Ref) → IsApart (xs ++ x ∷ ys) → IsApart (xs ++ ys)
apart_less xs x ys a = (apart_remove xs x ys a).0

fork_left : (A : BinaryTree) (r : Ref) (B l : BinaryTree) (x : Ref) (q : BinaryTree) → Fork A r B ≡ Fork l x q → A ≡ l
fork_left A r B l x q e = cc

fork_right : (A : BinaryTree) (r : Ref) (B l : BinaryTree) (x : Ref) (q : BinaryTree) → Fork A r B ≡ Fork l x q → B ≡ q
fork_right A r B l x q e = cc

nothing_after : (rs : List Ref) → rs ++ [] ≡ rs
nothing_after [] = refl
nothing_after (r ∷ rs) = ap (λ l. r ∷ l) (nothing_after rs)

module _ {T : Type 0} where
  held_right : (m : Pooled T) (xs : List Ref) (r : Ref) (ys : List Ref) → AreHeld m (xs ++ r ∷ ys) → IsHeld m r
  held_right m [] r ys a = a.0
  held_right m (x ∷ xs) r ys a = held_right m xs r ys a.1

  pub held_in : (m : Pooled T) (s : ℕ) (t : BinaryTree) (xs : List Ref) (r : Ref) (ys : List Ref) → nodes t ≡ xs ++ r ∷ ys → Stands m s t → IsHeld m r
  held_in m s t xs r ys e h = held_right m xs r ys (subst (AreHeld m) e (all_held m s t h))

  pub record TakeOpened (m : Pooled T) (s : ℕ) (root : Ref) (y : Link) (t : BinaryTree) : Type 0 where
    pub A : BinaryTree
    pub B : BinaryTree
    pub is : t ≡ Fork A root B
    pub left : CanTake m s y.back A
    pub right : CanTake m s y.forth B
    pub held_root : IsHeld m root
    pub even : IsEven (Fork A root B)
    pub apart : IsApart (nodes A ++ root ∷ nodes B)
    pub size_is : forks t ≡ y.size
    pub link_is : y ≡ fork_link A B y.tag

  pub take_opened : (m : Pooled T) (s : ℕ) (at : Option Ref) (root : Ref) (y : Link) (t : BinaryTree)
      → CanTake m s at t → at ≡ Some root → y ≡ link_of m root.name s → TakeOpened m s root y t
  take_opened m s at root y t h e i =
      let o = sides m s at root y t h.rooted e i in let even = subst IsEven o.is h.even in let apart = subst IsApart (ap nodes o.is) h.apart in
      let w = between (nodes o.A) root (nodes o.B) apart in let sizes = ap forks o.is in let f = h.fits in record {
        A = o.A;
        B = o.B;
        is = o.is;
        left = record { rooted = o.left; even = even.1; apart = w.left; fits = omega arith };
        right = record { rooted = o.right; even = even.2; apart = w.right; fits = omega arith };
        held_root = o.held;
        even = even;
        apart = apart;
        size_is = sizes ∙ sym o.size_is;
        link_is = o.link_is;
      }

  -- two trees
  pub ends_take : {m : Pooled T} {s : ℕ} {left right : Option Ref} {l q : BinaryTree} {r : Ref} → AreEnds m s left right l q → right ≡ Some r
      → CanTake m s (Some r) q
  ends_take {m} {s} {l = l} {q} h e = let f = h.fits in subst (λ k. CanTake m s k q) e
      (record { rooted = h.right_is; even = h.right_even; apart = apart_right (nodes l) (nodes q) h.apart; fits = omega arith })

  pub ends_none : {m : Pooled T} {s : ℕ} {left right : Option Ref} {l q : BinaryTree} → AreEnds m s left right l q → right ≡ None
      → AreAppended m m s l q left l
  ends_none {m} {s} {right = right} {l} {q} h e =
      let tip = tip_is m s q (moved m m s right None q refl e h.right_is) in let low = ap height tip in record {
        rooted = h.left_is;
        even = h.left_even;
        nodes_are = sym (ap (λ k. nodes l ++ nodes k) tip ∙ nothing_after (nodes l));
        not_lower = (omega arith, omega arith);
        not_higher = omega arith;
        keeps = keeps_none s m (nodes l ++ nodes q);
        tags = λ k. refl;
      }

  pub ends_alone : {m : Pooled T} {s : ℕ} {left right : Option Ref} {l q : BinaryTree} → AreEnds m s left right l q → left ≡ None
      → AreAppended m m s l q right q
  ends_alone {m} {s} {left} {l = l} {q} h e =
      let tip = tip_is m s l (moved m m s left None l refl e h.left_is) in let low = ap height tip in record {
        rooted = h.right_is;
        even = h.right_even;
        nodes_are = sym (ap (λ k. nodes k ++ nodes q) tip);
        not_lower = (omega arith, omega arith);
        not_higher = omega arith;
        keeps = keeps_none s m (nodes l ++ nodes q);
        tags = λ k. refl;
      }

  -- a root without a left side is the first node, and its right side is the rest
  pub root_taken : {m : Pooled T} {s : ℕ} {root : Ref} {y : Link} (t : BinaryTree) → CanTake m s (Some root) t → y ≡ link_of m root.name s → y.back ≡ None
      → (u : BinaryTree) × (rs : List Ref) × (nodes t ≡ root ∷ rs) × HasTaken m m s t rs y.forth u
  root_taken {m} {s} {root} {y} t h i e =
      let o = take_opened m s (Some root) root y t h refl i in
      let tip = tip_is m s o.A (moved m m s y.back None o.A refl e o.left.rooted) in
      let low = ap height tip in let high = ap height o.is in (
        o.B,
        nodes o.B,
        ap nodes o.is ∙ ap (λ k. nodes k ++ root ∷ nodes o.B) tip,
        record {
          rooted = o.right.rooted;
          even = o.right.even;
          nodes_are = refl;
          not_higher = omega arith;
          not_lower = omega arith;
          keeps = keeps_none s m (nodes o.B);
          tags = λ k. refl;
        },
      )

  module _ {m n : Pooled T} {s : ℕ} {left right : Option Ref} {l q : BinaryTree} (h : AreEnds m s left right l q) {first : Ref}
      {rs : List Ref} {rest : Option Ref} {u : BinaryTree} (is : nodes q ≡ first ∷ rs) (k : HasTaken m n s q rs rest u) where
    pub ends_sides : AreSides n s left first rest l u
    ends_sides =
        let size_is = less_size q u [] first rs is k.nodes_are in let e0 = h.near in let f = h.fits in let lo = k.not_lower in let hi = k.not_higher in
        let all = subst IsApart (ap (λ v. nodes l ++ v) is) h.apart in record {
          left_is = rooted_kept s m n (nodes q) left l (keeps_more s m n rs (nodes q) k.keeps (λ j out. (subst (IsOut j) is out).1))
              (apart_across (nodes l) (nodes q) h.apart) h.left_is;
          held = held_kept s m n rs first k.keeps (held_in m s q [] first rs is h.right_is.stands);
          right_is = k.rooted;
          apart = subst (λ v. IsApart (nodes l ++ first ∷ v)) (sym k.nodes_are) all;
          left_even = h.left_even;
          right_even = k.even;
          near = (omega arith, omega arith);
          fits = omega arith;
        }

    pub ends_appended : {v : Pooled T} {result : Ref} {z : BinaryTree} → IsBalanced n v s l first u result z → AreAppended m v s l q (Some result) z
    ends_appended {v} {z = z} b =
        let r = b.rebalanced in
        let g = met (height l) (height q) (height u) (height z) h.near k.not_higher k.not_lower r.not_lower r.not_higher r.as_high in
        record {
          rooted = b.rooted;
          even = r.even;
          nodes_are = r.nodes_are ∙ ap (λ w. nodes l ++ first ∷ w) k.nodes_are ∙ sym (ap (λ w. nodes l ++ w) is);
          not_lower = (g.0, g.1);
          not_higher = g.2;
          tags = λ j. b.tags j ∙ k.tags j;
          keeps = keeps_then s m n v rs (nodes l ++ first ∷ nodes u) (nodes l ++ nodes q) k.keeps b.keeps
              (λ j out.
              let right = out_right j (nodes l) (nodes q) out in (
                (subst (IsOut j) is right).1,
                out_both j (nodes l) (first ∷ nodes u) (out_left j (nodes l) (nodes q) out)
                    (subst (λ w. IsOut j (first ∷ w)) (sym k.nodes_are) (subst (IsOut j) is right)),
              ));
        }

  -- the sides of a fork, which is known already
  pub side_take : (m : Pooled T) (s : ℕ) (at : Option Ref) (root : Ref) (y : Link) (t : BinaryTree) → CanTake m s at t → at ≡ Some root
      → y ≡ link_of m root.name s → (l q : BinaryTree) → t ≡ Fork l root q → CanTake m s y.back l × CanTake m s y.forth q
  side_take m s at root y t h e i l q is =
      let o = take_opened m s at root y t h e i in let same = sym o.is ∙ is in
      (subst (CanTake m s y.back) (fork_left o.A root o.B l root q same) o.left, subst (CanTake m s y.forth) (fork_right o.A root o.B l root q same) o.right)
