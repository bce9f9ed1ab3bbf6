-- What a tree that stands says of each node.
-- Cited by `Tree::bound`, `Tree::keeps_place`, `Tree::len`, `Tree::next`, `Tree::prev`, 33 more, `mi_index` and `test_storage`.
use Rattle.std.proofs.Common.{◌≡◌, ℕ, zero, suc, ◌+◌, ◌<◌, max, List, [], ◌∷◌, ◌++◌, length}
use Rattle.std.proofs.Common.{Option, Some, None, refl, sym, ap, ◌∙◌, subst, arith, length-append}
use Rattle.mi_node.specs.Neighbours.{AreHeld}
use Rattle.mi_node.specs.Pool.{Pooled, link_of, IsHeld, IsHeldIf}
use Rattle.mi_node.specs.Refs.{Ref, first_of, last_of}
use Rattle.mi_node.specs.declared.link.Link.{Link}
use Rattle.mi_tree.specs.BinaryTree.{BinaryTree, Tip, Fork, nodes, top, forks, height, fork_link, nth_of, Stands, IsRooted, size_at, height_at}

pub size-nodes : (t : BinaryTree) → forks t ≡ length (nodes t)
size-nodes Tip = refl
size-nodes (Fork l r q) = let a = size-nodes l in let b = size-nodes q in let e = length-append (nodes l) (r ∷ nodes q) in omega arith

-- nodes by index
pub nth-before : (xs : List Ref) (r : Ref) (ys : List Ref) (n : ℕ) → n < length xs → nth_of (xs ++ r ∷ ys) n ≡ nth_of xs n
nth-before [] r ys n h = absurd (omega arith)
nth-before (x ∷ xs) r ys zero h = refl
nth-before (x ∷ xs) r ys (suc n) h = nth-before xs r ys n (omega arith)

pub nth-at : (xs : List Ref) (r : Ref) (ys : List Ref) → nth_of (xs ++ r ∷ ys) (length xs) ≡ Some r
nth-at [] r ys = refl
nth-at (x ∷ xs) r ys = nth-at xs r ys

pub nth-after : (xs : List Ref) (r : Ref) (ys : List Ref) (k : ℕ) → nth_of (xs ++ r ∷ ys) (suc (length xs + k)) ≡ nth_of ys k
nth-after [] r ys k = let e : 0 + k ≡ k = omega arith in ap (nth_of ys) e
nth-after (x ∷ xs) r ys k = let e : suc (length xs) + k ≡ suc (length xs + k) = omega arith in ap (nth_of (xs ++ r ∷ ys)) e ∙ nth-after xs r ys k

-- the last before a node
nth-last_of : (x : Ref) (xs ys : List Ref) → nth_of (x ∷ xs ++ ys) (length xs) ≡ last_of (Some x) xs
nth-last_of x [] ys = refl
nth-last_of x (y ∷ xs) ys = nth-last_of y xs ys

pub nth-last : (xs ys : List Ref) (n : ℕ) → length xs ≡ suc n → nth_of (xs ++ ys) n ≡ last_of None xs
nth-last [] ys n e = absurd (omega arith)
nth-last (x ∷ xs) ys n e = let i : n ≡ length xs = omega arith in ap (nth_of (x ∷ xs ++ ys)) i ∙ nth-last_of x xs ys

pub last-none : (xs : List Ref) → length xs ≡ 0 → None ≡ last_of None xs
last-none [] e = refl
last-none (x ∷ xs) e = absurd (omega arith)

pub nth-first : (ys : List Ref) → nth_of ys 0 ≡ first_of ys None
nth-first [] = refl
nth-first (y ∷ ys) = refl

held_both : {T : Type 0} (m : Pooled T) (xs ys : List Ref) → AreHeld m xs → AreHeld m ys → AreHeld m (xs ++ ys)
held_both m [] ys g h = h
held_both m (x ∷ xs) ys g h = (g.0, held_both m xs ys g.1 h)

pub all_held : {T : Type 0} (m : Pooled T) (s : ℕ) (t : BinaryTree) → Stands m s t → AreHeld m (nodes t)
all_held m s Tip h = tt
all_held m s (Fork l r q) h = held_both m (nodes l) (r ∷ nodes q) (all_held m s l h.2) (h.0, all_held m s q h.3)

some_is : (r q : Ref) → Some r ≡ Some q → r ≡ q
some_is r q e = cc

none_is : (r : Ref) → Some r ≡ None → ⊥
none_is r e = cc

module _ {T : Type 0} where
  pub moved : (m n : Pooled T) (s : ℕ) (o p : Option Ref) (t : BinaryTree) → m ≡ n → o ≡ p → IsRooted m s o t → IsRooted n s p t
  moved m n s o p t e f h = subst (λ (z : Pooled T × Option Ref). IsRooted z.0 s z.1 t) (λ i. (e i, f i)) h

  size-top : (m : Pooled T) (s : ℕ) (t : BinaryTree) → Stands m s t → size_at m s (top t) ≡ forks t
  size-top m s Tip h = refl
  size-top m s (Fork l r q) h = ap (λ (y : Link). y.size) h.1

  height-top : (m : Pooled T) (s : ℕ) (t : BinaryTree) → Stands m s t → height_at m s (top t) ≡ height t
  height-top m s Tip h = refl
  height-top m s (Fork l r q) h = ap (λ (y : Link). y.height) h.1

  held-top : (m : Pooled T) (s : ℕ) (t : BinaryTree) → Stands m s t → IsHeldIf m (top t)
  held-top m s Tip h = tt
  held-top m s (Fork l r q) h = h.0

  pub size-root : (m : Pooled T) (s : ℕ) (o : Option Ref) (t : BinaryTree) → IsRooted m s o t → size_at m s o ≡ forks t
  size-root m s o t h = ap (size_at m s) h.root ∙ size-top m s t h.stands

  pub height-root : (m : Pooled T) (s : ℕ) (o : Option Ref) (t : BinaryTree) → IsRooted m s o t → height_at m s o ≡ height t
  height-root m s o t h = ap (height_at m s) h.root ∙ height-top m s t h.stands

  pub held-root : (m : Pooled T) (s : ℕ) (o : Option Ref) (t : BinaryTree) → IsRooted m s o t → IsHeldIf m o
  held-root m s o t h = subst (IsHeldIf m) (sym h.root) (held-top m s t h.stands)

  -- the node that a tree is under is held in a pool n that is as m is
  pub held-moved : {m n : Pooled T} {s : ℕ} {o : Option Ref} {t : BinaryTree} → n ≡ m → IsRooted m s o t → IsHeldIf n o
  held-moved {m} {n} {s} {o} {t} e h = held-root n s o t (moved m n s o o t (sym e) refl h)

  -- a lower tree is lower in pools that are as m is
  pub lower-moved : {m : Pooled T} (n p : Pooled T) (s : ℕ) (a b : Option Ref) → n ≡ m → p ≡ m
      → height_at m s a < height_at m s b → height_at n s a < height_at p s b
  lower-moved n p s a b e f h = subst (λ (z : Pooled T × Pooled T). height_at z.0 s a < height_at z.1 s b) (λ i. (sym e i, sym f i)) h

  -- a slot that m has is one of a pool n that is as m is
  pub slot-moved : {m n : Pooled T} (s : ℕ) → n ≡ m → s < m.slots → s < n.slots
  slot-moved s e h = subst (λ (z : Pooled T). s < z.slots) (sym e) h

  -- a tree under a node is that node between two trees
  pub record Opened (m : Pooled T) (s : ℕ) (r : Ref) (t : BinaryTree) : Type 0 where
    pub left : BinaryTree
    pub right : BinaryTree
    pub is : t ≡ Fork left r right
    pub held : IsHeld m r
    pub link : link_of m r.name s ≡ fork_link left right (link_of m r.name s).tag
    pub left_is : IsRooted m s (link_of m r.name s).back left
    pub right_is : IsRooted m s (link_of m r.name s).forth right

  pub opened : (m : Pooled T) (s : ℕ) (r : Ref) (t : BinaryTree) → IsRooted m s (Some r) t → Opened m s r t
  opened m s r Tip h = absurd (none_is r h.root)
  opened m s r (Fork l x q) h = let e = some_is r x h.root in subst (λ y. Opened m s y (Fork l x q)) (sym e) (record {
    left = l;
    right = q;
    is = refl;
    held = h.stands.0;
    link = h.stands.1;
    left_is = record { root = ap (λ (y : Link). y.back) h.stands.1; stands = h.stands.2 };
    right_is = record { root = ap (λ (y : Link). y.forth) h.stands.1; stands = h.stands.3 };
  })

  pub tip_is : (m : Pooled T) (s : ℕ) (t : BinaryTree) → IsRooted m s None t → t ≡ Tip
  tip_is m s Tip h = refl
  tip_is m s (Fork l x q) h = absurd (none_is x (sym h.root))

  -- one root, one tree
  same_shape : (m : Pooled T) (s : ℕ) (t u : BinaryTree) → top t ≡ top u → Stands m s t → Stands m s u → t ≡ u
  same_shape m s Tip Tip e g h = refl
  same_shape m s Tip (Fork a x b) e g h = absurd (none_is x (sym e))
  same_shape m s (Fork l r q) Tip e g h = absurd (none_is r e)
  same_shape m s (Fork l r q) (Fork a x b) e g h =
      let n = some_is r x e in
      let back : top l ≡ top a = sym (ap (λ (y : Link). y.back) g.1) ∙ ap (λ (k : Ref). (link_of m k.name s).back) n ∙ ap (λ (y : Link). y.back) h.1 in
      let forth : top q ≡ top b = sym (ap (λ (y : Link). y.forth) g.1) ∙ ap (λ (k : Ref). (link_of m k.name s).forth) n ∙ ap (λ (y : Link). y.forth) h.1 in
      let i = same_shape m s l a back g.2 h.2 in let j = same_shape m s q b forth g.3 h.3 in λ k. Fork (i k) (n k) (j k)

  pub same_tree : (m : Pooled T) (s : ℕ) (at : Option Ref) (t u : BinaryTree) → IsRooted m s at t → IsRooted m s at u → t ≡ u
  same_tree m s at t u g h = same_shape m s t u (sym g.root ∙ h.root) g.stands h.stands

  -- the sides of a node on the path down
  pub record Sides (m : Pooled T) (s : ℕ) (r : Ref) (y : Link) (u : BinaryTree) : Type 0 where
    pub A : BinaryTree
    pub B : BinaryTree
    pub is : u ≡ Fork A r B
    pub held : IsHeld m r
    pub left : IsRooted m s y.back A
    pub right : IsRooted m s y.forth B
    pub link_is : y ≡ fork_link A B y.tag
    pub size_is : y.size ≡ forks A + forks B + 1
    pub height_is : height u ≡ max (height A) (height B) + 1
    pub left_height : height_at m s y.back ≡ height A
    pub right_height : height_at m s y.forth ≡ height B
    pub left_lower : height_at m s y.back < height u
    pub right_lower : height_at m s y.forth < height u

  pub sides : (m : Pooled T) (s : ℕ) (at : Option Ref) (r : Ref) (y : Link) (u : BinaryTree)
      → IsRooted m s at u → at ≡ Some r → y ≡ link_of m r.name s → Sides m s r y u
  sides m s at r y u h e i =
      let o = opened m s r u (moved m m s at (Some r) u refl e h) in let heights = ap height o.is in
      let a = moved m m s _ y.back o.left refl (sym (ap (λ (z : Link). z.back) i)) o.left_is in
      let b = moved m m s _ y.forth o.right refl (sym (ap (λ (z : Link). z.forth) i)) o.right_is in
      let ha = height-root m s y.back o.left a in let hb = height-root m s y.forth o.right b in
      record {
        A = o.left;
        B = o.right;
        is = o.is;
        held = o.held;
        left = a;
        right = b;
        link_is = i ∙ o.link ∙ ap (λ (z : Link). fork_link o.left o.right z.tag) (sym i);
        size_is = ap (λ (z : Link). z.size) i ∙ ap (λ (z : Link). z.size) o.link;
        height_is = heights;
        left_height = ha;
        right_height = hb;
        left_lower = omega arith;
        right_lower = omega arith;
      }
