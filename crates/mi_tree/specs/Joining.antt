-- What is put together, and what comes of it.
--     Two, Three, Four      subtrees with nodes between them, which may be put together
--     IsSized, read      what is known of a subtree is so; what its root's link says of it
--     Counts      what a node's link says of its two sides is so
--     IsDown, IsUp, IsBoth      links by which two or three nodes with subtrees between them are one tree
--     IsBalancedFork      a node's link is right for two sides of nearly one height
--     AreSides, IsBalanced      two balanced subtrees of nearly one height, and the balanced tree that they give
--     AreLinked      such subtrees by a link that names and counts them
use Rattle.std.specs.Prelude.{◌≡◌, ℕ, ◌+◌, ◌^◌, ◌<◌, ◌≤◌, max, ◌∷◌, ◌++◌, Option, Some}
use Rattle.mi_node.specs.Pool.{Pooled, IsHeld, Keeps, link_of}
use Rattle.mi_node.specs.declared.link.Link.{Link}
use Rattle.mi_node.specs.declared.link.Tag.{Tag}
use Rattle.mi_node.specs.Refs.{Ref, IsOut, IsApart}
use Rattle.mi_tree.specs.Sorted.{SameTags}
use Rattle.mi_tree.specs.BinaryTree.{BinaryTree, Fork, nodes, forks, height, DifferByAtMost, IsEven, IsRooted, size_at, height_at}
use Rattle.mi_tree.specs.declared.parts.Sub.{Sub}

abbrev pub IsSized : Sub → BinaryTree → Type 0
IsSized a A = (a.size ≡ forks A) × (a.height ≡ height A)

-- the link of that tag has the numbers of these two sides
pub record Counts (y : Link) (tag : Tag) (A B : BinaryTree) : Type 0 where
  pub size_is : y.size ≡ forks A + forks B + 1
  pub height_is : y.height ≡ max (height A) (height B) + 1
  pub tag_is : y.tag ≡ tag

module _ {T : Type 0} where
  abbrev pub read : Pooled T → ℕ → Option Ref → Sub
  read m s at = record { root = at; size = size_at m s at; height = height_at m s at }

  pub record Two (m : Pooled T) (s : ℕ) (a : Option Ref) (x : Ref) (b : Option Ref) (A B : BinaryTree) : Type 0 where
    pub first : IsRooted m s a A
    pub held : IsHeld m x
    pub second : IsRooted m s b B
    pub out_first : IsOut x.name (nodes A)
    pub out_second : IsOut x.name (nodes B)
    pub fits : forks A + forks B + 1 < 2 ^ 32
    pub low : (height A < 255) × (height B < 255)

  -- the link that the node has above these two
  pub record IsFork (m : Pooled T) (s : ℕ) (x : Ref) (y : Link) (A B : BinaryTree) : Type 0 where
    pub two : Two m s y.back x y.forth A B
    pub size_is : y.size ≡ forks A + forks B + 1
    pub height_is : y.height ≡ max (height A) (height B) + 1
    pub tag_is : y.tag ≡ (link_of m x.name s).tag

  abbrev pub IsBalancedFork : (m : Pooled T) (s : ℕ) (x : Ref) (y : Link) (A B : BinaryTree) → Type 0
  IsBalancedFork m s x y A B = IsFork m s x y A B × DifferByAtMost 1 (height A) (height B)

  pub record Three (m : Pooled T) (s : ℕ) (a : Option Ref) (x : Ref) (b : Option Ref) (y : Ref) (c : Option Ref) (A B C : BinaryTree) : Type 0 where
    pub first : IsRooted m s a A
    pub held_x : IsHeld m x
    pub second : IsRooted m s b B
    pub held_y : IsHeld m y
    pub third : IsRooted m s c C
    pub apart : IsApart (nodes A ++ x ∷ (nodes B ++ y ∷ nodes C))
    pub fits : forks A + forks B + forks C + 2 < 2 ^ 32
    pub low : (height A < 254) × (height B < 254) × (height C < 254)

  pub record Four (m : Pooled T) (s : ℕ) (a : Option Ref) (x : Ref) (b : Option Ref) (y : Ref)
      (c : Option Ref) (z : Ref) (d : Option Ref) (A B C D : BinaryTree) : Type 0 where
    pub first : IsRooted m s a A
    pub held_x : IsHeld m x
    pub second : IsRooted m s b B
    pub held_y : IsHeld m y
    pub third : IsRooted m s c C
    pub held_z : IsHeld m z
    pub fourth : IsRooted m s d D
    pub apart : IsApart (nodes A ++ x ∷ (nodes B ++ y ∷ (nodes C ++ z ∷ nodes D)))
    pub fits : forks A + forks B + forks C + forks D + 3 < 2 ^ 32
    pub low : (height A < 254) × (height B < 254) × (height C < 254) × (height D < 254)

  -- x is above y
  pub record IsDown (m : Pooled T) (s : ℕ) (x : Ref) (u : Link) (y : Ref) (v : Link) (A B C : BinaryTree) : Type 0 where
    pub three : Three m s u.back x v.back y v.forth A B C
    pub under : u.forth ≡ Some y
    pub low : Counts v (link_of m y.name s).tag B C
    pub high : Counts u (link_of m x.name s).tag A (Fork B y C)

  -- y is above x
  pub record IsUp (m : Pooled T) (s : ℕ) (x : Ref) (u : Link) (y : Ref) (v : Link) (A B C : BinaryTree) : Type 0 where
    pub three : Three m s u.back x u.forth y v.forth A B C
    pub under : v.back ≡ Some x
    pub low : Counts u (link_of m x.name s).tag A B
    pub high : Counts v (link_of m y.name s).tag (Fork A x B) C

  -- y is above x and z
  pub record IsBoth (m : Pooled T) (s : ℕ) (x : Ref) (u : Link) (y : Ref) (v : Link) (z : Ref) (w : Link) (A B C D : BinaryTree) : Type 0 where
    pub four : Four m s u.back x u.forth y w.back z w.forth A B C D
    pub back : v.back ≡ Some x
    pub forth : v.forth ≡ Some z
    pub first : Counts u (link_of m x.name s).tag A B
    pub second : Counts w (link_of m z.name s).tag C D
    pub whole : Counts v (link_of m y.name s).tag (Fork A x B) (Fork C z D)

-- t is balanced, has the nodes of l, then x, then those of q, and is as high as such a tree may be
pub record Rebalanced (l : BinaryTree) (x : Ref) (q t : BinaryTree) : Type 0 where
  pub nodes_are : nodes t ≡ nodes l ++ x ∷ nodes q
  pub even : IsEven t
  pub not_lower : max (height l) (height q) ≤ height t
  pub not_higher : height t ≤ max (height l) (height q) + 1
  pub as_high : DifferByAtMost 1 (height l) (height q) → height t ≡ max (height l) (height q) + 1

module _ {T : Type 0} where
  -- two subtrees and a node between them, which may be put together
  pub record AreSides (m : Pooled T) (s : ℕ) (left : Option Ref) (x : Ref) (right : Option Ref) (l q : BinaryTree) : Type 0 where
    pub left_is : IsRooted m s left l
    pub held : IsHeld m x
    pub right_is : IsRooted m s right q
    pub apart : IsApart (nodes l ++ x ∷ nodes q)
    pub left_even : IsEven l
    pub right_even : IsEven q
    pub near : DifferByAtMost 2 (height l) (height q)
    pub fits : forks l + forks q + 1 < 2 ^ 32

  -- the same by a link of the node, whose height says nothing
  pub record AreLinked (m : Pooled T) (s : ℕ) (x : Ref) (y : Link) (l q : BinaryTree) : Type 0 where
    pub sides : AreSides m s y.back x y.forth l q
    pub size_is : y.size ≡ forks l + forks q + 1
    pub tag_is : y.tag ≡ (link_of m x.name s).tag

  -- what putting them together gives
  pub record IsBalanced (m n : Pooled T) (s : ℕ) (l : BinaryTree) (x : Ref) (q : BinaryTree) (root : Ref) (t : BinaryTree) : Type 0 where
    pub rooted : IsRooted n s (Some root) t
    pub rebalanced : Rebalanced l x q t
    pub keeps : Keeps m n s (nodes l ++ x ∷ nodes q)
    pub tags : SameTags m n s
