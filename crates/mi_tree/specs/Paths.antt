-- A path from a tree's root down to a place in it.
--     Frame, plug      a node on the path with its other side, and the tree with another one at the end of the path
--     with_child_replaced      a link with another child
--     Above      the links of the nodes on the path, for a tree of that root, size and height at its end
--     Falls, HasFallen      a path to a subtree, and the path down to where a node belongs
--     Sinks, HasSunk      a path to a subtree, and the path down to a node of it that is about to leave
--     risen, IsLevel      the height of the whole tree above one of that height, and how it differs from another
--     Climbs, HasClimbed      a path with another tree at its end, and the whole tree
--     AreRebalanced      a node of a path over its two sides, of which one is another tree
use Rattle.std.specs.Prelude.{◌≡◌, ℕ, ◌+◌, ◌-◌, ◌^◌, ◌<◌, ◌≤◌, max, Bool, true, false, cond, List, [], ◌∷◌, ◌++◌, length, Option, Some, None}
use Rattle.std.specs.declared.cmp.Ordering.{Ordering}
use Rattle.mi_node.specs.Pool.{Pooled, link_of, IsHeld, Keeps}
use Rattle.mi_node.specs.Refs.{Ref, IsApart}
use Rattle.mi_node.specs.declared.link.Link.{Link}
use Rattle.mi_node.specs.declared.link.Tag.{Tag}
use Rattle.mi_tree.specs.BinaryTree.{BinaryTree, Tip, Fork, nodes, top, forks, height, DifferByAtMost, IsEven, Stands, IsRooted, height_at}
use Rattle.mi_tree.specs.Joining.{AreSides, IsBalancedFork}
use Rattle.mi_tree.specs.Sorted.{AreTagged, SameTags, IsPutIn, CanPut, CanTake}
use Rattle.mi_tree.specs.declared.path_steps.PathStep.{PathStep}
use Rattle.mi_tree.specs.declared.walk.TheConstants.{MAX_LEVELS}

-- a node on a path, whether the path goes on to its left, and its other side. The last one of a path is the first of a list of frames
pub record Frame : Type 0 where
  pub node : Ref
  pub left : Bool
  pub other : BinaryTree

abbrev pub path_of : List Frame → List PathStep
path_of [] = []
path_of (f ∷ fs) = path_of fs ++ record { node = f.node; left = f.left } ∷ []

-- a node above a tree, which is to its left or to its right
abbrev pub forked : Bool → BinaryTree → Ref → BinaryTree → BinaryTree
forked true t r q = Fork t r q
forked false t r q = Fork q r t

abbrev pub forked_size : Bool → ℕ → ℕ → ℕ
forked_size true n k = n + k + 1
forked_size false n k = k + n + 1

abbrev pub forked_height : Bool → ℕ → ℕ → ℕ
forked_height true h k = max h k + 1
forked_height false h k = max k h + 1

-- the link of such a node, for a tree of that root, size and height
abbrev pub forked_link : Bool → Option Ref → ℕ → ℕ → BinaryTree → Tag → Link
forked_link true at n h q tag = record { back = at; forth = top q; size = n + forks q + 1; height = max h (height q) + 1; tag = tag }
forked_link false at n h q tag = record { back = top q; forth = at; size = forks q + n + 1; height = max (height q) h + 1; tag = tag }

-- another child, and nothing else
abbrev pub with_child_replaced : Bool → Option Ref → Link → Link
with_child_replaced b at y = record { back = cond b at y.back; forth = cond b y.forth at; size = y.size; height = y.height; tag = y.tag }

-- the whole tree, with t at the end of the path
abbrev pub plug : List Frame → BinaryTree → BinaryTree
plug [] t = t
plug (f ∷ fs) t = plug fs (forked f.left t f.node f.other)

-- the frames are balanced above a tree of that height
abbrev pub AreEven : List Frame → ℕ → Type 0
AreEven [] h = Unit {0}
AreEven (f ∷ fs) h = DifferByAtMost 1 h (height f.other) × IsEven f.other × AreEven fs (forked_height f.left h (height f.other))

-- the height of the whole tree, with one of that height at the end of the path
abbrev pub risen : List Frame → ℕ → ℕ
risen [] h = h
risen (f ∷ fs) h = risen fs (forked_height f.left h (height f.other))

-- a is in place of h, and z of k: they differ by at most one, and z is not higher where a is not
abbrev pub IsLevel : ℕ → ℕ → ℕ → ℕ → Type 0
IsLevel a h z k = DifferByAtMost 1 z k × (a ≤ h → z ≤ k)

-- the root stays where a node is above the end of the path
abbrev pub IsRootOf : Option Ref → List Frame → Type 0
IsRootOf root [] = Unit {0}
IsRootOf root (f ∷ fs) = root ≡ top (plug (f ∷ fs) Tip)

module _ {T : Type 0} where
  abbrev pub Above : Pooled T → ℕ → List Frame → Option Ref → ℕ → ℕ → Type 0
  Above m s [] at n h = Unit {0}
  Above m s (f ∷ fs) at n h = IsHeld m f.node × (link_of m f.node.name s ≡ forked_link f.left at n h f.other (link_of m f.node.name s).tag) × Stands m s f.other
      × Above m s fs (Some f.node) (forked_size f.left n (forks f.other)) (forked_height f.left h (height f.other))

  -- t stands at the end of the path; above it each size counts one more
  pub record Falls (m : Pooled T) (s : ℕ) (R : Ref → Ref → Ordering) (tag : T → ℕ)
      (items : List PathStep) (at : Option Ref) (x : Ref) (fs : List Frame) (t : BinaryTree) : Type 0 where
    pub path_is : items ≡ path_of fs
    pub can : CanPut m s R at x t
    pub tagged : AreTagged tag m s (x ∷ nodes t)
    pub above : Above m s fs at (forks t + 1) (height t)
    pub beside : AreEven fs (height t)
    pub apart : IsApart (nodes (plug fs t))
    pub places : (u : BinaryTree) → IsPutIn (R x) x (nodes t) (nodes u) → IsPutIn (R x) x (nodes (plug fs t)) (nodes (plug fs u))
    pub room : height t + length fs ≤ MAX_LEVELS

  -- the path of the whole tree to where x belongs
  pub record HasFallen (m n : Pooled T) (s : ℕ) (R : Ref → Ref → Ordering)
      (items : List PathStep) (x : Ref) (whole : BinaryTree) (gs : List Frame) : Type 0 where
    pub path_is : items ≡ path_of gs
    pub whole_is : plug gs Tip ≡ whole
    pub alone : IsRooted n s (Some x) (Fork Tip x Tip)
    pub above : Above n s gs None 1 0
    pub beside : AreEven gs 0
    pub places : (u : BinaryTree) → IsPutIn (R x) x [] (nodes u) → IsPutIn (R x) x (nodes whole) (nodes (plug gs u))
    pub keeps : Keeps m n s (nodes whole)
    pub tags : SameTags m n s

  -- t, in which x is between xs and ys, stands at the end of the path; above it each size counts one less. Without x the whole is vs and ws
  pub record Sinks (m : Pooled T) (s : ℕ) (items : List PathStep) (at : Option Ref)
      (fs : List Frame) (t : BinaryTree) (xs : List Ref) (x : Ref) (ys vs ws : List Ref) : Type 0 where
    pub path_is : items ≡ path_of fs
    pub can : CanTake m s at t
    pub has : nodes t ≡ xs ++ x ∷ ys
    pub above : Above m s fs at (forks t - 1) (height t)
    pub beside : AreEven fs (height t)
    pub apart : IsApart (nodes (plug fs t))
    pub places : (u : BinaryTree) → nodes u ≡ xs ++ ys → nodes (plug fs u) ≡ vs ++ ws
    pub room : height t + length fs ≤ MAX_LEVELS

  -- the path of the whole tree to x, which has the sides A and B
  pub record HasSunk (m n : Pooled T) (s : ℕ) (items : List PathStep) (xs : List Ref) (x : Ref)
      (ys vs ws : List Ref) (whole : BinaryTree) (gs : List Frame) (A B : BinaryTree) : Type 0 where
    pub path_is : items ≡ path_of gs
    pub whole_is : plug gs (Fork A x B) ≡ whole
    pub rooted : IsRooted n s (Some x) (Fork A x B)
    pub even : IsEven (Fork A x B)
    pub above : Above n s gs (Some x) (forks A + forks B) (height (Fork A x B))
    pub beside : AreEven gs (height (Fork A x B))
    pub places : (u : BinaryTree) → nodes u ≡ nodes A ++ nodes B → nodes (plug gs u) ≡ vs ++ ws
    pub keeps : Keeps m n s (xs ++ ys)
    pub tags : SameTags m n s

  -- u is to stand where a tree of nearly its height is; above it each size counts the nodes of u
  pub record Climbs (m : Pooled T) (s : ℕ) (root below : Option Ref) (items : List PathStep)
      (fs : List Frame) (at : Option Ref) (h : ℕ) (u : BinaryTree) : Type 0 where
    pub path_is : items ≡ path_of fs
    pub above : Above m s fs at (forks u) h
    pub beside : AreEven fs h
    pub rooted : IsRooted m s below u
    pub even : IsEven u
    pub near : DifferByAtMost 1 (height u) h
    pub apart : IsApart (nodes (plug fs u))
    pub fits : forks (plug fs u) < 2 ^ 32
    pub root_is : IsRootOf root fs

  pub record HasClimbed (m n : Pooled T) (s : ℕ) (whole : BinaryTree) (root : Option Ref) (v : BinaryTree) : Type 0 where
    pub rooted : IsRooted n s root v
    pub even : IsEven v
    pub nodes_are : nodes v ≡ nodes whole
    pub keeps : Keeps m n s (nodes whole)
    pub tags : SameTags m n s

  -- another tree is to stand below a node of the path, whose link's size counts it: where it is one level lower than the node, the link is right
  pub record AreRebalanced (m : Pooled T) (s : ℕ) (path_step : PathStep) (below : Option Ref) (y : Link) (l q : BinaryTree) : Type 0 where
    pub sides : AreSides m s (cond path_step.left below y.back) path_step.node (cond path_step.left y.forth below) l q
    pub size_is : y.size ≡ forks l + forks q + 1
    pub settled : height_at m s below + 1 ≡ y.height → IsBalancedFork m s path_step.node (with_child_replaced path_step.left below y) l q
