-- Where a walk along a tree stands.
--     onward, beyond      a list in the walk's direction; what the walk comes to from between two lists
--     beyond_place      what it comes to from a place in a list
--     near_of, far_of      the side of a link that the walk comes to before its node, and the one after it
--     Pending      a node that is ahead, and the subtree that the walk comes to after it
--     ahead, path_of      the nodes ahead, and the nodes on the path, the first of which is its last
--     Goes      a path stands in a pool with these nodes ahead
--     IsWalk      the same of a walk
use Rattle.std.specs.Prelude.{◌≡◌, ℕ, Bool, true, false, ◌+◌, ◌<◌, ◌≤◌, List, [], ◌∷◌, ◌++◌, length, take, drop, reverse, Option, Some}
use Rattle.mi_node.specs.Pool.{Pooled, link_of, IsHeld}
use Rattle.mi_node.specs.Refs.{Ref}
use Rattle.mi_node.specs.declared.link.Link.{Link}
use Rattle.mi_tree.specs.BinaryTree.{BinaryTree, nodes, height, IsRooted}
use Rattle.mi_tree.specs.declared.walk.Direction.{Direction}
use Rattle.mi_tree.specs.declared.walk.Direction.TheVariants.{Ascending, Descending}
use Rattle.mi_tree.specs.declared.walk.Walk.{Walk}
use Rattle.mi_tree.specs.declared.walk.TheConstants.{MAX_LEVELS}

abbrev pub beyond : Direction → List Ref → List Ref → List Ref
beyond Ascending xs ys = ys
beyond Descending xs ys = reverse xs

-- what the walk comes to from the place behind the first n of a list
abbrev pub beyond_place : Direction → ℕ → List Ref → List Ref
beyond_place d n rs = beyond d (take n rs) (drop n rs)

abbrev pub onward : Direction → List Ref → List Ref
onward d rs = beyond d rs rs

abbrev pub near_of : Direction → Link → Option Ref
near_of Ascending y = y.back
near_of Descending y = y.forth

abbrev pub far_of : Direction → Link → Option Ref
far_of Ascending y = y.forth
far_of Descending y = y.back

abbrev pub is_ascending : Direction → Bool
is_ascending Ascending = true
is_ascending Descending = false

pub record Pending : Type 0 where
  pub node : Ref
  pub after : BinaryTree

abbrev pub ahead : Direction → List Pending → List Ref
ahead d [] = []
ahead d (x ∷ xs) = x.node ∷ (onward d (nodes x.after) ++ ahead d xs)

abbrev pub path_of : List Pending → List (Option Ref)
path_of [] = []
path_of (x ∷ xs) = path_of xs ++ Some x.node ∷ []

module _ {T : Type 0} where
  -- each is held, with its subtree after it, of which every path down has room on a path of that many levels
  abbrev pub ArePending : Pooled T → ℕ → Direction → ℕ → List Pending → Type 0
  ArePending m s d levels [] = Unit {0}
  ArePending m s d levels (x ∷ xs) = IsHeld m x.node × IsRooted m s (far_of d (link_of m x.node.name s)) x.after
      × (height x.after + length xs + 1 ≤ levels) × ArePending m s d levels xs

  pub record Goes (m : Pooled T) (s : ℕ) (d : Direction) (levels : ℕ) (items : List (Option Ref)) (xs : List Pending) : Type 0 where
    pub path_is : items ≡ path_of xs
    pub pending : ArePending m s d levels xs

  -- a path from which the walk goes down into a subtree first
  pub record Enters (m : Pooled T) (s : ℕ) (d : Direction) (levels : ℕ)
      (items : List (Option Ref)) (at : Option Ref) (xs : List Pending) (t : BinaryTree) : Type 0 where
    pub goes : Goes m s d levels items xs
    pub rooted : IsRooted m s at t
    pub room : height t + length xs ≤ levels
    pub low : levels ≤ MAX_LEVELS

  -- the walk has the nodes us ahead, and its path has at most that many levels
  pub record IsWalk (w : Walk) (m : Pooled T) (levels : ℕ) (us : List Ref) : Type 0 where
    pub xs : List Pending
    pub goes : Goes m w.slot w.direction levels w.path.items xs
    pub ahead_is : ahead w.direction xs ≡ us
    pub low : levels ≤ MAX_LEVELS
    pub has_slot : w.slot < m.slots
