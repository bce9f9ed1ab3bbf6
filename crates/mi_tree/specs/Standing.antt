-- A tree as a relation of its root, a pool and the list of its nodes.
use Rattle.std.specs.Prelude.{◌≡◌, ℕ, ◌+◌, ◌^◌, ◌<◌, List, length}
use Rattle.std.specs.declared.cmp.Ordering.{Ordering}
use Rattle.std.specs.declared.cmp.Ordering.TheVariants.{Equal}
use Rattle.mi_node.specs.Pool.{Pooled, IsHeld}
use Rattle.mi_node.specs.Refs.{Ref, IsOut, IsApart}
use Rattle.mi_tree.specs.BinaryTree.{BinaryTree, nodes, IsEven, IsRooted}
use Rattle.mi_tree.specs.Sorted.{NoneAre, Rising, AreTagged, side, side_of_new}
use Rattle.mi_tree.specs.declared.tree.Tree.{Tree}

-- it stands in the pool m, with the nodes rs, which rise by the order of their keys and then by their stamps, and
-- whose links have the tags of their values
pub record IsTree {T O : Type 0} (l : Tree O) (m : Pooled T) (order : T → T → Ordering) (tag : T → ℕ) (rs : List Ref) : Type 0 where
  pub shape : BinaryTree
  pub rooted : IsRooted m l.slot l.root shape
  pub even : IsEven shape
  pub nodes_are : nodes shape ≡ rs
  pub apart : IsApart rs
  pub rising : Rising (side order m l.slot) rs
  pub tagged : AreTagged tag m l.slot rs
  pub fits : length rs < 2 ^ 32
  pub has_slot : l.slot < m.slots

-- a held node that may be put in with that stamp in slot s
pub record CanInsert {T : Type 0} (m : Pooled T) (s : ℕ) (order : T → T → Ordering) (x : Ref) (stamp : ℕ) (rs : List Ref) : Type 0 where
  pub held : IsHeld m x
  pub out : IsOut x.name rs
  pub differs : NoneAre (side_of_new order m s x stamp) Equal rs
  pub fits : length rs + 1 < 2 ^ 32
