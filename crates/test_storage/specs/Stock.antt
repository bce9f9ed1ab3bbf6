-- A pool's nodes for tests, in a tree through slot 1 or out of it again.
use Rattle.std.specs.Prelude.{◌≡◌, ℕ, ◌+◌, ◌<◌, ◌≤◌, Bool, List, [], ◌∷◌, ◌++◌, length}
use Rattle.mi_node.specs.Pool.{Pooled, link_of, IsHeld}
use Rattle.mi_node.specs.Refs.{Ref, IsApart}
use Rattle.test_storage.specs.Keyed.{keyed_order, keyed_tag}
use Rattle.mi_tree.specs.Standing.{IsTree}
use Rattle.mi_tree.specs.declared.tree.Tree.{Tree}

abbrev pub AllHeldIn : Pooled (ℕ × ℕ) → List Ref → Type 0
AllHeldIn m [] = Unit {0}
AllHeldIn m (r ∷ rs) = IsHeld m r × AllHeldIn m rs

abbrev pub stock_stamp : Pooled (ℕ × ℕ) → Ref → ℕ
stock_stamp m r = (link_of m r.name 1).tag.stamp

-- the nodes out are held and not in the tree; no two nodes have one stamp, and none that is not below next
pub record IsStock {O : Type 0} (b : Bool) (l : Tree O) (m : Pooled (ℕ × ℕ)) (out : List Ref) (next : ℕ) : Type 0 where
  pub rs : List Ref
  pub tree : IsTree l m keyed_order (keyed_tag b) rs
  pub slot : l.slot ≡ 1
  pub held : AllHeldIn m out
  pub apart : IsApart (out ++ rs)
  pub unique : (x y : Ref) → IsHeld m x → IsHeld m y → stock_stamp m x ≡ stock_stamp m y → x.name ≡ y.name
  pub below : (x : Ref) → IsHeld m x → stock_stamp m x < next
  pub few : next ≤ 1000000
  pub counted : length out + length rs ≤ next
