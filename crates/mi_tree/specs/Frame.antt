-- What a tree needs of its pool, and what it can be seen as.
--     AreAlike      two pools in which a tree's nodes are alike to it
--     listed      the nodes in order, as the links say
use Rattle.std.specs.Prelude.{◌≡◌, ℕ, zero, suc, ◌<◌, List, [], ◌∷◌, ◌++◌, Option, Some, None}
use Rattle.std.specs.declared.cmp.Ordering.{Ordering}
use Rattle.std.specs.declared.cmp.Ordering.TheVariants.{Equal}
use Rattle.mi_node.specs.Pool.{Pooled, ref_of, value_of, link_of, with_value}
use Rattle.mi_node.specs.Refs.{Ref}
use Rattle.mi_tree.specs.BinaryTree.{height_at}
use Rattle.mi_tree.specs.Sorted.{compared}
use Rattle.mi_tree.specs.Standing.{IsTree}
use Rattle.mi_tree.specs.declared.tree.Tree.{Tree}

module _ {T : Type 0} where
  -- the name has the same reference and the same link in the slot, and its two values compare Equal
  pub record IsAlike (order : T → T → Ordering) (old new : Pooled T) (s : ℕ) (r : Ref) : Type 0 where
    pub ref : ref_of new r.name ≡ ref_of old r.name
    pub link : link_of new r.name s ≡ link_of old r.name s
    pub value : compared order (value_of old r.name) (value_of new r.name) ≡ Equal

  abbrev pub AreAlike : (T → T → Ordering) → Pooled T → Pooled T → ℕ → List Ref → Type 0
  AreAlike order old new s [] = Unit {0}
  AreAlike order old new s (r ∷ rs) = IsAlike order old new s r × AreAlike order old new s rs

  -- the nodes under a link, in order, down to so many levels
  abbrev pub listed_in : Pooled T → ℕ → ℕ → Option Ref → List Ref
  listed_in m s zero at = []
  listed_in m s (suc levels) None = []
  listed_in m s (suc levels) (Some r) = listed_in m s levels (link_of m r.name s).back ++ r ∷ listed_in m s levels (link_of m r.name s).forth

module _ {T O : Type 0} where
  unfoldable pub listed : Tree O → Pooled T → List Ref
  listed l m = listed_in m l.slot (height_at m l.slot l.root) l.root

-- a tree stands wherever its nodes are alike to it
abbrev pub StandsWhereAlike : (T O : Type 0) → (T → T → Ordering) → (T → ℕ) → Type 0
StandsWhereAlike T O order tag = (l : Tree O) (m n : Pooled T) (rs : List Ref) → IsTree l m order tag rs
    → AreAlike order m n l.slot rs → l.slot < n.slots → IsTree l n order tag rs

-- a node's value may be exchanged for one of an equal key
abbrev pub StandsWhereSwapped : (T O : Type 0) → (T → T → Ordering) → (T → ℕ) → Type 0
StandsWhereSwapped T O order tag = (l : Tree O) (m : Pooled T) (rs : List Ref) (x : Ref) (old new : T)
    → IsTree l m order tag rs → value_of m x.name ≡ Some old → order old new ≡ Equal → IsTree l (with_value m x.name new) order tag rs

-- a tree that stands is the list that its links say
abbrev pub ListsNodes : (T O : Type 0) → Type 0
ListsNodes T O = (l : Tree O) (m : Pooled T) (order : T → T → Ordering) (tag : T → ℕ) (rs : List Ref) → IsTree l m order tag rs → listed l m ≡ rs

-- where there is no root there is no node
abbrev pub StandsEmpty : (T O : Type 0) → Type 0
StandsEmpty T O = (l : Tree O) (m : Pooled T) (order : T → T → Ordering) (tag : T → ℕ) → l.root ≡ None → l.slot < m.slots → IsTree l m order tag []
