-- A list as a relation of the list itself, a pool and the list of its nodes.
--     IsListed l m rs          l stands in the pool m, with the nodes rs in this order
--     FitsBetween l m x xs ys  x isn't in the list, and its own link says that it stood between xs and ys
use Rattle.std.specs.Prelude.{◌≡◌, ℕ, ◌<◌, List as Seq, ◌++◌, None}
use Rattle.mi_node.specs.Pool.{Pooled, link_of, IsHeld}
use Rattle.mi_node.specs.Refs.{Ref, first_of, last_of, IsOut, IsApart}
use Rattle.mi_node.specs.Neighbours.{IsLinked}
use Rattle.mi_list.specs.declared.list.List.{List}

abbrev pub slot_of : List → ℕ
slot_of l = l.slot

pub record IsListed {T : Type 0} (l : List) (m : Pooled T) (rs : Seq Ref) : Type 0 where
  pub slot_fits : l.slot < m.slots
  pub linked : IsLinked m l.slot None rs None
  pub apart : IsApart rs
  pub first_is : l.first ≡ first_of rs None
  pub last_is : l.last ≡ last_of None rs

-- a list of that slot without nodes
pub record IsNew (l : List) (s : ℕ) : Type 0 where
  pub slot_is : l.slot ≡ s
  pub first_is : l.first ≡ None
  pub last_is : l.last ≡ None

pub record FitsBetween {T : Type 0} (l : List) (m : Pooled T) (x : Ref) (xs ys : Seq Ref) : Type 0 where
  pub listed : IsListed l m (xs ++ ys)
  pub held : IsHeld m x
  pub out : IsOut x.name (xs ++ ys)
  pub back_is : (link_of m x.name l.slot).back ≡ last_of None xs
  pub forth_is : (link_of m x.name l.slot).forth ≡ first_of ys None
