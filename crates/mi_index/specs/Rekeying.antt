-- A node gets another value: it leaves the indexes in which its key changes, and comes into them again.
--     HasPlaceFor, HasOldPlaceFor      a node may come in, or back, with a value that it hasn't got yet
--     rekeying, rekeyed      by a new stamp
--     returning_to, returned_to      back to the places that it had
use Rattle.std.specs.Prelude.{◌≡◌, ℕ, ◌<◌, ◌^◌, ◌==◌, Bool, true, false, cond, List, ◌∷◌, ◌++◌, length, Option, Some, None}
use Rattle.std.specs.List.{filter}
use Rattle.std.specs.declared.cmp.Ordering.{Ordering}
use Rattle.std.specs.declared.cmp.Ordering.TheVariants.{Equal}
use Rattle.mi_node.specs.Pool.{Pooled, ref_of, value_of, link_of}
use Rattle.mi_node.specs.Refs.{Ref, first_of, last_of}
use Rattle.mi_tree.specs.Sorted.{NoneAre, compared, by_stamp, item_of}
use Rattle.mi_chain.specs.Keying.{same_values, stamp_at}
use Rattle.mi_chain.specs.declared.chains.Chains.{Chains}
use Rattle.mi_order.specs.Orders.{stored_order, has_one_key}
use Rattle.mi_index.specs.Standing.{swap_order, AllAbove, AllBelow}
use Rattle.mi_index.specs.Places.{mark_at, given_at, NoneHas, IsWith, HasStamp, IsBeside}
use Rattle.mi_index.specs.Pass.{Asks, Gives, AllStand, AllGiven, IsOutOfAll}
use Rattle.mi_index.specs.Passes.{IsSame}
use Rattle.mi_order.specs.declared.stored.Stored.{Stored}
use Rattle.mi_order.specs.declared.orders.ByHash.{ByHash}
use Rattle.mi_node.specs.declared.old_place.OldPlace.{OldPlace}
use Rattle.mi_index.specs.declared.structure.Structure.{Structure}
use Rattle.mi_index.specs.declared.structure.Structure.TheVariants.{Sorted, Hashed, Sequenced}

-- on which side of a node one would stand that had this value and this stamp
abbrev pub side_of_value : (Stored → Stored → Ordering) → Pooled Stored → ℕ → Stored → ℕ → Ref → Ordering
side_of_value order m s v stamp q = compared (by_stamp order) (Some (v, stamp)) (item_of m s q.name)

-- whether a node of the chains has the key of this value
abbrev pub has_key_of : Chains ByHash → Pooled Stored → Stored → Ref → Bool
has_key_of c m v q = same_values (has_one_key c.keys.parts) (Some v) (value_of m q.name)

abbrev pub HasPlaceFor : Structure → Pooled Stored → Stored → ℕ → Option Ref → List Ref → Type 0
HasPlaceFor (Sorted t) m v stamp b rs = NoneAre (side_of_value (stored_order t.order.parts) m t.slot v stamp) Equal rs
HasPlaceFor (Hashed c) m v stamp b rs = NoneHas (stamp_at m c.slot) stamp rs
HasPlaceFor (Sequenced l) m v stamp b rs = (xs : List Ref) × (ys : List Ref) × (rs ≡ xs ++ ys) × (first_of ys None ≡ b)

pub record HasGapFor (c : Chains ByHash) (m : Pooled Stored) (v : Stored) (p : OldPlace) (rs : List Ref) : Type 0 where
  pub xs : List Ref
  pub ys : List Ref
  pub parts : rs ≡ xs ++ ys
  pub below : AllBelow (stamp_at m c.slot) p.stamp xs
  pub above : AllAbove (stamp_at m c.slot) p.stamp ys
  pub back_is : p.back ≡ last_of None (filter (has_key_of c m v) xs)
  pub forth_is : p.forth ≡ first_of (filter (has_key_of c m v) ys) None

-- a list is never given a place
abbrev pub HasOldPlaceFor : Structure → Pooled Stored → Stored → OldPlace → List Ref → Type 0
HasOldPlaceFor (Sorted t) m v p rs = NoneAre (side_of_value (stored_order t.order.parts) m t.slot v p.stamp) Equal rs
HasOldPlaceFor (Hashed c) m v p rs = HasGapFor c m v p rs
HasOldPlaceFor (Sequenced l) m v p rs = ⊥

-- the node's value may be exchanged where it stands
abbrev pub KeepsKey : Structure → Pooled Stored → Ref → Stored → Type 0
KeepsKey x m r v = (old : Stored) → value_of m r.name ≡ Some old → swap_order x old v ≡ Equal

-- it stands there, and may come in again among the others
pub record CanMove (x : Structure) (m : Pooled Stored) (r : Ref) (v : Stored) (stamp : ℕ) (rs : List Ref) : Type 0 where
  pub xs : List Ref
  pub ys : List Ref
  pub parts : rs ≡ xs ++ r ∷ ys
  pub few : length rs < 2 ^ 32
  pub place : HasPlaceFor x m v stamp None (xs ++ ys)

pub record HasMoved (x : Structure) (m n : Pooled Stored) (r : Ref) (stamp : ℕ) (rs us : List Ref) : Type 0 where
  pub xs : List Ref
  pub ys : List Ref
  pub parts : rs ≡ xs ++ r ∷ ys
  pub moved : IsWith r (xs ++ ys) us
  pub stamped : HasStamp x m n r stamp

abbrev pub CanMoveIf : Bool → Structure → Pooled Stored → Ref → Stored → ℕ → List Ref → Type 0
CanMoveIf true x m r v stamp rs = CanMove x m r v stamp rs
CanMoveIf false x m r v stamp rs = KeepsKey x m r v

abbrev pub HasMovedIf : Bool → Structure → Pooled Stored → Pooled Stored → Ref → ℕ → List Ref → List Ref → Type 0
HasMovedIf true x m n r stamp rs us = HasMoved x m n r stamp rs us
HasMovedIf false x m n r stamp rs us = IsSame x m n rs us

abbrev pub rekeying : List Bool → Ref → Stored → ℕ → Asks
rekeying marks r v stamp s x m rs = CanMoveIf (mark_at marks s) x m r v stamp rs

abbrev pub rekeyed : List Bool → Ref → ℕ → Gives
rekeyed marks r stamp s x m n rs us = HasMovedIf (mark_at marks s) x m n r stamp rs us

-- Back

pub record CanMoveBack (x : Structure) (m : Pooled Stored) (r : Ref) (v : Stored) (p : OldPlace) (rs : List Ref) : Type 0 where
  pub xs : List Ref
  pub ys : List Ref
  pub parts : rs ≡ xs ++ r ∷ ys
  pub few : length rs < 2 ^ 32
  pub place : HasOldPlaceFor x m v p (xs ++ ys)

pub record HasMovedBack (x : Structure) (m n : Pooled Stored) (r : Ref) (p : OldPlace) (rs us : List Ref) : Type 0 where
  pub xs : List Ref
  pub ys : List Ref
  pub parts : rs ≡ xs ++ r ∷ ys
  pub moved : IsWith r (xs ++ ys) us
  pub beside : IsBeside x n r p.back p.forth moved.xs moved.ys
  pub stamped : HasStamp x m n r p.stamp

abbrev pub CanMoveBackTo : Option OldPlace → Structure → Pooled Stored → Ref → Stored → List Ref → Type 0
CanMoveBackTo None x m r v rs = KeepsKey x m r v
CanMoveBackTo (Some p) x m r v rs = CanMoveBack x m r v p rs

abbrev pub HasMovedBackTo : Option OldPlace → Structure → Pooled Stored → Pooled Stored → Ref → List Ref → List Ref → Type 0
HasMovedBackTo None x m n r rs us = IsSame x m n rs us
HasMovedBackTo (Some p) x m n r rs us = HasMovedBack x m n r p rs us

abbrev pub returning_to : List (Option OldPlace) → Ref → Stored → Asks
returning_to places r v s x m rs = CanMoveBackTo (given_at places s) x m r v rs

abbrev pub returned_to : List (Option OldPlace) → Ref → Gives
returned_to places r s x m n rs us = HasMovedBackTo (given_at places s) x m n r rs us

-- the node has the new value, all else stands as Q says
pub record IsRekeyed (Q : Gives) (r : Ref) (v : Stored) (xs ys : List Structure) (m n : Pooled Stored) (rss : List (List Ref)) : Type 0 where
  pub uss : List (List Ref)
  pub done : AllGiven Q xs 0 m n rss uss
  pub stand : AllStand ys 0 n uss
  pub refs : (k : ℕ) → ref_of n k ≡ ref_of m k
  pub values : (k : ℕ) → value_of n k ≡ cond (r.name == k) (Some v) (value_of m k)
  pub slots : n.slots ≡ m.slots
  pub other_nodes : (k t : ℕ) → (k == r.name) ≡ false → IsOutOfAll k rss → link_of n k t ≡ link_of m k t
