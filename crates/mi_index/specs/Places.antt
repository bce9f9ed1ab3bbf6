-- Where a node may come into an index, and what changes there as it comes, leaves or comes back.
--     is_moved, stamp_for, place_for      which indexes a pass changes, the stamp that a node gets there, and the place that it comes back to
--     CanJoin, IsJoined      a node may come in with a stamp; it has come in
--     IsOneOf, IsLeft      a node stands there; it has left, and remembers its neighbours
--     CanReturn, IsBack      a node may come back to a place; it has come back
use Rattle.std.specs.Prelude.{◌≡◌, ℕ, ◌+◌, ◌<◌, ◌^◌, ◌==◌, Bool, true, false, cond, List, [], ◌∷◌, ◌++◌, length, Option, Some, None, option_map, slice_index_or}
use Rattle.std.specs.List.{filter}
use Rattle.std.specs.declared.cmp.Ordering.TheVariants.{Equal}
use Rattle.mi_node.specs.Pool.{Pooled, IsHeld, link_of}
use Rattle.mi_node.specs.Refs.{Ref, first_of, last_of, IsOut}
use Rattle.mi_node.specs.OldPlace.{own_place}
use Rattle.mi_node.specs.declared.link.Link.{Link}
use Rattle.mi_list.specs.Listed.{slot_of}
use Rattle.mi_list.specs.declared.list.List.{List as Listed}
use Rattle.mi_tree.specs.Sorted.{NoneAre, side_of_new}
use Rattle.mi_chain.specs.Keying.{same_nodes, stamp_at}
use Rattle.mi_chain.specs.declared.chains.Chains.{Chains}
use Rattle.mi_order.specs.Orders.{stored_order, keying_of}
use Rattle.mi_index.specs.Standing.{slot_in, AllAbove, AllBelow}
use Rattle.mi_order.specs.declared.stored.Stored.{Stored}
use Rattle.mi_order.specs.declared.orders.ByHash.{ByHash}
use Rattle.mi_node.specs.declared.old_place.OldPlace.{OldPlace}
use Rattle.mi_index.specs.declared.moved_indexes.MovedIndexes.{MovedIndexes}
use Rattle.mi_index.specs.declared.moved_indexes.MovedIndexes.TheVariants.{All, Marked, Placed}
use Rattle.mi_index.specs.declared.structure.Structure.{Structure}
use Rattle.mi_index.specs.declared.structure.Structure.TheVariants.{Sorted, Hashed, Sequenced}

-- Which indexes

abbrev pub is_given : Option OldPlace → Bool
is_given None = false
is_given (Some p) = true

abbrev pub mark_at : List Bool → ℕ → Bool
mark_at marks s = slice_index_or marks s false

abbrev pub given_at : List (Option OldPlace) → ℕ → Option OldPlace
given_at places s = slice_index_or places s None

-- but for the slots that are kept
abbrev pub still_marked : List Bool → List Bool → ℕ → Bool
still_marked kept marks s = cond (mark_at kept s) false (mark_at marks s)

abbrev pub still_given : List Bool → List (Option OldPlace) → ℕ → Option OldPlace
still_given kept places s = cond (mark_at kept s) None (given_at places s)

-- whether a pass changes the index of a slot
abbrev pub is_moved : MovedIndexes → ℕ → Bool
is_moved All s = true
is_moved (Marked marks kept) s = still_marked kept.now marks.now s
is_moved (Placed places kept) s = is_given (still_given kept.now places.now s)

-- the stamp that a node gets in the index of a slot: this one, or that of the place that is given
abbrev pub stamp_for : MovedIndexes → ℕ → ℕ → Option ℕ
stamp_for All s stamp = Some stamp
stamp_for (Marked marks kept) s stamp = cond (still_marked kept.now marks.now s) (Some stamp) None
stamp_for (Placed places kept) s stamp = option_map (λ p. p.stamp) (still_given kept.now places.now s)

-- where a node comes back to in the index of a slot: the place that is given, or else what its own link there remembers
abbrev pub place_for : MovedIndexes → ℕ → Link → Option OldPlace
place_for All s l = Some (own_place l)
place_for (Marked marks kept) s l = cond (still_marked kept.now marks.now s) (Some (own_place l)) None
place_for (Placed places kept) s l = still_given kept.now places.now s

-- the node that is given, if it is for this slot
abbrev pub before_at : ℕ → Option (ℕ × Ref) → Option Ref
before_at s None = None
before_at s (Some b) = cond (b.0 == s) (Some b.1) None

-- Lists with one node more

-- us is rs with r somewhere
pub record IsWith (r : Ref) (rs us : List Ref) : Type 0 where
  pub xs : List Ref
  pub ys : List Ref
  pub was : rs ≡ xs ++ ys
  pub now : us ≡ xs ++ r ∷ ys

pub record IsOneOf (r : Ref) (rs : List Ref) : Type 0 where
  pub xs : List Ref
  pub ys : List Ref
  pub parts : rs ≡ xs ++ r ∷ ys

abbrev pub NoneHas : (Ref → ℕ) → ℕ → List Ref → Type 0
NoneHas f n [] = Unit {0}
NoneHas f n (r ∷ rs) = (n ≡ f r → ⊥) × NoneHas f n rs

-- In

-- with that stamp no node is its equal; in a list the place that is given is one
abbrev pub HasPlace : Structure → Pooled Stored → Ref → ℕ → Option Ref → List Ref → Type 0
HasPlace (Sorted t) m r stamp b rs = NoneAre (side_of_new (stored_order t.order.parts) m t.slot r stamp) Equal rs
HasPlace (Hashed c) m r stamp b rs = NoneHas (stamp_at m c.slot) stamp rs
HasPlace (Sequenced l) m r stamp b rs = (xs : List Ref) × (ys : List Ref) × (rs ≡ xs ++ ys) × (first_of ys None ≡ b)

pub record CanJoin (x : Structure) (m : Pooled Stored) (r : Ref) (stamp : ℕ) (b : Option Ref) (rs : List Ref) : Type 0 where
  pub held : IsHeld m r
  pub out : IsOut r.name rs
  pub few : length rs + 1 < 2 ^ 32
  pub place : HasPlace x m r stamp b rs

-- in a list it stands directly before b, or last
abbrev pub IsPut : Structure → Option Ref → List Ref → Type 0
IsPut (Sorted t) b ys = Unit {0}
IsPut (Hashed c) b ys = Unit {0}
IsPut (Sequenced l) b ys = first_of ys None ≡ b

-- the node has that stamp, and every other node the one that it had; lists have no stamps
abbrev pub HasStamp : Structure → Pooled Stored → Pooled Stored → Ref → ℕ → Type 0
HasStamp (Sorted t) m n r stamp = (stamp_at n t.slot r ≡ stamp) × ((k : ℕ) → (r.name == k) ≡ false → (link_of n k t.slot).tag ≡ (link_of m k t.slot).tag)
HasStamp (Hashed c) m n r stamp = (stamp_at n c.slot r ≡ stamp) × ((k : ℕ) → (r.name == k) ≡ false → (link_of n k c.slot).tag ≡ (link_of m k c.slot).tag)
HasStamp (Sequenced l) m n r stamp = Unit {0}

pub record IsJoined (x : Structure) (m n : Pooled Stored) (r : Ref) (stamp : ℕ) (b : Option Ref) (rs us : List Ref) : Type 0 where
  pub joined : IsWith r rs us
  pub put : IsPut x b joined.ys
  pub stamped : HasStamp x m n r stamp

-- Out

-- between xs and ys it stands beside these: in chains the nearest of its key, in a list the nearest; a tree keeps no neighbours
abbrev pub IsBeside : Structure → Pooled Stored → Ref → Option Ref → Option Ref → List Ref → List Ref → Type 0
IsBeside (Sorted t) m r back forth xs ys = Unit {0}
IsBeside (Hashed c) m r back forth xs ys =
    (back ≡ last_of None (filter (same_nodes (keying_of c.keys) m r) xs)) × (forth ≡ first_of (filter (same_nodes (keying_of c.keys) m r) ys) None)
IsBeside (Sequenced l) m r back forth xs ys = (back ≡ last_of None xs) × (forth ≡ first_of ys None)

-- every node has the tag that it had; lists have none
abbrev pub KeepsTags : Structure → Pooled Stored → Pooled Stored → Type 0
KeepsTags (Sorted t) m n = (k : ℕ) → (link_of n k t.slot).tag ≡ (link_of m k t.slot).tag
KeepsTags (Hashed c) m n = (k : ℕ) → (link_of n k c.slot).tag ≡ (link_of m k c.slot).tag
KeepsTags (Sequenced l) m n = Unit {0}

pub record IsLeft (x : Structure) (m n : Pooled Stored) (r : Ref) (rs us : List Ref) : Type 0 where
  pub left : IsWith r us rs
  pub remembers : IsBeside x n r (link_of n r.name (slot_in x)).back (link_of n r.name (slot_in x)).forth left.xs left.ys
  pub tags : KeepsTags x m n

-- Back

-- chains have the place: rising stamps cut at its stamp, and between the neighbours that it names
pub record HasGap (c : Chains ByHash) (m : Pooled Stored) (r : Ref) (p : OldPlace) (rs : List Ref) : Type 0 where
  pub xs : List Ref
  pub ys : List Ref
  pub parts : rs ≡ xs ++ ys
  pub below : AllBelow (stamp_at m c.slot) p.stamp xs
  pub above : AllAbove (stamp_at m c.slot) p.stamp ys
  pub beside : IsBeside (Hashed c) m r p.back p.forth xs ys

-- a list has the place, which is the one that the node's own link names
pub record HasSpot (l : Listed) (m : Pooled Stored) (r : Ref) (p : OldPlace) (rs : List Ref) : Type 0 where
  pub own : p ≡ own_place (link_of m r.name (slot_of l))
  pub xs : List Ref
  pub ys : List Ref
  pub parts : rs ≡ xs ++ ys
  pub beside : IsBeside (Sequenced l) m r p.back p.forth xs ys

abbrev pub HasOldPlace : Structure → Pooled Stored → Ref → OldPlace → List Ref → Type 0
HasOldPlace (Sorted t) m r p rs = NoneAre (side_of_new (stored_order t.order.parts) m t.slot r p.stamp) Equal rs
HasOldPlace (Hashed c) m r p rs = HasGap c m r p rs
HasOldPlace (Sequenced l) m r p rs = HasSpot l m r p rs

pub record CanReturn (x : Structure) (m : Pooled Stored) (r : Ref) (p : OldPlace) (rs : List Ref) : Type 0 where
  pub held : IsHeld m r
  pub out : IsOut r.name rs
  pub few : length rs + 1 < 2 ^ 32
  pub place : HasOldPlace x m r p rs

-- it has the stamp of the place, and stands again between the neighbours that the place names
pub record IsBack (x : Structure) (m n : Pooled Stored) (r : Ref) (p : OldPlace) (rs us : List Ref) : Type 0 where
  pub back : IsWith r rs us
  pub beside : IsBeside x m r p.back p.forth back.xs back.ys
  pub stamped : HasStamp x m n r p.stamp
