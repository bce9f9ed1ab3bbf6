-- What the structure of an index answers: its list, and what a probe finds in it.
use Rattle.std.specs.Prelude.{ℕ, ◌≡◌, Bool, false, List, None}
use Rattle.mi_value.specs.declared.bound.Probe.{Probe}
use Rattle.mi_node.specs.Pool.{Pooled}
use Rattle.mi_node.specs.Refs.{Ref}
use Rattle.mi_tree.specs.Probed.{is_node_at, is_past_node}
use Rattle.mi_chain.specs.Keying.{same_nodes, has_key, stamp_at}
use Rattle.mi_order.specs.Orders.{place_in, keying_of}
use Rattle.mi_index.specs.Places.{IsBeside}
use Rattle.mi_order.specs.declared.stored.Stored.{Stored}
use Rattle.mi_node.specs.declared.old_place.OldPlace.{OldPlace}
use Rattle.mi_index.specs.declared.structure.Structure.{Structure}
use Rattle.mi_index.specs.declared.structure.Structure.TheVariants.{Sorted, Hashed, Sequenced}

-- it shows its nodes as one list; chains show one for each key
abbrev pub HasOneList : Structure → Type 0
HasOneList (Sorted t) = Unit {0}
HasOneList (Hashed c) = ⊥
HasOneList (Sequenced l) = Unit {0}

abbrev pub IsSortedStructure : Structure → Type 0
IsSortedStructure (Sorted t) = Unit {0}
IsSortedStructure (Hashed c) = ⊥
IsSortedStructure (Sequenced l) = ⊥

abbrev pub IsListStructure : Structure → Type 0
IsListStructure (Sorted t) = ⊥
IsListStructure (Hashed c) = ⊥
IsListStructure (Sequenced l) = Unit {0}

abbrev pub IsHashedStructure : Structure → Type 0
IsHashedStructure (Sorted t) = ⊥
IsHashedStructure (Hashed c) = Unit {0}
IsHashedStructure (Sequenced l) = ⊥

-- whether a node has the key of a probe; none has one in a list
abbrev pub has_sought : Structure → Pooled Stored → Probe → Ref → Bool
has_sought (Sorted t) m k = is_node_at (λ v. place_in t.order.parts v k) m
has_sought (Hashed c) m k = has_key (keying_of c.keys) m k
has_sought (Sequenced l) m k = λ q. false

-- whether a node isn't before a probe, or with `is_upper` is behind it; this is asked of sorted indexes alone
abbrev pub is_past : Bool → Structure → Pooled Stored → Probe → Ref → Bool
is_past is_upper (Sorted t) m k = is_past_node is_upper (λ v. place_in t.order.parts v k) m
is_past is_upper (Hashed c) m k = λ q. false
is_past is_upper (Sequenced l) m k = λ q. false

-- whether another node has the key of this one; this is asked of hashed indexes alone
abbrev pub has_same_key : Structure → Pooled Stored → Ref → Ref → Bool
has_same_key (Sorted t) m r = λ q. false
has_same_key (Hashed c) m r = same_nodes (keying_of c.keys) m r
has_same_key (Sequenced l) m r = λ q. false

abbrev pub HasItsStamp : Structure → Pooled Stored → Ref → ℕ → Type 0
HasItsStamp (Sorted t) m r stamp = stamp ≡ stamp_at m t.slot r
HasItsStamp (Hashed c) m r stamp = stamp ≡ stamp_at m c.slot r
HasItsStamp (Sequenced l) m r stamp = Unit {0}

-- in a tree a place has its stamp alone
abbrev pub NamesNoneIfSorted : Structure → OldPlace → Type 0
NamesNoneIfSorted (Sorted t) p = (p.back ≡ None) × (p.forth ≡ None)
NamesNoneIfSorted (Hashed c) p = Unit {0}
NamesNoneIfSorted (Sequenced l) p = Unit {0}

-- the place of a node that stands between xs and ys; a list has no stamps
pub record IsPlaceOf (x : Structure) (m : Pooled Stored) (r : Ref) (p : OldPlace) (xs ys : List Ref) : Type 0 where
  pub stamp : HasItsStamp x m r p.stamp
  pub beside : IsBeside x m r p.back p.forth xs ys
  pub alone : NamesNoneIfSorted x p
