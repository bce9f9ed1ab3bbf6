-- The passes: a node joins the indexes that move, leaves them, or comes back to them. The others stay as they are.
use Rattle.std.specs.Prelude.{◌≡◌, ℕ, Bool, true, false, List, Option, Some, None}
use Rattle.mi_node.specs.Pool.{Pooled, link_of}
use Rattle.mi_node.specs.Refs.{Ref}
use Rattle.mi_index.specs.Standing.{slot_in}
use Rattle.mi_index.specs.Places.{is_moved, place_for, before_at, IsOneOf, CanJoin, IsJoined, IsLeft, CanReturn, IsBack, KeepsTags}
use Rattle.mi_index.specs.Pass.{Asks, Gives}
use Rattle.mi_order.specs.declared.stored.Stored.{Stored}
use Rattle.mi_node.specs.declared.old_place.OldPlace.{OldPlace}
use Rattle.mi_index.specs.declared.moved_indexes.MovedIndexes.{MovedIndexes}
use Rattle.mi_index.specs.declared.structure.Structure.{Structure}

-- the list stays, and no link of the slot was set
pub record IsSame (x : Structure) (m n : Pooled Stored) (rs us : List Ref) : Type 0 where
  pub list : us ≡ rs
  pub links : (k : ℕ) → link_of n k (slot_in x) ≡ link_of m k (slot_in x)

-- A node comes in

abbrev pub CanJoinIf : Bool → Structure → Pooled Stored → Ref → ℕ → Option Ref → List Ref → Type 0
CanJoinIf true x m r stamp b rs = CanJoin x m r stamp b rs
CanJoinIf false x m r stamp b rs = Unit {0}

abbrev pub IsJoinedIf : Bool → Structure → Pooled Stored → Pooled Stored → Ref → ℕ → Option Ref → List Ref → List Ref → Type 0
IsJoinedIf true x m n r stamp b rs us = IsJoined x m n r stamp b rs us
IsJoinedIf false x m n r stamp b rs us = IsSame x m n rs us

abbrev pub joining : MovedIndexes → Ref → ℕ → Option (ℕ × Ref) → Asks
joining moves r stamp before s x m rs = CanJoinIf (is_moved moves s) x m r stamp (before_at s before) rs

abbrev pub joined : MovedIndexes → Ref → ℕ → Option (ℕ × Ref) → Gives
joined moves r stamp before s x m n rs us = IsJoinedIf (is_moved moves s) x m n r stamp (before_at s before) rs us

-- A node goes

abbrev pub HasNodeIf : Bool → Ref → List Ref → Type 0
HasNodeIf true r rs = IsOneOf r rs
HasNodeIf false r rs = Unit {0}

abbrev pub IsLeftIf : Bool → Structure → Pooled Stored → Pooled Stored → Ref → List Ref → List Ref → Type 0
IsLeftIf true x m n r rs us = IsLeft x m n r rs us
IsLeftIf false x m n r rs us = IsSame x m n rs us

abbrev pub leaving : MovedIndexes → Ref → Asks
leaving moves r s x m rs = HasNodeIf (is_moved moves s) r rs

abbrev pub left : MovedIndexes → Ref → Gives
left moves r s x m n rs us = IsLeftIf (is_moved moves s) x m n r rs us

-- A node comes back

abbrev pub CanReturnTo : Option OldPlace → Structure → Pooled Stored → Ref → List Ref → Type 0
CanReturnTo None x m r rs = Unit {0}
CanReturnTo (Some p) x m r rs = CanReturn x m r p rs

abbrev pub IsBackAt : Option OldPlace → Structure → Pooled Stored → Pooled Stored → Ref → List Ref → List Ref → Type 0
IsBackAt None x m n r rs us = IsSame x m n rs us
IsBackAt (Some p) x m n r rs us = IsBack x m n r p rs us

abbrev pub returning : MovedIndexes → Ref → Asks
returning moves r s x m rs = CanReturnTo (place_for moves s (link_of m r.name s)) x m r rs

abbrev pub returned : MovedIndexes → Ref → Gives
returned moves r s x m n rs us = IsBackAt (place_for moves s (link_of m r.name s)) x m n r rs us

-- Chains grow

abbrev pub nothing_asked : Asks
nothing_asked s x m rs = Unit {0}

pub record IsGrown (x : Structure) (m n : Pooled Stored) (rs us : List Ref) : Type 0 where
  pub list : us ≡ rs
  pub tags : KeepsTags x m n

abbrev pub grown : Gives
grown s x m n rs us = IsGrown x m n rs us
