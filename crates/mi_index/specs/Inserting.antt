-- A new node in all indexes, and a node that moves in one list.
use Rattle.std.specs.Prelude.{◌≡◌, ℕ, ◌<◌, ◌+◌, ◌^◌, ◌==◌, Bool, true, false, cond, ◌⊎◌, List, ◌∷◌, ◌++◌, length, Option, Some, None}
use Rattle.mi_node.specs.Pool.{Pooled, ref_of, value_of, link_of}
use Rattle.mi_node.specs.Refs.{Ref, first_of}
use Rattle.mi_index.specs.Places.{before_at, IsJoined}
use Rattle.mi_index.specs.Pass.{Asks, Gives, AllStand, AllGiven, IsOutOfAll}
use Rattle.mi_index.specs.Passes.{IsSame}
use Rattle.mi_index.specs.Rekeying.{HasPlaceFor}
use Rattle.mi_order.specs.declared.stored.Stored.{Stored}
use Rattle.mi_index.specs.declared.structure.Structure.{Structure}
use Rattle.mi_index.specs.declared.structure.Structure.TheVariants.{Sorted, Hashed, Sequenced}

-- there is room for a node of this value, with this stamp
pub record HasRoom (x : Structure) (m : Pooled Stored) (v : Stored) (stamp : ℕ) (b : Option Ref) (rs : List Ref) : Type 0 where
  pub few : length rs + 1 < 2 ^ 32
  pub place : HasPlaceFor x m v stamp b rs

abbrev pub coming_in : Stored → ℕ → Option (ℕ × Ref) → Asks
coming_in v stamp before s x m rs = HasRoom x m v stamp (before_at s before) rs

abbrev pub come_in : Ref → ℕ → Option (ℕ × Ref) → Gives
come_in r stamp before s x m n rs us = IsJoined x m n r stamp (before_at s before) rs us

-- the node r is new, has the value v, and has come into every index
pub record IsInserted (r : Ref) (v : Stored) (stamp : ℕ) (before : Option (ℕ × Ref))
    (xs ys : List Structure) (m n : Pooled Stored) (rss : List (List Ref)) : Type 0 where
  pub uss : List (List Ref)
  pub done : AllGiven (come_in r stamp before) xs 0 m n rss uss
  pub stand : AllStand ys 0 n uss
  pub free : ref_of m r.name ≡ None
  pub refs : (k : ℕ) → ref_of n k ≡ cond (r.name == k) (Some r) (ref_of m k)
  pub values : (k : ℕ) → value_of n k ≡ cond (r.name == k) (Some v) (value_of m k)
  pub slots : n.slots ≡ m.slots
  pub other_nodes : (k t : ℕ) → (k == r.name) ≡ false → IsOutOfAll k rss → link_of n k t ≡ link_of m k t

-- Moves in one list

abbrev pub IsPlace : Ref → Option Ref → List Ref → Type 0
IsPlace r b rs = (b ≡ Some r) ⊎ ((us : List Ref) × (vs : List Ref) × (rs ≡ us ++ vs) × (first_of vs None ≡ b))

-- the node stands in the list, and the place is the node itself, or one among the others
abbrev pub CanRelocate : Structure → Ref → Option Ref → List Ref → Type 0
CanRelocate (Sorted t) r b rs = ⊥
CanRelocate (Hashed c) r b rs = ⊥
CanRelocate (Sequenced l) r b rs = (xs : List Ref) × (ys : List Ref) × (rs ≡ xs ++ r ∷ ys) × IsPlace r b (xs ++ ys)

-- it stands directly before the other node, or last
pub record IsPlaced (r : Ref) (b : Option Ref) (rs us : List Ref) : Type 0 where
  pub xs : List Ref
  pub ys : List Ref
  pub was : rs ≡ xs ++ r ∷ ys
  pub ps : List Ref
  pub qs : List Ref
  pub others : xs ++ ys ≡ ps ++ qs
  pub at : first_of qs None ≡ b
  pub now : us ≡ ps ++ r ∷ qs

-- nothing changes where both are one node
abbrev pub IsRelocated : Ref → Option Ref → List Ref → List Ref → Type 0
IsRelocated r b rs us = ((b ≡ Some r) × (us ≡ rs)) ⊎ IsPlaced r b rs us

abbrev pub relocating_one : Ref → Option Ref → Asks
relocating_one r b s x m rs = CanRelocate x r b rs

abbrev pub relocated_one : Ref → Option Ref → Gives
relocated_one r b s x m n rs us = IsRelocated r b rs us

abbrev pub CanRelocateIf : Bool → Structure → Ref → Option Ref → List Ref → Type 0
CanRelocateIf true x r b rs = CanRelocate x r b rs
CanRelocateIf false x r b rs = Unit {0}

abbrev pub IsRelocatedIf : Bool → Structure → Pooled Stored → Pooled Stored → Ref → Option Ref → List Ref → List Ref → Type 0
IsRelocatedIf true x m n r b rs us = IsRelocated r b rs us
IsRelocatedIf false x m n r b rs us = IsSame x m n rs us

abbrev pub relocating_at : ℕ → Ref → Option Ref → Asks
relocating_at index r b s x m rs = CanRelocateIf (s == index) x r b rs

abbrev pub relocated_at : ℕ → Ref → Option Ref → Gives
relocated_at index r b s x m n rs us = IsRelocatedIf (s == index) x m n r b rs us
