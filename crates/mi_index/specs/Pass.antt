-- A pass over the structures of all indexes, each of which is changed in turn through the slot of its number.
--     AllStand xs s m rss      structure x of xs, from slot s on, stands with the nodes of the list at its place
--     AllCan P, AllGiven Q      what a step asks of each structure, and what it gives
--     IsStep P Q      what one step does
--     IsPass P Q      what the whole pass does
use Rattle.std.specs.Prelude.{◌≡◌, ℕ, ◌+◌, ◌<◌, ◌==◌, false, List, [], ◌∷◌}
use Rattle.mi_node.specs.Pool.{Pooled, ref_of, value_of, link_of, Keeps}
use Rattle.mi_node.specs.Refs.{Ref, IsOut}
use Rattle.mi_index.specs.Standing.{slot_in, Stands, IsLike, IsRoomy}
use Rattle.mi_order.specs.declared.stored.Stored.{Stored}
use Rattle.mi_index.specs.declared.structure.Structure.{Structure}

-- what a step asks of a structure with its slot and its list
abbrev pub Asks : Type 1
Asks = ℕ → Structure → Pooled Stored → List Ref → Type 0

-- what it gives, with the pools and the lists before and after
abbrev pub Gives : Type 1
Gives = ℕ → Structure → Pooled Stored → Pooled Stored → List Ref → List Ref → Type 0

abbrev pub AllStand : List Structure → ℕ → Pooled Stored → List (List Ref) → Type 0
AllStand [] s m [] = Unit {0}
AllStand [] s m (rs ∷ rss) = ⊥
AllStand (x ∷ xs) s m [] = ⊥
AllStand (x ∷ xs) s m (rs ∷ rss) = (slot_in x ≡ s) × Stands x m rs × AllStand xs (s + 1) m rss

abbrev pub AllCan : Asks → List Structure → ℕ → Pooled Stored → List (List Ref) → Type 0
AllCan P [] s m rss = Unit {0}
AllCan P (x ∷ xs) s m [] = Unit {0}
AllCan P (x ∷ xs) s m (rs ∷ rss) = P s x m rs × AllCan P xs (s + 1) m rss

abbrev pub AllGiven : Gives → List Structure → ℕ → Pooled Stored → Pooled Stored → List (List Ref) → List (List Ref) → Type 0
AllGiven Q [] s m n [] [] = Unit {0}
AllGiven Q [] s m n [] (us ∷ uss) = ⊥
AllGiven Q [] s m n (rs ∷ rss) uss = ⊥
AllGiven Q (x ∷ xs) s m n [] uss = ⊥
AllGiven Q (x ∷ xs) s m n (rs ∷ rss) [] = ⊥
AllGiven Q (x ∷ xs) s m n (rs ∷ rss) (us ∷ uss) = Q s x m n rs us × AllGiven Q xs (s + 1) m n rss uss

abbrev pub AllLike : List Structure → List Structure → Type 0
AllLike [] [] = Unit {0}
AllLike [] (y ∷ ys) = ⊥
AllLike (x ∷ xs) [] = ⊥
AllLike (x ∷ xs) (y ∷ ys) = IsLike x y × AllLike xs ys

abbrev pub AllRoomy : List Structure → ℕ → Type 0
AllRoomy [] n = Unit {0}
AllRoomy (x ∷ xs) n = IsRoomy x n × AllRoomy xs n

-- no node of that name
abbrev pub IsOutOfAll : ℕ → List (List Ref) → Type 0
IsOutOfAll k [] = Unit {0}
IsOutOfAll k (rs ∷ rss) = IsOut k rs × IsOutOfAll k rss

-- links were set of slots from s on alone, and of r and the nodes of the lists alone
pub record KeepsFrom (old new : Pooled Stored) (s : ℕ) (r : Ref) (rss : List (List Ref)) : Type 0 where
  pub refs : (k : ℕ) → ref_of new k ≡ ref_of old k
  pub values : (k : ℕ) → value_of new k ≡ value_of old k
  pub slots : new.slots ≡ old.slots
  pub earlier_slots : (k t : ℕ) → t < s → link_of new k t ≡ link_of old k t
  pub other_nodes : (k t : ℕ) → (k == r.name) ≡ false → IsOutOfAll k rss → link_of new k t ≡ link_of old k t

pub record IsReady (P : Asks) (s : ℕ) (x : Structure) (m : Pooled Stored) : Type 0 where
  pub rs : List Ref
  pub stands : Stands x m rs
  pub can : P s x m rs

pub record IsChanged (Q : Gives) (r : Ref) (s : ℕ) (x y : Structure) (m n : Pooled Stored) (rs : List Ref) : Type 0 where
  pub us : List Ref
  pub done : Q s x m n rs us
  pub stands : Stands y n us
  pub keeps : Keeps m n (slot_in x) (r ∷ rs)

-- whatever nodes x stands with, if P holds of them, it has become y, and Q holds
abbrev pub IsStep : Asks → Gives → Ref → ℕ → Structure → Structure → Pooled Stored → Pooled Stored → Type 0
IsStep P Q r s x y m n = (rs : List Ref) → Stands x m rs → P s x m rs → IsChanged Q r s x y m n rs

pub record AreReady (P : Asks) (s : ℕ) (xs : List Structure) (m : Pooled Stored) : Type 0 where
  pub rss : List (List Ref)
  pub stand : AllStand xs s m rss
  pub can : AllCan P xs s m rss

pub record AreChanged (Q : Gives) (r : Ref) (s : ℕ) (xs ys : List Structure) (m n : Pooled Stored) (rss : List (List Ref)) : Type 0 where
  pub uss : List (List Ref)
  pub done : AllGiven Q xs s m n rss uss
  pub stand : AllStand ys s n uss
  pub keeps : KeepsFrom m n s r rss

abbrev pub IsPass : Asks → Gives → Ref → ℕ → List Structure → List Structure → Pooled Stored → Pooled Stored → Type 0
IsPass P Q r s xs ys m n = (rss : List (List Ref)) → AllStand xs s m rss → AllCan P xs s m rss → AreChanged Q r s xs ys m n rss
