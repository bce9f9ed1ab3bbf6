-- In which structures a node keeps its place as it gets another value, and what its links then are.
--     KeepsPlaceAt      it keeps its place between two parts of a list, with that value and that stamp: only a tree has such places
--     KeepsFor      the same of the list where it stands, if it gets a stamp there
--     flagged      the flag of a slot says so
--     own_link, retags      its link once it has the value
--     AreRetagged      all its links in the slots of some structures, and no other link
use Rattle.std.specs.Prelude.{◌≡◌, ℕ, ◌+◌, ◌<◌, ◌==◌, Bool, false, cond, List, [], ◌∷◌, ◌++◌, length, Option, Some, None, IsTrue}
use Rattle.mi_node.specs.Pool.{Pooled, ref_of, value_of, link_of}
use Rattle.mi_node.specs.Refs.{Ref}
use Rattle.mi_node.specs.declared.link.Link.{Link}
use Rattle.mi_tree.specs.Keeping.{KeepsPlace, retagged}
use Rattle.mi_order.specs.Orders.{stored_order, stored_tag}
use Rattle.mi_order.specs.declared.stored.Stored.{Stored}
use Rattle.mi_index.specs.Standing.{slot_in}
use Rattle.mi_index.specs.Places.{mark_at}
use Rattle.mi_index.specs.Pass.{Asks}
use Rattle.mi_index.specs.declared.structure.Structure.{Structure}
use Rattle.mi_index.specs.declared.structure.Structure.TheVariants.{Sorted, Hashed, Sequenced}

abbrev pub KeepsPlaceAt : Structure → Pooled Stored → Stored → ℕ → List Ref → List Ref → Type 0
KeepsPlaceAt (Sorted t) m v stamp xs ys = KeepsPlace (stored_order t.order.parts) m t.slot v stamp xs ys
KeepsPlaceAt (Hashed c) m v stamp xs ys = ⊥
KeepsPlaceAt (Sequenced l) m v stamp xs ys = ⊥

pub record KeepsIts (x : Structure) (m : Pooled Stored) (r : Ref) (v : Stored) (stamp : ℕ) (rs : List Ref) : Type 0 where
  pub xs : List Ref
  pub ys : List Ref
  pub parts : rs ≡ xs ++ r ∷ ys
  pub keeps : KeepsPlaceAt x m v stamp xs ys

abbrev pub KeepsFor : Option ℕ → Structure → Pooled Stored → Ref → Stored → List Ref → Type 0
KeepsFor None x m r v rs = ⊥
KeepsFor (Some stamp) x m r v rs = KeepsIts x m r v stamp rs

-- a slot without a flag has none that is set
pub record IsFlagged (kept : List Bool) (s : ℕ) (K : Type 0) : Type 0 where
  pub sound : IsTrue (mark_at kept s) → K
  pub full : s < length kept → K → IsTrue (mark_at kept s)

abbrev pub flagged : List Bool → (ℕ → Option ℕ) → Ref → Stored → Asks
flagged kept stamps r v s x m rs = IsFlagged kept s (KeepsFor (stamps s) x m r v rs)

-- the stamp that the node gets where it keeps its place
abbrev pub retags : List Bool → (ℕ → Option ℕ) → ℕ → Option ℕ
retags kept stamps s = cond (mark_at kept s) (stamps s) None

abbrev pub own_link : Option ℕ → Structure → Stored → Link → Link
own_link None x v l = l
own_link (Some stamp) (Sorted t) v l = retagged (record { key = stored_tag t.order.types t.order.parts v; stamp = stamp }) l
own_link (Some stamp) (Hashed c) v l = l
own_link (Some stamp) (Sequenced s) v l = l

-- nothing differs but links of r
pub record KeepsButLinks (old new : Pooled Stored) (r : Ref) : Type 0 where
  pub refs : (k : ℕ) → ref_of new k ≡ ref_of old k
  pub values : (k : ℕ) → value_of new k ≡ value_of old k
  pub slots : new.slots ≡ old.slots
  pub links : (k t : ℕ) → (r.name == k) ≡ false → link_of new k t ≡ link_of old k t

-- in the slots of these structures, from slot s on
abbrev pub AreRetagged : (ℕ → Option ℕ) → Ref → Stored → List Structure → ℕ → Pooled Stored → Pooled Stored → Type 0
AreRetagged stamps r v [] s m n = Unit {0}
AreRetagged stamps r v (x ∷ xs) s m n = (link_of n r.name s ≡ own_link (stamps s) x v (link_of m r.name s)) × AreRetagged stamps r v xs (s + 1) m n

-- each structure has the slot of its number, which is one of the pool's
abbrev pub ArePlaced : List Structure → ℕ → Pooled Stored → Type 0
ArePlaced [] s m = Unit {0}
ArePlaced (x ∷ xs) s m = (slot_in x ≡ s) × (s < m.slots) × ArePlaced xs (s + 1) m
