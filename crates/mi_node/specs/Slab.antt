-- What stands at a place.
use Rattle.std.specs.Prelude.{◌≡◌, ℕ, zero, suc, List, [], ◌∷◌, Option, Some, None}
use Rattle.mi_node.specs.Refs.{Ref}
use Rattle.mi_node.specs.declared.slab_entry.SlabEntry.{SlabEntry}
use Rattle.mi_node.specs.declared.slab_entry.SlabEntry.TheVariants.{Free, Held}

module _ {T : Type 0} where
  -- the reference that was given last
  abbrev pub node_in : SlabEntry T → Ref
  node_in (Free r n) = r
  node_in (Held r v) = r

  abbrev pub value_in : SlabEntry T → Option T
  value_in (Free r n) = None
  value_in (Held r v) = Some v

  abbrev pub IsFree : SlabEntry T → Type 0
  IsFree h = value_in h ≡ None

  -- free places, the first of which has the name k
  abbrev pub AreFree : ℕ → List (SlabEntry T) → Type 0
  AreFree k [] = Unit {0}
  AreFree k (h ∷ hs) = ((node_in h).name ≡ k) × IsFree h × AreFree (suc k) hs

  abbrev pub slab_entry_at : List (SlabEntry T) → ℕ → Option (SlabEntry T)
  slab_entry_at [] k = None
  slab_entry_at (h ∷ hs) zero = Some h
  slab_entry_at (h ∷ hs) (suc k) = slab_entry_at hs k

  -- there is such a place, and it is free
  abbrev pub IsFreeIf : Option (SlabEntry T) → Type 0
  IsFreeIf None = ⊥
  IsFreeIf (Some h) = IsFree h

  abbrev pub IsFreeAt : List (SlabEntry T) → ℕ → Type 0
  IsFreeAt hs k = IsFreeIf (slab_entry_at hs k)

  abbrev pub IsNotFreeAt : List (SlabEntry T) → ℕ → Type 0
  IsNotFreeAt hs k = IsFreeAt hs k → ⊥
