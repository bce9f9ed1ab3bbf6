-- The places that were given back and are free. They come first among the free places, each of which names the next one, so none is lost.
--     GoesOn       a free place that names n as the next one
--     IsWay        free places, of which `at` names the first and each the one after it. More may come behind them
--     IsIn, IsNotIn, AreOnce      a number stands in a list, or doesn't; no number stands twice
--     AreListed    each place that was given back and is free is among the first ones, and none of these is so twice
use Rattle.std.specs.Prelude.{◌≡◌, ◌==◌, ◌⊎◌, ℕ, false, List, [], ◌∷◌, Option, Some, None}
use Rattle.std.specs.Ordering.{nat_cmp}
use Rattle.std.specs.FinMap.{FinMap, get}
use Rattle.mi_node.specs.Slab.{slab_entry_at, IsFreeAt}
use Rattle.mi_node.specs.declared.slab_entry.SlabEntry.{SlabEntry}
use Rattle.mi_node.specs.declared.slab_entry.SlabEntry.TheVariants.{Free, Held}

abbrev pub IsIn : ℕ → List ℕ → Type 0
IsIn k [] = ⊥
IsIn k (j ∷ js) = (k ≡ j) ⊎ IsIn k js

abbrev pub IsNotIn : ℕ → List ℕ → Type 0
IsNotIn k [] = Unit {0}
IsNotIn k (j ∷ js) = ((j == k) ≡ false) × IsNotIn k js

abbrev pub AreOnce : List ℕ → Type 0
AreOnce [] = Unit {0}
AreOnce (k ∷ ks) = IsNotIn k ks × AreOnce ks

module _ {T : Type 0} where
  abbrev pub GoesOn : ℕ → Option (SlabEntry T) → Type 0
  GoesOn n None = ⊥
  GoesOn n (Some (Free r m)) = m ≡ n
  GoesOn n (Some (Held r v)) = ⊥

  abbrev pub IsWay : List (SlabEntry T) → ℕ → List ℕ → Type 0
  IsWay hs at [] = Unit {0}
  IsWay hs at (k ∷ ks) = (at ≡ k) × (n : ℕ) × GoesOn n (slab_entry_at hs k) × IsWay hs n ks

  -- g: the marks of what was given back; at: the first free place
  pub record AreListed (hs : List (SlabEntry T)) (g : FinMap nat_cmp ℕ) (at : ℕ) : Type 0 where
    pub ks : List ℕ
    pub way : IsWay hs at ks
    pub once : AreOnce ks
    pub all : (k b : ℕ) → get g k ≡ Some b → IsFreeAt hs k → IsIn k ks
