-- The map that places and columns of cells stand for, and how they stand.
use Rattle.std.specs.Prelude.{◌≡◌, ℕ, suc, ◌<◌, ◌≤◌, List, [], ◌∷◌, length, Option, Some, None}
use Rattle.std.specs.Ordering.{nat_cmp}
use Rattle.std.specs.FinMap.{FinMap, get, insert, empty}
use Rattle.mi_node.specs.Columns.{links_at, AreLong}
use Rattle.mi_node.specs.Slab.{node_in, slab_entry_at}
use Rattle.mi_node.specs.Pool.{Entry, Pooled}
use Rattle.mi_node.specs.declared.cell.Cell.{Cell}
use Rattle.mi_node.specs.declared.slab_entry.SlabEntry.{SlabEntry}
use Rattle.mi_node.specs.declared.slab_entry.SlabEntry.TheVariants.{Free, Held}

module _ {T : Type 0} where
  abbrev pub put_slab_entry : List (List Cell) → ℕ → SlabEntry T → FinMap nat_cmp (Entry T) → FinMap nat_cmp (Entry T)
  put_slab_entry cs k (Free r n) m = m
  put_slab_entry cs k (Held r v) m = insert m k (record { generation = r.generation; value = v; links = links_at cs k })

  -- the first place has the name k
  abbrev pub map_from : List (List Cell) → ℕ → List (SlabEntry T) → FinMap nat_cmp (Entry T)
  map_from cs k [] = empty
  map_from cs k (h ∷ hs) = put_slab_entry cs k h (map_from cs (suc k) hs)

  -- g: the marks of what was given back
  unfoldable pub seen : ℕ → List (List Cell) → List (SlabEntry T) → FinMap nat_cmp ℕ → Pooled T
  seen n cs hs g = record { entries = map_from cs 0 hs; slots = n; last_freed = g }

  -- each place keeps references of its own name, the first of which is k
  abbrev pub IsNamed : ℕ → List (SlabEntry T) → Type 0
  IsNamed k [] = Unit {0}
  IsNamed k (h ∷ hs) = ((node_in h).name ≡ k) × IsNamed (suc k) hs

  -- there is such a place, and if it is free, it keeps a reference of the generation b
  abbrev pub KeepsMark : ℕ → Option (SlabEntry T) → Type 0
  KeepsMark b None = ⊥
  KeepsMark b (Some (Free r n)) = r.generation ≡ b
  KeepsMark b (Some (Held r v)) = Unit {0}

  -- the reference that was given back last is the one that the free place keeps
  abbrev pub AreMarked : FinMap nat_cmp ℕ → List (SlabEntry T) → Type 0
  AreMarked g hs = (k b : ℕ) → get g k ≡ Some b → KeepsMark b (slab_entry_at hs k)

  -- where there are places, each slot has a column, which has a cell for each of them
  pub record IsSound (n : ℕ) (cs : List (List Cell)) (hs : List (SlabEntry T)) (g : FinMap nat_cmp ℕ) : Type 0 where
    pub named : IsNamed 0 hs
    pub few : length cs ≤ n
    pub wide : 0 < length hs → length cs ≡ n
    pub long : AreLong (length hs) cs
    pub marked : AreMarked g hs
