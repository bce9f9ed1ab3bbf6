-- One bucket's chain: groups of nodes of one key, each linked in itself, one after another.
--     IsChained      groups one after another; what stands before a group's first node is its last
--     IsGrouped      groups that are the nodes of a list by their keys
--     key_count      how many keys the nodes of a list have
use Rattle.std.specs.Prelude.{◌≡◌, ℕ, ◌+◌, Bool, true, false, not, cond, List, [], ◌∷◌, ◌++◌, Option, Some, None}
use Rattle.std.specs.List.{filter}
use Rattle.mi_node.specs.Pool.{Pooled}
use Rattle.mi_node.specs.Neighbours.{IsLinked}
use Rattle.mi_node.specs.Refs.{Ref, first_of, last_of, IsApart}

-- the nodes of all groups
abbrev pub members : List (List Ref) → List Ref
members [] = []
members (g ∷ gs) = g ++ members gs

abbrev pub first_in : List (List Ref) → Option Ref → Option Ref
first_in [] f = f
first_in (g ∷ gs) f = first_of g (first_in gs f)

abbrev pub last_in : Option Ref → List (List Ref) → Option Ref
last_in b [] = b
last_in b (g ∷ gs) = last_in (last_of b g) gs

-- none of the groups is empty
abbrev pub AreFull : List (List Ref) → Type 0
AreFull [] = Unit {0}
AreFull (g ∷ gs) = (g ≡ [] → ⊥) × AreFull gs

-- each group is there for its first node, of which K is not so
abbrev pub ArePassed : (Ref → Bool) → List (List Ref) → Type 0
ArePassed K [] = Unit {0}
ArePassed K (g ∷ gs) = ((y : Ref) × (first_of g None ≡ Some y) × (K y ≡ false)) × ArePassed K gs

-- the nodes of rs that are not like x
abbrev pub unalike : (Ref → Ref → Bool) → Ref → List Ref → List Ref
unalike R x rs = filter (λ q. not (R x q)) rs

-- the groups are the nodes of rs, by R: each has all those that are like some x, in the order of rs
abbrev pub IsGrouped : (Ref → Ref → Bool) → List (List Ref) → List Ref → Type 0
IsGrouped R [] rs = rs ≡ []
IsGrouped R (g ∷ gs) rs = (x : Ref) × (g ≡ [] → ⊥) × (filter (R x) rs ≡ g) × IsGrouped R gs (unalike R x rs)

abbrev pub has_none : List Ref → Bool
has_none [] = true
has_none (r ∷ rs) = false

-- how many keys there are, by R: the last node of each counts
abbrev pub key_count : (Ref → Ref → Bool) → List Ref → ℕ
key_count R [] = 0
key_count R (r ∷ rs) = cond (has_none (filter (R r) rs)) (key_count R rs + 1) (key_count R rs)

module _ {T : Type 0} where
  abbrev pub IsChained : Pooled T → ℕ → List (List Ref) → Option Ref → Type 0
  IsChained m s [] f = Unit {0}
  IsChained m s (g ∷ gs) f = IsLinked m s (last_of None g) g (first_in gs f) × IsChained m s gs f

  -- a bucket's chain, from its head on
  pub record IsChain (m : Pooled T) (s : ℕ) (head : Option Ref) (gs : List (List Ref)) : Type 0 where
    pub first_is : head ≡ first_in gs None
    pub chained : IsChained m s gs None
    pub apart : IsApart (members gs)
    pub full : AreFull gs
