-- Places in a chain, as searches tell them.
--     IsFound, IsFirst      the first group of a key, or that there is none
--     IsGap      the neighbours of a stamp in a group
--     IsCut      the nodes of a group with a lower stamp stand first
--     ends_with      a group by its last node
use Rattle.std.specs.Prelude.{◌≡◌, ℕ, ◌⊎◌, ◌==◌, ◌<◌, ◌≤◌, Bool, true, false, cond, List, [], ◌∷◌, ◌++◌, Option, Some, None}
use Rattle.mi_node.specs.Pool.{Pooled, link_of}
use Rattle.mi_node.specs.Refs.{Ref, first_of, last_of}
use Rattle.mi_chain.specs.Groups.{last_in, ArePassed}

abbrev pub is_named : ℕ → Option Ref → Bool
is_named k None = false
is_named k (Some r) = k == r.name

-- a reference that is of another name
abbrev pub other_than : ℕ → Option Ref → Option Ref
other_than k None = None
other_than k (Some r) = cond (k == r.name) None (Some r)

-- no node stands on either side of a gap
abbrev pub is_empty : Option Ref → Option Ref → Bool
is_empty None None = true
is_empty None (Some q) = false
is_empty (Some r) o = false

-- the last node of the group of r, whose link leads back to b and whose next node of the group is given
abbrev pub end_at : Ref → Option Ref → Option Ref → Option Ref
end_at r b None = Some r
end_at r b (Some q) = b

-- a gap at an end
abbrev pub IsEnd : Option Ref → Option Ref → Type 0
IsEnd prev next = (prev ≡ None) ⊎ (next ≡ None)

-- a group that begins with y, the first of which K is so
pub record Found (K : Ref → Bool) (gs : List (List Ref)) (before : Option Ref) (y : Ref) : Type 0 where
  pub xs : List (List Ref)
  pub group : List Ref
  pub ys : List (List Ref)
  pub parts : gs ≡ xs ++ group ∷ ys
  pub passed : ArePassed K xs
  pub first_is : first_of group None ≡ Some y
  pub of_key : K y ≡ true
  pub before_is : before ≡ last_in None xs

abbrev pub IsFound : (Ref → Bool) → List (List Ref) → Option Ref → Option Ref → Type 0
IsFound K gs before None = ArePassed K gs
IsFound K gs before (Some y) = Found K gs before y

abbrev pub IsFirst : (Ref → Bool) → List (List Ref) → Option Ref → Type 0
IsFirst K gs first = (before : Option Ref) × IsFound K gs before first

-- no stamp is below n
abbrev pub AreNotBelow : (Ref → ℕ) → ℕ → List Ref → Type 0
AreNotBelow stamp n [] = Unit {0}
AreNotBelow stamp n (r ∷ rs) = (n ≤ stamp r) × AreNotBelow stamp n rs

-- each stamp is below n
abbrev pub AreBelow : (Ref → ℕ) → ℕ → List Ref → Type 0
AreBelow stamp n [] = Unit {0}
AreBelow stamp n (r ∷ rs) = (stamp r < n) × AreBelow stamp n rs

-- those with a stamp below n stand before the others
pub record IsCut (stamp : Ref → ℕ) (n : ℕ) (g : List Ref) : Type 0 where
  pub us : List Ref
  pub vs : List Ref
  pub parts : g ≡ us ++ vs
  pub below : AreBelow stamp n us
  pub above : AreNotBelow stamp n vs

abbrev pub IsBelowIf : (Ref → ℕ) → ℕ → Option Ref → Type 0
IsBelowIf stamp n None = Unit {0}
IsBelowIf stamp n (Some r) = stamp r < n

pub record IsGap (stamp : Ref → ℕ) (n : ℕ) (g : List Ref) (prev next : Option Ref) : Type 0 where
  pub us : List Ref
  pub vs : List Ref
  pub parts : g ≡ us ++ vs
  pub prev_is : prev ≡ last_of None us
  pub next_is : next ≡ first_of vs None
  pub below : IsBelowIf stamp n prev
  pub above : AreNotBelow stamp n vs

-- the node before r in the group that begins with first, where r's link leads back to b
abbrev pub prev_in_group : Ref → Ref → Option Ref → Option Ref
prev_in_group first r b = cond (r.name == first.name) None b

module _ {T : Type 0} where
  abbrev pub forth_of : Pooled T → ℕ → Option Ref → Option Ref
  forth_of m s None = None
  forth_of m s (Some r) = (link_of m r.name s).forth

  abbrev pub back_of : Pooled T → ℕ → Ref → Option Ref
  back_of m s r = (link_of m r.name s).back

  -- the last node of the group at whose end a gap is
  abbrev pub end_beside : Pooled T → ℕ → Option Ref → Option Ref → Option Ref
  end_beside m s prev None = prev
  end_beside m s prev (Some q) = back_of m s q

  -- whether a group that begins with q ends with the node of that name
  abbrev pub ends_with : Pooled T → ℕ → ℕ → Ref → Bool
  ends_with m s k q = is_named k (back_of m s q)
