-- References as contracts see them, and lists of them: their ends, and which names stand in one.
use Rattle.std.specs.Prelude.{◌≡◌, ℕ, false, ◌==◌, List, [], ◌∷◌, map, Option, Some}

-- a node's place, which is its name, and a generation, which differs from that of the node that was given back last there
pub record Ref : Type 0 where
  pub name : ℕ
  pub generation : ℕ

-- the names, in the order of the references
abbrev pub names : List Ref → List ℕ
names rs = map (λ (r : Ref). r.name) rs

-- the first of rs and f
abbrev pub first_of : List Ref → Option Ref → Option Ref
first_of [] f = f
first_of (r ∷ rs) f = Some r

-- the last of b and rs
abbrev pub last_of : Option Ref → List Ref → Option Ref
last_of b [] = b
last_of b (r ∷ rs) = last_of (Some r) rs

-- no reference of that name
abbrev pub IsOut : ℕ → List Ref → Type 0
IsOut k [] = Unit {0}
IsOut k (r ∷ rs) = ((k == r.name) ≡ false) × IsOut k rs

-- no name stands twice
abbrev pub IsApart : List Ref → Type 0
IsApart [] = Unit {0}
IsApart (r ∷ rs) = IsOut r.name rs × IsApart rs

-- no name of xs stands in ys
abbrev pub AreOut : List Ref → List Ref → Type 0
AreOut [] ys = Unit {0}
AreOut (x ∷ xs) ys = IsOut x.name ys × AreOut xs ys
