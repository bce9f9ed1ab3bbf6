-- Whether a reference is of a name.
use Rattle.std.specs.Prelude.{◌≡◌, ℕ, Option, Some, None}
use Rattle.mi_node.specs.Refs.{Ref}

-- there is a reference, of that name
abbrev pub IsNamed : Option Ref → ℕ → Type 0
IsNamed None k = ⊥
IsNamed (Some r) k = r.name ≡ k
