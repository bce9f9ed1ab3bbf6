-- The steps of a path, as they lie in an array of nodes and in the bits of a number.
use Rattle.std.specs.Prelude.{◌≡◌, ℕ, zero, suc, ◌/◌, ◌%◌, ◌==◌, ◌^◌, ◌<◌, ◌≤◌, List, [], ◌∷◌, ◌++◌, length, slice_index_or}
use Rattle.mi_node.specs.Refs.{Ref}
use Rattle.mi_tree.specs.declared.path_steps.PathStep.{PathStep}
use Rattle.mi_tree.specs.declared.path_steps.Depth.{Depth}
use Rattle.mi_tree.specs.declared.walk.TheConstants.{MAX_LEVELS}

-- what a place beyond the array would have
abbrev pub anyone : Ref
anyone = record { name = 0; generation = 0 }

-- the first so many nodes; the last of them has the lowest bit
abbrev pub path_steps_of : List Ref → ℕ → ℕ → List PathStep
path_steps_of nodes lefts zero = []
path_steps_of nodes lefts (suc n) = path_steps_of nodes (lefts / 2) n ++ record { node = slice_index_or nodes n anyone; left = (lefts % 2 == 1) } ∷ []

abbrev pub path_steps : List Ref → Depth → List PathStep
path_steps nodes d = path_steps_of nodes d.lefts d.len

-- there is room, and no bit more than steps
abbrev pub AreBits : List Ref → Depth → Type 0
AreBits nodes d = (length nodes ≡ MAX_LEVELS) × (d.len ≤ MAX_LEVELS) × (d.lefts < 2 ^ d.len)
