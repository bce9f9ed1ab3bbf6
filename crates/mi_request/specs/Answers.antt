-- What it is to answer by a definition, want of memory aside, and which refusals name no index.
use Rattle.std.specs.Prelude.{◌≡◌, Result, Ok, Err}
use Rattle.mi_value.specs.declared.refusal.Refusal.{Refusal}
use Rattle.mi_value.specs.declared.refusal.Refusal.TheVariants.{Memory, Unique, Lost}

-- the answer is the definition's, or in its place a refusal for memory
abbrev pub IsAnswer : {A : Type 0} → Result A Refusal → Result A Refusal → Type 0
IsAnswer (Ok v) defined = defined ≡ Ok v
IsAnswer (Err Memory) defined = Unit {0}
IsAnswer (Err e) defined = defined ≡ Err e

-- a refusal other than a conflict
abbrev pub NamesNoIndex : Refusal → Type 0
NamesNoIndex (Unique x id) = ⊥
NamesNoIndex (Lost x id) = ⊥
NamesNoIndex e = Unit {0}
