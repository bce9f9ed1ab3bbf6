-- A change that a container made can be taken back at once, which gives exactly the data before it; what it keeps can be settled.
use Rattle.std.specs.Prelude.{◌≡◌}
use Rattle.mi_catalog.specs.Shape.{Shape}
use Rattle.mi_container.specs.Data.{Data, IsData}
use Rattle.mi_container.specs.Inverse.{Inverse, taken_back}
use Rattle.mi_container.specs.Fits.{Ready, KeptBy}
use Rattle.mi_container.specs.Run.{Change}
use Rattle.mi_container.specs.Makes.{Makes}

-- what calls of containers answer of a change is what taking it back and settling it ask
abbrev pub MadeIsUndone : Type 0
MadeIsUndone = (s : Shape) (c : Change) (old : Data) (i : Inverse) (new : Data) → IsData s old → Makes s c old i new
    → Ready i new × IsData s (taken_back i new) × KeptBy i new × (taken_back i new ≡ old)
