-- A container beside its schema and the inverses of its changes.
use Rattle.std.specs.Prelude.{◌≡◌, List, reverse}
use Rattle.mi_catalog.specs.Shape.{Shape}
use Rattle.mi_model.specs.Table.{Table}
use Rattle.mi_container.specs.Data.{Data}
use Rattle.mi_container.specs.Inverse.{Inverse}
use Rattle.mi_container.specs.Fits.{Fits}

-- the schema is the container's, and the inverses, the oldest first, fit its data
abbrev pub CanTakeBack : Shape → Shape → Data → List Inverse → Type 0
CanTakeBack schema shape d inverses = (schema ≡ shape) × (ts : List Table) × Fits shape (reverse inverses) ts d
