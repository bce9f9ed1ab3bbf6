-- A container beside its schema and a journal of the inverses of its changes.
use Rattle.std.specs.Prelude.{◌≡◌, ℕ, List, [], ◌∷◌, ◌++◌, map}
use Rattle.mi_catalog.specs.Shape.{Shape}
use Rattle.mi_model.specs.Table.{Table}
use Rattle.mi_container.specs.Data.{Data}
use Rattle.mi_container.specs.Inverse.{Inverse}
use Rattle.mi_container.specs.Fits.{Fits}

-- the inverses of all sessions, the newest first
abbrev pub inverses_of : List (List (ℕ × Inverse)) → List Inverse
inverses_of [] = []
inverses_of (es ∷ older) = map (λ (e : ℕ × Inverse). e.1) es ++ inverses_of older

-- the schema is the container's, and they fit its data
abbrev pub CanGoBack : Shape → Shape → Data → List (List (ℕ × Inverse)) → Type 0
CanGoBack schema shape d sessions = (schema ≡ shape) × (ts : List Table) × Fits shape (inverses_of sessions) ts d
