-- Whose labels are kept beside a catalog.
use Rattle.std.specs.Prelude.{◌≡◌, ◌⊎◌, List, [], map}
use Rattle.mi_catalog.specs.declared.index.Column.{Column}
use Rattle.mi_catalog.specs.Shape.{CatalogShape}

-- there are none, or they are of each table's columns, in the order of the tables
abbrev pub AreLabelsOf : CatalogShape → List (List Column) → Type 0
AreLabelsOf c labels = (labels ≡ []) ⊎ (labels ≡ map (λ s. s.columns) c.tables)
