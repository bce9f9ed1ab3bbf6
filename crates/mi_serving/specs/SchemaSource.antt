-- The line that tells a schema's text tells the text that its catalog was read from.
use Rattle.std.specs.Prelude.{◌≡◌, ℕ, List, Ok}
use Rattle.mi_catalog.specs.Shape.{CatalogShape}
use Rattle.mi_schema.specs.Reading.{catalog_read}
use Rattle.mi_clients.specs.SchemaText.{schema_line}

abbrev pub TellsText : CatalogShape → List ℕ → Type 0
TellsText catalog line = (text : List ℕ) × (catalog_read text ≡ Ok catalog) × (line ≡ schema_line text)
