-- Images of a database's tables: they are its tables, of which there is one for each of the catalog.
use Rattle.std.specs.Prelude.{◌≡◌, List, length}
use Rattle.mi_model.specs.Table.{Table}
use Rattle.mi_model.specs.Database.{Database}

pub record AreImagesOf (d : Database) (images : List Table) : Type 0 where
  pub one_each : length images ≡ length d.catalog.tables
  pub are : images ≡ d.tables
