-- The old catalog is that of the database.
use Rattle.std.proofs.Common.{◌≡◌, None, subst}
use Rattle.std.specs.List.{AllByRecursion}
use Rattle.mi_catalog.specs.Shape.{CatalogShape}
use Rattle.mi_reshape.specs.Catalogs.{other_column}
use Rattle.mi_serving.proofs.moving.images_under.Goals as goal

pub returns-in-Ok-reshaped_all-clause-types : goal.returns-in-Ok-reshaped_all-clause-types
returns-in-Ok-reshaped_all-clause-types g c =
    subst (λ (k : CatalogShape). AllByRecursion (λ s. other_column k s ≡ None) c.args.to.now.tables) c.catalog.ensures c.in-Ok-reshaped_all.ensures.types
