-- The journal has the schema of the database's catalog.
use Rattle.std.proofs.Common.{subst}
use Rattle.mi_catalog.specs.Shape.{CatalogShape}
use Rattle.mi_serving.specs.Served.{IsSchemaOf}
use Rattle.mi_serving.proofs.moving.begin.Goals as goal

pub returns-in-Ok-begun_with : goal.returns-in-Ok-begun_with
returns-in-Ok-begun_with g c = (
  c.in-Ok.schema,
  subst (λ (k : CatalogShape). IsSchemaOf k c.in-Ok.schema) c.catalog.ensures c.in-Ok.ensures,
  c.in-Ok-begun_with.ensures,
)
