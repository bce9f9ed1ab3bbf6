-- The schema stands where the number says.
use Rattle.std.proofs.Common.{◌≡◌, ◌<◌, ◌∙◌, subst, sym, length}
use Rattle.std.proofs.lemmas.List.{get_or_default}
use Rattle.mi_catalog.specs.Shape.{CatalogShape, schema_at}
use Rattle.mi_catalog.specs.contracts.catalog.Catalog.{the_view}
use Rattle.mi_catalog.proofs.catalog.Catalog.table.Goals as goal

pub returns : goal.returns
returns c =
    let within : c.args.i < length c.self.inside.tables.items = subst (λ (s : CatalogShape). c.args.i < length s.tables) (sym c.self.view_is) c.requires in
    let found : c.index.result.now ≡ schema_at (the_view c.self.inside) c.args.i = c.index.ensures ∙ get_or_default _ _ _ _ within in
    subst (λ (s : CatalogShape). c.index.result.now ≡ schema_at s c.args.i) c.self.view_is found
