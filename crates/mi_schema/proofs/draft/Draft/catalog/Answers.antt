-- A draft that no check refuses gives schemas that keep every rule, and a revision that is no negative number.
use Rattle.std.proofs.Common.{◌≡◌, ap, ◌∙◌, rules}
use Rattle.std.specs.Prelude.{unsigned_abs}
use Rattle.mi_schema.specs.Draft.{CatalogDraft}
use Rattle.mi_schema.specs.Checks.{fault_of}
use Rattle.mi_schema.proofs.CheckLaws.{tables_hold, catalog_holds}
use Rattle.mi_schema.proofs.draft.Draft.catalog.Goals as goal

pub schemas_of-requires : goal.schemas_of-requires
schemas_of-requires c =
    let d : CatalogDraft = record { tables = c.self.inside.tables.items; first_revision = c.self.inside.first_revision } in
    let opens : c.unsigned_abs-first_revision.result ≡ unsigned_abs c.self.inside.first_revision = search rules in
    tables_hold d c.unsigned_abs-first_revision.result c.as_slice.result.now (ap fault_of c.self.view_is ∙ c.requires) opens c.as_slice.ensures.value

pub new-requires : goal.new-requires
new-requires c =
    let d : CatalogDraft = record { tables = c.self.inside.tables.items; first_revision = c.self.inside.first_revision } in
    let opens : c.unsigned_abs-first_revision.result ≡ unsigned_abs c.self.inside.first_revision = search rules in
    catalog_holds d c.unsigned_abs-first_revision.result c.in_ok-tables.tables.items c.as_slice.result.now
    (ap fault_of c.self.view_is ∙ c.requires) opens c.as_slice.ensures.value c.in_ok-tables.ensures
