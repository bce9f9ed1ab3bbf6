-- Each table's schema keeps the rules.
use Rattle.mi_catalog.specs.Rules.{is_schema}
use Rattle.mi_schema.specs.Reading.{shape_from}
use Rattle.mi_schema.proofs.ListLaws.{all_at}
use Rattle.mi_schema.proofs.build.schemas_of.Goals as goal

pub schema_of-requires : goal.schema_of-requires
schema_of-requires c =
    all_at (λ t. is_schema (shape_from c.args.first_revision t)) c.args.tables.now c.loop-table.table-index
    c.table-item.result c.requires c.loop-table-test.true c.table-item.is
