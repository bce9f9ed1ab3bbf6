-- The one table is the schema, and the revision is its own.
use Rattle.std.proofs.Common.{◌≡◌, true, refl}
use Rattle.std.proofs.lemmas.Bool.{eq-eqb}
use Rattle.mi_catalog.specs.Rules.{is_schema}
use Rattle.mi_catalog.proofs.catalog.Catalog.of.Goals as goal

pub invariant_of-result : goal.invariant_of-result
invariant_of-result c =
    let kept : is_schema c.args.schema ≡ true = c.keeps_rules.ensures in
    let opens = c.first_revision-first_revision.ensures.value in
    simp (c.in_ok-push.ensures.items, c.new-tables.ensures.items, opens, kept, eq-eqb c.args.schema.first_revision c.args.schema.first_revision refl)

pub returns : goal.returns
returns c = simp (c.in_ok-push.ensures.items, c.new-tables.ensures.items, c.first_revision-first_revision.ensures.value)
