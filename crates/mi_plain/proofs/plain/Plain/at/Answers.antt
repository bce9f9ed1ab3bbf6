-- Each table of a database is one of its schema.
use Rattle.std.proofs.Common.{◌≡◌, ◌<◌, length, subst, ◌∙◌, ap, sym, arith}
use Rattle.std.proofs.lemmas.List.{get_or_default}
use Rattle.mi_catalog.specs.Shape.{Shape, schema_at}
use Rattle.mi_model.specs.Table.{Table, IsTable}
use Rattle.mi_model.specs.Database.{Database, table_of}
use Rattle.mi_model.proofs.InvariantLaws.{table_is}
use Rattle.mi_plain.specs.contracts.plain.Plain.{the_view}
use Rattle.mi_plain.proofs.plain.Plain.at.Goals as goal

pub returns-clause-table : goal.returns-clause-table
returns-clause-table c =
    let within : c.args.n < length c.self.inside.catalog.tables = omega (arith, c.requires, ap (λ (d : Database). length d.catalog.tables) c.self.view_is) in
    let few : c.args.n < length c.self.inside.tables.items = omega (arith, within, c.self.invariant.1) in
    let found : c.index.result.now ≡ table_of (the_view c.self.inside) c.args.n = c.index.ensures ∙ get_or_default _ _ _ _ few in
    found ∙ ap (λ (d : Database). table_of d c.args.n) c.self.view_is

pub returns-clause-is : goal.returns-clause-is
returns-clause-is c =
    let within : c.args.n < length c.self.inside.catalog.tables = omega (arith, c.requires, ap (λ (d : Database). length d.catalog.tables) c.self.view_is) in
    let is : IsTable (schema_at c.self.inside.catalog c.args.n) (table_of (the_view c.self.inside) c.args.n) =
    table_is (the_view c.self.inside) c.args.n c.self.invariant.0 within in
    let few : c.args.n < length c.self.inside.tables.items = omega (arith, within, c.self.invariant.1) in
    let found : c.index.result.now ≡ table_of (the_view c.self.inside) c.args.n = c.index.ensures ∙ get_or_default _ _ _ _ few in
    subst (λ (s : Shape). IsTable s c.index.result.now) (sym c.table.ensures)
    (subst (λ (t : Table). IsTable (schema_at c.self.inside.catalog c.args.n) t) (sym found) is)
