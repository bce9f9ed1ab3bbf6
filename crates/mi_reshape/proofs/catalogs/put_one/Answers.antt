-- The table of the old schema and image of its name.
use Rattle.std.proofs.Common.{◌<◌, length, sym, ap, ◌∙◌, subst}
use Rattle.std.proofs.lemmas.List.Quantifiers.{position-Some}
use Rattle.mi_catalog.specs.Shape.{find_table}
use Rattle.mi_reshape.proofs.ImageLemmas.{under_result}
use Rattle.mi_reshape.proofs.catalogs.put_one.Goals as goal

pub returns-in-Some-clause-table : goal.returns-in-Some-clause-table
returns-in-Some-clause-table c =
    let n = c.in-Some.number in
    let found = c.in-Some.ensures ∙ ap (find_table c.args.from.now) c.table_name.ensures in
    let within : n < length c.args.from.now.tables = (position-Some _ c.args.from.now.tables n c.args.to.now (sym found)).0 in
    let there = subst (λ m. n < m) (sym c.requires) within in
    let image = c.index-images-number in
    under_result c.args.from.now c.table.result.now c.args.to.now c.args.images.now n image.result c.put_under.result there found c.table.ensures image.is
    c.put_under.ensures.table
