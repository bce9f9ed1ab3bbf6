-- One table more, or none where it doesn't stand.
use Rattle.std.proofs.lemmas.List.{at_drop_all}
use Rattle.mi_catalog.specs.Shape.{Shape}
use Rattle.std.proofs.Common.{List, map, arith, rules, ap}
use Rattle.mi_container.specs.Restore.{image_table}
use Rattle.mi_base.proofs.BaseLemmas.{so_begins, so_more, so_fails, so_ends, first_all, images_push}
use Rattle.mi_base.proofs.read.read_tables.Goals as goal

pub returns-in_err-read_table-clause-exact : goal.returns-in_err-read_table-clause-exact
returns-in_err-read_table-clause-exact g c =
    so_fails c.args.catalog.now.tables _ _ _ _ _ c.tables.table (map image_table c.tables.images.items) _ _ c.in_err-read_table.field-0.0 _
    c.from_residual.result (search rules) (omega arith) c.table.ensures c.tables.invariant c.in_err-read_table.ensures.exact

pub tables-preserved : goal.tables-preserved
tables-preserved g c =
    so_more c.args.catalog.now.tables _ _ _ _ _ _ c.tables.table (map image_table c.tables.images.items) _ _ _ _
    (images_push _ _ _ c.in_ok-put.ensures) (omega arith) c.table.ensures c.tables.invariant c.in_ok-read_table.ensures.ok c.in_ok-read_table.ensures.image
    c.in_ok-read_table.ensures.exact

pub tables-init : goal.tables-init
tables-init g c = so_begins c.args.catalog.now.tables _ _ _ (ap (map image_table) c.requires)

pub returns-clause-images : goal.returns-clause-images
returns-clause-images g c =
    first_all _ _ (omega (arith, c.tables.invariant.count, c.table_count-table-end.ensures)) c.tables.invariant.fits

pub returns-clause-exact : goal.returns-clause-exact
returns-clause-exact g c =
    so_ends _ _ _ _ _ c.tables.table _
    (at_drop_all (λ (x : List Shape). x) c.args.catalog.now.tables c.tables.table (omega (arith, c.table_count-table-end.ensures))) c.tables.invariant
