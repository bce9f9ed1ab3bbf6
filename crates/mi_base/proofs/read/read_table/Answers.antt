-- A table's numbers, rows and lists are its image, and a fault says that there's none.
use Rattle.std.proofs.Common.{◌-◌, arith, rules, map, ap, ◌∙◌}
use Rattle.mi_base.proofs.ImageLemmas.{has_index, table_rows, table_lists, table_fails, table_fails_late, table_reads, table_takes, table_is, lists_of}
use Rattle.mi_base.proofs.read.read_table.Goals as goal

pub overflow_sub-index_count : goal.overflow_sub-index_count
overflow_sub-index_count g c = let some = has_index c.args.schema.now c.keeps_rules.ensures in let is = c.index_count.ensures in omega (arith, some, is)

pub returns-in_err-rows-clause-exact : goal.returns-in_err-rows-clause-exact
returns-in_err-rows-clause-exact g c =
    table_fails c.args.schema.now _ _ _ _ c.in_err-rows.field-0.0 _ (search rules)
    (table_rows c.args.schema.now _ _ _ _ _ c.table_name.ensures c.in_ok-head.ensures.exact c.in_err-rows.ensures.exact)

pub returns-in_err-lists-clause-exact : goal.returns-in_err-lists-clause-exact
returns-in_err-lists-clause-exact g c =
    table_fails_late c.args.schema.now _ _ _ _ _ c.in_err-lists.field-0.0 _ (search rules)
    (table_lists c.args.schema.now _ _ _ _ _ _ (ap (λ n. n - 1) c.index_count.ensures)
    (table_rows c.args.schema.now _ _ _ _ _ c.table_name.ensures c.in_ok-head.ensures.exact c.in_ok-rows.ensures.exact) c.in_err-lists.ensures.exact)

pub returns-clause-ok : goal.returns-clause-ok
returns-clause-ok g c =
    table_takes c.args.schema.now _ _ _ _ _ _ _ _ _ c.in_ok-head.head c.in_ok-rows.rows.items _ (map (λ x. x.items) c.in_ok-lists.lists.items) _
    c.table_name.ensures c.in_ok-rows.ensures.count (lists_of _ _ _ c.in_ok-put_first.ensures) c.in_ok-head.ensures.ok c.in_ok-rows.ensures.ok c.in_ok-lists.ensures.ok

pub returns-clause-image : goal.returns-clause-image
returns-clause-image g c =
    table_is c.args.schema.now c.in_ok-rows.rows.items _ (map (λ x. x.items) c.in_ok-lists.lists.items) _ _ _ _
    (has_index c.args.schema.now c.keeps_rules.ensures) (ap (λ n. n - 1) c.index_count.ensures) c.in_ok-lists.ensures.count
    (c.in_ok-ids_of.ensures ∙ ap (map (λ r. r.0)) c.as_slice-2.ensures.value) (lists_of _ _ _ c.in_ok-put_first.ensures) c.in_ok-rows.ensures.fits

pub returns-clause-exact : goal.returns-clause-exact
returns-clause-exact g c =
    table_reads c.args.schema.now _ _ c.in_ok-head.head c.in_ok-rows.rows.items _ (map (λ x. x.items) c.in_ok-lists.lists.items) _
    (has_index c.args.schema.now c.keeps_rules.ensures)
    (c.in_ok-ids_of.ensures ∙ ap (map (λ r. r.0)) c.as_slice-2.ensures.value) (lists_of _ _ _ c.in_ok-put_first.ensures)
    (table_lists c.args.schema.now _ _ _ _ _ _ (ap (λ n. n - 1) c.index_count.ensures)
    (table_rows c.args.schema.now _ _ _ _ _ c.table_name.ensures c.in_ok-head.ensures.exact c.in_ok-rows.ensures.exact) c.in_ok-lists.ensures.exact)
