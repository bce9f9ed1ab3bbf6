-- The columns that were last_freed over have a cell for each place, and no link changed.
use Rattle.std.proofs.Common.{◌∙◌}
use Rattle.mi_node.proofs.ColumnLemmas.{lengthened_start, put_longer, lengthened_next}
use Rattle.mi_node.proofs.columns.lengthen.Goals as goal

pub loop-slot-init : goal.loop-slot-init
loop-slot-init c = lengthened_start c.args.places c.args.columns.now.items c.requires

pub loop-slot-preserved : goal.loop-slot-preserved
loop-slot-preserved c =
    lengthened_next _ c.lengthen_column.new.column
    (put_longer c.lengthen_column.new.column c.loop-slot.invariant (c.len-slot-end.ensures ∙ c.args.columns.now.ok.0) c.loop-slot-test.true
    c.index_mut.ensures.value c.lengthen_column.ensures.cells c.lengthen_column.ensures.longer)
    (c.len-slot-end.ensures ∙ c.args.columns.now.ok.0) c.loop-slot-test.true c.in_ok-lengthen_column.ensures.ok

pub returns-in_err-lengthen_column-clause-links : goal.returns-in_err-lengthen_column-clause-links
returns-in_err-lengthen_column-clause-links c =
    (put_longer c.lengthen_column.new.column c.loop-slot.invariant (c.len-slot-end.ensures ∙ c.args.columns.now.ok.0) c.loop-slot-test.true
    c.index_mut.ensures.value c.lengthen_column.ensures.cells c.lengthen_column.ensures.longer).links

pub returns-in_err-lengthen_column-clause-long : goal.returns-in_err-lengthen_column-clause-long
returns-in_err-lengthen_column-clause-long c =
    (put_longer c.lengthen_column.new.column c.loop-slot.invariant (c.len-slot-end.ensures ∙ c.args.columns.now.ok.0) c.loop-slot-test.true
    c.index_mut.ensures.value c.lengthen_column.ensures.cells c.lengthen_column.ensures.longer).long
