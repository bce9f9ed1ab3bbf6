-- New cells are empty, as those beyond the end are.
use Rattle.std.proofs.Common.{ap, ◌∙◌}
use Rattle.mi_node.specs.Cells.{empty_cell}
use Rattle.mi_node.specs.Columns.{cell_at}
use Rattle.mi_node.proofs.ColumnLemmas.{index-end}
use Rattle.mi_node.proofs.columns.lengthen_column.Goals as goal

pub returns-in_ok-add-clause-cells : goal.returns-in_ok-add-clause-cells
returns-in_ok-add-clause-cells c k =
    ap (cell_at k) c.in_ok-add.ensures.ok ∙ index-end c.args.column.now 1024 k empty_cell
