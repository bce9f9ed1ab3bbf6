-- The link of a place in a slot is that of the column's cell.
use Rattle.std.proofs.Common.{◌∙◌}
use Rattle.mi_node.proofs.ColumnLemmas.{read_cell}
use Rattle.mi_node.proofs.columns.link_at.Goals as goal

pub returns : goal.returns
returns c = c.link.ensures
    ∙ read_cell c.args.columns.now.items c.args.slot c.args.place c.index.result.now c.at.result c.requires.slot c.index.ensures c.at.ensures
