-- The column's cell stands for the link of the place in the slot.
use Rattle.mi_node.proofs.ColumnLemmas.{read_cell}
use Rattle.mi_node.proofs.columns.stored_at.Goals as goal

pub returns : goal.returns
returns c = read_cell c.args.columns.now.items c.args.slot c.args.place c.index.result.now c.at.result c.requires.slot c.index.ensures c.at.ensures
