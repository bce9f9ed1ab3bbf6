-- The column's cell is set, and no other place and no other column.
use Rattle.std.proofs.Common.{ap, ◌∙◌}
use Rattle.mi_node.specs.Columns.{links_at}
use Rattle.mi_node.specs.Pool.{put_link}
use Rattle.mi_node.proofs.ColumnLemmas.{put_here, put_there}
use Rattle.mi_node.proofs.columns.set_link_at.Goals as goal

pub returns-clause-link : goal.returns-clause-link
returns-clause-link c = put_here c.args.columns.now.items c.args.place c.new.result c.requires.slot c.index_mut.ensures.value c.set.ensures c.requires.place
    ∙ ap (put_link (links_at c.args.columns.now.items c.args.place) c.args.slot) c.new.ensures

pub returns-clause-others : goal.returns-clause-others
returns-clause-others c = put_there c.args.columns.now.items c.args.place c.new.result c.requires.slot c.index_mut.ensures.value c.set.ensures
