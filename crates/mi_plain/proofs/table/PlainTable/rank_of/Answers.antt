-- What the pass finds is what the look-up answers.
use Rattle.std.proofs.Common.{[], ◌∙◌}
use Rattle.mi_plain.proofs.ShownLemmas.{rank_shown}
use Rattle.mi_plain.proofs.table.PlainTable.rank_of.Goals as goal

pub returns : goal.returns
returns c = c.count_before.ensures
    ∙ rank_shown c.args.schema.now c.args.self.now c.args.x c.requires.is c.index.result.now
    c.index.ensures [] c.args.id c.requires.id c.place_of.result c.place_of.ensures c.requires.kind
