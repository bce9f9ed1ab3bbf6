-- What the pass finds is what the look-up answers.
use Rattle.std.proofs.Common.{◌∙◌}
use Rattle.mi_plain.proofs.ShownLemmas.{upper_rank_shown}
use Rattle.mi_plain.proofs.table.PlainTable.upper_rank.Goals as goal

pub returns : goal.returns
returns c = c.count_before.ensures
    ∙ upper_rank_shown c.args.schema.now c.args.self.now c.args.x c.requires.is c.index.result.now c.index.ensures c.args.key.now c.requires.kind
