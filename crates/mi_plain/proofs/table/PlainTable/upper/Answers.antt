-- What the pass finds is what the look-up answers.
use Rattle.std.proofs.Common.{◌∙◌}
use Rattle.mi_plain.proofs.ShownLemmas.{upper_shown}
use Rattle.mi_plain.proofs.table.PlainTable.upper.Goals as goal

pub returns : goal.returns
returns c = c.first_past.ensures
    ∙ upper_shown c.args.schema.now c.args.self.now c.args.x c.requires.is c.index.result.now c.index.ensures c.args.key.now c.requires.kind
