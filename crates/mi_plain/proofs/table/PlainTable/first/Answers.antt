-- What the pass finds is what the look-up answers.
use Rattle.std.proofs.Common.{[], ◌∙◌}
use Rattle.mi_plain.proofs.ShownLemmas.{first_shown}
use Rattle.mi_plain.proofs.table.PlainTable.first.Goals as goal

pub returns : goal.returns
returns c = c.first_past.ensures ∙ first_shown c.args.schema.now c.args.self.now c.args.x c.requires.is c.index.result.now c.index.ensures [] c.requires.kind
