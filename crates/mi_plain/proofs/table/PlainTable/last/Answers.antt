-- What the pass finds is what the look-up answers.
use Rattle.std.proofs.Common.{[], ◌∙◌}
use Rattle.mi_plain.proofs.ShownLemmas.{last_shown}
use Rattle.mi_plain.proofs.table.PlainTable.last.Goals as goal

pub returns : goal.returns
returns c = c.last_before.ensures ∙ last_shown c.args.schema.now c.args.self.now c.args.x c.requires.is c.index.result.now c.index.ensures [] c.requires.kind
