-- What the pass finds is what the look-up answers.
use Rattle.std.proofs.Common.{[], ◌∙◌}
use Rattle.mi_plain.proofs.ShownLemmas.{after_shown}
use Rattle.mi_plain.proofs.table.PlainTable.after.Goals as goal

pub returns : goal.returns
returns c = c.first_past.ensures
    ∙ after_shown c.args.schema.now c.args.self.now c.args.x c.requires.is c.index.result.now
    c.index.ensures [] c.args.id c.requires.id c.place_of.result c.place_of.ensures c.requires.kind
