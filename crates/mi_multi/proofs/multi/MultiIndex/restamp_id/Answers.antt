-- The row is there.
use Rattle.std.proofs.Common.{◌∙◌, sym}
use Rattle.std.proofs.lemmas.Bool.{false≢true}
use Rattle.mi_container.proofs.InvariantLemmas.{has_there}
use Rattle.mi_multi.proofs.multi.MultiIndex.restamp_id.Goals as goal

pub returns-in_default-clause-plain : goal.returns-in_default-clause-plain
returns-in_default-clause-plain c =
    absurd (false≢true (sym (c.live_row.ensures.absent c.in_default.is) ∙ has_there c.args.self.now.plain c.args.id c.requires.row))
