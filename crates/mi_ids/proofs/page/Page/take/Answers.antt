-- the bit that is cleared
use Rattle.mi_ids.proofs.PageLemmas.{taken-slot}
use Rattle.mi_ids.proofs.page.Page.take.Goals as goal

pub returns-clause-slots : goal.returns-clause-slots
returns-clause-slots c = λ k w. taken-slot c.args.self.now c.args.slot c.requires k w
