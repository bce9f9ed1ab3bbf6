-- no bit of 0 is set
use Rattle.std.proofs.Common.{rules}
use Rattle.mi_ids.proofs.PageLemmas.{no-slot}
use Rattle.mi_ids.proofs.page.Page.is_empty.Goals as goal

pub returns-clause-empty : goal.returns-clause-empty
returns-clause-empty c = λ is. no-slot c.args.self.now (search rules)
