-- the id is live again
use Rattle.mi_ids.proofs.ids.Ids.revive.Goals as goal

pub returns-clause-entries : goal.returns-clause-entries
returns-clause-entries c = c.set_live.ensures.entries
