-- the id is only kept
use Rattle.mi_ids.proofs.ids.Ids.keep.Goals as goal

pub returns-clause-entries : goal.returns-clause-entries
returns-clause-entries c = c.set_live.ensures.entries

pub returns-clause-spare : goal.returns-clause-spare
returns-clause-spare c = c.set_live.ensures.spare
