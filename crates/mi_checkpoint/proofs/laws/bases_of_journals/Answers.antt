-- The laws are those of journals, and that of bases.
use Rattle.mi_checkpoint.proofs.RunLemmas.{bases_of_journals, bases_end_as_runs}
use Rattle.mi_checkpoint.proofs.laws.bases_of_journals.Goals as goal

pub returns-clause-same : goal.returns-clause-same
returns-clause-same c = bases_of_journals c.journals_replay.ensures.same

pub returns-clause-ended : goal.returns-clause-ended
returns-clause-ended c = bases_end_as_runs c.journals_replay.ensures.ended
