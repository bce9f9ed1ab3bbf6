-- The laws are proved with the definitions.
use Rattle.mi_checkpoint.proofs.RunLemmas.{settles_early, ends_the_same, bases_replay, bases_stay}
use Rattle.mi_checkpoint.proofs.laws.sessions_settle_early.Goals as goal

pub returns-clause-early : goal.returns-clause-early
returns-clause-early c = settles_early

pub returns-clause-same : goal.returns-clause-same
returns-clause-same c = ends_the_same

pub returns-clause-bases : goal.returns-clause-bases
returns-clause-bases c = bases_replay

pub returns-clause-stay : goal.returns-clause-stay
returns-clause-stay c = bases_stay
