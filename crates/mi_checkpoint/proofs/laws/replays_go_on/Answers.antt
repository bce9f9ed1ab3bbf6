-- The laws are proved with the definitions.
use Rattle.mi_checkpoint.proofs.RunLemmas.{opened_is_replaying, lines_keep_replaying, same_passes_on}
use Rattle.mi_checkpoint.proofs.laws.replays_go_on.Goals as goal

pub returns-clause-opened : goal.returns-clause-opened
returns-clause-opened c = opened_is_replaying

pub returns-clause-lines : goal.returns-clause-lines
returns-clause-lines c = lines_keep_replaying

pub returns-clause-same : goal.returns-clause-same
returns-clause-same c = same_passes_on
