-- The law is proved with the definitions.
use Rattle.mi_replay.proofs.ReplayLemmas.{replays_are_runs}
use Rattle.mi_replay.proofs.laws.replays_are_runs.Goals as goal

pub returns : goal.returns
returns c = replays_are_runs
