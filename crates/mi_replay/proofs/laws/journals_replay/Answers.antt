-- The law is proved with the definitions, of what is the same and of how it ends.
use Rattle.mi_replay.proofs.ReplayLemmas.{journals_replay, replays_end_as_runs}
use Rattle.mi_replay.proofs.laws.journals_replay.Goals as goal

pub returns : goal.returns
returns c = record { same = journals_replay; ended = replays_end_as_runs }
