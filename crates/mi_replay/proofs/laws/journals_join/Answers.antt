-- The law is proved with the definitions.
use Rattle.mi_replay.proofs.JoinLemmas.{journals_join}
use Rattle.mi_replay.proofs.laws.journals_join.Goals as goal

pub returns : goal.returns
returns c = journals_join
