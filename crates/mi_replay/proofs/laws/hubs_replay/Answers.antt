-- The law is proved with the definitions, of acts and of the journal.
use Rattle.mi_replay.proofs.RunActLemmas.{runs_are_acts, hubs_replay}
use Rattle.mi_replay.proofs.laws.hubs_replay.Goals as goal

pub returns : goal.returns
returns c = record { acts = runs_are_acts; journal = hubs_replay }
