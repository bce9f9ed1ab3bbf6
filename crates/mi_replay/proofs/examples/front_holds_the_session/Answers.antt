-- Computed, line by line.
use Rattle.mi_replay.proofs.ExampleLemmas.{front_holds}
use Rattle.mi_replay.proofs.examples.front_holds_the_session.Goals as goal

pub returns : goal.returns
returns c = front_holds
