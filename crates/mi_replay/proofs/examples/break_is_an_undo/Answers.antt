-- Computed, act by act.
use Rattle.mi_replay.proofs.ExampleLemmas.{break_is_an_undo}
use Rattle.mi_replay.proofs.examples.break_is_an_undo.Goals as goal

pub returns : goal.returns
returns c = break_is_an_undo
