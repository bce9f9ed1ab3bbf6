-- Computed, act by act and line by line.
use Rattle.mi_replay.proofs.ExampleLemmas.{push_is_kept}
use Rattle.mi_replay.proofs.examples.push_is_kept.Goals as goal

pub returns : goal.returns
returns c = push_is_kept
