-- Computed, line by line.
use Rattle.mi_checkpoint.proofs.ExampleLemmas.{base_stands}
use Rattle.mi_checkpoint.proofs.examples.base_stands_at_an_open_session.Goals as goal

pub returns : goal.returns
returns c = base_stands
