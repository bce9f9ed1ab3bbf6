-- The laws are proved with the definitions.
use Rattle.mi_durable.proofs.TakenLemmas.{kept_lines_are_taken, reserves_are_taken}
use Rattle.mi_durable.proofs.laws.kept_lines_are_taken.Goals as goal

pub returns : goal.returns
returns c = record { kept = kept_lines_are_taken; reserves = reserves_are_taken }
