-- The laws are proved with the definitions.
use Rattle.mi_checkpoint.proofs.TakenLemmas.{answered_lines_are_taken, whole_lines_are_taken, taken_in_two}
use Rattle.mi_checkpoint.proofs.laws.lines_are_taken.Goals as goal

pub returns-clause-answers : goal.returns-clause-answers
returns-clause-answers c = answered_lines_are_taken

pub returns-clause-bytes : goal.returns-clause-bytes
returns-clause-bytes c = whole_lines_are_taken

pub returns-clause-joined : goal.returns-clause-joined
returns-clause-joined c = taken_in_two
