-- The law is proved with the definitions.
use Rattle.mi_replay.proofs.AnswerLemmas.{changed_lines_go_in}
use Rattle.mi_replay.proofs.laws.changed_lines_go_in.Goals as goal

pub returns : goal.returns
returns c = changed_lines_go_in
