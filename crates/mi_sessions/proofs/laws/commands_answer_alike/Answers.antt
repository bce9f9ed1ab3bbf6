-- The law is proved with the definitions, of one command and of several.
use Rattle.mi_model.proofs.AlikeLaws.{commands_answer_alike, runs_answer_alike}
use Rattle.mi_sessions.proofs.laws.commands_answer_alike.Goals as goal

pub returns : goal.returns
returns c = record { one = commands_answer_alike; several = runs_answer_alike }
