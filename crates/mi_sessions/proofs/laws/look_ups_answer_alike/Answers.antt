-- The law is proved with the definitions.
use Rattle.mi_model.proofs.AlikeLookUpLaws.{look_ups_answer_alike}
use Rattle.mi_sessions.proofs.laws.look_ups_answer_alike.Goals as goal

pub returns : goal.returns
returns c = look_ups_answer_alike
