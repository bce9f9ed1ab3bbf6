-- The law is proved with the definitions.
use Rattle.mi_model.proofs.SessionLaws.{undos_take_back}
use Rattle.mi_sessions.proofs.laws.undos_take_back.Goals as goal

pub returns : goal.returns
returns c = undos_take_back
