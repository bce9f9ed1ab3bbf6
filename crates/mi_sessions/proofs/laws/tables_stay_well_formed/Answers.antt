-- The law is proved with the definitions.
use Rattle.mi_model.proofs.UniqueLaws.{tables_stay_well_formed}
use Rattle.mi_sessions.proofs.laws.tables_stay_well_formed.Goals as goal

pub returns : goal.returns
returns c = tables_stay_well_formed
