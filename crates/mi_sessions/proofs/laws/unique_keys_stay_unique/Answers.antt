-- The law is proved with the definitions.
use Rattle.mi_model.proofs.UniqueLaws.{unique_keys_stay_unique}
use Rattle.mi_sessions.proofs.laws.unique_keys_stay_unique.Goals as goal

pub returns : goal.returns
returns c = unique_keys_stay_unique
