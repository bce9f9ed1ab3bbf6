-- The law is proved with the definitions.
use Rattle.mi_hub.proofs.RestLemmas.{rest_of_all_bytes}
use Rattle.mi_hub.proofs.laws.rest_of_all_bytes.Goals as goal

pub returns : goal.returns
returns c = rest_of_all_bytes
