-- The law is proved with the definitions, for each kind of structure.
use Rattle.mi_index.proofs.FrameLemmas.{stands_alike}
use Rattle.mi_index.proofs.laws.structures_stand_where_alike.Goals as goal

pub returns : goal.returns
returns c = stands_alike
