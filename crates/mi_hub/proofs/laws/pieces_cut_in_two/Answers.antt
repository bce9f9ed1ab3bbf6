-- The law is proved with the definitions.
use Rattle.mi_hub.proofs.PieceLemmas.{pieces_cut_in_two}
use Rattle.mi_hub.proofs.laws.pieces_cut_in_two.Goals as goal

pub returns : goal.returns
returns c = pieces_cut_in_two
