-- The law is proved with the definitions, of any text, of rests and of nothing.
use Rattle.mi_hub.proofs.LineLemmas.{in_pieces, from_rests, lines_from-nothing, rest_from-nothing}
use Rattle.mi_hub.proofs.laws.lines_in_pieces.Goals as goal

pub returns-clause-any_text : goal.returns-clause-any_text
returns-clause-any_text c = in_pieces

pub returns-clause-rests : goal.returns-clause-rests
returns-clause-rests c = from_rests

pub returns-clause-nothing : goal.returns-clause-nothing
returns-clause-nothing c = λ bytes. (lines_from-nothing bytes, rest_from-nothing bytes)
