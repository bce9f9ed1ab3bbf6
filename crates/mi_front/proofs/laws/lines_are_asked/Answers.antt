-- The law is proved with the definitions.
use Rattle.mi_front.proofs.TextLemmas.{lines_are_asked}
use Rattle.mi_front.proofs.laws.lines_are_asked.Goals as goal

pub returns : goal.returns
returns c = lines_are_asked
