-- The law is proved with the definitions.
use Rattle.mi_order.specs.HashLaws.{keyings_are_lawful}
use Rattle.mi_order.proofs.laws.keyings_are_lawful.Goals as goal

pub returns : goal.returns
returns c = keyings_are_lawful
