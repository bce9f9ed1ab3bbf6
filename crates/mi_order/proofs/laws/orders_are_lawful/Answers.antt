-- The law is proved with the definitions.
use Rattle.mi_order.specs.OrderLaws.{orders_are_lawful}
use Rattle.mi_order.proofs.laws.orders_are_lawful.Goals as goal

pub returns : goal.returns
returns c = orders_are_lawful
