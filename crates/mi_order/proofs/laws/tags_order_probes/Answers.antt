-- The law is proved with the definitions.
use Rattle.mi_order.specs.TagLaws.{tags_order_probes}
use Rattle.mi_order.proofs.laws.tags_order_probes.Goals as goal

pub returns : goal.returns
returns c = tags_order_probes
