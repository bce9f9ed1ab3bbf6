-- The law is proved with the definitions.
use Rattle.mi_order.specs.TagLaws.{exact_tags_are_probes}
use Rattle.mi_order.proofs.laws.exact_tags_are_probes.Goals as goal

pub returns : goal.returns
returns c = exact_tags_are_probes
