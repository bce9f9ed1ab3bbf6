-- What stands at the node's place is its value.
use Rattle.std.proofs.Common.{◌∙◌}
use Rattle.mi_node.proofs.MapLemmas.{held_less, held_some, held_value}
use Rattle.mi_node.proofs.storage.Storage.value.Goals as goal

pub at-requires : goal.at-requires
at-requires g c = held_less c.requires.sound.0 c.requires.held c.name.ensures

pub value_at-requires : goal.value_at-requires
value_at-requires g c = held_some c.requires.sound.0 c.requires.held c.name.ensures c.at.result.now c.at.ensures

pub returns : goal.returns
returns g c = held_value c.requires.sound.0 c.requires.held c.name.ensures c.at.result.now c.at.ensures ∙ c.value_at.ensures
