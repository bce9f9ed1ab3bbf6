-- The cell of the node's place is its link.
use Rattle.std.proofs.Common.{◌∙◌}
use Rattle.mi_node.proofs.MapLemmas.{held_wide, held_long, held_link}
use Rattle.mi_node.proofs.storage.Storage.link.Goals as goal

pub link_at-requires : goal.link_at-requires
link_at-requires g c = let h = c.requires in
    record { slot = held_wide h.sound.0 h.held c.name.ensures c.args.slot h.slot; place = held_long h.sound.0 h.held c.name.ensures c.args.slot h.slot }

pub returns : goal.returns
returns g c = c.link_at.ensures ∙ held_link c.requires.sound.0 c.requires.held c.name.ensures c.args.slot
