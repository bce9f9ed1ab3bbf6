-- The cell of the node's place stands for its link.
use Rattle.std.proofs.Common.{◌∙◌}
use Rattle.mi_node.proofs.MapLemmas.{held_wide, held_long, held_link}
use Rattle.mi_node.proofs.storage.Storage.stored.Goals as goal

pub stored_at-requires : goal.stored_at-requires
stored_at-requires g c = let h = c.requires in
    record { slot = held_wide h.sound.0 h.held c.name.ensures c.args.slot h.slot; place = held_long h.sound.0 h.held c.name.ensures c.args.slot h.slot }

pub returns : goal.returns
returns g c = c.stored_at.ensures ∙ held_link c.requires.sound.0 c.requires.held c.name.ensures c.args.slot
