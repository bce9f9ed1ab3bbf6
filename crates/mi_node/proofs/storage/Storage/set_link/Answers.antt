-- The cell of the node's place is set, and the map has the link at that node alone.
use Rattle.mi_node.proofs.MapLemmas.{held_wide, held_long, held_put, sound-columns}
use Rattle.mi_node.proofs.storage.Storage.set_link.Goals as goal

pub set_link_at-requires : goal.set_link_at-requires
set_link_at-requires g c = let h = c.requires in
    record { slot = held_wide h.sound.0 h.held c.name.ensures c.args.slot h.slot; place = held_long h.sound.0 h.held c.name.ensures c.args.slot h.slot }

pub returns : goal.returns
returns g c = let h = c.requires in let e = c.set_link_at.ensures in record {
  nodes = held_put h.sound.0 h.held c.name.ensures _ c.args.slot c.args.link e.others e.link;
  sound = (sound-columns _ _ _ _ h.sound.0 e.count e.long, h.sound.1);
}
