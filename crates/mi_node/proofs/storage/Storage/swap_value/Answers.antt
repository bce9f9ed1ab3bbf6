-- The place has another value and the same reference.
use Rattle.std.proofs.Common.{ap, sym, subst, slice_set, ◌∙◌}
use Rattle.mi_node.specs.Slab.{slab_entry_at}
use Rattle.mi_node.specs.Seen.{seen, IsSound}
use Rattle.mi_node.specs.Spares.{AreListed}
use Rattle.mi_node.specs.declared.slab_entry.SlabEntry.TheVariants.{Held}
use Rattle.mi_node.proofs.MapLemmas.{there, held_less, held_some, held_value, seen-value, sound-held}
use Rattle.mi_node.proofs.SpareLemmas.{listed-swapped}
use Rattle.mi_node.proofs.storage.Storage.swap_value.Goals as goal

pub replace-requires : goal.replace-requires
replace-requires g c = held_less c.requires.sound.0 c.requires.held c.name.ensures

pub into_value-requires : goal.into_value-requires
into_value-requires g c = held_some c.requires.sound.0 c.requires.held c.name.ensures c.replace.result c.replace.ensures.item

pub returns : goal.returns
returns g c =
    let p = c.args.self.now in
    record {
      value = held_value c.requires.sound.0 c.requires.held c.name.ensures c.replace.result c.replace.ensures.item ∙ c.into_value.ensures;
      nodes = ap (λ hs. seen p.slots p.columns.items hs p.last_freed.marks) (c.replace.ensures.items
          ∙ ap (λ k. slice_set p.slab k (Held c.args.node c.args.value)) c.name.ensures)
          ∙ seen-value p.slots p.columns.items p.slab p.last_freed.marks c.args.node c.args.value (there c.requires.sound.0 c.requires.held);
      sound = subst (λ hs. IsSound p.slots p.columns.items hs p.last_freed.marks × AreListed hs p.last_freed.marks p.free) (sym c.replace.ensures.items) (
        sound-held p.slots p.columns.items p.slab c.name.result c.args.node c.args.value c.requires.sound.0 (sym c.name.ensures)
            (held_less c.requires.sound.0 c.requires.held c.name.ensures),
        (let t = there c.requires.sound.0 c.requires.held in
            listed-swapped p.slab p.last_freed.marks p.free c.name.result c.args.node c.args.node t.value c.args.value c.requires.sound.1
            (held_less c.requires.sound.0 c.requires.held c.name.ensures) (ap (slab_entry_at p.slab) c.name.ensures ∙ t.at)),
      );
    }
