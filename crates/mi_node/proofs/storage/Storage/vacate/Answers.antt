-- The place is free and keeps the reference, which is then the last that was given back there.
use Rattle.std.proofs.Common.{◌≡◌, ℕ, ap, sym, subst, slice_set, ◌∙◌}
use Rattle.std.specs.FinMap.{insert}
use Rattle.mi_node.specs.Seen.{seen, IsSound}
use Rattle.mi_node.specs.Spares.{AreListed}
use Rattle.mi_node.specs.declared.slab_entry.SlabEntry.TheVariants.{Free}
use Rattle.mi_node.proofs.MapLemmas.{there, held_less, held_some, held_value, seen-vacated, sound-free}
use Rattle.mi_node.proofs.SpareLemmas.{listed-free}
use Rattle.mi_node.proofs.storage.Storage.vacate.Goals as goal

pub replace-slab_entry-requires : goal.replace-slab_entry-requires
replace-slab_entry-requires g c = held_less c.requires.sound.0 c.requires.held c.name.ensures

pub into_value-requires : goal.into_value-requires
into_value-requires g c = held_some c.requires.sound.0 c.requires.held c.name.ensures c.replace-slab_entry.result c.replace-slab_entry.ensures.item

pub returns : goal.returns
returns g c =
    let p = c.args.self.now in let r = c.args.node in
    let slab = c.replace-slab_entry.ensures.items ∙ ap (λ k. slice_set p.slab k (Free r p.free)) c.name.ensures in
    let marks : c.note.new.self.marks ≡ insert p.last_freed.marks r.name r.generation =
    c.note.ensures ∙ (λ i. insert p.last_freed.marks (c.bits.ensures.name i) (c.bits.ensures.generation i)) in
    record {
      value = held_value c.requires.sound.0 c.requires.held c.name.ensures c.replace-slab_entry.result c.replace-slab_entry.ensures.item ∙ c.into_value.ensures;
      nodes = (λ i. seen p.slots p.columns.items (slab i) (marks i))
          ∙ seen-vacated p.slots p.columns.items p.slab p.last_freed.marks r p.free (there c.requires.sound.0 c.requires.held);
      sound = (let t = there c.requires.sound.0 c.requires.held in
          subst (λ (z : _ × (_ × ℕ)). IsSound p.slots p.columns.items z.0 z.1.0 × AreListed z.0 z.1.0 z.1.1)
          (λ i. (sym slab i, (sym marks i, sym c.name-self.ensures i))) (
            sound-free p.slots p.columns.items p.slab p.last_freed.marks r p.free c.requires.sound.0 t.less,
            listed-free p.slab p.last_freed.marks p.free r r t.value c.requires.sound.1 t.less t.at,
          ));
    }
