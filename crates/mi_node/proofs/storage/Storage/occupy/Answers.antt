-- A free place is taken by a new reference, and the map has that node more.
use Rattle.std.proofs.Common.{◌≡◌, ◌<◌, ◌==◌, Some, ap, sym, subst, length, slice_set, replicate, ◌∙◌}
use Rattle.mi_node.specs.Columns.{links_at}
use Rattle.mi_node.specs.Pool.{no_link, ref_of}
use Rattle.mi_node.specs.Seen.{seen, IsSound}
use Rattle.mi_node.specs.Spares.{AreListed, GoesOn}
use Rattle.mi_node.specs.declared.slab_entry.SlabEntry.TheVariants.{Held}
use Rattle.mi_node.proofs.MapLemmas.{free_less, free_found, free-seen, named_found, some_wide, up_to, seen-occupied, sound-columns, sound-held, other_than_last, at_index}
use Rattle.mi_node.proofs.SpareLemmas.{listed-held}
use Rattle.mi_node.proofs.storage.Storage.occupy.Goals as goal

pub at-requires : goal.at-requires
at-requires g c = free_less c.args.self.now.slab c.args.place c.requires.free

pub next_at-node-requires : goal.next_at-node-requires
next_at-node-requires g c = free_found c.args.self.now.slab c.args.place c.at.result.now c.requires.free c.at.ensures

pub clear-requires : goal.clear-requires
clear-requires g c s there =
    let p = c.args.self.now in up_to c.args.place (length p.slab) _ (free_less p.slab c.args.place c.requires.free) (c.requires.sound.0.long s there)

pub set-requires : goal.set-requires
set-requires g c = free_less c.args.self.now.slab c.args.place c.requires.free

pub returns : goal.returns
returns g c =
    let p = c.args.self.now in let r = c.next_at-node.result.0 in let ds = c.clear.new.columns.items in
    let less = free_less p.slab c.args.place c.requires.free in
    let name : r.name ≡ c.args.place = c.next_at-node.ensures.name
    ∙ named_found p.slab c.args.place c.at.result.now c.requires.sound.0.named less c.at.ensures in
    let wide : length p.columns.items ≡ p.slots = some_wide p.slots p.columns.items p.slab c.args.place c.requires.sound.0 less in
    record {
      free = ap (ref_of (seen p.slots p.columns.items p.slab p.last_freed.marks)) name
          ∙ free-seen p.slots p.columns.items p.slab p.last_freed.marks c.args.place c.requires.free;
      other = other_than_last p.slots p.columns.items p.slab p.last_freed.marks c.args.place c.at.result.now r c.requires.sound.0 c.requires.free c.at.ensures name
          c.next_at-node.ensures.generation;
      nodes = ap (λ hs. seen p.slots ds hs p.last_freed.marks) (c.set.ensures ∙ ap (λ k. slice_set p.slab k (Held r c.args.value)) (sym name))
          ∙ seen-occupied p.slots p.columns.items ds p.slab p.last_freed.marks r c.args.value (subst (λ k. k < length p.slab) (sym name) less)
          (λ q e. c.clear.ensures.others q (ap (λ k. q == k) (sym name) ∙ e))
          (ap (links_at ds) name ∙ c.clear.ensures.links ∙ ap (λ n. replicate n no_link) wide);
      sound = subst (λ hs. IsSound p.slots ds hs p.last_freed.marks × AreListed hs p.last_freed.marks c.next_at-node.result.1) (sym c.set.ensures) (
        sound-held p.slots ds p.slab c.args.place r c.args.value
            (sound-columns p.slots p.columns.items ds p.slab c.requires.sound.0 c.clear.ensures.count c.clear.ensures.long) name less,
        listed-held p.slab p.last_freed.marks c.args.place c.next_at-node.result.1 r c.args.value
            (subst (AreListed p.slab p.last_freed.marks) c.requires.first c.requires.sound.1) less
            (subst (GoesOn c.next_at-node.result.1) (sym (at_index p.slab c.args.place c.at.result.now less ∙ ap Some (sym c.at.ensures))) c.next_at-node.ensures.next),
      );
    }
