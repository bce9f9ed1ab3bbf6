-- A chunk of free places at the end changes no node, and each slot has a cell for each of them.
use Rattle.std.proofs.Common.{◌++◌, ◌+◌, refl, ap, sym, subst, length, ◌∙◌}
use Rattle.mi_node.specs.Slab.{AreFree, IsFreeAt}
use Rattle.mi_node.specs.Seen.{seen, IsSound}
use Rattle.mi_node.specs.Spares.{AreListed}
use Rattle.mi_node.specs.Columns.{AreLong}
use Rattle.mi_node.proofs.MapLemmas.{seen-wide, seen-columns, seen-more, sound-wide, sound-columns, sound-more, free_end, some_less, room_of}
use Rattle.mi_node.proofs.SpareLemmas.{listed-more}
use Rattle.mi_node.proofs.storage.Storage.add_chunk.Goals as goal

pub returns-in_err-add_columns-clause-nodes : goal.returns-in_err-add_columns-clause-nodes
returns-in_err-add_columns-clause-nodes g c =
    let p = c.args.self.now in let n = p.slots in let cs = p.columns.items in let hs = p.slab in let ds = c.add_columns.new.columns.items in
    seen-wide n cs ds hs c.requires.sound.0 c.add_columns.ensures.full

pub returns-in_err-lengthen-clause-nodes : goal.returns-in_err-lengthen-clause-nodes
returns-in_err-lengthen-clause-nodes g c =
    let p = c.args.self.now in let n = p.slots in let cs = p.columns.items in let hs = p.slab in let ds = c.add_columns.new.columns.items in
    seen-columns n ds c.lengthen.new.columns.items hs p.last_freed.marks c.lengthen.ensures.links ∙ seen-wide n cs ds hs c.requires.sound.0 c.add_columns.ensures.full

pub returns-in_err-chunk_of_free-clause-nodes : goal.returns-in_err-chunk_of_free-clause-nodes
returns-in_err-chunk_of_free-clause-nodes g c =
    let p = c.args.self.now in let n = p.slots in let cs = p.columns.items in let hs = p.slab in let ds = c.add_columns.new.columns.items in
    seen-columns n ds c.lengthen.new.columns.items hs p.last_freed.marks c.lengthen.ensures.links ∙ seen-wide n cs ds hs c.requires.sound.0 c.add_columns.ensures.full

pub returns-in_err-add-clause-nodes : goal.returns-in_err-add-clause-nodes
returns-in_err-add-clause-nodes g c =
    let p = c.args.self.now in let n = p.slots in let cs = p.columns.items in let hs = p.slab in let ds = c.add_columns.new.columns.items in
    let es = c.lengthen.new.columns.items in
    ap (λ gs. seen n es gs p.last_freed.marks) c.in_err-add.ensures.err ∙ seen-columns n ds es hs p.last_freed.marks c.lengthen.ensures.links
    ∙ seen-wide n cs ds hs c.requires.sound.0 c.add_columns.ensures.full

pub returns : goal.returns
returns g c =
    let p = c.args.self.now in let n = p.slots in let cs = p.columns.items in let hs = p.slab in let ds = c.add_columns.new.columns.items in
    let es = c.lengthen.new.columns.items in
    let fs = c.in_ok-chunk_of_free.field-0.row.items in
    let free : AreFree (length hs) fs = subst (λ k. AreFree k fs) c.len-first.ensures c.in_ok-chunk_of_free.ensures in
    let sound = sound-columns n ds es hs (sound-wide n cs ds hs c.requires.sound.0 c.add_columns.ensures.few c.add_columns.ensures.full)
    c.lengthen.ensures.count c.lengthen.ensures.long in
    let long : AreLong (length hs + length fs) es = subst (λ k. AreLong k es)
    (room_of c.len-first.result (length hs) (length fs) c.len-first.ensures c.in_ok-chunk_of_free.field-0.row.long.0) c.in_ok-lengthen.ensures.ok in
    record {
      place = subst (λ gs. IsFreeAt gs c.len-first.result) (sym c.in_ok-add.ensures.ok) (subst (IsFreeAt (hs ++ fs)) (sym c.len-first.ensures)
          (free_end (length hs) hs fs free (some_less (length fs) c.in_ok-chunk_of_free.field-0.row.long.0)));
      nodes = ap (λ gs. seen n es gs p.last_freed.marks) c.in_ok-add.ensures.ok ∙ seen-more n (length hs) es hs fs p.last_freed.marks free
          ∙ seen-columns n ds es hs p.last_freed.marks c.lengthen.ensures.links ∙ seen-wide n cs ds hs c.requires.sound.0 c.add_columns.ensures.full;
      first = refl;
      sound = subst (λ gs. IsSound n es gs p.last_freed.marks × AreListed gs p.last_freed.marks c.len-first.result) (sym c.in_ok-add.ensures.ok) (
        sound-more n es hs fs sound (c.lengthen.ensures.count ∙ c.in_ok-add_columns.ensures.ok) free long,
        listed-more hs fs p.last_freed.marks p.free c.len-first.result c.requires.sound.0 c.requires.sound.1 c.requires.none,
      );
    }
