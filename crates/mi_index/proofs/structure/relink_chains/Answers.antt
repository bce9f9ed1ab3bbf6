-- A node comes back to the chains, between those of its key that the place names.
use Rattle.std.proofs.Common.{sym, subst, ◌∷◌, ◌++◌, refl}
use Rattle.mi_node.specs.Pool.{Keeps}
use Rattle.mi_node.specs.declared.link.Link.{Link}
use Rattle.mi_node.specs.declared.link.Tag.{Tag}
use Rattle.mi_node.proofs.EntryLemmas.{same_refl}
use Rattle.mi_chain.specs.Chained.{AreChained, FitsBetween}
use Rattle.mi_order.specs.Orders.{keying_of}
use Rattle.mi_index.proofs.JoinLemmas.{chain_placed, chains_with, chains_stamped}
use Rattle.mi_index.proofs.structure.relink_chains.Goals as goal

pub hash_of-hash-requires : goal.hash_of-hash-requires
hash_of-hash-requires c = c.requires.can.held

pub relink-requires : goal.relink-requires
relink-requires c =
    let d = c.args.chains.now in let m = c.args.p.now in let q = c.requires in let j = q.can in let p = j.place in let k = keying_of d.keys in (
      p.xs,
      p.ys,
      subst (AreChained d k m) p.parts q.stands.0,
      record {
        placed = chain_placed k m d.slot c.args.node c.args.place.stamp q.rs p.xs p.ys j.held j.out j.few p.parts p.below p.above;
        hash_is = c.hash_of-hash.ensures;
        back_is = p.beside.0;
        forth_is = p.beside.1;
      },
    )

pub returns-clause-step : goal.returns-clause-step
returns-clause-step c rs h j =
    let d = c.args.chains.now in let m = c.args.p.now in let r = c.args.node in let e = c.relink.ensures in let n = c.relink.new.p in let p = j.place in
    let k = keying_of d.keys in
    let a = subst (AreChained d k m) p.parts h.0 in
    let tag : Tag = record { key = c.hash_of-hash.result; stamp = c.args.place.stamp } in
    let l : Link = record { back = c.args.place.back; forth = c.args.place.forth; size = 0; height = 0; tag = tag } in
    let b : FitsBetween k m d.slot r l p.xs p.ys =
    record {
      placed = chain_placed k m d.slot r c.args.place.stamp rs p.xs p.ys j.held j.out j.few p.parts p.below p.above;
      hash_is = c.hash_of-hash.ensures;
      back_is = p.beside.0;
      forth_is = p.beside.1;
    } in
    record {
      us = p.xs ++ r ∷ p.ys;
      done = record {
        back = record { xs = p.xs; ys = p.ys; was = p.parts; now = refl };
        beside = p.beside;
        stamped = chains_stamped d m n r tag e.tags;
      };
      stands = chains_with d c.relink.new.self m n r tag rs p.xs p.ys e.slot e.keys e.tags
          (same_refl r.name) j.out p.parts h.1 p.below p.above (e.list p.xs p.ys a b);
      keeps = subst (λ l. Keeps m n d.slot (r ∷ l)) (sym p.parts) (e.keeps p.xs p.ys a b);
    }
