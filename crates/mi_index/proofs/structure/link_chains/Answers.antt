-- A node joins the chains between those of lower and of greater stamps.
use Rattle.std.proofs.Common.{sym, subst, ◌∷◌, ◌++◌, refl}
use Rattle.mi_node.specs.Pool.{Keeps}
use Rattle.mi_node.specs.declared.link.Tag.{Tag}
use Rattle.mi_node.proofs.EntryLemmas.{same_refl}
use Rattle.mi_chain.specs.Keying.{stamp_at, hash_node}
use Rattle.mi_chain.specs.Chained.{AreChained}
use Rattle.mi_order.specs.Orders.{keying_of}
use Rattle.mi_index.proofs.JoinLemmas.{cut_at, chain_placed, chains_with, chains_stamped}
use Rattle.mi_index.proofs.structure.link_chains.Goals as goal

pub insert-requires : goal.insert-requires
insert-requires c =
    let d = c.args.chains.now in let m = c.args.p.now in let q = c.requires in let j = q.can in
    let u = cut_at (stamp_at m d.slot) c.args.stamp q.rs q.stands.1 j.place in (
      u.xs,
      u.ys,
      subst (AreChained d (keying_of d.keys) m) u.parts q.stands.0,
      chain_placed (keying_of d.keys) m d.slot c.args.node c.args.stamp q.rs u.xs u.ys j.held j.out j.few u.parts u.below u.above,
    )

pub returns-clause-step : goal.returns-clause-step
returns-clause-step c rs h j =
    let d = c.args.chains.now in let m = c.args.p.now in let r = c.args.node in let e = c.insert.ensures in let n = c.insert.new.p in
    let k = keying_of d.keys in
    let u = cut_at (stamp_at m d.slot) c.args.stamp rs h.1 j.place in
    let a = subst (AreChained d k m) u.parts h.0 in
    let b = chain_placed k m d.slot r c.args.stamp rs u.xs u.ys j.held j.out j.few u.parts u.below u.above in
    let tag : Tag = record { key = hash_node k m r; stamp = c.args.stamp } in
    record {
      us = u.xs ++ r ∷ u.ys;
      done = record {
        joined = record { xs = u.xs; ys = u.ys; was = u.parts; now = refl };
        put = tt;
        stamped = chains_stamped d m n r tag e.tags;
      };
      stands = chains_with d c.insert.new.self m n r tag rs u.xs u.ys e.slot e.keys e.tags
          (same_refl r.name) j.out u.parts h.1 u.below u.above (e.list u.xs u.ys a b);
      keeps = subst (λ l. Keeps m n d.slot (r ∷ l)) (sym u.parts) (e.keeps u.xs u.ys a b);
    }
