-- A node leaves the chains, and the stamps of the others rise still.
use Rattle.std.proofs.Common.{subst, refl, ◌++◌, ◌∷◌}
use Rattle.mi_chain.specs.Keying.{stamp_at}
use Rattle.mi_chain.specs.Chained.{AreChained}
use Rattle.mi_order.specs.Orders.{keying_of}
use Rattle.mi_index.specs.Standing.{Climb}
use Rattle.mi_index.proofs.JoinLemmas.{climb_without, chains_kept, keeps_all}
use Rattle.mi_index.proofs.structure.unlink_chains.Goals as goal

pub remove-requires : goal.remove-requires
remove-requires c =
    let q = c.requires in (q.can.xs, q.can.ys, subst (AreChained c.args.chains.now (keying_of c.args.chains.now.keys) c.args.p.now) q.can.parts q.stands.0)

pub returns-clause-step : goal.returns-clause-step
returns-clause-step c rs h j =
    let d = c.args.chains.now in let m = c.args.p.now in let e = c.remove.ensures in let n = c.remove.new.p in let r = c.args.node in
    let w = subst (AreChained d (keying_of d.keys) m) j.parts h.0 in
    let f = e.remembers j.xs j.ys w in
    record {
      us = j.xs ++ j.ys;
      done = record { left = record { xs = j.xs; ys = j.ys; was = refl; now = j.parts }; remembers = (f.back_is, f.forth_is); tags = e.tags };
      stands = chains_kept d c.remove.new.self m n (j.xs ++ j.ys) e.slot e.keys e.tags (e.list j.xs j.ys w)
          (climb_without (stamp_at m d.slot) r j.xs j.ys (subst (Climb (stamp_at m d.slot)) j.parts h.1));
      keeps = keeps_all d.slot m n r rs (j.xs ++ r ∷ j.ys) j.parts (e.keeps j.xs j.ys w);
    }
