-- A node that leaves a list keeps its own link.
use Rattle.std.proofs.Common.{subst, refl, ◌++◌, ◌∙◌, sym, ap}
use Rattle.mi_node.specs.Pool.{link_of}
use Rattle.mi_list.specs.Listed.{slot_of, IsListed}
use Rattle.mi_index.proofs.JoinLemmas.{keeps_with}
use Rattle.mi_index.proofs.structure.unlink_list.Goals as goal

pub unlink-requires : goal.unlink-requires
unlink-requires c = let q = c.requires in (q.can.xs, q.can.ys, subst (IsListed c.args.list.now c.args.p.now) q.can.parts q.stands)

pub returns-clause-step : goal.returns-clause-step
returns-clause-step c rs h j =
    let l = c.args.list.now in let e = c.unlink.ensures in let n = c.unlink.new.p in
    let w = subst (IsListed l c.args.p.now) j.parts h in
    let f = e.list j.xs j.ys w in
    let at = ap (link_of n c.args.node.name) (sym e.slot) in
    record {
      us = j.xs ++ j.ys;
      done = record {
        left = record { xs = j.xs; ys = j.ys; was = refl; now = j.parts };
        remembers = (ap (λ y. y.back) at ∙ f.back_is, ap (λ y. y.forth) at ∙ f.forth_is);
        tags = tt;
      };
      stands = f.listed;
      keeps = keeps_with (slot_of l) c.args.p.now n c.args.node rs j.xs j.ys j.parts (e.keeps j.xs j.ys w);
    }
