-- A node leaves a tree.
use Rattle.std.proofs.Common.{sym, subst, refl, ◌++◌}
use Rattle.mi_tree.specs.Standing.{IsTree}
use Rattle.mi_order.specs.Orders.{stored_order, stored_tag}
use Rattle.mi_index.specs.Standing.{Stands}
use Rattle.mi_order.specs.declared.orders.ByKey.{ByKey}
use Rattle.mi_index.specs.declared.structure.Structure.TheVariants.{Sorted}
use Rattle.mi_index.proofs.JoinLemmas.{keeps_with}
use Rattle.mi_index.proofs.structure.unlink_tree.Goals as goal

pub remove-requires : goal.remove-requires
remove-requires c = let q = c.requires in (q.can.xs, q.can.ys, subst (Stands (Sorted c.args.tree.now) c.args.p.now) q.can.parts q.stands)

pub returns-clause-step : goal.returns-clause-step
returns-clause-step c rs h j =
    let t = c.args.tree.now in let e = c.remove.ensures in let n = c.remove.new.p in
    let w = subst (Stands (Sorted t) c.args.p.now) j.parts h in
    record {
      us = j.xs ++ j.ys;
      done = record { left = record { xs = j.xs; ys = j.ys; was = refl; now = j.parts }; remembers = tt; tags = e.tags };
      stands = subst (λ (o : ByKey). IsTree c.remove.new.self n (stored_order o.parts) (stored_tag o.types o.parts) (j.xs ++ j.ys))
          (sym e.order) (e.tree j.xs j.ys w);
      keeps = keeps_with t.slot c.args.p.now n c.args.node rs j.xs j.ys j.parts (e.keeps j.xs j.ys w);
    }
