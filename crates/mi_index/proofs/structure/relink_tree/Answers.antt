-- A node comes back to a tree by its key and stamp.
use Rattle.mi_tree.specs.Standing.{CanInsert}
use Rattle.mi_order.specs.Orders.{stored_order}
use Rattle.mi_index.proofs.JoinLemmas.{tree_with}
use Rattle.mi_index.proofs.structure.relink_tree.Goals as goal

pub insert-requires : goal.insert-requires
insert-requires c = let q = c.requires in let j = q.can in (q.rs, q.stands, record { held = j.held; out = j.out; differs = j.place; fits = j.few })

pub returns-clause-step : goal.returns-clause-step
returns-clause-step c rs h j =
    let t = c.args.tree.now in let e = c.insert.ensures in
    let w : CanInsert c.args.p.now t.slot (stored_order t.order.parts) c.args.node c.args.place.stamp rs =
    record { held = j.held; out = j.out; differs = j.place; fits = j.few } in
    let g = tree_with t c.insert.new.self c.args.p.now c.insert.new.p c.args.node c.args.place.stamp rs e.order (e.tree rs h w) e.stamp e.tags in
    record { us = g.us; done = record { back = g.with_it; beside = tt; stamped = g.stamped }; stands = g.stands; keeps = e.keeps rs h w }
