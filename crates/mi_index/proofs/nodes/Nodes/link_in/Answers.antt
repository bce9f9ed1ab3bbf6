-- Chains grow, a node is taken, and then it comes into each structure.
use Rattle.std.proofs.Common.{sym, subst}
use Rattle.mi_index.specs.Pass.{AreReady, IsPass}
use Rattle.mi_index.specs.Passes.{joining, joined}
use Rattle.mi_index.specs.declared.moved_indexes.MovedIndexes.TheVariants.{All}
use Rattle.mi_index.proofs.InsertLemmas.{roomy_all, like_both, nothing_all, can_insert, is_inserted}
use Rattle.mi_index.proofs.nodes.Nodes.link_in.Goals as goal

pub make_room-requires : goal.make_room-requires
make_room-requires c =
    let q = c.requires.room in record { rss = q.rss; stand = q.stand; can = nothing_all c.args.self.now.structures.items 0 c.args.self.now.pool q.rss }

pub link-requires : goal.link-requires
link-requires c =
    let i = c.args.self.now in let n = c.make_room.new.p in let r = c.in_ok-node.node in
    subst (AreReady (joining All r c.args.stamp c.args.before) 0 c.make_room.new.self.items) (sym c.in_ok-node.ensures.ok)
    (can_insert i.pool n r c.args.stored c.args.stamp c.args.before i.structures.items c.make_room.new.self.items
    c.make_room.ensures.like c.make_room.ensures.pass c.in_ok-node.ensures.free c.requires.room)

pub returns-clause-ok : goal.returns-clause-ok
returns-clause-ok c =
    let i = c.args.self.now in let n = c.make_room.new.p in let r = c.in_ok-node.node in
    let ys = c.make_room.new.self.items in let zs = c.link.new.self.items in
    let p = c.link.new.p in
    is_inserted i.pool n r c.args.stored c.args.stamp c.args.before i.structures.items ys
    c.make_room.ensures.like c.make_room.ensures.pass c.in_ok-node.ensures.free zs p
    (subst (λ z. IsPass (joining All r c.args.stamp c.args.before) (joined All r c.args.stamp c.args.before) r 0 ys zs z p)
    c.in_ok-node.ensures.ok c.link.ensures.pass)

pub returns-clause-like : goal.returns-clause-like
returns-clause-like c = like_both c.args.self.now.structures.items c.make_room.new.self.items
    c.link.new.self.items c.make_room.ensures.like c.link.ensures.like

pub returns-clause-room : goal.returns-clause-room
returns-clause-room c = roomy_all c.make_room.new.self.items c.link.new.self.items c.args.n c.link.ensures.like c.in_default.ensures.room
