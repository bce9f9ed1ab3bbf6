-- Each node on the path to the first one is ahead, so it goes onto the path, which has room.
use Rattle.std.proofs.Common.{◌<◌, length, Option, refl, sym, subst, arith}
use Rattle.mi_node.specs.Pool.{Pooled}
use Rattle.mi_node.specs.Refs.{Ref}
use Rattle.mi_tree.specs.BinaryTree.{height_at}
use Rattle.mi_tree.specs.declared.walk.TheConstants.{MAX_LEVELS}
use Rattle.mi_tree.proofs.BinaryTreeLemmas.{slot-moved}
use Rattle.mi_tree.proofs.WalkLemmas.{entered, enters_moved, goes_moved, ahead_near}
use Rattle.mi_tree.proofs.walk.+go_down.Goals as goal

pub push-requires : goal.push-requires
push-requires g t c =
    let room : length c.args.path.now.items < MAX_LEVELS = (entered c.requires.way.3 c.in-Some.is refl).room in (omega arith, room)

pub go_down-requires : goal.go_down-requires
go_down-requires g t c κs within =
    let w = c.requires.way in let o = entered w.3 c.in-Some.is c.link.ensures.link in let same = c.link.ensures.pool in let s = c.args.slot in
    let falls : height_at c.link.new.self.pool s c.near-before.result < height_at c.args.p.now.pool s c.args.at =
    subst (λ (z : Pooled g.row.T.Denot × Option Ref × Option Ref). height_at z.0 s z.1 < height_at c.args.p.now.pool s z.2)
    (λ i. (sym same i, sym c.near-before.ensures i, sym c.in-Some.is i)) o.near_lower in
    let way = enters_moved o.before same c.push.ensures.items c.near-before.ensures in
    (omega (arith, c.decreases, falls), (within, (slot-moved s same c.requires.slot, (w.0, _, _, way))))

pub returns-clause-way : goal.returns-clause-way
returns-clause-way g t c levels xs u h =
    let o = entered h c.in-Some.is c.link.ensures.link in let same = c.link.ensures.pool in
    let on = c.go_down.ensures.way levels _ _ (enters_moved o.before same c.push.ensures.items c.near-before.ensures) in
    (on.0, goes_moved same on.1, ahead_near c.args.direction o.left c.in-Some.node o.right u xs on.0 o.is on.2)
