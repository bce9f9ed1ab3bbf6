-- Each structure takes its step; those behind it are as ready as they were.
use Rattle.mi_index.specs.Passes.{joining, joined}
use Rattle.mi_index.proofs.StayLemmas.{joining_local}
use Rattle.mi_index.proofs.LoopLemmas.{begun, next_ready, stepped, finished}
use Rattle.mi_index.proofs.all.link_all.Goals as goal

pub loop-slot-init : goal.loop-slot-init
loop-slot-init c = begun (joining c.args.it.now.moves c.args.it.now.node c.args.it.now.stamp c.args.it.now.before) (joined c.args.it.now.moves c.args.it.now.node c.args.it.now.stamp c.args.it.now.before) c.args.it.now.node c.args.structures.now c.args.p.now c.requires

pub link_one-requires : goal.link_one-requires
link_one-requires c = next_ready c.loop-slot.invariant c.index-structures-slot.result c.loop-slot-test.true

pub loop-slot-preserved : goal.loop-slot-preserved
loop-slot-preserved c =
    stepped c.loop-slot.invariant c.index-structures-slot.result (joining_local c.args.it.now.moves c.args.it.now.node c.args.it.now.stamp c.args.it.now.before) c.loop-slot-test.true
    c.link_one.ensures.step c.link_one.ensures.like

pub returns-clause-pass : goal.returns-clause-pass
returns-clause-pass c = (finished c.loop-slot.invariant (joining_local c.args.it.now.moves c.args.it.now.node c.args.it.now.stamp c.args.it.now.before) c.loop-slot-test.false).1

pub returns-clause-like : goal.returns-clause-like
returns-clause-like c = (finished c.loop-slot.invariant (joining_local c.args.it.now.moves c.args.it.now.node c.args.it.now.stamp c.args.it.now.before) c.loop-slot-test.false).0
