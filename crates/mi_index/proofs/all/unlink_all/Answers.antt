-- Each structure takes its step; those behind it are as ready as they were.
use Rattle.mi_index.specs.Passes.{leaving, left}
use Rattle.mi_index.proofs.StayLemmas.{leaving_local}
use Rattle.mi_index.proofs.LoopLemmas.{begun, next_ready, stepped, finished}
use Rattle.mi_index.proofs.all.unlink_all.Goals as goal

pub loop-slot-init : goal.loop-slot-init
loop-slot-init c = begun (leaving c.args.moves.now c.args.node) (left c.args.moves.now c.args.node) c.args.node c.args.structures.now c.args.p.now c.requires

pub unlink_one-requires : goal.unlink_one-requires
unlink_one-requires c = next_ready c.loop-slot.invariant c.index-structures-slot.result c.loop-slot-test.true

pub loop-slot-preserved : goal.loop-slot-preserved
loop-slot-preserved c =
    stepped c.loop-slot.invariant c.index-structures-slot.result (leaving_local c.args.moves.now c.args.node) c.loop-slot-test.true
    c.unlink_one.ensures.step c.unlink_one.ensures.like

pub returns-clause-pass : goal.returns-clause-pass
returns-clause-pass c = (finished c.loop-slot.invariant (leaving_local c.args.moves.now c.args.node) c.loop-slot-test.false).1

pub returns-clause-like : goal.returns-clause-like
returns-clause-like c = (finished c.loop-slot.invariant (leaving_local c.args.moves.now c.args.node) c.loop-slot-test.false).0
