-- Each structure takes its step; those behind it are as ready as they were.
use Rattle.mi_index.specs.Inserting.{relocating_at, relocated_at}
use Rattle.mi_index.proofs.StayLemmas.{relocating_local}
use Rattle.mi_index.proofs.LoopLemmas.{begun, next_ready, stepped, finished}
use Rattle.mi_index.proofs.all.relocate_all.Goals as goal

pub loop-slot-init : goal.loop-slot-init
loop-slot-init c = begun (relocating_at c.args.index c.args.node c.args.before) (relocated_at c.args.index c.args.node c.args.before) c.args.node c.args.structures.now c.args.p.now c.requires

pub relocate_one-requires : goal.relocate_one-requires
relocate_one-requires c = next_ready c.loop-slot.invariant c.index-structures-slot.result c.loop-slot-test.true

pub loop-slot-preserved : goal.loop-slot-preserved
loop-slot-preserved c =
    stepped c.loop-slot.invariant c.index-structures-slot.result (relocating_local c.args.index c.args.node c.args.before) c.loop-slot-test.true
    c.relocate_one.ensures.step c.relocate_one.ensures.like

pub returns-clause-pass : goal.returns-clause-pass
returns-clause-pass c = (finished c.loop-slot.invariant (relocating_local c.args.index c.args.node c.args.before) c.loop-slot-test.false).1

pub returns-clause-like : goal.returns-clause-like
returns-clause-like c = (finished c.loop-slot.invariant (relocating_local c.args.index c.args.node c.args.before) c.loop-slot-test.false).0
