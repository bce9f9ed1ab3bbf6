-- Each structure takes its step; those behind it are as ready as they were.
use Rattle.std.proofs.Common.{◌∙◌}
use Rattle.mi_index.specs.Passes.{returning, returned}
use Rattle.mi_index.proofs.StayLemmas.{returning_local}
use Rattle.mi_index.proofs.LoopLemmas.{begun, next_ready, next_slot, same_refs, stepped, finished}
use Rattle.mi_index.proofs.all.relink_all.Goals as goal

pub loop-slot-init : goal.loop-slot-init
loop-slot-init c = (
  begun (returning c.args.moves.now c.args.node) (returned c.args.moves.now c.args.node) c.args.node c.args.structures.now c.args.p.now c.requires.all,
  c.requires.held,
)

pub relink_one-requires-clause-ready : goal.relink_one-requires-clause-ready
relink_one-requires-clause-ready c = next_ready c.loop-slot.invariant.0 c.index-structures-slot.result c.loop-slot-test.true

pub relink_one-requires-clause-held : goal.relink_one-requires-clause-held
relink_one-requires-clause-held c = c.loop-slot.invariant.1

pub relink_one-requires-clause-slot : goal.relink_one-requires-clause-slot
relink_one-requires-clause-slot c = next_slot c.loop-slot.invariant.0 c.index-structures-slot.result c.loop-slot-test.true

pub loop-slot-preserved : goal.loop-slot-preserved
loop-slot-preserved c = (
  stepped c.loop-slot.invariant.0 c.index-structures-slot.result (returning_local c.args.moves.now c.args.node) c.loop-slot-test.true
      c.relink_one.ensures.step c.relink_one.ensures.like,
  same_refs c.loop-slot.invariant.0 c.index-structures-slot.result c.loop-slot-test.true c.relink_one.ensures.step c.args.node.name ∙ c.loop-slot.invariant.1,
)

pub returns-clause-pass : goal.returns-clause-pass
returns-clause-pass c = (finished c.loop-slot.invariant.0 (returning_local c.args.moves.now c.args.node) c.loop-slot-test.false).1

pub returns-clause-like : goal.returns-clause-like
returns-clause-like c = (finished c.loop-slot.invariant.0 (returning_local c.args.moves.now c.args.node) c.loop-slot-test.false).0
