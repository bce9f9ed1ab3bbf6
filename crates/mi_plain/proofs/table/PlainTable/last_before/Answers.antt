-- Each id of the list is there, at its place.
use Rattle.mi_plain.proofs.PassLemmas.{place_is, there_is, last_ends}
use Rattle.mi_plain.proofs.BoundaryLemmas.{order_in_total}
use Rattle.mi_plain.proofs.table.PlainTable.last_before.Goals as goal

pub is_before-requires-clause-place : goal.is_before-requires-clause-place
is_before-requires-clause-place c = place_is c.args.self.now _ c.ids-ids.result.now c.loop-i.i 0 c.ids-ids.ensures c.requires.listed c.loop-i-test.true

pub is_before-requires-clause-id : goal.is_before-requires-clause-id
is_before-requires-clause-id c = there_is c.args.self.now _ c.ids-ids.result.now c.loop-i.i 0 c.ids-ids.ensures c.requires.listed c.loop-i-test.true

pub later-best-requires-clause-id : goal.later-best-requires-clause-id
later-best-requires-clause-id c = there_is c.args.self.now _ c.ids-ids.result.now c.loop-i.i 0 c.ids-ids.ensures c.requires.listed c.loop-i-test.true

pub returns : goal.returns
returns c = last_ends (order_in_total c.args.index.now c.args.self.now) _ c.loop-i.best
    _ c.ids-ids.result.now c.loop-i.i c.ids-ids.ensures c.loop-i-test.false c.loop-i.invariant.left
