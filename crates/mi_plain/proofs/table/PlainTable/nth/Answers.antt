-- Each id is shown at its rank, and every rank has an id.
use Rattle.std.proofs.Common.{sym, ◌∙◌}
use Rattle.mi_plain.proofs.BoundaryLemmas.{listed_sorted}
use Rattle.mi_plain.proofs.PassLemmas.{there_is}
use Rattle.mi_plain.proofs.ScanLemmas.{nth_found, nth_none}
use Rattle.mi_plain.proofs.table.PlainTable.nth.Goals as goal

pub rank_of-requires-clause-id : goal.rank_of-requires-clause-id
rank_of-requires-clause-id c =
    there_is c.args.self.now _ c.ids-ids.result.now c.loop-id.id-index 0 c.ids-ids.ensures
    (listed_sorted c.args.schema.now c.args.self.now c.args.x c.requires.is c.requires.kind) c.loop-id-test.true

pub returns-then-rank_of-n : goal.returns-then-rank_of-n
returns-then-rank_of-n c =
    nth_found c.args.schema.now c.args.self.now c.args.x c.ids-ids.result.now c.loop-id.id-index c.args.n c.ids-ids.ensures
    (listed_sorted c.args.schema.now c.args.self.now c.args.x c.requires.is c.requires.kind) c.loop-id-test.true
    (sym c.rank_of.ensures ∙ c.if-rank_of-n.true)

pub returns : goal.returns
returns c =
    nth_none c.args.schema.now c.args.self.now c.args.x c.ids-ids.result.now c.loop-id.id-index c.args.n c.ids-ids.ensures
    (listed_sorted c.args.schema.now c.args.self.now c.args.x c.requires.is c.requires.kind) c.loop-id-test.false c.loop-id.invariant
