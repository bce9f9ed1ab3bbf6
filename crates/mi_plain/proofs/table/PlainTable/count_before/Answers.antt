-- Each id of the list is there, at its place.
use Rattle.std.proofs.Common.{◌≡◌, length, take, arith}
use Rattle.std.specs.List.{filter}
use Rattle.mi_model.specs.Table.{list_of}
use Rattle.mi_plain.specs.Boundary.{is_before}
use Rattle.mi_plain.proofs.PassLemmas.{place_is, there_is, count-take}
use Rattle.mi_plain.proofs.table.PlainTable.count_before.Goals as goal

pub is_before-requires-clause-place : goal.is_before-requires-clause-place
is_before-requires-clause-place c = place_is c.args.self.now _ c.ids-ids.result.now c.loop-i.i 0 c.ids-ids.ensures c.requires.listed c.loop-i-test.true

pub is_before-requires-clause-id : goal.is_before-requires-clause-id
is_before-requires-clause-id c = there_is c.args.self.now _ c.ids-ids.result.now c.loop-i.i 0 c.ids-ids.ensures c.requires.listed c.loop-i-test.true

pub overflow_add-n : goal.overflow_add-n
overflow_add-n c =
    let few = count-take (λ a. is_before c.args.index.now c.args.self.now (list_of c.args.self.now c.args.x) c.args.key.now c.args.boundary a)
    c.loop-i.i c.ids-ids.result.now in
    let counted : c.loop-i.n
    ≡ length (filter (λ a. is_before c.args.index.now c.args.self.now (list_of c.args.self.now c.args.x) c.args.key.now c.args.boundary a)
    (take c.loop-i.i c.ids-ids.result.now)) = c.loop-i.invariant in
    omega (arith, few, counted, c.loop-i-test.true)
