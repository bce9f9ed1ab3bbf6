-- The first node of the right side goes between the two sides, which then stand in one tree in their order.
use Rattle.std.proofs.Common.{subst}
use Rattle.mi_tree.specs.Sorted.{AreAppended}
use Rattle.mi_tree.proofs.BinaryTreeLemmas.{held-root}
use Rattle.mi_tree.proofs.RotationLemmas.{sides_read}
use Rattle.mi_tree.proofs.RemoveLemmas.{ends_take, ends_none, ends_alone, ends_sides, ends_appended}
use Rattle.mi_tree.proofs.change.append.Goals as goal

pub take_first-first-requires-clause-tree : goal.take_first-first-requires-clause-tree
take_first-first-requires-clause-tree g c = let w = c.requires.ends in (w.1, ends_take w.2 c.in-Some.is)

pub of-before-requires-clause-held : goal.of-before-requires-clause-held
of-before-requires-clause-held g c =
    let w = c.requires.ends in let took = c.take_first-first.ensures.tree w.1 (ends_take w.2 c.in-Some.is) in
    held-root c.take_first-first.new.p c.args.slot c.args.left w.0 (ends_sides w.2 took.2 took.3).left_is

pub of-after-requires-clause-held : goal.of-after-requires-clause-held
of-after-requires-clause-held g c =
    let w = c.requires.ends in let took = c.take_first-first.ensures.tree w.1 (ends_take w.2 c.in-Some.is) in
    held-root c.take_first-first.new.p c.args.slot _ took.0 (ends_sides w.2 took.2 took.3).right_is

pub balance-top-requires-clause-sides : goal.balance-top-requires-clause-sides
balance-top-requires-clause-sides g c =
    let w = c.requires.ends in let took = c.take_first-first.ensures.tree w.1 (ends_take w.2 c.in-Some.is) in
    let k = sides_read c.of-before.ensures c.of-after.ensures (ends_sides w.2 took.2 took.3) in (w.0, took.0, k.0, k.1, k.2)

pub returns-in-None-clause-tree : goal.returns-in-None-clause-tree
returns-in-None-clause-tree g c l q h = (l, ends_none h c.in-None.is)

pub returns-in-Some-left-clause-tree : goal.returns-in-Some-left-clause-tree
returns-in-Some-left-clause-tree g c l q h =
    let took = c.take_first-first.ensures.tree q (ends_take h c.in-Some.is) in
    let k = sides_read c.of-before.ensures c.of-after.ensures (ends_sides h took.2 took.3) in
    let whole = c.balance-top.ensures.tree l took.0 k.0 k.1 k.2 in
    (whole.0, ends_appended h took.2 took.3 whole.1)

pub returns-in_default-clause-tree : goal.returns-in_default-clause-tree
returns-in_default-clause-tree g c l q h =
    (q, subst (λ o. AreAppended c.args.p.now c.args.p.now c.args.slot l q o q) c.in-Some.is (ends_alone h c.in_default.is))
