-- The heights are those of the sides, so the case that is taken is the one that balances them.
use Rattle.std.proofs.Common.{◌≡◌, ◌≤◌, ◌+◌, ◌-◌, Some, refl, sym, ap, ◌∙◌, arith}
use Rattle.mi_node.specs.declared.link.Link.{Link}
use Rattle.mi_tree.specs.BinaryTree.{Fork, height, DifferByAtMost}
use Rattle.mi_tree.proofs.BinaryTreeLemmas.{height-root}
use Rattle.mi_tree.proofs.HeightLemmas.{low_enough}
use Rattle.mi_tree.proofs.RotationLemmas.{plains, plain_parts, linked_by}
use Rattle.mi_tree.proofs.balance.balance.Goals as goal

pub overflow_add-height : goal.overflow_add-height
overflow_add-height g c =
    let w = c.requires.sides in let a = w.3 in let b = w.4 in let f = w.2.fits in let e = c.max-height.ensures in
    let low = low_enough _ w.2.left_even (omega arith) in let high = low_enough _ w.2.right_even (omega arith) in omega arith

pub set_fork-requires-clause-parts : goal.set_fork-requires-clause-parts
set_fork-requires-clause-parts g c =
    let w = c.requires.sides in let a = w.3 in let b = w.4 in let e = c.max-height.ensures in
    (w.0, w.1, record { two = plain_parts w.2; size_is = omega arith; height_is = omega arith; tag_is = ap (λ (y : Link). y.tag) c.link.ensures })

pub returns-then-abs_diff-le1-clause-tree : goal.returns-then-abs_diff-le1-clause-tree
returns-then-abs_diff-le1-clause-tree g c l q h a b =
    let e = c.max-height.ensures in
    let close : c.args.left.height - c.args.right.height + (c.args.right.height - c.args.left.height) ≤ 1 = omega (arith, c.abs_diff.ensures) in
    let near : DifferByAtMost 1 (height l) (height q) = (omega arith, omega arith) in
    let set = c.set_fork.ensures in
    plains h near (set.tree l q (record { two = plain_parts h; size_is = omega arith; height_is = omega arith; tag_is = ap (λ (y : Link). y.tag) c.link.ensures }))
    set.keeps set.tags

pub returns-then-abs_diff-le1-clause-height : goal.returns-then-abs_diff-le1-clause-height
returns-then-abs_diff-le1-clause-height g c =
    let w = c.requires.sides in let a = w.3 in let b = w.4 in let e = c.max-height.ensures in
    let high : c.max-height.result + 1 ≡ height (Fork w.0 c.args.node w.1) = omega arith in
    high ∙ sym (height-root c.set_fork.new.p c.args.slot (Some c.args.node) (Fork w.0 c.args.node w.1)
    (c.set_fork.ensures.tree w.0 w.1 (record { two = plain_parts w.2; size_is = omega arith; height_is = omega arith; tag_is = ap (λ (y : Link). y.tag) c.link.ensures })))

pub rotate-requires-clause-sides : goal.rotate-requires-clause-sides
rotate-requires-clause-sides g c =
    let w = c.requires.sides in (w.0, w.1, linked_by w.2 w.3 w.4 (ap (λ (y : Link). y.tag) c.link.ensures) refl, w.3.1, w.4.1)

pub rotate-requires-clause-apart : goal.rotate-requires-clause-apart
rotate-requires-clause-apart g c = omega (arith, c.abs_diff.ensures, c.if-abs_diff-le1.false)

pub returns-clause-tree : goal.returns-clause-tree
returns-clause-tree g c l q h a b =
    c.rotate.ensures.tree l q (linked_by h a b (ap (λ (y : Link). y.tag) c.link.ensures) refl) a.1 b.1
