-- The groups that were passed over don't end with the node.
use Rattle.std.proofs.Common.{sym, ap, ◌∙◌, subst}
use Rattle.mi_node.specs.Pool.{IsHeldIf}
use Rattle.mi_node.specs.declared.link.Link.{Link}
use Rattle.mi_chain.specs.Places.{forth_of}
use Rattle.mi_chain.proofs.SearchLemmas.{walk_start, walk_held, walk_step, walk_found, walk_end, walk_less}
use Rattle.mi_chain.specs.Places.{ends_with, is_named}
use Rattle.mi_chain.proofs.look.group_ending.Goals as goal

pub loop-at-init : goal.loop-at-init
loop-at-init g c gs h = walk_start c.args.p.now c.args.slot c.args.head gs h (ends_with c.args.p.now c.args.slot c.args.end.name)

pub link-last-requires-clause-held : goal.link-last-requires-clause-held
link-last-requires-clause-held g c = let v = c.args in let ch = c.requires in
    (walk_held v.p.now v.slot v.head ch.chain.0 ch.chain.1 (ends_with v.p.now v.slot v.end.name) c.loop-at.before
    c.loop-at.at c.in-Some.first (c.loop-at.invariant ch.chain.0 ch.chain.1) c.in-Some.is).0

pub after-at-requires-clause-held : goal.after-at-requires-clause-held
after-at-requires-clause-held g c = let v = c.args in let ch = c.requires in
    subst (λ (l : Link). IsHeldIf v.p.now l.back) (sym c.link-last.ensures)
    (walk_held v.p.now v.slot v.head ch.chain.0 ch.chain.1 (ends_with v.p.now v.slot v.end.name) c.loop-at.before
    c.loop-at.at c.in-Some.first (c.loop-at.invariant ch.chain.0 ch.chain.1) c.in-Some.is).1

pub returns-then-is_node : goal.returns-then-is_node
returns-then-is_node g c gs h = let v = c.args in
    walk_found v.p.now v.slot v.head gs h (ends_with v.p.now v.slot v.end.name) c.loop-at.before
    c.loop-at.at c.in-Some.first (c.loop-at.invariant gs h) c.in-Some.is
    (ap (λ (l : Link). is_named v.end.name l.back) (sym c.link-last.ensures) ∙ sym c.is_node.ensures ∙ c.if-is_node.true)

pub loop-at-smaller : goal.loop-at-smaller
loop-at-smaller g c = let v = c.args in let ch = c.requires in
    let less = walk_less v.p.now v.slot v.head ch.chain.0 ch.chain.1 (ends_with v.p.now v.slot v.end.name)
    c.loop-at.before c.loop-at.at c.in-Some.first (c.loop-at.invariant ch.chain.0 ch.chain.1) c.in-Some.is in
    let next = c.after-at.ensures ∙ ap (λ (l : Link). forth_of v.p.now v.slot l.back) c.link-last.ensures in
    rw next less

pub loop-at-preserved : goal.loop-at-preserved
loop-at-preserved g c gs h = let v = c.args in
    let back = ap (λ (l : Link). l.back) c.link-last.ensures in
    let next = c.after-at.ensures ∙ ap (λ (l : Link). forth_of v.p.now v.slot l.back) c.link-last.ensures in
    rw (next, back) (walk_step v.p.now v.slot v.head gs h (ends_with v.p.now v.slot v.end.name)
    c.loop-at.before c.loop-at.at c.in-Some.first (c.loop-at.invariant gs h) c.in-Some.is
    (ap (λ (l : Link). is_named v.end.name l.back) (sym c.link-last.ensures) ∙ sym c.is_node.ensures ∙ c.if-is_node.false))

pub returns : goal.returns
returns g c gs h = let v = c.args in
    walk_end v.p.now v.slot v.head gs h (ends_with v.p.now v.slot v.end.name) c.loop-at.before c.loop-at.at (c.loop-at.invariant gs h) c.in_default.is
