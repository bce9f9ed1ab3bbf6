-- The groups that were passed over are of other keys.
use Rattle.std.proofs.Common.{sym, ap, ◌∙◌, subst}
use Rattle.mi_node.specs.Pool.{IsHeldIf}
use Rattle.mi_node.specs.declared.link.Link.{Link}
use Rattle.mi_chain.specs.Places.{forth_of}
use Rattle.mi_chain.proofs.SearchLemmas.{walk_start, walk_held, walk_step, walk_found, walk_end, walk_less}
use Rattle.mi_chain.specs.Keying.{same_nodes, hash_node}
use Rattle.mi_chain.proofs.CallLemmas.{walk_tag}
use Rattle.mi_chain.proofs.look.group_of.Goals as goal

pub loop-at-init : goal.loop-at-init
loop-at-init g c gs h = walk_start c.args.p.now c.args.slot c.args.head gs h (same_nodes (g.H.KeyHash.keying c.args.keys.now) c.args.p.now c.args.node)

pub is_like-requires-clause-first : goal.is_like-requires-clause-first
is_like-requires-clause-first g c = let v = c.args in let ch = c.requires.chain in
    (walk_held v.p.now v.slot v.head ch.0 ch.1 (same_nodes (g.H.KeyHash.keying v.keys.now) v.p.now v.node)
    c.loop-at.before c.loop-at.at c.in-Some.first (c.loop-at.invariant ch.0 ch.1) c.in-Some.is).0

pub is_like-requires-clause-tag : goal.is_like-requires-clause-tag
is_like-requires-clause-tag g c = let v = c.args in let ch = c.requires.chain in
    walk_tag (hash_node (g.H.KeyHash.keying v.keys.now) v.p.now) v.p.now v.slot v.head ch.0 ch.1 (same_nodes (g.H.KeyHash.keying v.keys.now) v.p.now v.node)
    c.loop-at.before c.loop-at.at c.in-Some.first (c.loop-at.invariant ch.0 ch.1) c.in-Some.is ch.2

pub returns-then-is_like : goal.returns-then-is_like
returns-then-is_like g c gs h t = let v = c.args in let k = g.H.KeyHash.keying v.keys.now in
    walk_found v.p.now v.slot v.head gs h (same_nodes k v.p.now v.node) c.loop-at.before c.loop-at.at
    c.in-Some.first (c.loop-at.invariant gs h) c.in-Some.is (sym c.is_like.ensures ∙ c.if-is_like.true)

pub link-before-requires-clause-held : goal.link-before-requires-clause-held
link-before-requires-clause-held g c = let v = c.args in let ch = c.requires.chain in
    (walk_held v.p.now v.slot v.head ch.0 ch.1 (same_nodes (g.H.KeyHash.keying v.keys.now) v.p.now v.node)
    c.loop-at.before c.loop-at.at c.in-Some.first (c.loop-at.invariant ch.0 ch.1) c.in-Some.is).0

pub after-at-requires-clause-held : goal.after-at-requires-clause-held
after-at-requires-clause-held g c = let v = c.args in let ch = c.requires.chain in
    subst (λ (l : Link). IsHeldIf v.p.now l.back) (sym c.link-before.ensures)
    (walk_held v.p.now v.slot v.head ch.0 ch.1 (same_nodes (g.H.KeyHash.keying v.keys.now) v.p.now v.node)
    c.loop-at.before c.loop-at.at c.in-Some.first (c.loop-at.invariant ch.0 ch.1) c.in-Some.is).1

pub loop-at-smaller : goal.loop-at-smaller
loop-at-smaller g c = let v = c.args in let ch = c.requires.chain in
    let less = walk_less v.p.now v.slot v.head ch.0 ch.1 (same_nodes (g.H.KeyHash.keying v.keys.now) v.p.now v.node)
    c.loop-at.before c.loop-at.at c.in-Some.first (c.loop-at.invariant ch.0 ch.1) c.in-Some.is in
    let next = c.after-at.ensures ∙ ap (λ (l : Link). forth_of v.p.now v.slot l.back) c.link-before.ensures in
    rw next less

pub loop-at-preserved : goal.loop-at-preserved
loop-at-preserved g c gs h = let v = c.args in let k = g.H.KeyHash.keying v.keys.now in
    let back = ap (λ (l : Link). l.back) c.link-before.ensures in
    let next = c.after-at.ensures ∙ ap (λ (l : Link). forth_of v.p.now v.slot l.back) c.link-before.ensures in
    rw (next, back) (walk_step v.p.now v.slot v.head gs h (same_nodes k v.p.now v.node) c.loop-at.before c.loop-at.at
    c.in-Some.first (c.loop-at.invariant gs h) c.in-Some.is (sym c.is_like.ensures ∙ c.if-is_like.false))

pub returns : goal.returns
returns g c gs h t = let v = c.args in
    walk_end v.p.now v.slot v.head gs h (same_nodes (g.H.KeyHash.keying v.keys.now) v.p.now v.node)
    c.loop-at.before c.loop-at.at (c.loop-at.invariant gs h) c.in_default.is
