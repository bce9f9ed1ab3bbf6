-- The nodes behind the gap have newer stamps, and those before it older ones.
use Rattle.std.proofs.Common.{◌≤◌, ◌<◌, None, sym, ap, ◌∙◌, subst}
use Rattle.mi_node.specs.declared.link.Link.{Link}
use Rattle.mi_chain.specs.Keying.{stamp_at}
use Rattle.mi_chain.specs.Places.{prev_in_group}
use Rattle.mi_chain.proofs.SearchLemmas.{Gapped, gap_front, gap_start, gap_held, gap_step, gap_less, gap_found, gap_end, first_is_held}
use Rattle.mi_chain.proofs.look.gap_for.Goals as goal

pub link-begin-requires-clause-held : goal.link-begin-requires-clause-held
link-begin-requires-clause-held g c = let w = c.requires.group in first_is_held c.args.p.now c.args.slot c.args.first w.0 w.1 w.2 w.3 w.4

pub returns-then-stamp-begin : goal.returns-then-stamp-begin
returns-then-stamp-begin g c q f h a e cut = let v = c.args in
    let le : v.stamp ≤ c.link-begin.result.tag.stamp = c.if-stamp-begin.true in
    gap_front (stamp_at v.p.now v.slot) v.stamp v.first q cut e (subst (λ (l : Link). v.stamp ≤ l.tag.stamp) c.link-begin.ensures le)

pub loop-at-init : goal.loop-at-init
loop-at-init g c q f h a e = let v = c.args in
    subst (λ (l : Link). Gapped (stamp_at v.p.now v.slot) v.stamp q l.back None) (sym c.link-begin.ensures)
    (gap_start v.p.now v.slot v.first q f h a e (stamp_at v.p.now v.slot) v.stamp)

pub link-link-requires-clause-held : goal.link-link-requires-clause-held
link-link-requires-clause-held g c = let v = c.args in let w = c.requires.group in
    gap_held v.p.now v.slot v.first w.0 w.1 w.2 w.3 w.4 (stamp_at v.p.now v.slot) v.stamp c.loop-at.at
    c.loop-at.next c.in-Some.prev (c.loop-at.invariant w.0 w.1 w.2 w.3 w.4) c.in-Some.is

pub loop-at-smaller : goal.loop-at-smaller
loop-at-smaller g c = let v = c.args in let w = c.requires.group in
    let step = c.before-at.ensures ∙ ap (λ (l : Link). prev_in_group v.first c.in-Some.prev l.back) c.link-link.ensures in
    rw step (gap_less v.p.now v.slot v.first w.0 w.1 w.2 w.3 w.4 (stamp_at v.p.now v.slot) v.stamp
    c.loop-at.at c.loop-at.next c.in-Some.prev (c.loop-at.invariant w.0 w.1 w.2 w.3 w.4) c.in-Some.is)

pub loop-at-preserved : goal.loop-at-preserved
loop-at-preserved g c q f h a e = let v = c.args in
    let step = c.before-at.ensures ∙ ap (λ (l : Link). prev_in_group v.first c.in-Some.prev l.back) c.link-link.ensures in
    let le : v.stamp ≤ c.link-link.result.tag.stamp = c.if-link-stamp.false in
    rw step (gap_step v.p.now v.slot v.first q f h a e (stamp_at v.p.now v.slot) v.stamp c.loop-at.at c.loop-at.next c.in-Some.prev
    (c.loop-at.invariant q f h a e) c.in-Some.is (subst (λ (l : Link). v.stamp ≤ l.tag.stamp) c.link-link.ensures le))

pub returns-then-link-stamp : goal.returns-then-link-stamp
returns-then-link-stamp g c q f h a e cut = let v = c.args in
    let less : c.link-link.result.tag.stamp < v.stamp = c.if-link-stamp.true in
    gap_found v.p.now v.slot v.first q f h a e (stamp_at v.p.now v.slot) v.stamp c.loop-at.at c.loop-at.next c.in-Some.prev
    (c.loop-at.invariant q f h a e) c.in-Some.is (subst (λ (l : Link). l.tag.stamp < v.stamp) c.link-link.ensures less)

pub returns : goal.returns
returns g c q f h a e cut =
    let v = c.args in
    gap_end v.p.now v.slot v.first q f h a e (stamp_at v.p.now v.slot) v.stamp c.loop-at.at c.loop-at.next (c.loop-at.invariant q f h a e) c.in_default.is
