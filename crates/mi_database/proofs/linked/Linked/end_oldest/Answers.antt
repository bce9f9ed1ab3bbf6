-- until the oldest session has no entry
use Rattle.std.proofs.Common.{◌∙◌, ◌+◌, ap, sym, subst, arith}
use Rattle.mi_journal.specs.Noted.{OldestIsEmpty}
use Rattle.mi_database.specs.LinkedData.{LinkedData, EndsOldest}
use Rattle.mi_database.specs.Most.{AllHaveAtMost}
use Rattle.mi_database.proofs.LoopLemmas.{linked_data, settling_from, settling_more, settled_up, ends_law, ended_law}
use Rattle.mi_database.proofs.linked.Linked.end_oldest.Goals as goal

pub loop-init : goal.loop-init
loop-init g c = settling_from c.args.self.now

pub loop-smaller : goal.loop-smaller
loop-smaller g c = let fewer = c.loop-test.ensures.settles.fewer in omega (arith, fewer)

pub loop-preserved : goal.loop-preserved
loop-preserved g c =
    let e = c.loop-test.ensures in
    settling_more c.args.self.now c.loop.self c.settle_one.new.self c.loop.invariant e.settles e.catalog e.secrets e.revision e.changes e.starts

pub end_oldest-requires : goal.end_oldest-requires
end_oldest-requires g c =
    subst OldestIsEmpty (sym (ap (λ (h : LinkedData). h.journal) c.self.view_is))
    (settled_up c.args.self.now c.loop.self c.settle_one.new.self c.loop.invariant c.loop-test.ensures.settles c.requires)

pub invariant_of-self : goal.invariant_of-self
invariant_of-self g c =
    let a = c.self.inside in (
      ends_law a.catalog _ _ a.journal.sessions c.end_oldest.new.self.sessions a.revision c.end_oldest.ensures.sessions c.self.invariant.0,
      subst (λ m. AllHaveAtMost m a.catalog) (sym c.end_oldest.ensures.most) c.self.invariant.1,
    )

pub returns : goal.returns
returns g c =
    let e = c.loop-test.ensures in
    let j = c.end_oldest.new.self in
    let next = c.settle_one.new.self in
    let was = c.self.view_is in
    subst (λ (h : LinkedData). EndsOldest c.args.self.now (linked_data h.catalog h.datas j.sessions h.revision j.changes j.starts h.held h.secrets)) (sym was)
    (ended_law c.args.self.now c.loop.self next j.sessions j.changes j.starts next.held next.secrets c.loop.invariant e.settles e.catalog e.secrets e.revision e.changes e.starts
    (sym (ap (λ (h : LinkedData). h.journal) was) ∙ c.end_oldest.ensures.sessions) (c.end_oldest.ensures.changes ∙ ap (λ (h : LinkedData). h.changes) was)
    (c.end_oldest.ensures.starts ∙ ap (λ (h : LinkedData). h.starts + 1) was))
