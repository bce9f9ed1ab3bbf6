-- the oldest entry is settled
use Rattle.std.proofs.Common.{◌∙◌, ◌<◌, map, set, ap, sym, subst}
use Rattle.mi_container.specs.Data.{Data}
use Rattle.mi_container.specs.Inverse.{Inverse, settled}
use Rattle.mi_container.specs.Fits.{KeptBy}
use Rattle.mi_journal.proofs.SettleLemmas.{settles_alike, kept_alike}
use Rattle.mi_database.specs.LinkedData.{LinkedData, SettlesSome}
use Rattle.mi_database.specs.Most.{AllHaveAtMost}
use Rattle.mi_database.proofs.LinkedDataLemmas.{set_data, stays_at}
use Rattle.mi_database.proofs.LoopLemmas.{linked_data, oldest_within, settle_law}
use Rattle.mi_database.proofs.linked.Linked.settle_one.Goals as goal

pub index_mut-requires : goal.index_mut-requires
index_mut-requires g c =
    let a = c.self.inside in
    let t = c.in-Some.ensures.sessions in
    let h = oldest_within g.C.Container.shape g.C.Container.plain a.catalog a.containers.items c.in-Some.table t.0 a.revision
    a.journal.sessions c.take_oldest.new.self.sessions t.2 c.self.invariant.0 in
    subst (λ n. c.in-Some.table < n) (sym a.containers.ok.0) h.0

pub settle-requires : goal.settle-requires
settle-requires g c =
    let a = c.self.inside in
    let t = c.in-Some.ensures.sessions in
    let h = oldest_within g.C.Container.shape g.C.Container.plain a.catalog a.containers.items c.in-Some.table t.0 a.revision
    a.journal.sessions c.take_oldest.new.self.sessions t.2 c.self.invariant.0 in
    let d : Data = g.C.Container.plain c.index_mut.result.now in
    subst (λ (i : Inverse). KeptBy i d) (sym t.1) (kept_alike t.0 d
    (subst (KeptBy t.0) (set_data g.C.Container.plain a.containers.items c.in-Some.table c.index_mut.result.now h.0 c.index_mut.ensures.value) h.1))

pub invariant_of-self-2 : goal.invariant_of-self-2
invariant_of-self-2 g c =
    let a = c.self.inside in
    let t = c.in-Some.ensures.sessions in
    let d : Data = g.C.Container.plain c.index_mut.result.now in (
      (settle_law g.C.Container.shape g.C.Container.plain a.catalog a.containers.items c.in-Some.table t.0 a.revision
          a.journal.sessions c.take_oldest.new.self.sessions c.index_mut.result.now c.settle.new.self a.journal.changes a.journal.starts
          c.take_oldest.new.self.changes c.take_oldest.new.self.starts (map g.C.Container.held a.containers.items)
          (map g.C.Container.held (set a.containers.items c.in-Some.table c.settle.new.self)) (map g.C.Container.secrets a.containers.items)
          (map g.C.Container.secrets (set a.containers.items c.in-Some.table c.settle.new.self)) t.2
          c.index_mut.ensures.value (c.settle.ensures.plain ∙ ap (λ (i : Inverse). settled i d) t.1 ∙ settles_alike t.0 d) c.settle.ensures.shape
          c.self.invariant.0).0,
      subst (λ m. AllHaveAtMost m a.catalog) (sym c.take_oldest.ensures.most) c.self.invariant.1,
    )

pub returns-clause-settles : goal.returns-clause-settles
returns-clause-settles g c =
    let a = c.self.inside in
    let t = c.in-Some.ensures.sessions in
    let d : Data = g.C.Container.plain c.index_mut.result.now in
    let new : LinkedData = linked_data a.catalog (map g.C.Container.plain (set a.containers.items c.in-Some.table c.settle.new.self))
    c.take_oldest.new.self.sessions
    a.revision c.take_oldest.new.self.changes c.take_oldest.new.self.starts
    (map g.C.Container.held (set a.containers.items c.in-Some.table c.settle.new.self))
    (map g.C.Container.secrets (set a.containers.items c.in-Some.table c.settle.new.self)) in
    subst (λ (h : LinkedData). SettlesSome h new) c.self.view_is
    (settle_law g.C.Container.shape g.C.Container.plain a.catalog a.containers.items c.in-Some.table t.0 a.revision
    a.journal.sessions c.take_oldest.new.self.sessions c.index_mut.result.now c.settle.new.self a.journal.changes a.journal.starts
    c.take_oldest.new.self.changes c.take_oldest.new.self.starts (map g.C.Container.held a.containers.items)
    (map g.C.Container.held (set a.containers.items c.in-Some.table c.settle.new.self)) (map g.C.Container.secrets a.containers.items)
    (map g.C.Container.secrets (set a.containers.items c.in-Some.table c.settle.new.self)) t.2
    c.index_mut.ensures.value (c.settle.ensures.plain ∙ ap (λ (i : Inverse). settled i d) t.1 ∙ settles_alike t.0 d) c.settle.ensures.shape
    c.self.invariant.0).1

pub returns-clause-secrets : goal.returns-clause-secrets
returns-clause-secrets g c =
    stays_at g.C.Container.secrets c.self.inside.containers.items c.in-Some.table c.index_mut.result.now c.settle.new.self
    c.index_mut.ensures.value c.settle.ensures.secrets
    ∙ ap (λ (h : LinkedData). h.secrets) c.self.view_is
