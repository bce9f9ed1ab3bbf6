-- the newest entry is taken back
use Rattle.std.proofs.Common.{◌≡◌, ◌∙◌, ◌<◌, ℕ, Some, ap, sym, subst}
use Rattle.std.specs.Option.{option_map, is_some}
use Rattle.mi_container.specs.Inverse.{Inverse}
use Rattle.mi_container.specs.Backs.{places_seen, step_seen}
use Rattle.mi_container.specs.declared.inverse.Step.{Step}
use Rattle.mi_journal.specs.Noted.{newest_entry}
use Rattle.mi_database.specs.LinkedData.{LinkedData, newest_of, back_by}
use Rattle.mi_database.specs.Most.{AllHaveAtMost}
use Rattle.mi_database.proofs.LinkedDataLemmas.{stays_at}
use Rattle.mi_database.proofs.LoopLemmas.{newest_within, newest_ready, unwind_law}
use Rattle.mi_database.proofs.linked.Linked.unwind_one.Given.{Over}
use Rattle.mi_database.proofs.linked.Linked.unwind_one.Goals.{In-Some}
use Rattle.mi_database.proofs.linked.Linked.unwind_one.Goals as goal

module _ (g : Over) (c : In-Some g) where
  -- the inverse that leaves the journal
  abbrev its : Inverse
  its = step_seen c.in-Some.step (places_seen c.pop.new.laid.items)

  entry : Some (c.in-Some.table, its) ≡ newest_entry c.self.inside.journal.sessions
  entry = sym (ap (option_map (λ (e : ℕ × Step). (e.0, step_seen e.1 (places_seen c.pop.new.laid.items)))) c.in-Some.is) ∙ c.pop.ensures.entry

pub index_mut-requires : goal.index_mut-requires
index_mut-requires g c =
    let a = c.self.inside in
    let o = (goal.at.index_mut-requires g c).In-Some in
    subst (λ n. c.in-Some.table < n) (sym a.containers.ok.0)
    (newest_within g.C.Container.shape g.C.Container.plain a.catalog a.containers.items c.in-Some.table (its g o)
    a.revision a.journal.sessions (entry g o) c.self.invariant.0)

pub unwind-requires-clause-ready : goal.unwind-requires-clause-ready
unwind-requires-clause-ready g c =
    let a = c.self.inside in
    let o = (goal.at.unwind-requires-clause-ready g c).In-Some in
    (newest_ready g.C.Container.shape g.C.Container.plain a.catalog a.containers.items c.in-Some.table c.index_mut.result.now c.index_mut.result.now (its g o)
    a.revision a.journal.sessions (entry g o) c.self.invariant.0 c.index_mut.ensures.value).0

pub unwind-requires-clause-before : goal.unwind-requires-clause-before
unwind-requires-clause-before g c =
    let a = c.self.inside in
    let o = (goal.at.unwind-requires-clause-before g c).In-Some in
    (newest_ready g.C.Container.shape g.C.Container.plain a.catalog a.containers.items c.in-Some.table c.index_mut.result.now c.index_mut.result.now (its g o)
    a.revision a.journal.sessions (entry g o) c.self.invariant.0 c.index_mut.ensures.value).1

pub invariant_of-self-2 : goal.invariant_of-self-2
invariant_of-self-2 g c =
    let a = c.self.inside in
    let o = (goal.at.invariant_of-self-2 g c).In-Some in (
      (unwind_law g.C.Container.shape g.C.Container.plain a.catalog a.containers.items c.in-Some.table c.index_mut.result.now c.unwind.new.self (its g o)
          a.revision a.journal.sessions c.pop.new.self.sessions (entry g o) c.pop.ensures.sessions c.index_mut.ensures.value
          c.unwind.ensures.plain c.unwind.ensures.shape c.self.invariant.0).0,
      subst (λ m. AllHaveAtMost m a.catalog) (sym c.pop.ensures.most) c.self.invariant.1,
    )

pub returns-clause-datas : goal.returns-clause-datas
returns-clause-datas g c =
    let a = c.self.inside in
    let o = (goal.at.returns-clause-datas g c).In-Some in
    (unwind_law g.C.Container.shape g.C.Container.plain a.catalog a.containers.items c.in-Some.table c.index_mut.result.now c.unwind.new.self (its g o)
    a.revision a.journal.sessions c.pop.new.self.sessions (entry g o) c.pop.ensures.sessions c.index_mut.ensures.value
    c.unwind.ensures.plain c.unwind.ensures.shape c.self.invariant.0).1
    ∙ ap (λ (h : LinkedData). back_by (newest_of h.journal) h.datas) c.self.view_is

pub returns-clause-more : goal.returns-clause-more
returns-clause-more g c = ap is_some (entry g (goal.at.returns-clause-more g c).In-Some ∙ ap (λ (h : LinkedData). newest_entry h.journal) c.self.view_is)

pub returns-clause-secrets : goal.returns-clause-secrets
returns-clause-secrets g c =
    stays_at g.C.Container.secrets c.self.inside.containers.items c.in-Some.table c.index_mut.result.now c.unwind.new.self
    c.index_mut.ensures.value c.unwind.ensures.secrets
    ∙ ap (λ (h : LinkedData). h.secrets) c.self.view_is
