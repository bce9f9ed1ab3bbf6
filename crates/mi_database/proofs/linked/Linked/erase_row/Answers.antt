-- What the container answers and leaves, the database does.
use Rattle.std.proofs.Common.{◌≢◌, ◌∙◌, [], length, map, refl, set, ap, sym, subst}
use Rattle.std.specs.Prelude.{Ok, Err}
use Rattle.std.specs.declared.option.Option.TheVariants.{None}
use Rattle.mi_value.specs.declared.refusal.Refusal.TheVariants.{Memory}
use Rattle.mi_model.specs.Verdict.{erase_outcome}
use Rattle.mi_model.specs.DatabaseChange.{erase_step}
use Rattle.mi_model.specs.Run.Command.{Erase as EraseCommand}
use Rattle.mi_container.specs.Inverse.{keeps}
use Rattle.mi_container.specs.Backs.{places_seen, step_seen}
use Rattle.mi_container.specs.Run.Change.{Erase}
use Rattle.mi_journal.specs.Noted.{noted}
use Rattle.mi_database.specs.LinkedData.{LinkedData, data_seen, meaning}
use Rattle.mi_database.proofs.KeptLemmas.{erase_keeps, erase_refused, refused_keeps, met_refusal}
use Rattle.mi_database.specs.Most.{AllHaveAtMost}
use Rattle.mi_database.proofs.LinkedDataLemmas.{noted_length, stays_at}
use Rattle.mi_database.proofs.ChangeLemmas.{SpotIn, spot, spot_keeps, spot_within, spot_held, spot_outcome, spot_stays, spot_refused}
use Rattle.mi_database.proofs.linked.Linked.erase_row.Given.{Over}
use Rattle.mi_database.proofs.linked.Linked.erase_row.Goals.{After-erase}
use Rattle.mi_database.proofs.linked.Linked.erase_row.Goals as goal

module _ (g : Over) (c : After-erase g) where
  -- the container of the table, as the change found it in the database and left it
  at : SpotIn g.C.Container.shape g.C.Container.plain c.self.inside c.args.table c.index_mut.result.now c.erase.new.self c.args.self.now
  at = spot _ _ c.self.invariant.0 c.self.view_is c.requires.table c.index_mut.ensures.value c.erase.ensures.shape

pub keep-requires-clause-kept : goal.keep-requires-clause-kept
keep-requires-clause-kept g c = spot_keeps (at g (goal.at.keep-requires-clause-kept g c).After-erase)
    (Erase c.args.id None) (c.in-Ok.ensures.made [])

pub keep-requires-clause-within : goal.keep-requires-clause-within
keep-requires-clause-within g c = λ open_. spot_within (at g (goal.at.keep-requires-clause-within g c).After-erase)
    (Erase c.args.id None) c.self.invariant.1 (c.in-Ok.ensures.made (places_seen c.self.inside.laid.items))

pub invariant_of-self : goal.invariant_of-self
invariant_of-self g c = (
  spot_held (at g (goal.at.invariant_of-self g c).After-erase)
      (Erase c.args.id None) (c.in-Ok.ensures.made (places_seen c.self.inside.laid.items)) c.keep.new.containers.items
      (c.keep.ensures.datas (places_seen c.self.inside.laid.items) (λ open_. refl)) c.keep.ensures.shapes
      (c.keep.ensures.journal (places_seen c.self.inside.laid.items) (λ open_. refl)),
  subst (λ m. AllHaveAtMost m c.self.inside.catalog) (sym c.keep.ensures.most) c.self.invariant.1,
)

pub invariant_of-self-in-Err : goal.invariant_of-self-in-Err
invariant_of-self-in-Err g c =
    (spot_stays (at g (goal.at.invariant_of-self-in-Err g c).After-erase) c.in-Err.ensures.refused, c.self.invariant.1)

pub returns-in-Ok-clause-outcome : goal.returns-in-Ok-clause-outcome
returns-in-Ok-clause-outcome g c = spot_outcome (at g (goal.at.returns-in-Ok-clause-outcome g c).After-erase)
    (Erase c.args.id None) (c.in-Ok.ensures.made (places_seen c.self.inside.laid.items)) c.keep.new.containers.items
    (c.keep.ensures.datas (places_seen c.self.inside.laid.items) (λ open_. refl)) c.keep.ensures.shapes
    (c.keep.ensures.journal (places_seen c.self.inside.laid.items) (λ open_. refl))
    (λ s. erase_outcome c.args.id) (Ok tt) c.in-Ok.ensures.outcome

pub returns-in-Err-clause-outcome : goal.returns-in-Err-clause-outcome
returns-in-Err-clause-outcome g c = spot_refused (at g (goal.at.returns-in-Err-clause-outcome g c).After-erase)
    (λ s. erase_outcome c.args.id) (Err c.in-Err.refused) c.in-Err.ensures.refused c.in-Err.ensures.outcome

pub returns-in-Ok-clause-footprint : goal.returns-in-Ok-clause-footprint
returns-in-Ok-clause-footprint g c =
    let a = c.self.inside in
    let new : LinkedData = data_seen a.catalog (map g.C.Container.plain c.keep.new.containers.items) c.keep.new.journal a.revision
    (map g.C.Container.held c.keep.new.containers.items) (map g.C.Container.secrets c.keep.new.containers.items) in
    let its = step_seen c.in-Ok.step (places_seen c.self.inside.laid.items) in
    erase_keeps c.args.table c.args.id c.args.self.now new its (ap keeps (c.in-Ok.ensures.made (places_seen c.self.inside.laid.items)).inverse)
    (c.keep.ensures.journal (places_seen c.self.inside.laid.items) (λ open_. refl) ∙ ap (λ (h : LinkedData). noted (c.args.table, its) h.journal) c.self.view_is) (returns-in-Ok-clause-outcome g c).0

pub returns-in-Err-clause-footprint : goal.returns-in-Err-clause-footprint
returns-in-Err-clause-footprint g c =
    let a = c.self.inside in
    let new : LinkedData = data_seen a.catalog (map g.C.Container.plain (set a.containers.items c.args.table c.erase.new.self)) a.journal a.revision
    (map g.C.Container.held (set a.containers.items c.args.table c.erase.new.self))
    (map g.C.Container.secrets (set a.containers.items c.args.table c.erase.new.self)) in
    let never : c.in-Err.refused ≢ Memory = c.in-Err.ensures.memory in
    refused_keeps (EraseCommand c.args.table c.args.id) c.in-Err.refused c.args.self.now new never
    (erase_refused c.args.table c.args.id c.args.self.now new c.in-Err.refused (ap (λ (h : LinkedData). h.journal) c.self.view_is)
    (met_refusal (erase_step c.args.table c.args.id (meaning c.args.self.now)) c.in-Err.refused (meaning c.args.self.now) (meaning new) never
    (returns-in-Err-clause-outcome g c)))

pub returns-in-Ok-clause-depth : goal.returns-in-Ok-clause-depth
returns-in-Ok-clause-depth g c =
    ap length (c.keep.ensures.journal (places_seen c.self.inside.laid.items) (λ open_. refl)) ∙ noted_length _ c.self.inside.journal.sessions
    ∙ ap (λ (h : LinkedData). length h.journal) c.self.view_is

pub returns-in-Ok-clause-secrets : goal.returns-in-Ok-clause-secrets
returns-in-Ok-clause-secrets g c =
    c.keep.ensures.secrets ∙ stays_at g.C.Container.secrets c.self.inside.containers.items c.args.table c.index_mut.result.now c.erase.new.self
    c.index_mut.ensures.value c.erase.ensures.secrets
    ∙ ap (λ (h : LinkedData). h.secrets) c.self.view_is

pub returns-in-Err-clause-secrets : goal.returns-in-Err-clause-secrets
returns-in-Err-clause-secrets g c =
    stays_at g.C.Container.secrets c.self.inside.containers.items c.args.table c.index_mut.result.now c.erase.new.self
    c.index_mut.ensures.value c.erase.ensures.secrets
    ∙ ap (λ (h : LinkedData). h.secrets) c.self.view_is
