-- What the container answers and leaves, the database does.
use Rattle.std.proofs.Common.{◌∙◌, map, set, ap, sym, subst}
use Rattle.std.specs.Prelude.{Err}
use Rattle.std.specs.declared.result.Result.{Result}
use Rattle.mi_value.specs.declared.refusal.Refusal.{Refusal}
use Rattle.mi_model.specs.Verdict.{modify_outcome}
use Rattle.mi_model.specs.DatabaseChange.{Meets, modify_step}
use Rattle.mi_container.specs.Backs.{step_seen, lost_by}
use Rattle.mi_container.proofs.StepLemmas.{kept_alone}
use Rattle.mi_journal.specs.Stored.{IsWithin}
use Rattle.mi_container.specs.Makes.{MeetsOn}
use Rattle.mi_journal.specs.Noted.{noted}
use Rattle.mi_database.specs.LinkedData.{LinkedData, data_seen, meaning}
use Rattle.mi_database.proofs.LinkedDataLemmas.{stays_at, some_modify}
use Rattle.mi_database.proofs.KeptLemmas.{modify_keeps, modify_kept, modify_refused}
use Rattle.mi_database.specs.Most.{AllHaveAtMost}
use Rattle.mi_database.proofs.ChangeLemmas.{SpotIn, spot, spot_keeps, spot_within, spot_held, spot_outcome, spot_stays, spot_refused}
use Rattle.mi_database.proofs.sessions.LinkedSessions.modify.Given.{Over}
use Rattle.mi_database.proofs.sessions.LinkedSessions.modify.Goals.{After-modify}
use Rattle.mi_database.proofs.sessions.LinkedSessions.modify.Goals as goal

module _ (g : Over) (c : After-modify g) where
  -- the container of the table, as the change found it in the database and left it
  at : SpotIn g.C.Container.shape g.C.Container.plain c.self.inside c.args.table c.index_mut.result.now c.modify.new.self c.args.self.now
  at = spot _ _ c.self.invariant.0 (c.self.view_is ∙ c.make_room.ensures.same) c.requires.table c.index_mut.ensures.value c.modify.ensures.shape

pub keep-requires-clause-kept : goal.keep-requires-clause-kept
keep-requires-clause-kept g c = kept_alone c.in-Ok.step c.in-Ok.ensures.made.0 _
    (spot_keeps (at g (goal.at.keep-requires-clause-kept g c).After-modify) _ (some_modify (lost_by c.in-Ok.step) _ c.args.id _ _ _ c.in-Ok.ensures.made.2).1)

pub keep-requires-clause-within : goal.keep-requires-clause-within
keep-requires-clause-within g c = λ open_. subst (λ qs. IsWithin c.self.inside.journal.most (step_seen c.in-Ok.step qs))
    (c.in-Ok.ensures.made.1 (c.notes-noted.ensures open_))
    (spot_within (at g (goal.at.keep-requires-clause-within g c).After-modify) _ c.self.invariant.1 (some_modify (lost_by c.in-Ok.step) _ c.args.id _ _ _ c.in-Ok.ensures.made.2).1)

pub invariant_of-self : goal.invariant_of-self
invariant_of-self g c = (
  spot_held (at g (goal.at.invariant_of-self g c).After-modify)
      _ (some_modify (lost_by c.in-Ok.step) _ c.args.id _ _ _ c.in-Ok.ensures.made.2).1
      c.keep.new.containers.items
      (c.keep.ensures.datas c.in-Ok.ensures.made.0 (λ open_. c.in-Ok.ensures.made.1 (c.notes-noted.ensures open_))) c.keep.ensures.shapes
      (c.keep.ensures.journal c.in-Ok.ensures.made.0 (λ open_. c.in-Ok.ensures.made.1 (c.notes-noted.ensures open_))),
  subst (λ m. AllHaveAtMost m c.self.inside.catalog) (sym c.keep.ensures.most) c.self.invariant.1,
)

pub invariant_of-self-in-Err : goal.invariant_of-self-in-Err
invariant_of-self-in-Err g c =
    (spot_stays (at g (goal.at.invariant_of-self-in-Err g c).After-modify) c.in-Err.ensures.refused, c.self.invariant.1)

pub returns-in-Ok-clause-outcome : goal.returns-in-Ok-clause-outcome
returns-in-Ok-clause-outcome g c = spot_outcome (at g (goal.at.returns-in-Ok-clause-outcome g c).After-modify)
    _ (some_modify (lost_by c.in-Ok.step) _ c.args.id _ _ _ c.in-Ok.ensures.made.2).1
    c.keep.new.containers.items
    (c.keep.ensures.datas c.in-Ok.ensures.made.0 (λ open_. c.in-Ok.ensures.made.1 (c.notes-noted.ensures open_))) c.keep.ensures.shapes
    (c.keep.ensures.journal c.in-Ok.ensures.made.0 (λ open_. c.in-Ok.ensures.made.1 (c.notes-noted.ensures open_)))
    (λ s. modify_outcome s c.args.id c.args.edits.now c.args.rollback) c.modified-answer.result
    (subst (λ (a : Result (Unit {0}) Refusal). MeetsOn
    (modify_outcome (g.C.Container.shape c.index_mut.result.now) c.args.id c.args.edits.now c.args.rollback) a
    (g.C.Container.plain c.index_mut.result.now) (g.C.Container.plain c.modify.new.self)) (sym c.modified-answer.ensures) c.in-Ok.ensures.outcome)

pub returns-in-Err-clause-outcome : goal.returns-in-Err-clause-outcome
returns-in-Err-clause-outcome g c = spot_refused (at g (goal.at.returns-in-Err-clause-outcome g c).After-modify)
    (λ s. modify_outcome s c.args.id c.args.edits.now c.args.rollback) (Err c.in-Err.refused) c.in-Err.ensures.refused c.in-Err.ensures.outcome

pub returns-in-Ok-clause-footprint : goal.returns-in-Ok-clause-footprint
returns-in-Ok-clause-footprint g c =
    let a = c.self.inside in
    let old = c.args.self.now in
    let new : LinkedData = data_seen a.catalog (map g.C.Container.plain c.keep.new.containers.items) c.keep.new.journal a.revision
    (map g.C.Container.held c.keep.new.containers.items) (map g.C.Container.secrets c.keep.new.containers.items) in
    let its = step_seen c.in-Ok.step c.in-Ok.ensures.made.0 in
    let journal = c.keep.ensures.journal c.in-Ok.ensures.made.0 (λ open_. c.in-Ok.ensures.made.1 (c.notes-noted.ensures open_))
    ∙ ap (λ (h : LinkedData). noted (c.args.table, its) h.journal)
    (c.self.view_is ∙ c.make_room.ensures.same) in
    modify_kept c.args.table c.args.id c.args.edits.now c.args.rollback old new c.modified-answer.result (lost_by c.in-Ok.step) c.modified-answer.ensures
    (modify_keeps c.args.table c.args.id c.args.edits.now c.args.rollback old new _ _ its _ (lost_by c.in-Ok.step) c.in-Ok.ensures.made.2 journal
    (subst (λ (r : Result (Unit {0}) Refusal). Meets (modify_step c.args.table c.args.id c.args.edits.now c.args.rollback (meaning old)) r (meaning old)
    (meaning new)) c.modified-answer.ensures (returns-in-Ok-clause-outcome g c)))

pub returns-in-Err-clause-footprint : goal.returns-in-Err-clause-footprint
returns-in-Err-clause-footprint g c =
    let a = c.self.inside in
    let new : LinkedData = data_seen a.catalog (map g.C.Container.plain (set a.containers.items c.args.table c.modify.new.self)) a.journal a.revision
    (map g.C.Container.held (set a.containers.items c.args.table c.modify.new.self))
    (map g.C.Container.secrets (set a.containers.items c.args.table c.modify.new.self)) in
    modify_refused c.args.table c.args.id c.args.edits.now c.args.rollback c.args.self.now new c.in-Err.refused
    (ap (λ (h : LinkedData). h.journal) (c.self.view_is ∙ c.make_room.ensures.same)) c.in-Err.ensures.loss (returns-in-Err-clause-outcome g c)

pub returns-in-Ok-clause-secrets : goal.returns-in-Ok-clause-secrets
returns-in-Ok-clause-secrets g c =
    c.keep.ensures.secrets ∙ stays_at g.C.Container.secrets c.self.inside.containers.items c.args.table c.index_mut.result.now c.modify.new.self
    c.index_mut.ensures.value c.modify.ensures.secrets
    ∙ ap (λ (h : LinkedData). h.secrets) (c.self.view_is ∙ c.make_room.ensures.same)

pub returns-in-Err-clause-secrets : goal.returns-in-Err-clause-secrets
returns-in-Err-clause-secrets g c =
    stays_at g.C.Container.secrets c.self.inside.containers.items c.args.table c.index_mut.result.now c.modify.new.self
    c.index_mut.ensures.value c.modify.ensures.secrets
    ∙ ap (λ (h : LinkedData). h.secrets) (c.self.view_is ∙ c.make_room.ensures.same)
