-- What the container answers and leaves, the database does.
use Rattle.std.proofs.Common.{◌∙◌, [], ap, map, refl, set, sym, subst}
use Rattle.std.specs.Prelude.{Ok, Err}
use Rattle.mi_model.specs.Verdict.{relocate_outcome}
use Rattle.mi_model.specs.Run.Command.{Relocate as TheCommand}
use Rattle.mi_container.specs.Inverse.{keeps}
use Rattle.mi_container.specs.Backs.{places_seen, step_seen}
use Rattle.mi_container.specs.Run.Change.{Relocate}
use Rattle.mi_database.specs.Kept.{kept_rows}
use Rattle.mi_database.proofs.KeptLemmas.{none_more, relocate_keeps}
use Rattle.mi_database.specs.Most.{AllHaveAtMost}
use Rattle.mi_database.specs.LinkedData.{LinkedData}
use Rattle.mi_database.proofs.LinkedDataLemmas.{stays_at}
use Rattle.mi_database.proofs.ChangeLemmas.{SpotIn, spot, spot_keeps, spot_within, spot_held, spot_outcome, spot_plain, spot_stays, spot_refused, spot_unkept}
use Rattle.mi_database.proofs.sessions.LinkedSessions.relocate.Given.{Over}
use Rattle.mi_database.proofs.sessions.LinkedSessions.relocate.Goals.{After-relocate}
use Rattle.mi_database.proofs.sessions.LinkedSessions.relocate.Goals as goal

module _ (g : Over) (c : After-relocate g) where
  -- the container of the table, as the change found it in the database and left it
  at : SpotIn g.C.Container.shape g.C.Container.plain c.self.inside c.args.table c.index_mut.result.now c.relocate.new.self c.args.self.now
  at = spot _ _ c.self.invariant.0 (c.self.view_is ∙ c.make_room.ensures.same) c.requires.table c.index_mut.ensures.value c.relocate.ensures.shape

pub keep-requires-clause-kept : goal.keep-requires-clause-kept
keep-requires-clause-kept g c =
    spot_keeps (at g (goal.at.keep-requires-clause-kept g c).After-relocate) (Relocate c.args.index c.args.id c.args.before) (c.in-Ok.ensures.made [])

pub keep-requires-clause-within : goal.keep-requires-clause-within
keep-requires-clause-within g c = λ open_. spot_within (at g (goal.at.keep-requires-clause-within g c).After-relocate)
    (Relocate c.args.index c.args.id c.args.before) c.self.invariant.1 (c.in-Ok.ensures.made (places_seen c.self.inside.laid.items))

pub invariant_of-self : goal.invariant_of-self
invariant_of-self g c = (
  spot_held (at g (goal.at.invariant_of-self g c).After-relocate)
      (Relocate c.args.index c.args.id c.args.before) (c.in-Ok.ensures.made (places_seen c.self.inside.laid.items))
      c.keep.new.containers.items (c.keep.ensures.datas (places_seen c.self.inside.laid.items) (λ open_. refl)) c.keep.ensures.shapes
      (c.keep.ensures.journal (places_seen c.self.inside.laid.items) (λ open_. refl)),
  subst (λ m. AllHaveAtMost m c.self.inside.catalog) (sym c.keep.ensures.most) c.self.invariant.1,
)

pub invariant_of-self-in-Err : goal.invariant_of-self-in-Err
invariant_of-self-in-Err g c =
    (spot_stays (at g (goal.at.invariant_of-self-in-Err g c).After-relocate) c.in-Err.ensures.refused, c.self.invariant.1)

pub returns-in-Ok-clause-outcome : goal.returns-in-Ok-clause-outcome
returns-in-Ok-clause-outcome g c = spot_outcome (at g (goal.at.returns-in-Ok-clause-outcome g c).After-relocate)
    (Relocate c.args.index c.args.id c.args.before) (c.in-Ok.ensures.made (places_seen c.self.inside.laid.items))
    c.keep.new.containers.items (c.keep.ensures.datas (places_seen c.self.inside.laid.items) (λ open_. refl)) c.keep.ensures.shapes
    (c.keep.ensures.journal (places_seen c.self.inside.laid.items) (λ open_. refl))
    (λ s. relocate_outcome c.args.index c.args.id c.args.before) (Ok tt) c.in-Ok.ensures.outcome

pub returns-in-Err-clause-outcome : goal.returns-in-Err-clause-outcome
returns-in-Err-clause-outcome g c = spot_refused (at g (goal.at.returns-in-Err-clause-outcome g c).After-relocate)
    (λ s. relocate_outcome c.args.index c.args.id c.args.before) (Err c.in-Err.refused) c.in-Err.ensures.refused c.in-Err.ensures.outcome

pub returns-in-Ok-clause-footprint : goal.returns-in-Ok-clause-footprint
returns-in-Ok-clause-footprint g c = spot_plain (at g (goal.at.returns-in-Ok-clause-footprint g c).After-relocate)
    (step_seen c.in-Ok.step (places_seen c.self.inside.laid.items)) (c.keep.ensures.journal (places_seen c.self.inside.laid.items) (λ open_. refl))
    (ap keeps (c.in-Ok.ensures.made (places_seen c.self.inside.laid.items)).inverse ∙ relocate_keeps c.args.index c.args.id c.args.before _)

pub returns-in-Err-clause-footprint : goal.returns-in-Err-clause-footprint
returns-in-Err-clause-footprint g c = spot_unkept (at g (goal.at.returns-in-Err-clause-footprint g c).After-relocate)
    (TheCommand c.args.table c.args.index c.args.id c.args.before) c.in-Err.refused
    (map g.C.Container.held (set c.self.inside.containers.items c.args.table c.relocate.new.self))
    (map g.C.Container.secrets (set c.self.inside.containers.items c.args.table c.relocate.new.self)) (none_more (kept_rows c.args.self.now))

pub returns-in-Ok-clause-secrets : goal.returns-in-Ok-clause-secrets
returns-in-Ok-clause-secrets g c =
    c.keep.ensures.secrets ∙ stays_at g.C.Container.secrets c.self.inside.containers.items c.args.table c.index_mut.result.now c.relocate.new.self
    c.index_mut.ensures.value c.relocate.ensures.secrets
    ∙ ap (λ (h : LinkedData). h.secrets) (c.self.view_is ∙ c.make_room.ensures.same)

pub returns-in-Err-clause-secrets : goal.returns-in-Err-clause-secrets
returns-in-Err-clause-secrets g c =
    stays_at g.C.Container.secrets c.self.inside.containers.items c.args.table c.index_mut.result.now c.relocate.new.self
    c.index_mut.ensures.value c.relocate.ensures.secrets
    ∙ ap (λ (h : LinkedData). h.secrets) (c.self.view_is ∙ c.make_room.ensures.same)
