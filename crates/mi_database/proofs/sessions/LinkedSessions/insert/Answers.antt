-- What the container answers and leaves, the database does.
use Rattle.std.proofs.Common.{◌∙◌, ap, map, set, refl, sym, subst}
use Rattle.std.specs.Prelude.{Ok, Err}
use Rattle.mi_model.specs.Verdict.{insert_outcome}
use Rattle.mi_model.specs.Run.Command.{Insert as TheCommand}
use Rattle.mi_container.specs.Backs.{row_seen}
use Rattle.mi_container.specs.Inverse.Inverse.{Inserted}
use Rattle.mi_container.specs.Run.Change.{Insert}
use Rattle.mi_database.specs.Kept.{kept_rows}
use Rattle.mi_database.proofs.KeptLemmas.{none_more}
use Rattle.mi_database.specs.LinkedData.{LinkedData}
use Rattle.mi_database.proofs.LinkedDataLemmas.{stays_at, inserted_stays}
use Rattle.mi_database.specs.Most.{AllHaveAtMost}
use Rattle.mi_database.proofs.ChangeLemmas.{SpotIn, spot, spot_held, spot_outcome, spot_plain, spot_stays, spot_refused, spot_unkept}
use Rattle.mi_database.proofs.sessions.LinkedSessions.insert.Given.{Over}
use Rattle.mi_database.proofs.sessions.LinkedSessions.insert.Goals.{After-insert_row}
use Rattle.mi_database.proofs.sessions.LinkedSessions.insert.Goals as goal

module _ (g : Over) (c : After-insert_row g) where
  -- the container of the table, as the change found it in the database and left it
  at : SpotIn g.C.Container.shape g.C.Container.plain c.self.inside c.args.table c.index_mut.result.now c.insert_row.new.self c.args.self.now
  at = spot _ _ c.self.invariant.0 (c.self.view_is ∙ c.make_room.ensures.same) c.requires.table c.index_mut.ensures.value c.insert_row.ensures.shape

pub invariant_of-self : goal.invariant_of-self
invariant_of-self g c =
    let cs = set c.self.inside.containers.items c.args.table c.insert_row.new.self in (
      spot_held (at g (goal.at.invariant_of-self g c).After-insert_row)
          (Insert c.args.before c.in-Ok.ensures.made.0 c.args.row) c.in-Ok.ensures.made.1
          cs (sym (inserted_stays c.self.inside.journal.sessions c.args.table (row_seen c.in-Ok.inserted) (map g.C.Container.plain cs))) refl c.keep_inserted.ensures.journal,
      subst (λ m. AllHaveAtMost m c.self.inside.catalog) (sym c.keep_inserted.ensures.most) c.self.invariant.1,
    )

pub invariant_of-self-in-Err : goal.invariant_of-self-in-Err
invariant_of-self-in-Err g c =
    (spot_stays (at g (goal.at.invariant_of-self-in-Err g c).After-insert_row) c.in-Err.ensures.refused, c.self.invariant.1)

pub returns-in-Ok-clause-outcome : goal.returns-in-Ok-clause-outcome
returns-in-Ok-clause-outcome g c =
    let cs = set c.self.inside.containers.items c.args.table c.insert_row.new.self in
    spot_outcome (at g (goal.at.returns-in-Ok-clause-outcome g c).After-insert_row)
    (Insert c.args.before c.in-Ok.ensures.made.0 c.args.row) c.in-Ok.ensures.made.1
    cs (sym (inserted_stays c.self.inside.journal.sessions c.args.table (row_seen c.in-Ok.inserted) (map g.C.Container.plain cs))) refl c.keep_inserted.ensures.journal
    (λ s. insert_outcome s c.args.before c.args.row) (Ok c.in-Ok.inserted.id) c.in-Ok.ensures.outcome

pub returns-in-Err-clause-outcome : goal.returns-in-Err-clause-outcome
returns-in-Err-clause-outcome g c = spot_refused (at g (goal.at.returns-in-Err-clause-outcome g c).After-insert_row)
    (λ s. insert_outcome s c.args.before c.args.row) (Err c.in-Err.refused.0) c.in-Err.ensures.refused c.in-Err.ensures.outcome

pub returns-in-Ok-clause-footprint : goal.returns-in-Ok-clause-footprint
returns-in-Ok-clause-footprint g c = spot_plain (at g (goal.at.returns-in-Ok-clause-footprint g c).After-insert_row)
    (Inserted (row_seen c.in-Ok.inserted)) c.keep_inserted.ensures.journal refl

pub returns-in-Err-clause-footprint : goal.returns-in-Err-clause-footprint
returns-in-Err-clause-footprint g c = spot_unkept (at g (goal.at.returns-in-Err-clause-footprint g c).After-insert_row)
    (TheCommand c.args.table c.args.before c.args.row) c.in-Err.refused.0
    (map g.C.Container.held (set c.self.inside.containers.items c.args.table c.insert_row.new.self))
    (map g.C.Container.secrets (set c.self.inside.containers.items c.args.table c.insert_row.new.self)) (none_more (kept_rows c.args.self.now))

pub returns-in-Ok-clause-secrets : goal.returns-in-Ok-clause-secrets
returns-in-Ok-clause-secrets g c =
    stays_at g.C.Container.secrets c.self.inside.containers.items c.args.table c.index_mut.result.now c.insert_row.new.self
    c.index_mut.ensures.value c.insert_row.ensures.secrets
    ∙ ap (λ (h : LinkedData). h.secrets) (c.self.view_is ∙ c.make_room.ensures.same)

pub returns-in-Err-clause-secrets : goal.returns-in-Err-clause-secrets
returns-in-Err-clause-secrets g c =
    stays_at g.C.Container.secrets c.self.inside.containers.items c.args.table c.index_mut.result.now c.insert_row.new.self
    c.index_mut.ensures.value c.insert_row.ensures.secrets
    ∙ ap (λ (h : LinkedData). h.secrets) (c.self.view_is ∙ c.make_room.ensures.same)
