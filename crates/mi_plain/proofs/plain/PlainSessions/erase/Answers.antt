-- What the table's erase meets, the database's does.
use Rattle.std.proofs.Common.{refl}
use Rattle.mi_model.specs.Verdict.{erase_outcome}
use Rattle.mi_model.specs.Run.Command.{Erase}
use Rattle.mi_model.proofs.DatabaseLaws.{is_database_after}
use Rattle.mi_plain.specs.contracts.plain.Plain.{the_view}
use Rattle.mi_plain.proofs.ChangeLemmas.{database_meets, is_database}
use Rattle.mi_plain.proofs.plain.PlainSessions.erase.Goals as goal

pub returns : goal.returns
returns c =
    database_meets c.args.table (λ s t. erase_outcome c.args.id t)
    (the_view c.self.inside) _ c.self.view_is _ _ _ _ _ c.self.invariant.1 c.requires
    c.index_mut.ensures.value refl c.erase.ensures

pub invariant_of-self : goal.invariant_of-self
invariant_of-self c =
    let d = the_view c.self.inside in
    let is =
    is_database c.args.table (λ s t. erase_outcome c.args.id t)
    d _ c.self.view_is _ _ _ _ _ c.self.invariant.1 c.requires c.index_mut.ensures.value refl c.erase.ensures
    c.self.invariant.0 (is_database_after (Erase c.args.table c.args.id) d c.self.invariant.0) in
    (is.0, is.1, c.self.invariant.2, c.self.invariant.3)
