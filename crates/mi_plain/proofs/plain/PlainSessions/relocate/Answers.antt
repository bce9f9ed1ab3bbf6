-- What the table's relocate meets, the database's does.
use Rattle.std.proofs.Common.{refl}
use Rattle.mi_model.specs.Verdict.{relocate_outcome}
use Rattle.mi_model.specs.Run.Command.{Relocate}
use Rattle.mi_model.proofs.DatabaseLaws.{is_database_after}
use Rattle.mi_plain.specs.contracts.plain.Plain.{the_view}
use Rattle.mi_plain.proofs.ChangeLemmas.{database_meets, is_database}
use Rattle.mi_plain.proofs.plain.PlainSessions.relocate.Goals as goal

pub returns : goal.returns
returns c =
    database_meets c.args.table (λ s t. relocate_outcome c.args.index c.args.id c.args.before t)
    (the_view c.self.inside) _ c.self.view_is _ _ _ _ _ c.self.invariant.1 c.requires.table
    c.index_mut.ensures.value refl c.relocate.ensures

pub invariant_of-self : goal.invariant_of-self
invariant_of-self c =
    let d = the_view c.self.inside in
    let is =
    is_database c.args.table (λ s t. relocate_outcome c.args.index c.args.id c.args.before t)
    d _ c.self.view_is _ _ _ _ _ c.self.invariant.1 c.requires.table c.index_mut.ensures.value refl c.relocate.ensures
    c.self.invariant.0 (is_database_after (Relocate c.args.table c.args.index c.args.id c.args.before) d c.self.invariant.0) in
    (is.0, is.1, c.self.invariant.2, c.self.invariant.3)
