-- The base that was written stands at its place.
use Rattle.std.proofs.Common.{subst}
use Rattle.mi_recovery.specs.declared.place.Place.{Place}
use Rattle.mi_model.specs.Database.{Database}
use Rattle.mi_rebase.specs.Rebase.{IsHeadingAt}
use Rattle.mi_rebase.proofs.RebaseLemmas.{on_ok}
use Rattle.mi_rebase.proofs.rebasing.made.Goals as goal

pub returns : goal.returns
returns g c =
    let written = c.in_ok-new.ensures in
    on_ok _ c.replaced.result (
      written.0,
      subst (λ (q : Place). IsHeadingAt c.args.schema.now (g.D.Sessions.state c.args.database.now).revision q written.0) c.place.ensures written.1,
      written.2,
    )
