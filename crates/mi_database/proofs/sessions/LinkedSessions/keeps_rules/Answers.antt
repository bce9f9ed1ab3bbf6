-- what holds of the containers and the journal holds of the tables
use Rattle.std.proofs.Common.{subst}
use Rattle.mi_model.specs.Database.{IsDatabase}
use Rattle.mi_database.specs.LinkedData.{LinkedData, meaning}
use Rattle.mi_database.proofs.EndLemmas.{is_database}
use Rattle.mi_database.proofs.sessions.LinkedSessions.keeps_rules.Goals as goal

pub returns : goal.returns
returns g c =
    let a = c.self.inside in
    subst (λ (h : LinkedData). IsDatabase (meaning h)) c.self.view_is (is_database _ _ _ _ _ c.self.invariant.0)
