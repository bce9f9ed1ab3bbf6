-- the container's bound is the table's
use Rattle.std.proofs.Common.{length}
use Rattle.mi_model.specs.Page.{range}
use Rattle.mi_database.proofs.BoundLemmas.{within_range}
use Rattle.mi_database.proofs.sessions.LinkedSessions.walk_range.Goals as goal

pub returns-clause-steps : goal.returns-clause-steps
returns-clause-steps g c =
    let v = c.args in
    within_range _ _ _ _ (λ s t. length (range s t v.index v.lower.now v.upper.now v.reverse v.limit).ids) _ _
    c.at-rows.ensures.shape c.at-rows.ensures.table c.walk_range.ensures.steps

pub returns-in_err-shown-clause-steps : goal.returns-in_err-shown-clause-steps
returns-in_err-shown-clause-steps g c =
    let v = c.args in
    within_range _ _ _ _ (λ s t. length (range s t v.index v.lower.now v.upper.now v.reverse v.limit).ids) _ _
    c.at-rows.ensures.shape c.at-rows.ensures.table c.walk_range.ensures.steps
