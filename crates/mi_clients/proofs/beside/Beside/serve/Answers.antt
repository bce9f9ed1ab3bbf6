-- Who is there is attended to, and stays unless it is over.
use Rattle.std.proofs.Common.{sym, ◌∙◌, arith}
use Rattle.mi_clients.proofs.BesideLemmas.{stays_there, goes_there}
use Rattle.mi_clients.proofs.beside.Beside.serve.Goals as goal

pub returns-then-not-is_over : goal.returns-then-not-is_over
returns-then-not-is_over g c =
    stays_there _ _ c.in-Some.client c.attend.new.client (sym c.take.ensures.value ∙ c.in-Some.is) c.attend.ensures
    (λ over. grind (arith, c.if-not-is_over.true, c.is_over.ensures.1 over))

pub returns-else-not-is_over : goal.returns-else-not-is_over
returns-else-not-is_over g c =
    goes_there _ _ _ c.in-Some.client c.attend.new.client (sym c.take.ensures.value ∙ c.in-Some.is) c.take.ensures.after c.attend.ensures
    (c.is_over.ensures.0 (grind (arith, c.if-not-is_over.false)))
