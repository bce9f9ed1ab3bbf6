-- Who is there is judged.
use Rattle.std.proofs.Common.{sym, ◌∙◌}
use Rattle.mi_clients.proofs.BesideLemmas.{judged_there}
use Rattle.mi_clients.proofs.beside.Beside.judge.Goals as goal

pub returns-in-Some : goal.returns-in-Some
returns-in-Some g c =
    judged_there c.args.limit c.args.now _ c.in-Some.client c.judge.new.client (sym c.take.ensures.value ∙ c.in-Some.is) c.judge.ensures
