-- The status is that of the journal, which lacks room afterwards just where it did before. Without memory for the status that is told.
use Rattle.std.proofs.Common.{inr, refl}
use Rattle.std.proofs.lemmas.Result.{on_ok_weaker}
use Rattle.mi_clients.specs.Status.{memory_line}
use Rattle.mi_clients.proofs.telling.tell_all.Goals as goal

pub returns-clause-tells : goal.returns-clause-tells
returns-clause-tells g c =
    on_ok_weaker c.tell_each-in-None.result (λ told. (told.0, memory_line, inr refl, told.1, told.2, told.3, told.4, told.5))
    c.tell_each-in-None.ensures.tells
