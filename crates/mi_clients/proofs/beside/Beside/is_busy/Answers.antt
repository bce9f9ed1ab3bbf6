-- Who is there is busy just where the place is.
use Rattle.mi_clients.proofs.beside.Beside.is_busy.Goals as goal

pub returns-in-Some-clause-busy : goal.returns-in-Some-clause-busy
returns-in-Some-clause-busy g c = λ is. (c.in-Some.client, c.in-Some.is, c.is_busy.ensures.0 is)
