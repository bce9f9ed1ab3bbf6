-- What is asked is the line that the close ends.
use Rattle.mi_hub.proofs.serve.serve_last.Goals as goal

pub returns-clause-ok : goal.returns-clause-ok
returns-clause-ok g c = rw c.last.ensures at c.serve_some.ensures.ok

pub returns-clause-err : goal.returns-clause-err
returns-clause-err g c = rw c.last.ensures at c.serve_some.ensures.err
