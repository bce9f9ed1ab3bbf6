-- The rows of each table fit, since those of its container do.
use Rattle.std.proofs.Common.{map}
use Rattle.mi_database.proofs.RestoredLemmas.{restored_fit}
use Rattle.mi_database.proofs.linked.Linked.restored.Goals as goal

pub returns-clause-fit : goal.returns-clause-fit
returns-clause-fit g c =
    let xs = c.in-Ok.containers.items in
    restored_fit c.args.catalog c.args.secret c.args.images.items (map g.C.Container.shape xs) (map g.C.Container.plain xs) (map g.C.Container.secrets xs)
    c.in-Ok.ensures.restored c.new.result.sessions c.args.revision

pub returns-in-Err-clause-fault : goal.returns-in-Err-clause-fault
returns-in-Err-clause-fault g c = c.in-Err.ensures.fault c.args.revision
