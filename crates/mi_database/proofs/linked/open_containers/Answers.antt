-- At first there are none.
use Rattle.std.proofs.Common.{rules}
use Rattle.mi_database.proofs.linked.open_containers.Goals as goal

pub loop-i-init : goal.loop-i-init
loop-i-init g c = search rules
