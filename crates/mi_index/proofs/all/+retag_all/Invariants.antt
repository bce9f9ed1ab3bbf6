-- Each call passes the structures behind the first.
use Rattle.std.proofs.Common.{length}
use Rattle.mi_index.proofs.all.+retag_all.Given as goal

abbrev pub decreases-retag_all : goal.decreases-retag_all
decreases-retag_all l = length l.structures.now
