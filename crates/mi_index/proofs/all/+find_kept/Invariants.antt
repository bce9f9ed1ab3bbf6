-- Each call passes the structures behind the first.
use Rattle.std.proofs.Common.{length}
use Rattle.mi_index.proofs.all.+find_kept.Given as goal

abbrev pub decreases-find_kept : goal.decreases-find_kept
decreases-find_kept l = length l.structures.now
