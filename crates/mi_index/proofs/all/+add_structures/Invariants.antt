-- Each call passes the indexes behind the first.
use Rattle.std.proofs.Common.{length}
use Rattle.mi_index.proofs.all.+add_structures.Given as goal

abbrev pub decreases-add_structures : goal.decreases-add_structures
decreases-add_structures l = length l.indexes.now
