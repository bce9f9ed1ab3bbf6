-- The structure of the first index, and those of the rest.
use Rattle.std.proofs.Common.{arith}
use Rattle.std.proofs.lemmas.Grind.{common_steps}
use Rattle.mi_index.proofs.all.+add_structures.Goals as goal

pub returns-in_ok-add_structures : goal.returns-in_ok-add_structures
returns-in_ok-add_structures t c = grind (arith, common_steps)
