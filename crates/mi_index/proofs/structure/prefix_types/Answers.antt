-- The types of the first part and of the second.
use Rattle.std.proofs.Common.{arith}
use Rattle.std.proofs.lemmas.Grind.{common_steps}
use Rattle.mi_index.proofs.structure.prefix_types.Goals as goal

pub returns : goal.returns
returns c = grind (arith, common_steps)
