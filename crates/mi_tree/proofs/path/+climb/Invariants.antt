use Rattle.std.proofs.Common.{length}
use Rattle.mi_tree.specs.PathSteps.{path_steps}
use Rattle.mi_tree.proofs.path.+climb.Given as goal

abbrev pub decreases-climb : goal.decreases-climb
decreases-climb g l = length (path_steps l.nodes.now l.depth)
