-- Which way a walk goes along an index.
use Rattle.std.specs.Prelude.{Bool, true, false}
use Rattle.mi_tree.specs.declared.walk.Direction.{Direction}
use Rattle.mi_tree.specs.declared.walk.Direction.TheVariants.{Ascending, Descending}

abbrev pub direction_of : Bool → Direction
direction_of true = Descending
direction_of false = Ascending
