-- The stamp of no place is too great for a place.
use Rattle.std.proofs.Common.{refl}
use Rattle.mi_node.proofs.old_place.MaybePlace.none.Goals as goal

pub returns : goal.returns
returns c = refl
