-- A stamp below 2^63 is that of a place.
use Rattle.std.proofs.lemmas.Bool.{lt-ltb}
use Rattle.mi_node.proofs.old_place.MaybePlace.new.Goals as goal

pub returns : goal.returns
returns c = rw (lt-ltb c.args.place.stamp 9223372036854775808 c.requires, c.new.ensures, c.new-2.ensures)
