-- A place has its stamp and its neighbours.
use Rattle.std.proofs.lemmas.Bool.{lt-ltb}
use Rattle.mi_node.proofs.old_place.MaybePlace.place.Goals as goal

pub returns-then-self-lt-NO_STAMP : goal.returns-then-self-lt-NO_STAMP
returns-then-self-lt-NO_STAMP c =
    rw (← c.self.view_is, lt-ltb c.self.inside.stamp 9223372036854775808 c.if-self-lt-NO_STAMP.true, c.node.ensures, c.node-then-self-lt-NO_STAMP.ensures)
