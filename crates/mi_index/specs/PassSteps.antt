-- What a step on one structure asks, and what it gives: a node joins it, leaves it, or comes back to it.
use Rattle.std.specs.Prelude.{ℕ, Option}
use Rattle.mi_node.specs.Refs.{Ref}
use Rattle.mi_index.specs.Places.{IsOneOf, CanJoin, IsJoined, IsLeft, CanReturn, IsBack}
use Rattle.mi_index.specs.Pass.{Asks, Gives}
use Rattle.mi_node.specs.declared.old_place.OldPlace.{OldPlace}

abbrev pub joining_one : Ref → ℕ → Option Ref → Asks
joining_one r stamp b s x m rs = CanJoin x m r stamp b rs

abbrev pub joined_one : Ref → ℕ → Option Ref → Gives
joined_one r stamp b s x m n rs us = IsJoined x m n r stamp b rs us

abbrev pub leaving_one : Ref → Asks
leaving_one r s x m rs = IsOneOf r rs

abbrev pub left_one : Ref → Gives
left_one r s x m n rs us = IsLeft x m n r rs us

abbrev pub returning_one : Ref → OldPlace → Asks
returning_one r p s x m rs = CanReturn x m r p rs

abbrev pub returned_one : Ref → OldPlace → Gives
returned_one r p s x m n rs us = IsBack x m n r p rs us
