-- What is done once room is taken, or nothing where memory for it is wanting.
use Rattle.std.proofs.Common.{inl, inr, refl}
use Rattle.mi_program.proofs.program.perform_buffered.Goals as goal

pub returns-in-Ok : goal.returns-in-Ok
returns-in-Ok g c = (c.make_room.new.output, c.make_room.ensures, inl c.perform.ensures)

pub returns-in-Err : goal.returns-in-Err
returns-in-Err g c = (c.make_room.new.output, c.make_room.ensures, inr (refl, (refl, refl)))
