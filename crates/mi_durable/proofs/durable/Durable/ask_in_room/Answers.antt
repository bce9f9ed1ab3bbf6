-- A line that is turned away found no room.
use Rattle.std.proofs.Common.{◌≡◌, Bool, true, false, not, refl}
use Rattle.mi_durable.proofs.durable.Durable.ask_in_room.Goals as goal

lacking : (there lacks : Bool) → there ≡ not lacks → there ≡ false → lacks ≡ true
lacking there true is none = refl
lacking there false is none = cc

pub returns-in-Ok-clause-turned_away : goal.returns-in-Ok-clause-turned_away
returns-in-Ok-clause-turned_away g c = λ _. (
  c.in-Some.reply.now,
  c.in-Ok.ensures.ok,
  c.in-Some.ensures.some,
  lacking c.make_room.result _ c.make_room.ensures.room c.if-make_room.false,
  refl,
  c.make_room.ensures.appended,
)
