-- The record that is shown is the one that was found.
use Rattle.std.proofs.Common.{Ok, Err, refl}
use Rattle.mi_embed.proofs.engine.Engine.find.Goals as goal

pub returns-in-Ok : goal.returns-in-Ok
returns-in-Ok c = (Ok (c.in-Ok.id, c.in-Ok.row.now), c.in-Ok.ensures, c.shown.ensures)

pub returns-in-Err : goal.returns-in-Err
returns-in-Err c = (Err c.in-Err.refusal, c.in-Err.ensures, (c.refused.ensures, refl, refl))
