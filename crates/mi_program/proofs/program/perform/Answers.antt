-- The catalog comes first, and what fails there has read and written nothing.
use Rattle.std.proofs.Common.{Ok, Err, refl}
use Rattle.mi_program.proofs.ServingLemmas.{same_naming}
use Rattle.mi_program.proofs.program.perform.Goals as goal

pub returns-in-Ok : goal.returns-in-Ok
returns-in-Ok g c = record {
  catalog = Ok c.in-Ok.catalog;
  read = same_naming _ _ _ _ c.as_deref.ensures.variant c.in-Ok.ensures;
  used = c.use_catalog.ensures;
}

pub returns-in-Err : goal.returns-in-Err
returns-in-Err g c = record {
  catalog = Err c.in-Err.failure;
  read = same_naming _ _ _ _ c.as_deref.ensures.variant c.in-Err.ensures;
  used = (refl, (refl, refl));
}
