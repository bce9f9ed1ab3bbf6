-- The part descends.
use Rattle.std.proofs.Common.{refl}
use Rattle.mi_catalog.proofs.accounts.descending.Goals as goal

pub returns : goal.returns
returns c = refl
