-- A flag is lent as it is.
use Rattle.std.proofs.Common.{sym}
use Rattle.mi_value.proofs.value.Value.lend.Goals as goal

pub returns-in-Flag : goal.returns-in-Flag
returns-in-Flag c = sym c.in-Flag.is
