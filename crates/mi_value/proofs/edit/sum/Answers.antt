-- The sum, where it fits.
use Rattle.std.proofs.Common.{rules}
use Rattle.mi_value.proofs.edit.sum.Goals as goal

pub returns-in-Some-Int : goal.returns-in-Some-Int
returns-in-Some-Int c = search rules
