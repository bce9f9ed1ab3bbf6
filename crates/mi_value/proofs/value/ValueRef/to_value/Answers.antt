-- A flag is copied as it is.
use Rattle.mi_value.proofs.value.ValueRef.to_value.Goals as goal

pub returns-in-Flag : goal.returns-in-Flag
returns-in-Flag c = rw c.in-Flag.is
