use Rattle.std.proofs.Common.{length}
use Rattle.mi_base.proofs.rows.+lend_values.Given as goal

abbrev pub decreases-lend_values : goal.decreases-lend_values
decreases-lend_values l = length l.columns.now
