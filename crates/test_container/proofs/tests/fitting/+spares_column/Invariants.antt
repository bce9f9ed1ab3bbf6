-- fewer edits each time
use Rattle.std.proofs.Common.{length}
use Rattle.test_container.proofs.tests.fitting.+spares_column.Given as goal

abbrev pub decreases-spares_column : goal.decreases-spares_column
decreases-spares_column l = length l.edits.now
