-- fewer edits each time
use Rattle.std.proofs.Common.{length}
use Rattle.test_container.proofs.tests.fitting.+fits_edits.Given as goal

abbrev pub decreases-fits_edits : goal.decreases-fits_edits
decreases-fits_edits l = length l.edits.now
