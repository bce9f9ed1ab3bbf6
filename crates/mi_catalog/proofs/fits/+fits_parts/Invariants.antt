use Rattle.std.proofs.Common.{length}
use Rattle.mi_catalog.proofs.fits.+fits_parts.Given as goal

abbrev pub decreases-fits_parts : goal.decreases-fits_parts
decreases-fits_parts l = length l.parts.now
