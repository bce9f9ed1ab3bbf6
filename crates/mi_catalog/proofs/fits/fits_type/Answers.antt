-- A text fits by its length.
use Rattle.mi_catalog.proofs.fits.fits_type.Goals as goal

pub returns-in-Text-Text : goal.returns-in-Text-Text
returns-in-Text-Text c = rw (c.in-Text-Text.is-0, c.in-Text-Text.is-1)
