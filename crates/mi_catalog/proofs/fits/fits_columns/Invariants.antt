-- whether the values that are left fit the columns that are left is whether all fit all
use Rattle.std.proofs.Common.{◌≡◌, drop}
use Rattle.mi_catalog.specs.Fits as meaning
use Rattle.mi_catalog.proofs.fits.fits_columns.Given as goal

abbrev pub invariant-columns : goal.invariant-columns
invariant-columns l = meaning.fits_record (drop l.column-index l.columns) l.values ≡ meaning.fits_record l.columns l.row
