use Rattle.std.proofs.Common.{◌≡◌, true}
use Rattle.std.specs.List.{AllByRecursion}
use Rattle.mi_catalog.specs.Fits.{fits_record}
use Rattle.mi_base.specs.Base.{row_data}
use Rattle.mi_base.specs.Reads.{FitsRow}
use Rattle.mi_base.specs.Reader.{reader_of}
use Rattle.mi_base.proofs.ReadLemmas.{HasRead}
use Rattle.mi_base.proofs.read.read_rows.Given as goal

-- the rows so far, which fit
abbrev pub invariant-rows : goal.invariant-rows
invariant-rows g l =
    HasRead row_data (FitsRow l.schema) l.count (g.R.Read.remaining (reader_of l.fn.lines)) (g.R.Read.remaining (reader_of l.lines))
    l.fn.lines.digest l.lines.digest l._row l.rows.items
    × AllByRecursion (λ r. fits_record l.schema.columns r.1 ≡ true) l.rows.items
