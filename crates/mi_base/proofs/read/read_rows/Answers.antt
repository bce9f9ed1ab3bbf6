-- One row more, or none where a row doesn't stand.
use Rattle.std.proofs.Common.{◌≡◌, true, arith, rules}
use Rattle.mi_catalog.specs.Fits.{fits_record}
use Rattle.mi_base.specs.Base.{row_data}
use Rattle.mi_base.specs.Reads.{FitsRow}
use Rattle.mi_base.proofs.ReadLemmas.{read_more_by, read_fails, all_push_by}
use Rattle.mi_base.proofs.read.read_rows.Goals as goal

pub returns-in_err-read_row-clause-exact : goal.returns-in_err-read_row-clause-exact
returns-in_err-read_row-clause-exact g c =
    read_fails row_data (FitsRow c.args.schema.now) c.args.count _ _ _ _ _ c.rows._row c.rows.rows.items c.in_err-read_row.field-0.0 _ c.from_residual.result
    (search rules) (omega arith) c.rows.invariant.0 c.in_err-read_row.ensures.exact

pub rows-preserved : goal.rows-preserved
rows-preserved g c = (
  read_more_by row_data (FitsRow c.args.schema.now) c.args.count _ _ _ _ _ _ c.rows._row c.rows.rows.items c.in_ok-read_row.field-0 c.put.new.list.items
      c.in_ok-put.ensures (omega arith) c.rows.invariant.0 c.in_ok-read_row.ensures.ok c.in_ok-read_row.ensures.exact,
  all_push_by (λ r. fits_record c.args.schema.now.columns r.1 ≡ true) c.rows.rows.items c.in_ok-read_row.field-0 c.put.new.list.items
      c.in_ok-put.ensures c.rows.invariant.1 c.in_ok-read_row.ensures.fits,
)
