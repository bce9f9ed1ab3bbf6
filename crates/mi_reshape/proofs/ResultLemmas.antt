-- What the laws say of a reshaped table, of a call's result.
-- Cited by `reshape::reshaped`.
use Rattle.std.proofs.Common.{◌≡◌, sym, subst}
use Rattle.std.specs.Prelude.{IfOk, OnOk}
use Rattle.std.specs.declared.option.Option.TheVariants.{None}
use Rattle.std.specs.declared.result.Result.{Result}
use Rattle.std.specs.declared.result.Result.TheVariants.{Ok, Err}
use Rattle.mi_catalog.specs.Shape.{Shape}
use Rattle.mi_model.specs.Table.{Table, IsTable}
use Rattle.mi_container.specs.Restore.{image_table}
use Rattle.mi_container.specs.declared.restore.TableImage.{TableImage}
use Rattle.mi_reshape.specs.declared.fault.ReshapeFault.{ReshapeFault}
use Rattle.mi_reshape.specs.Reshaped.{reshaped_table, other_type, RowsFit}
use Rattle.mi_reshape.proofs.FitLemmas.{reshaped_fits}
use Rattle.mi_reshape.proofs.TableLemmas.{reshaped_is_table}

-- the rows of a result fit
pub result_fits : (from to : Shape) (i : TableImage) (r : Result TableImage ReshapeFault) → IfOk r (λ m. image_table m ≡ reshaped_table from to (image_table i))
    → OnOk r (other_type from to ≡ None) → IfOk r (λ m. RowsFit from i.rows.items → RowsFit to m.rows.items)
result_fits from to i (Ok m) e n = λ fit. subst (λ (t : Table). RowsFit to t.rows) (sym e) (reshaped_fits from to (image_table i) n fit)
result_fits from to i (Err f) e n = tt

-- a result is a table
pub result_holds : (from to : Shape) (i : TableImage) (r : Result TableImage ReshapeFault)
    → IfOk r (λ m. image_table m ≡ reshaped_table from to (image_table i)) → IfOk r (λ m. IsTable from (image_table i) → IsTable to (image_table m))
result_holds from to i (Ok m) e = λ is. subst (IsTable to) (sym e) (reshaped_is_table from to (image_table i) is)
result_holds from to i (Err f) e = tt
