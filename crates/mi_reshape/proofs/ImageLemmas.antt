-- The table of an image that is found by its number.
-- Cited by `catalogs::put_one`.
use Rattle.std.proofs.Common.{◌≡◌, ℕ, zero, suc, ◌<◌, List, [], ◌∷◌, map, length, slice_index_or, sym, ap, ◌∙◌, arith}
use Rattle.std.specs.Prelude.{IfOk}
use Rattle.std.specs.Option.{option_map_or}
use Rattle.std.specs.declared.option.Option.TheVariants.{Some}
use Rattle.std.specs.declared.result.Result.{Result}
use Rattle.std.specs.declared.result.Result.TheVariants.{Ok, Err}
use Rattle.mi_catalog.specs.Shape.{Shape, CatalogShape, schema_at, find_table}
use Rattle.mi_model.specs.Table.{Table, opened}
use Rattle.mi_container.specs.Restore.{image_table}
use Rattle.mi_container.specs.declared.restore.TableImage.{TableImage}
use Rattle.mi_reshape.specs.declared.fault.ReshapeFault.{ReshapeFault}
use Rattle.mi_reshape.specs.Reshaped.{reshaped_table}
use Rattle.mi_reshape.specs.Catalogs.{table_under}

image_at : (images : List TableImage) (n : ℕ) (image : TableImage) (t : Table) → n < length images → image ≡ slice_index_or images n image
    → slice_index_or (map image_table images) n t ≡ image_table image
image_at [] n image t within is = absurd (omega arith)
image_at (i ∷ images) zero image t within is = sym (ap image_table is)
image_at (i ∷ images) (suc n) image t within is = image_at images n image t (omega arith) is

under_found : (from : CatalogShape) (old s : Shape) (tables : List Table) (n : ℕ) (t : Table) (r : Result TableImage ReshapeFault)
    → Some n ≡ find_table from s.table_name → old ≡ schema_at from n → slice_index_or tables n (opened s) ≡ t
    → IfOk r (λ m. image_table m ≡ reshaped_table old s t)
    → IfOk r (λ m. image_table m ≡ table_under from tables s)
under_found from old s tables n t (Ok m) found is at e =
    e ∙ ap (λ o. reshaped_table o s t) is ∙ sym (ap (reshaped_table (schema_at from n) s) at)
    ∙ ap (λ o. option_map_or (λ x. reshaped_table (schema_at from x) s (slice_index_or tables x (opened s))) o (opened s)) found
under_found from old s tables n t (Err f) found is at e = tt

-- the table of a call's result, where the old schema and the image were found
pub under_result : (from : CatalogShape) (old s : Shape) (images : List TableImage) (n : ℕ) (image : TableImage) (r : Result TableImage ReshapeFault)
    → n < length images → Some n ≡ find_table from s.table_name → old ≡ schema_at from n → image ≡ slice_index_or images n image
    → IfOk r (λ m. image_table m ≡ reshaped_table old s (image_table image)) → IfOk r (λ m. image_table m ≡ table_under from (map image_table images) s)
under_result from old s images n image r within found is at e =
    under_found from old s (map image_table images) n (image_table image) r found is (image_at images n image (opened s) within at) e
