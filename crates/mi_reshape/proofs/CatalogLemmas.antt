-- What holds of all tables of the old catalog holds of those of the new one.
-- Cited by `catalogs::reshaped_all`.
use Rattle.std.proofs.Common.{◌≡◌, ℕ, zero, suc, ◌<◌, List, [], ◌∷◌, map, length, slice_index_or, Vec, Global, refl, sym, ap, ◌∙◌, subst, arith}
use Rattle.std.specs.Prelude.{IfOk, OnOk, option_and_then}
use Rattle.std.specs.Option.{option_map_or}
use Rattle.std.specs.List.{AllByRecursion}
use Rattle.std.specs.declared.option.Option.{Option}
use Rattle.std.specs.declared.option.Option.TheVariants.{None, Some}
use Rattle.std.specs.declared.result.Result.{Result}
use Rattle.std.specs.declared.result.Result.TheVariants.{Ok, Err}
use Rattle.std.proofs.lemmas.List.{length-map}
use Rattle.std.proofs.lemmas.List.Quantifiers.{position-Some}
use Rattle.mi_catalog.specs.declared.index.Index.{Index}
use Rattle.mi_catalog.specs.Shape.{Shape, CatalogShape, schema_at, find_table}
use Rattle.mi_model.specs.Table.{Table, ListsEach, IsTable, opened}
use Rattle.mi_container.specs.Restore.{image_table}
use Rattle.mi_container.specs.declared.restore.TableImage.{TableImage}
use Rattle.mi_reshape.specs.declared.fault.CatalogFault.{CatalogFault}
use Rattle.mi_reshape.specs.Reshaped.{reshaped_table, other_type, RowsFit}
use Rattle.mi_reshape.specs.Catalogs.{table_under, tables_under, other_column, TablesFit, TablesHold}
use Rattle.mi_reshape.proofs.FitLemmas.{reshaped_fits}
use Rattle.mi_reshape.proofs.TableLemmas.{all_at, reshaped_is_table}
use Rattle.mi_reshape.proofs.SameLemmas.{within_any}

none_listed : (s : Shape) (is : List Index) → AllByRecursion (ListsEach (opened s)) (map (λ _. []) is)
none_listed s [] = tt
none_listed s (i ∷ is) = (λ id. refl, none_listed s is)

opened_holds : (s : Shape) → IsTable s (opened s)
opened_holds s = record { ordered = tt; one_each = length-map s.indexes (λ _. []); complete = none_listed s s.indexes }

map_at : {X Y : Type 0} (f : X → Y) (xs : List X) (k : ℕ) (d : X) (e : Y) → k < length xs → slice_index_or (map f xs) k e ≡ f (slice_index_or xs k d)
map_at f [] k d e within = absurd (omega arith)
map_at f (x ∷ xs) zero d e within = refl
map_at f (x ∷ xs) (suc k) d e within = map_at f xs k d e (omega arith)

found_within : (c : CatalogShape) (s : Shape) (x : ℕ) → find_table c s.table_name ≡ Some x → x < length c.tables
found_within c s x e = (position-Some _ c.tables x s e).0

-- One table

old_at : (c : CatalogShape) (tables : List Table) (s : Shape) (x : ℕ) → length tables ≡ length c.tables → x < length c.tables
    → slice_index_or tables x (opened (schema_at c x)) ≡ slice_index_or tables x (opened s)
old_at c tables s x long within = within_any tables x _ _ (subst (λ n. x < n) (sym long) within)

under_holds : (from : CatalogShape) (tables : List Table) (s : Shape) (o : Option ℕ)
    → length tables ≡ length from.tables → ((x : ℕ) → o ≡ Some x → x < length from.tables)
    → TablesHold from tables → IsTable s (option_map_or (λ x. reshaped_table (schema_at from x) s (slice_index_or tables x (opened s))) o (opened s))
under_holds from tables s None long within hold = opened_holds s
under_holds from tables s (Some x) long within hold =
    let there = within x refl in
    reshaped_is_table (schema_at from x) s _ (subst (IsTable (schema_at from x)) (old_at from tables s x long there) (hold x there))

under_fits : (from : CatalogShape) (tables : List Table) (s : Shape) (o : Option ℕ)
    → length tables ≡ length from.tables → ((x : ℕ) → o ≡ Some x → x < length from.tables)
    → option_and_then (λ x. other_type (schema_at from x) s) o ≡ None → TablesFit from tables
    → RowsFit s (option_map_or (λ x. reshaped_table (schema_at from x) s (slice_index_or tables x (opened s))) o (opened s)).rows
under_fits from tables s None long within none fit = tt
under_fits from tables s (Some x) long within none fit =
    let there = within x refl in
    reshaped_fits (schema_at from x) s (slice_index_or tables x (opened s)) none
    (subst (λ (t : Table). RowsFit (schema_at from x) t.rows) (old_at from tables s x long there) (fit x there))

-- All of them

tables_hold : (from to : CatalogShape) (tables : List Table) → length tables ≡ length from.tables → TablesHold from tables
    → TablesHold to (tables_under from to tables)
tables_hold from to tables long hold x within =
    subst (IsTable (schema_at to x)) (sym (map_at (table_under from tables) to.tables x _ (opened (schema_at to x)) within))
    (under_holds from tables (schema_at to x) (find_table from (schema_at to x).table_name) long (found_within from (schema_at to x)) hold)

tables_fit : (from to : CatalogShape) (tables : List Table) → length tables ≡ length from.tables
    → AllByRecursion (λ s. other_column from s ≡ None) to.tables → TablesFit from tables → TablesFit to (tables_under from to tables)
tables_fit from to tables long none fit x within =
    subst (λ (t : Table). RowsFit (schema_at to x) t.rows) (sym (map_at (table_under from tables) to.tables x _ (opened (schema_at to x)) within))
    (under_fits from tables (schema_at to x) (find_table from (schema_at to x).table_name) long (found_within from (schema_at to x))
    (all_at (λ s. other_column from s ≡ None) to.tables x _ none within) fit)

-- the tables of a result hold, of images that were lent
pub result_hold : (from to : CatalogShape) (images lent : List TableImage) (r : Result (Vec TableImage Global) CatalogFault)
    → length images ≡ length from.tables → lent ≡ images → IfOk r (λ m. map image_table m.items ≡ tables_under from to (map image_table lent))
    → IfOk r (λ m. TablesHold from (map image_table images) → TablesHold to (map image_table m.items))
result_hold from to images lent (Ok m) long same e =
    λ hold. subst (TablesHold to) (sym (e ∙ ap (λ is. tables_under from to (map image_table is)) same))
    (tables_hold from to (map image_table images) (length-map images image_table ∙ long) hold)
result_hold from to images lent (Err f) long same e = tt

-- their rows fit
pub result_fit : (from to : CatalogShape) (images lent : List TableImage) (r : Result (Vec TableImage Global) CatalogFault)
    → length images ≡ length from.tables → lent ≡ images → IfOk r (λ m. map image_table m.items ≡ tables_under from to (map image_table lent))
    → OnOk r (AllByRecursion (λ s. other_column from s ≡ None) to.tables)
    → IfOk r (λ m. TablesFit from (map image_table images) → TablesFit to (map image_table m.items))
result_fit from to images lent (Ok m) long same e none =
    λ fit. subst (TablesFit to) (sym (e ∙ ap (λ is. tables_under from to (map image_table is)) same))
    (tables_fit from to (map image_table images) (length-map images image_table ∙ long) none fit)
result_fit from to images lent (Err f) long same e none = tt
