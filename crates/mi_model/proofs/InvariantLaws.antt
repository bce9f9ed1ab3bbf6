-- What a change of one table leaves of a database.
-- Cited by `mi_database`, `mi_plain`, `mi_query` and `mi_rebase`.
use Rattle.std.proofs.Common.{◌≡◌, ℕ, sym, subst, ap, refl, suc, ◌<◌, length, List, [], ◌∷◌, arith}
use Rattle.std.specs.List.{AllZip}
use Rattle.std.specs.declared.result.Result.{Result}
use Rattle.std.specs.declared.result.Result.TheVariants.{Ok, Err}
use Rattle.mi_value.specs.declared.refusal.Refusal.{Refusal}
use Rattle.mi_value.specs.declared.refusal.Refusal.TheVariants.{Memory}
use Rattle.mi_catalog.specs.Shape.{Shape}
use Rattle.mi_model.specs.Table.{Table, IsTable, opened}
use Rattle.mi_model.specs.Database.{Database, IsDatabase, Step, schema_of, table_of}
use Rattle.mi_model.specs.DatabaseChange.{Meets, MeetsRefusal}
use Rattle.mi_model.proofs.TableLaws.{is_table_opened}
use Rattle.mi_model.proofs.DatabaseLaws.{zip_get}

refused_is : {A : Type 0} (step : Step A) (e : Refusal) (old new : Database) → IsDatabase old → IsDatabase step.1 → MeetsRefusal step e old new → IsDatabase new
refused_is step Memory old new is after m = subst IsDatabase (sym m) is
refused_is step e old new is after m = subst IsDatabase (sym m.1) after

-- what meets a step that keeps databases is a database
pub met_is : {A : Type 0} (step : Step A) (r : Result A Refusal) (old new : Database)
    → IsDatabase old → IsDatabase step.1 → Meets step r old new → IsDatabase new
met_is step (Ok v) old new is after m = subst IsDatabase (sym m.1) after
met_is step (Err e) old new is after m = refused_is step e old new is after m

-- as many tables as schemas
pub zip_length : (shapes : List Shape) (tables : List Table) → AllZip IsTable shapes tables → length tables ≡ length shapes
zip_length [] [] all = refl
zip_length [] (t ∷ ts) all = absurd all
zip_length (s ∷ ss) [] all = absurd all
zip_length (s ∷ ss) (t ∷ ts) all = ap suc (zip_length ss ts all.1)

pub all_opened : (shapes : List Shape) → AllZip IsTable shapes (Rattle.std.proofs.Common.map opened shapes)
all_opened [] = tt
all_opened (s ∷ ss) = (is_table_opened s, all_opened ss)

-- each table of a database is one of its schema
pub table_is : (d : Database) (n : ℕ) → IsDatabase d → n < length d.catalog.tables → IsTable (schema_of d n) (table_of d n)
table_is d n is within =
    let same : length d.tables ≡ length d.catalog.tables = zip_length d.catalog.tables d.tables is.tables in
    zip_get IsTable d.catalog.tables d.tables n _ _ is.tables (omega arith)
