-- A change of one table is that of the database.
-- Cited by `PlainSessions::erase`, `PlainSessions::erase_key`, `PlainSessions::insert`, `PlainSessions::modify` and 2 more.
use Rattle.std.proofs.Common.{◌≡◌, ℕ, ◌<◌, length, subst, ◌∙◌, ap, arith, get_or}
use Rattle.std.proofs.lemmas.List.{get_or_default}
use Rattle.std.specs.declared.result.Result.{Result}
use Rattle.mi_value.specs.declared.refusal.Refusal.{Refusal}
use Rattle.mi_catalog.specs.Shape.{Shape}
use Rattle.mi_model.specs.Table.{Table}
use Rattle.mi_model.specs.Verdict.{Outcome}
use Rattle.mi_model.specs.Database.{Database, IsDatabase, schema_of, with_table, on_table}
use Rattle.mi_model.specs.DatabaseChange.{Meets}
use Rattle.mi_model.proofs.StepLaws.{meets_on_table}
use Rattle.mi_model.proofs.InvariantLaws.{met_is, zip_length}

-- d, the database that is asked, has as many tables as schemas; of its table t a change makes u, and answers r
module _ {A : Type 0} (n : ℕ) (change : Shape → Table → Outcome A) (d asked : Database) (same : d ≡ asked) (s : Shape) (t u found : Table)
    (r : Result A Refusal) (many : length d.tables ≡ length d.catalog.tables) (inside : n < length asked.catalog.tables)
    (at : t ≡ get_or d.tables n found) (schema : s ≡ schema_of d n) (met : Meets (change s t) r t u) where
  table_meets : Meets (on_table n change d) r d (with_table n u d)
  table_meets =
      let within : n < length d.tables = omega (arith, many, inside, ap (λ (q : Database). length q.catalog.tables) same) in
      meets_on_table n change d s t u r schema (at ∙ get_or_default _ _ _ _ within) met

  -- what the table meets, the database does
  pub database_meets : Meets (on_table n change asked) r asked (with_table n u d)
  database_meets = subst (λ (q : Database). Meets (on_table n change q) r q (with_table n u d)) same table_meets

  -- and it is a database then, with as many tables
  pub is_database : IsDatabase d → IsDatabase (on_table n change d).1
      → IsDatabase (with_table n u d) × (length (with_table n u d).tables ≡ length d.catalog.tables)
  is_database before after =
      let is : IsDatabase (with_table n u d) = met_is _ _ _ _ before after table_meets in
      (is, zip_length _ _ is.tables)
