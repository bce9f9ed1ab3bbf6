-- What an index shows of a database.
-- Cited by `pages::list` and `shown::shows_each`.
use Rattle.std.proofs.Common.{◌≡◌, ℕ, ◌<◌, length}
use Rattle.std.specs.Prelude.{IsTrue, slice_get}
use Rattle.std.specs.declared.option.Option.TheVariants.{Some}
use Rattle.mi_model.specs.Shape.{index_at}
use Rattle.mi_model.specs.Table.{has, size, ListsEach}
use Rattle.mi_model.specs.View.{view}
use Rattle.mi_model.specs.Kinds.{shows_one_list}
use Rattle.mi_model.specs.Database.{Database, IsDatabase, schema_of, table_of}
use Rattle.mi_model.proofs.InvariantLaws.{table_is}
use Rattle.mi_model.proofs.PlaceLaws.{each_in_view, length-view, listed_within, there_at}

-- an index of a database shows each record of its table once, as many as there are
pub each_shown : (d : Database) (n x : ℕ) → IsDatabase d → n < length d.catalog.tables
    → x < length (schema_of d n).indexes → ListsEach (table_of d n) (view (schema_of d n) (table_of d n) x)
each_shown d n x is there within = each_in_view (schema_of d n) (table_of d n) x (table_is d n is there) within

pub all_shown : (d : Database) (n x : ℕ) → IsDatabase d → n < length d.catalog.tables
    → x < length (schema_of d n).indexes → length (view (schema_of d n) (table_of d n) x) ≡ size (table_of d n)
all_shown d n x is there within = length-view (schema_of d n) (table_of d n) x (table_is d n is there) within

pub each_listed : (d : Database) (n x : ℕ) → IsDatabase d → n < length d.catalog.tables
    → IsTrue (shows_one_list (index_at (schema_of d n) x).kind) → ListsEach (table_of d n) (view (schema_of d n) (table_of d n) x)
each_listed d n x is there one = each_shown d n x is there (listed_within (schema_of d n) x one)

-- an id that an index shows is there
pub place_is_there : (d : Database) (n x : ℕ) → IsDatabase d → n < length d.catalog.tables → IsTrue (shows_one_list (index_at (schema_of d n) x).kind)
    → (k e : ℕ) → slice_get (view (schema_of d n) (table_of d n) x) k ≡ Some e → IsTrue (has (table_of d n) e)
place_is_there d n x is there one k e at = there_at (table_of d n) _ (each_listed d n x is there one) k e at
