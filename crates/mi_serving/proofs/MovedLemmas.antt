-- Tables under another schema: why tables are refused, and that a journal was moved.
-- Cited by `moving::move_journal`, `moving::moved`, `moving::restored_under` and `moving::settled_once`.
use Rattle.std.proofs.Common.{◌≡◌, ◌∙◌, ℕ, Bool, true, List, map, Option, Some, Result, Ok, Err, ap, inl, inr, subst}
use Rattle.std.specs.Prelude.{◌⊎◌, OnOk}
use Rattle.std.specs.Option.{option_map}
use Rattle.std.specs.String.{string_bytes}
use Rattle.std.proofs.lemmas.Option.{slice_get-map}
use Rattle.mi_catalog.specs.Shape.{Shape, CatalogShape, schema_at}
use Rattle.mi_container.specs.declared.restore.RestoreFault.{RestoreFault}
use Rattle.mi_container.specs.declared.restore.TableImage.{TableImage}
use Rattle.mi_container.specs.Restore.{image_table, IsRestoreFault}
use Rattle.mi_database.specs.declared.restored.DatabaseFault.TheVariants as database
use Rattle.mi_database.specs.Restored.{IsDatabaseFault}
use Rattle.mi_model.specs.Database.{Database, depth}
use Rattle.mi_commands.specs.Holder.{HeldDatabase}
use Rattle.mi_hub.specs.Run.{HubState}
use Rattle.mi_program.specs.Source.{IsCatalog}
use Rattle.mi_recovery.specs.declared.asking.Asked.{Asked}
use Rattle.mi_recovery.specs.declared.place.JournalSchema.{JournalSchema}
use Rattle.mi_recovery.specs.declared.place.Position.{Position}
use Rattle.mi_recovery.specs.Segments.{IsAskedBehind}
use Rattle.mi_rebase.specs.Rebase.{IsBegun}
use Rattle.mi_serving.specs.declared.failure.Failure.TheVariants.{Memory}
use Rattle.mi_serving.specs.declared.failure.Fault.{Fault}
use Rattle.mi_serving.specs.declared.words.JournalWords.{JournalWords}
use Rattle.mi_serving.specs.Moved.{failure_of_table, TellsIndex, IsRestoreRefusal, IsSettled, IsUnder, HasMoved}
use Rattle.mi_serving.specs.Served.{IsSchemaOf, StandsAt}

-- the fault of a table says why the tables are refused
pub table_refused : (to catalog : CatalogShape) (images : List TableImage) (revision n : ℕ) (e : RestoreFault) (s : Shape) (f : Fault) → catalog ≡ to
    → s ≡ schema_at to n → IsDatabaseFault catalog images revision (database.Table n e)
    → (f.failure ≡ Memory) ⊎ (f.failure ≡ failure_of_table e) → TellsIndex s e f → IsRestoreRefusal to (map image_table images) f
table_refused to catalog images revision n e s f same is why (inl memory) told = inl memory
table_refused to catalog images revision n e s f same is why (inr says) told = inr (inr record {
  number = n;
  table = image_table why.1.0;
  why = e;
  is = slice_get-map image_table images n ∙ ap (option_map image_table) why.1.1;
  breaks = subst (λ (k : CatalogShape). IsRestoreFault (schema_at k n) (image_table why.1.0) e) same why.1.2;
  says = says;
  told = subst (λ (k : Shape). TellsIndex k e f) is told;
})

module _ {F : Type 0} (is_locked : F → Type 0) (is_seen : List ℕ → F → Type 0) (is_newest : List ℕ → ℕ → Type 0) (contents stays : F → Option (List ℕ)) where
  -- what was asked was asked behind where its base stands
  pub settled_at : (from same : CatalogShape) (words : JournalWords) (file : List ℕ) (schema : JournalSchema) (position place : Option Position)
      (old : HubState) (asked : Asked F) (end : HeldDatabase) → from ≡ same → place ≡ position → file ≡ string_bytes words.file
      → StandsAt is_seen contents from (string_bytes schema.hash) (Some (string_bytes words.file)) position old
      → IsAskedBehind is_locked is_seen (is_newest file) contents file schema place old.held asked end → depth end.database ≡ 0
      → IsSettled is_locked is_seen is_newest contents same words schema asked end
  settled_at from same words file schema position place old asked end c a b stands behind none = record {
    position = position;
    old = old;
    stands = subst (λ (k : CatalogShape). StandsAt is_seen contents k (string_bytes schema.hash) (Some (string_bytes words.file)) position old) c stands;
    behind = subst (λ f. IsAskedBehind is_locked is_seen (is_newest f) contents f schema position old.held asked end) b
        (subst (λ p. IsAskedBehind is_locked is_seen (is_newest file) contents file schema p old.held asked end) a behind);
    none = none;
  }

  -- what was asked, put under the new catalog and begun with was moved
  pub has_moved : (from to : CatalogShape) (words : JournalWords) (path : List ℕ) (r : Result (Unit {0}) Fault) (schema : JournalSchema)
      (asked : Asked F) (end : HeldDatabase) (d new : Database) → d ≡ end.database → IsSchemaOf from schema
      → IsSettled is_locked is_seen is_newest contents from words schema asked end → IsUnder d to new
      → OnOk r ((s : JournalSchema) × IsSchemaOf new.catalog s × IsBegun is_locked is_seen (is_newest path) contents stays path s new)
      → OnOk r (HasMoved is_locked is_seen is_newest contents stays from to words path)
  has_moved from to words path (Ok done) schema asked end d new e of settled under begun = record {
    schema = schema;
    asked = asked;
    end = end;
    new = new;
    new_schema = begun.0;
    of_catalog = of;
    settled = settled;
    under = subst (λ (k : Database). IsUnder k to new) e under;
    of_new = subst (λ (k : CatalogShape). IsSchemaOf k begun.0) (ap (λ (k : Database). k.catalog) under.is) begun.1;
    begun = begun.2;
  }
  has_moved from to words path (Err fault) schema asked end d new e of settled under begun = tt

  -- a journal of the named files' catalogs was moved
  pub moved_of_files : {G : Type 0} (remaining : G → Option (List ℕ)) (named same : Bool) (from to : CatalogShape) (words : JournalWords)
      (path file : List ℕ) (r : Result (Unit {0}) Fault) → named ≡ same → path ≡ file → IsCatalog remaining named (Ok from)
      → IsCatalog remaining true (Ok to) → OnOk r (HasMoved is_locked is_seen is_newest contents stays from to words path)
      → OnOk r ((f : CatalogShape) × IsCatalog remaining same (Ok f) × (t : CatalogShape) × IsCatalog remaining true (Ok t)
      × HasMoved is_locked is_seen is_newest contents stays f t words file)
  moved_of_files remaining named same from to words path file (Ok done) a b old new moved = (
    from,
    subst (λ n. IsCatalog remaining n (Ok from)) a old,
    to,
    new,
    subst (λ f. HasMoved is_locked is_seen is_newest contents stays from to words f) b moved,
  )
  moved_of_files remaining named same from to words path file (Err fault) a b old new moved = tt
