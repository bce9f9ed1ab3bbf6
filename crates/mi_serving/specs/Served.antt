-- What a service was opened with, and served: of --journal shop.journal its base and its segments, and the tables that these have.
use Rattle.std.specs.Prelude.{◌≡◌, ◌⊎◌, ℕ, List, [], map, true, Option, Some, None, option_map, IfSome}
use Rattle.std.specs.String.{string_bytes}
use Rattle.mi_catalog.specs.Shape.{CatalogShape}
use Rattle.mi_model.specs.Database.{Database, opened_database}
use Rattle.mi_container.specs.declared.restore.TableImage.{TableImage}
use Rattle.mi_container.specs.Restore.{image_table}
use Rattle.mi_database.specs.Restored.{restored_database}
use Rattle.mi_base.specs.declared.heading.Heading.{Heading}
use Rattle.mi_base.specs.Base.{base_text}
use Rattle.mi_commands.specs.Holder.{HeldDatabase}
use Rattle.mi_hub.specs.Run.{HubState}
use Rattle.mi_recovery.specs.declared.place.JournalSchema.{JournalSchema}
use Rattle.mi_recovery.specs.declared.place.Position.{Position}
use Rattle.mi_recovery.specs.Fingerprint.{schema_hash}
use Rattle.mi_recovery.specs.Names.{base_name}
use Rattle.mi_recovery.specs.Segments.{IsOpenedBehind}
use Rattle.mi_rebase.specs.Rebase.{IsRebased, IsRebasedBeside}
use Rattle.mi_serving.specs.declared.failure.Failure.{Failure}
use Rattle.mi_serving.specs.declared.failure.Failure.TheVariants.{Poll, Turns}
use Rattle.mi_serving.specs.declared.words.JournalWords.{JournalWords}
use Rattle.mi_serving.specs.Words.{keeping_by, keeping_of, segment_bytes_of}
use Rattle.mi_serving.specs.Turns.{GoesOver, ends_serving}

-- a database of which nobody asks
abbrev pub hub_over : Database → HubState
hub_over d = record { held = record { database = d; holder = None }; attached = [] }

-- the empty tables of a catalog, of which nobody asks
abbrev pub empty_hub : CatalogShape → HubState
empty_hub catalog = hub_over (opened_database catalog)

-- the path of a journal's file, where one is named
abbrev pub path_of : Option JournalWords → Option (List ℕ)
path_of words = option_map (λ (w : JournalWords). string_bytes w.file) words

-- the headers of a catalog's journal have this
pub record IsSchemaOf (catalog : CatalogShape) (schema : JournalSchema) : Type 0 where
  pub revision : schema.revision ≡ catalog.first_revision
  pub hash : string_bytes schema.hash ≡ schema_hash catalog

-- a base's heading names this position
pub record IsNamed (heading : Heading) (position : Position) : Type 0 where
  pub segment : position.segment ≡ heading.segment
  pub line : position.line ≡ heading.line
  pub sum : position.sum ≡ heading.sum

-- a file was seen under the path of a journal's base, and what it has is the base of these tables, of that schema
abbrev pub HasBase : {F : Type 0} → (List ℕ → F → Type 0) → (F → Option (List ℕ)) → CatalogShape → List ℕ → Option (List ℕ) → Heading → List TableImage → Type 0
HasBase is_seen contents catalog hash None heading images = ⊥
HasBase {F} is_seen contents catalog hash (Some path) heading images = (string_bytes heading.schema ≡ hash) × (file : F) × is_seen (base_name path) file
    × IfSome (contents file) (λ bytes. bytes ≡ base_text heading catalog (map image_table images))

-- A hub stands behind a position of a path's journal: it has the tables of the base that names it. Without a position the catalog's tables are empty.
abbrev pub StandsAt : {F : Type 0} → (List ℕ → F → Type 0) → (F → Option (List ℕ)) → CatalogShape → List ℕ → Option (List ℕ) → Option Position
    → HubState → Type 0
StandsAt is_seen contents catalog hash path None hub = hub ≡ empty_hub catalog
StandsAt is_seen contents catalog hash path (Some position) hub = (heading : Heading) × (images : List TableImage)
    × HasBase is_seen contents catalog hash path heading images × IsNamed heading position
    × (hub ≡ hub_over (restored_database catalog images heading.revision))

-- From a hub that is as start, which stands behind a position. With a journal its lines behind that are asked, and it is opened, to be synced as the
-- words ask, in a segment of this number. Without one nothing is done.
abbrev pub Begins : {F : Type 0} → (F → Type 0) → (List ℕ → F → Type 0) → (List ℕ → ℕ → Type 0) → (F → Option (List ℕ)) → JournalSchema
    → Option Position → HubState → Option JournalWords → HubState → Option (List ℕ) → Option ℕ → Type 0
Begins is_locked is_seen is_newest contents schema position start None hub told segment = (hub ≡ start) × (segment ≡ None)
Begins is_locked is_seen is_newest contents schema position start (Some words) hub told segment = IsOpenedBehind is_locked is_seen
    (is_newest (string_bytes words.file)) contents (string_bytes words.file) schema position (keeping_by words.sync) start hub told segment

-- It began so behind a position at which a base stands, or with empty tables.
abbrev pub HasBegun : {F : Type 0} → (F → Type 0) → (List ℕ → F → Type 0) → (List ℕ → ℕ → Type 0) → (F → Option (List ℕ)) → CatalogShape → JournalSchema
    → Option JournalWords → HubState → Option (List ℕ) → Option ℕ → Type 0
HasBegun is_locked is_seen is_newest contents catalog schema words hub told segment = (position : Option Position) × (old : HubState)
    × StandsAt is_seen contents catalog (string_bytes schema.hash) (path_of words) position old
    × Begins is_locked is_seen is_newest contents schema position old words hub told segment

-- From start, of whose journal that is told, it was served until this failure. Where the poll or the turns ended it, what its steps left is told; the
-- journal went on in segments of as many bytes as the words say.
abbrev pub GoesOn : {F : Type 0} → (F → Type 0) → (F → Option (List ℕ)) → JournalSchema → Option JournalWords → HubState → Option (List ℕ) → Failure → Type 0
GoesOn is_locked contents schema words start before failure = (end : HubState) × (after : Option (List ℕ))
    × ((failure ≡ Turns) ⊎ (failure ≡ Poll)
    → GoesOver is_locked contents schema (keeping_of words) (segment_bytes_of words) start end before after) × (ends_serving failure ≡ true)

-- A service of a catalog began with what its journal's base has, or with empty tables, and served.
pub record HasServed {F : Type 0} (is_locked : F → Type 0) (is_seen : List ℕ → F → Type 0) (is_newest : List ℕ → ℕ → Type 0)
    (contents : F → Option (List ℕ)) (catalog : CatalogShape) (words : Option JournalWords) (failure : Failure) : Type 0 where
  pub schema : JournalSchema
  pub start : HubState
  pub told : Option (List ℕ)
  pub segment : Option ℕ
  pub of_catalog : IsSchemaOf catalog schema
  pub begun : HasBegun is_locked is_seen is_newest contents catalog schema words start told segment
  pub serves : GoesOn is_locked contents schema words start told failure

-- From old, which stands at a position of a path's journal, its base is made anew: of all segments, or of those in front of the newest.
abbrev pub IsMadeAnew : {F : Type 0} → (F → Type 0) → (List ℕ → F → Type 0) → (List ℕ → ℕ → Type 0) → (F → Option (List ℕ)) → (F → Option (List ℕ)) → List ℕ
    → JournalSchema → Option Position → HeldDatabase → Type 0
IsMadeAnew is_locked is_seen is_newest contents stays path schema position old =
    IsRebased is_locked is_seen (is_newest path) contents stays path schema position old
    ⊎ IsRebasedBeside is_locked is_seen (is_newest path) contents stays path schema position old

-- The journal of a catalog that the words name was rebased, from what its base has, or from empty tables, on.
pub record HasRebased {F : Type 0} (is_locked : F → Type 0) (is_seen : List ℕ → F → Type 0) (is_newest : List ℕ → ℕ → Type 0)
    (contents stays : F → Option (List ℕ)) (catalog : CatalogShape) (words : JournalWords) : Type 0 where
  pub schema : JournalSchema
  pub position : Option Position
  pub old : HubState
  pub of_catalog : IsSchemaOf catalog schema
  pub stands : StandsAt is_seen contents catalog (string_bytes schema.hash) (Some (string_bytes words.file)) position old
  pub rebased : IsMadeAnew is_locked is_seen is_newest contents stays (string_bytes words.file) schema position old.held
