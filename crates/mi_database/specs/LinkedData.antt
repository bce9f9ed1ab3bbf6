-- What contracts see of a linked database, and the database that it means.
use Rattle.std.specs.Prelude.{◌≡◌, ◌⊎◌, ℕ, ◌+◌, ◌-◌, ◌<◌, ◌≤◌, Bool, true, false, List, [], ◌∷◌, length, map, take, slice_set}
use Rattle.std.specs.declared.option.Option.{Option}
use Rattle.mi_value.specs.declared.limits.TheConstants.{LAST_COUNT}
use Rattle.mi_catalog.specs.Shape.{Shape, CatalogShape}
use Rattle.mi_model.specs.Database.{Database}
use Rattle.mi_container.specs.Data.{Data}
use Rattle.mi_container.specs.Changes.{opened_data}
use Rattle.mi_container.specs.Secrets.{opened_secrets}
use Rattle.mi_node.specs.declared.old_place.OldPlace.{OldPlace as Place}
use Rattle.mi_container.specs.Inverse.{OldPlace, Inverse, settled}
use Rattle.mi_container.specs.Backs.{places_seen}
use Rattle.mi_database.specs.Journal.{JournalEntry, Journal, data_at, entry_back, entries, unwound, old_of, tables_of, state_of, IsLinked}
use Rattle.mi_journal.specs.Noted.{OldestIsEmpty}
use Rattle.mi_journal.specs.Stored.{Stored}

-- the containers' data, the inverses of each session, the revision, the journal's room, and of each container the ids in the nodes of its pool
-- and the secrets of its indexes
pub record LinkedData : Type 0 where
  pub catalog : CatalogShape
  pub datas : List Data
  pub journal : Journal
  pub revision : ℕ
  pub changes : ℕ
  pub starts : ℕ
  pub held : List (List ℕ)
  pub secrets : List (List (Option ℕ))

-- as the fields have it
abbrev pub data_seen : CatalogShape → List Data → Stored → ℕ → List (List ℕ) → List (List (Option ℕ)) → LinkedData
data_seen c ds j r held secrets = record {
  catalog = c;
  datas = ds;
  journal = j.sessions;
  revision = r;
  changes = j.changes;
  starts = j.starts;
  held = held;
  secrets = secrets;
}

abbrev pub meaning : LinkedData → Database
meaning h = state_of h.catalog h.datas h.journal h.revision

-- what holds of the parts of every linked database, over the schemas of its containers
pub record IsLinkedData (ss : List Shape) (c : CatalogShape) (ds : List Data) (j : Journal) (r : ℕ) : Type 0 where
  pub linked : IsLinked c ds j
  pub shapes : ss ≡ c.tables
  pub many : length ds ≡ length c.tables
  pub numbered : length j ≤ r
  pub last : r ≤ LAST_COUNT

-- other room, and all else the same
abbrev pub with_room : ℕ → ℕ → LinkedData → LinkedData
with_room changes starts h = record h { changes = changes; starts = starts }

-- in a session there is room for so many inverses
abbrev pub RoomFor : ℕ → LinkedData → Type 0
RoomFor n h = 0 < length h.journal → n ≤ h.changes

-- a change's inverse is settled where no session is open
abbrev pub kept_datas : ℕ → Inverse → Journal → List Data → List Data
kept_datas n i [] ds = slice_set ds n (settled i (data_at ds n))
kept_datas n i (newest ∷ older) ds = ds

-- these are the places laid down, where a session is open
abbrev pub AreNoted : Journal → List (Option OldPlace) → List (Option Place) → Type 0
AreNoted j ps laid = 0 < length j → ps ≡ places_seen laid

-- the newest session's entries, and the other sessions
abbrev pub newest_of : Journal → List JournalEntry
newest_of [] = []
newest_of (newest ∷ older) = newest

abbrev pub older_of : Journal → Journal
older_of [] = []
older_of (newest ∷ older) = older

-- the newest entry taken back
abbrev pub back_by : List JournalEntry → List Data → List Data
back_by [] ds = ds
back_by (e ∷ es) ds = entry_back e ds

-- all sessions but the oldest
abbrev pub newer_than_oldest : {A : Type 0} → List A → List A
newer_than_oldest xs = take (length xs - 1) xs

-- the oldest change is settled, or the oldest session has none: but for that session all that is meant stays
pub record SettlesSome (old new : LinkedData) : Type 0 where
  pub fewer : length (entries new.journal) + 1 ≡ length (entries old.journal)
  pub open_ : length new.journal ≡ length old.journal
  pub newer : newer_than_oldest new.journal ≡ newer_than_oldest old.journal
  pub tables : tables_of new.datas ≡ tables_of old.datas
  pub old_ : newer_than_oldest (old_of new.datas new.journal) ≡ newer_than_oldest (old_of old.datas old.journal)

pub record SettlesNone (old new : LinkedData) : Type 0 where
  pub datas : new.datas ≡ old.datas
  pub journal : new.journal ≡ old.journal
  pub none : (old.journal ≡ []) ⊎ OldestIsEmpty old.journal

abbrev pub SettlesOne : Bool → LinkedData → LinkedData → Type 0
SettlesOne true old new = SettlesSome old new
SettlesOne false old new = SettlesNone old new

-- all changes of the newest session taken back, which stays open
pub record UnwindsNewest (old new : LinkedData) : Type 0 where
  pub catalog : new.catalog ≡ old.catalog
  pub secrets : new.secrets ≡ old.secrets
  pub revision : new.revision ≡ old.revision
  pub datas : new.datas ≡ unwound (newest_of old.journal) old.datas
  pub journal : new.journal ≡ [] ∷ older_of old.journal
  pub changes : old.changes ≤ new.changes
  pub starts : new.starts ≡ old.starts

-- the oldest session ended, and its changes settled
pub record EndsOldest (old new : LinkedData) : Type 0 where
  pub catalog : new.catalog ≡ old.catalog
  pub secrets : new.secrets ≡ old.secrets
  pub revision : new.revision ≡ old.revision
  pub journal : new.journal ≡ newer_than_oldest old.journal
  pub tables : tables_of new.datas ≡ tables_of old.datas
  pub old_ : old_of new.datas new.journal ≡ newer_than_oldest (old_of old.datas old.journal)
  pub changes : old.changes ≤ new.changes
  pub starts : new.starts ≡ old.starts + 1

-- what a catalog opens with under a secret
abbrev pub opened_linked : ℕ → ℕ → ℕ → CatalogShape → LinkedData
opened_linked changes starts secret c = record {
  catalog = c;
  datas = map opened_data c.tables;
  journal = [];
  revision = c.first_revision;
  changes = changes;
  starts = starts;
  held = map (λ _. []) c.tables;
  secrets = map (opened_secrets secret) c.tables;
}
