-- What a document says, as it is written: names, words and numbers, with the defaults of what is absent.
use Rattle.std.specs.Prelude.{ℕ, ℤ, List}
use Rattle.mi_schema.specs.declared.draft.DraftColumn.{DraftColumn}
use Rattle.mi_schema.specs.declared.draft.DraftIndex.{DraftIndex}

-- a table
pub record TableDraft : Type 0 where
  pub name : List ℕ
  pub columns : List DraftColumn
  pub indexes : List DraftIndex
  pub first_id : ℤ
  pub first_arrival : ℤ
  pub max_rows : ℤ

-- the tables in order, and the revision that the database opens with
pub record CatalogDraft : Type 0 where
  pub tables : List TableDraft
  pub first_revision : ℤ
