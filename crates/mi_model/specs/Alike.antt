-- Databases that show the same: look-ups answer the same in both, and so do commands, after which they show the same.
use Rattle.std.specs.Prelude.{◌≡◌, ◌≢◌, ℕ, ◌<◌, Bool, true, IsTrue, List, [], ◌∷◌, length, IfSome}
use Rattle.std.specs.List.{AllByRecursion}
use Rattle.std.specs.declared.option.Option.{Option}
use Rattle.mi_value.specs.declared.value.Value.{Value}
use Rattle.mi_value.specs.declared.bound.Lower.{Lower}
use Rattle.mi_value.specs.declared.bound.Upper.{Upper}
use Rattle.mi_catalog.specs.declared.index.IndexKind.TheVariants.{Hashed}
use Rattle.mi_catalog.specs.Shape.{Shape, CatalogShape, schema_at, index_at}
use Rattle.mi_catalog.specs.Fitting.{IsSequencedIndex}
use Rattle.mi_catalog.specs.Kinds.{is_hashed}
use Rattle.mi_catalog.specs.Fits.{fits_record, fits_key}
use Rattle.mi_catalog.specs.Rules.{is_schema}
use Rattle.mi_catalog.specs.Key.{IsWholeKey, IsAskedBy}
use Rattle.mi_model.specs.Table.{Table, get, row, size}
use Rattle.mi_model.specs.Conflict.{conflict}
use Rattle.mi_model.specs.LookUp.{rank, nth, lower_rank, upper_rank, find, count, lower, upper, first}
use Rattle.mi_model.specs.LookUp.{last, after as row_after, before as row_before, first_with_key, next_with_key}
use Rattle.mi_model.specs.Page.{range, list}
use Rattle.mi_model.specs.Database.{Database, IsDatabase, schema_of, table_of, depth, start_step, undo_step, squash_step, commit_step, undo_all_step}
use Rattle.mi_model.specs.DatabaseChange.{insert_step, replace_step, modify_step, erase_step, erase_key_step, relocate_step}
use Rattle.mi_model.specs.Same.{SameDatabase}
use Rattle.mi_model.specs.Run.{Command, after_command}
use Rattle.mi_model.specs.Run.Command.{Insert, Replace, Modify, Erase, EraseKey, Relocate, Start, Undo, Squash, Commit, UndoAll}

-- the record of an id has a value for each part of the index, as one that fits the columns has
abbrev pub HasWholeKey : Shape → ℕ → Table → ℕ → Type 0
HasWholeKey s x t e = AllByRecursion (λ p. p.column < length (row t e).1) (index_at s x).parts

-- what is asked of every index gets one answer from both tables; a hashed one is asked by whole keys
pub record KeyedAlike (s : Shape) (x : ℕ) (t u : Table) : Type 0 where
  pub find : (key : List Value) → IsAskedBy (index_at s x).kind (index_at s x).parts key → find s t x key ≡ find s u x key
  pub count : (key : List Value) → IsAskedBy (index_at s x).kind (index_at s x).parts key → count s t x key ≡ count s u x key
  pub first_of : (key : List Value) → IsWholeKey (index_at s x).parts key → first_with_key s t x key ≡ first_with_key s u x key
  pub next_of : (e : ℕ) → HasWholeKey s x t e → next_with_key s t x e ≡ next_with_key s u x e

-- and so does what is asked of an index that isn't hashed
pub record ListedAlike (s : Shape) (x : ℕ) (t u : Table) : Type 0 where
  pub rank : (e : ℕ) → rank s t x e ≡ rank s u x e
  pub nth : (n : ℕ) → nth s t x n ≡ nth s u x n
  pub lower_rank : (key : List Value) → lower_rank s t x key ≡ lower_rank s u x key
  pub upper_rank : (key : List Value) → upper_rank s t x key ≡ upper_rank s u x key
  pub lower : (key : List Value) → lower s t x key ≡ lower s u x key
  pub upper : (key : List Value) → upper s t x key ≡ upper s u x key
  pub first : first s t x ≡ first s u x
  pub last : last s t x ≡ last s u x
  pub after : (e : ℕ) → row_after s t x e ≡ row_after s u x e
  pub before : (e : ℕ) → row_before s t x e ≡ row_before s u x e
  pub next_of : (e : ℕ) → next_with_key s t x e ≡ next_with_key s u x e
  pub range : (low : Lower) (high : Upper) (reversed : Bool) (limit : ℕ) → range s t x low high reversed limit ≡ range s u x low high reversed limit
  pub list : (e : Option ℕ) (limit : ℕ) → list s t x e limit ≡ list s u x e limit

-- two tables of one schema answer alike
pub record TablesAlike (s : Shape) (t u : Table) : Type 0 where
  pub get : (id : ℕ) → get t id ≡ get u id
  pub size : size t ≡ size u
  pub conflict : (r : List Value) (except : Option ℕ) → conflict s t r except ≡ conflict s u r except
  pub keyed : (x : ℕ) → KeyedAlike s x t u
  pub listed : (x : ℕ) → (index_at s x).kind ≢ Hashed → ListedAlike s x t u

-- look-ups in databases that show the same
pub record LookUpsAlike (d e : Database) : Type 0 where
  pub tables : (n : ℕ) → TablesAlike (schema_of d n) (table_of d n) (table_of e n)
  pub schemas : (n : ℕ) → schema_of d n ≡ schema_of e n
  pub revision : d.revision ≡ e.revision
  pub depth : depth d ≡ depth e

abbrev pub LookUpsAnswerAlike : Type 0
LookUpsAnswerAlike = (d e : Database) → SameDatabase d e → LookUpsAlike d e

-- the place that an insert or a relocation names is in a sequenced index, and an erase by key names a whole key
abbrev pub IsCommandOf : CatalogShape → Command → Type 0
IsCommandOf c (Insert n at r) = IfSome at (λ p. IsSequencedIndex c n p.0)
IsCommandOf c (EraseKey n x key) = IsWholeKey (index_at (schema_at c n) x).parts key
IsCommandOf c (Relocate n x e b) = IsSequencedIndex c n x
IsCommandOf c command = Unit {0}

-- a command answers the same in both
abbrev pub AnswersAlike : Command → Database → Database → Type 0
AnswersAlike (Insert n at r) d e = (insert_step n at r d).0 ≡ (insert_step n at r e).0
AnswersAlike (Replace n id r) d e = (replace_step n id r d).0 ≡ (replace_step n id r e).0
AnswersAlike (Modify n id edits rollback) d e = (modify_step n id edits rollback d).0 ≡ (modify_step n id edits rollback e).0
AnswersAlike (Erase n id) d e = (erase_step n id d).0 ≡ (erase_step n id e).0
AnswersAlike (EraseKey n x key) d e = (erase_key_step n x key d).0 ≡ (erase_key_step n x key e).0
AnswersAlike (Relocate n x id b) d e = (relocate_step n x id b d).0 ≡ (relocate_step n x id b e).0
AnswersAlike Start d e = (start_step d).0 ≡ (start_step e).0
AnswersAlike Undo d e = (undo_step d).0 ≡ (undo_step e).0
AnswersAlike Squash d e = (squash_step d).0 ≡ (squash_step e).0
AnswersAlike (Commit x) d e = (commit_step x d).0 ≡ (commit_step x e).0
AnswersAlike UndoAll d e = (undo_all_step d).0 ≡ (undo_all_step e).0

-- a command answers the same in databases that show the same, and they still do
abbrev pub CommandsAnswerAlike : Type 0
CommandsAnswerAlike = (c : Command) (d e : Database) → IsDatabase d → IsDatabase e → IsCommandOf d.catalog c → SameDatabase d e
    → AnswersAlike c d e × SameDatabase (after_command c d) (after_command c e)

-- each of several commands answers the same in both, and after the last they show the same
abbrev pub AllAnswerAlike : List Command → Database → Database → Type 0
AllAnswerAlike [] d e = SameDatabase d e
AllAnswerAlike (c ∷ cs) d e = AnswersAlike c d e × AllAnswerAlike cs (after_command c d) (after_command c e)

abbrev pub RunsAnswerAlike : Type 0
RunsAnswerAlike = (cs : List Command) (d e : Database) → IsDatabase d → IsDatabase e → AllByRecursion (IsCommandOf d.catalog) cs → SameDatabase d e
    → AllAnswerAlike cs d e

-- a key that fits an index whole is a whole key, and one that fits it as look-ups are asked is one that it is asked by
abbrev pub WhatFitsIsAsked : Type 0
WhatFitsIsAsked = (s : Shape) (x : ℕ) (key : List Value)
    → (IsTrue (fits_key s.columns (index_at s x).parts true key) → IsWholeKey (index_at s x).parts key)
    × (IsTrue (fits_key s.columns (index_at s x).parts (is_hashed (index_at s x).kind) key) → IsAskedBy (index_at s x).kind (index_at s x).parts key)

-- a record that fits has a value for each part of each index
abbrev pub RecordsThatFitHaveWholeKeys : Type 0
RecordsThatFitHaveWholeKeys = (s : Shape) (t : Table) (x e : ℕ) → IsTrue (is_schema s) → IsTrue (fits_record s.columns (row t e).1) → HasWholeKey s x t e
