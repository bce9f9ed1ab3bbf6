-- What began with the tables of the options was served, or rebased.
-- Cited by `beginning::begun_once`, `beginning::durable_of`, `program::perform`, `program::rebase`, `program::rebase_claimed`, `program::serve_hub` and
-- `start::standing`.
-- Cited by `beginning::begun_once`, `beginning::durable_of`, `program::perform`, `program::rebase`, `program::rebase_claimed` and 2 more.
use Rattle.std.proofs.Common.{◌≡◌, ℕ, List, Bool, Option, Some, Result, Ok, Err, subst, sym}
use Rattle.std.specs.Prelude.{IfOk, IfSome, OnOk}
use Rattle.std.specs.String.{string_bytes}
use Rattle.mi_catalog.specs.Shape.{CatalogShape}
use Rattle.mi_hub.specs.Run.{HubState}
use Rattle.mi_program.specs.Source.{IsCatalog}
use Rattle.mi_recovery.specs.declared.device.Keeping.{Keeping}
use Rattle.mi_recovery.specs.declared.place.JournalSchema.{JournalSchema}
use Rattle.mi_recovery.specs.declared.place.Position.{Position}
use Rattle.mi_recovery.specs.Segments.{IsOpenedBehind}
use Rattle.mi_serving.specs.declared.failure.Fault.{Fault}
use Rattle.mi_serving.specs.declared.words.JournalWords.{JournalWords}
use Rattle.mi_serving.specs.Words.{keeping_by}
use Rattle.mi_serving.specs.Turns.{GoesOver}
use Rattle.mi_serving.specs.Served.{Begins, HasBegun, GoesOn, HasServed, HasRebased, IsMadeAnew, IsSchemaOf, StandsAt, path_of}

-- what holds of something that is there
pub holds_there : {A : Type 0} (P : A → Type 0) (o : Option A) (x : A) → o ≡ Some x → IfSome o P → P x
holds_there P o x is holds = subst (λ q. IfSome q P) is holds

pub if_ok_then : {X E : Type 0} (P Q : X → Type 0) (r : Result X E) → ((x : X) → P x → Q x) → IfOk r P → IfOk r Q
if_ok_then P Q (Ok x) f p = f x p
if_ok_then P Q (Err e) f p = tt

module _ {F G : Type 0} (remaining : G → Option (List ℕ)) (is_locked : F → Type 0) (is_seen : List ℕ → F → Type 0) (is_newest : List ℕ → ℕ → Type 0)
    (contents : F → Option (List ℕ)) where
  -- a journal that is opened behind a position is one that a service begins with, where the words name it
  pub begins_with : (schema : JournalSchema) (position : Option Position) (start : HubState) (words : JournalWords) (named : Option JournalWords)
      (path : List ℕ) (keeping : Keeping) (hub : HubState) (told : Option (List ℕ)) (segment : Option ℕ) → named ≡ Some words → path ≡ string_bytes words.file
      → keeping ≡ keeping_by words.sync → IsOpenedBehind is_locked is_seen (is_newest path) contents path schema position keeping start hub told segment
      → Begins is_locked is_seen is_newest contents schema position start named hub told segment
  begins_with schema position start words named path keeping hub told segment is of by opened =
      let file = string_bytes words.file in
      subst (λ n. Begins is_locked is_seen is_newest contents schema position start n hub told segment) (sym is)
      (subst (λ k. IsOpenedBehind is_locked is_seen (is_newest file) contents file schema position k start hub told segment) by
      (subst (λ p. IsOpenedBehind is_locked is_seen (is_newest p) contents p schema position keeping start hub told segment) of opened))

  -- what went on by these of a journal went on by those that are the same
  pub over_by : {A : Type 0} (s t : JournalSchema) (k l : Keeping) (m n : ℕ) (start end : HubState) (before after : Option (List ℕ)) → s ≡ t → k ≡ l → m ≡ n
      → (A → GoesOver is_locked contents s k m start end before after) → A → GoesOver is_locked contents t l n start end before after
  over_by s t k l m n start end before after p q r goes a =
      subst (λ u. GoesOver is_locked contents u l n start end before after) p
      (subst (λ u. GoesOver is_locked contents s u n start end before after) q
      (subst (λ u. GoesOver is_locked contents s k u start end before after) r (goes a)))

  -- what began behind a place that is this position began behind the position
  pub begun_at : (catalog same : CatalogShape) (schema : JournalSchema) (position place : Option Position) (old hub : HubState) (words : Option JournalWords)
      (told : Option (List ℕ)) (segment : Option ℕ) → catalog ≡ same → place ≡ position
      → StandsAt is_seen contents catalog (string_bytes schema.hash) (path_of words) position old
      → Begins is_locked is_seen is_newest contents schema place old words hub told segment
      → HasBegun is_locked is_seen is_newest contents same schema words hub told segment
  begun_at catalog same schema position place old hub words told segment a b stands begins = (
    position,
    old,
    subst (λ (k : CatalogShape). StandsAt is_seen contents k (string_bytes schema.hash) (path_of words) position old) a stands,
    subst (λ p. Begins is_locked is_seen is_newest contents schema p old words hub told segment) b begins,
  )

  pub performed : (r : Result Fault Fault) (named same : Bool) (catalog : CatalogShape) (schema : JournalSchema) (start : HubState) (told : Option (List ℕ))
      (segment : Option ℕ) (words given : Option JournalWords) → named ≡ same → words ≡ given → IsCatalog remaining named (Ok catalog)
      → IsSchemaOf catalog schema → HasBegun is_locked is_seen is_newest contents catalog schema words start told segment
      → IfOk r (λ ended. GoesOn is_locked contents schema words start told ended.failure)
      → IfOk r (λ ended. (c : CatalogShape) × IsCatalog remaining same (Ok c) × HasServed is_locked is_seen is_newest contents c given ended.failure)
  performed (Ok ended) named same catalog schema start told segment words given a d read of begun goes = (
    catalog,
    subst (λ n. IsCatalog remaining n (Ok catalog)) a read,
    subst (λ w. HasServed is_locked is_seen is_newest contents catalog w ended.failure) d record {
      schema = schema;
      start = start;
      told = told;
      segment = segment;
      of_catalog = of;
      begun = begun;
      serves = goes;
    },
  )
  performed (Err fault) named same catalog schema start told segment words given a d read of begun goes = tt

  module _ (stays : F → Option (List ℕ)) where
    -- from where the base of a path's journal stands it is made anew
    abbrev pub IsMadeFrom : CatalogShape → JournalSchema → List ℕ → Type 0
    IsMadeFrom catalog schema path = (position : Option Position) × (old : HubState)
        × StandsAt is_seen contents catalog (string_bytes schema.hash) (Some path) position old
        × IsMadeAnew is_locked is_seen is_newest contents stays path schema position old.held

    pub made_from : (catalog : CatalogShape) (schema : JournalSchema) (position place : Option Position) (hub : HubState) (path file : List ℕ)
        → place ≡ position → path ≡ file → StandsAt is_seen contents catalog (string_bytes schema.hash) (Some file) position hub
        → IsMadeAnew is_locked is_seen is_newest contents stays path schema place hub.held → IsMadeFrom catalog schema file
    made_from catalog schema position place hub path file b d stands made = (
      position,
      hub,
      stands,
      subst (λ p. IsMadeAnew is_locked is_seen is_newest contents stays p schema position hub.held) d
          (subst (λ p. IsMadeAnew is_locked is_seen is_newest contents stays path schema p hub.held) b made),
    )

    pub rebased_from : (r : Result (Unit {0}) Fault) (named same : Bool) (catalog : CatalogShape) (schema : JournalSchema) (words : JournalWords)
        → named ≡ same → IsCatalog remaining named (Ok catalog) → IsSchemaOf catalog schema → OnOk r (IsMadeFrom catalog schema (string_bytes words.file))
        → OnOk r ((c : CatalogShape) × IsCatalog remaining same (Ok c) × HasRebased is_locked is_seen is_newest contents stays c words)
    rebased_from (Ok done) named same catalog schema words a read of made = (
      catalog,
      subst (λ n. IsCatalog remaining n (Ok catalog)) a read,
      record {
        schema = schema;
        position = made.0;
        old = made.1;
        of_catalog = of;
        stands = made.2;
        rebased = made.3;
      },
    )
    rebased_from (Err fault) named same catalog schema words a read of made = tt
