-- A journal in segments, asked again from some position on: behind segment 1 stands segment 2, whose header has the sum of segment 1's text.
use Rattle.std.specs.Prelude.{◌≡◌, ◌≤◌, ◌+◌, ℕ, List, [], ◌∷◌, ◌++◌, length, Option, Some, None, IfSome, codes, decimal}
use Rattle.std.specs.String.{string_bytes}
use Rattle.sha2.specs.Sha256.{sha256}
use Rattle.hex.specs.Hex.{encode_lower}
use Rattle.mi_commands.specs.Holder.{HeldDatabase}
use Rattle.mi_hub.specs.Run.{HubState}
use Rattle.mi_log.specs.Header.{header_of}
use Rattle.mi_durable.specs.Replay.{Passes}
use Rattle.mi_clients.specs.Steps.{Step, Makes, GivesNone}
use Rattle.mi_recovery.specs.declared.asking.Asked.{Asked}
use Rattle.mi_recovery.specs.declared.device.Keeping.{Keeping}
use Rattle.mi_recovery.specs.declared.opening.Journaled.{Journaled}
use Rattle.mi_recovery.specs.declared.opening.Journaled.TheVariants.{Nothing, Journal}
use Rattle.mi_recovery.specs.declared.place.JournalSchema.{JournalSchema}
use Rattle.mi_recovery.specs.declared.place.Position.{Position}
use Rattle.mi_recovery.specs.declared.place.Place.{Place}
use Rattle.mi_recovery.specs.JournalFile.{text_of}
use Rattle.mi_recovery.specs.Names.{segment_name}
use Rattle.mi_recovery.specs.Recovery.{IsBeginning, IsReplayed, IsUndone, Has, kept_bytes, told_by}

-- the SHA-256 of a text, as 64 hexadecimal digits
abbrev pub hash_of : List ℕ → List ℕ
hash_of text = encode_lower (sha256 text)

-- the header of a segment behind the first: {"journal":2,"previous":"9f86..","revision":0,"schema":"5ad0..","segment":2}
unfoldable pub segment_front : List ℕ → ℕ → List ℕ
segment_front previous revision = codes "{\"journal\":2,\"previous\":\"" ++ previous ++ codes "\",\"revision\":" ++ decimal revision

abbrev pub segment_header_of : List ℕ → ℕ → List ℕ → ℕ → List ℕ
segment_header_of previous revision schema n =
    segment_front previous revision ++ codes ",\"schema\":\"" ++ schema ++ codes "\",\"segment\":" ++ decimal n ++ codes "}"

-- the lines of a journal begin: behind the header of segment 1, where no base says more, and else behind the line that a base names
abbrev pub IsStart : JournalSchema → Option Position → Place → Type 0
IsStart schema None place = (place.number ≡ 1) × (string_bytes place.header ≡ header_of schema.revision (string_bytes schema.hash)) × (place.skip ≡ 0)
IsStart schema (Some p) place = (place.number ≡ p.segment) × (hash_of (string_bytes place.header) ≡ string_bytes p.sum) × (place.skip ≡ p.line)

-- From old a segment's text is asked, and new is left. It is no more than a beginning of this header; or the header stands in front, so many lines
-- behind that are passed over, and the others are replayed.
abbrev pub IsAsked : List ℕ → ℕ → List ℕ → Journaled → HeldDatabase → HeldDatabase → Type 0
IsAsked header skip text Nothing old new = IsBeginning header text × (new ≡ old)
IsAsked header skip text (Journal torn) old new =
    (rest : List ℕ) × (left : List ℕ) × (text ≡ header ++ 10 ∷ rest) × Passes skip rest left × IsReplayed left torn old new

-- a segment of this text stands at a place, and the next one at that: its header has the text's sum
abbrev pub IsNext : JournalSchema → Place → List ℕ → Place → Type 0
IsNext schema place text next = (next.number ≡ place.number + 1) × (next.skip ≡ 0)
    × (string_bytes next.header ≡ segment_header_of (hash_of text) schema.revision (string_bytes schema.hash) next.number)

-- A segment is begun with this header and has no line: this process alone had its file. What is told of it is said where the file tells.
abbrev pub IsBegunWith : {F : Type 0} → (F → Type 0) → (F → Option (List ℕ)) → Keeping → List ℕ → Option (List ℕ) → Type 0
IsBegunWith {F} is_locked contents keeping header told =
    (file : F) × is_locked file × IfSome (contents file) (λ _. Has keeping (header ++ 10 ∷ []) told)

-- A journal goes on in its next segment. The one before, of which this is told, has so many bytes at least; the next one has the sum of its text.
pub record IsRolled {F : Type 0} (is_locked : F → Type 0) (contents : F → Option (List ℕ)) (schema : JournalSchema) (keeping : Keeping) (most : ℕ)
    (old : Option ℕ) (closed : Option (List ℕ)) (new : Option ℕ) (begun : Option (List ℕ)) : Type 0 where
  pub next : Place
  pub number : ℕ
  pub was : old ≡ Some number
  pub is : new ≡ Some (number + 1)
  pub long : IfSome closed (λ bytes. most ≤ length bytes)
  pub sum : IfSome closed (λ bytes. string_bytes next.header
      ≡ segment_header_of (hash_of (text_of bytes)) schema.revision (string_bytes schema.hash) (number + 1))
  pub begins : IsBegunWith is_locked contents keeping (string_bytes next.header) begun

-- From old the segments from start on to this place are asked, and new is left. These are their files, the last one first. Each was seen under its
-- path, and has whole lines alone.
abbrev pub AsksUpTo : {F : Type 0} → (List ℕ → F → Type 0) → (F → Option (List ℕ)) → List ℕ → JournalSchema → Place → List F → Place
    → HeldDatabase → HeldDatabase → Type 0
AsksUpTo is_seen contents path schema start [] place old new = (place ≡ start) × (new ≡ old)
AsksUpTo is_seen contents path schema start (file ∷ files) place old new =
    (before : Place) × (mid : HeldDatabase) × AsksUpTo is_seen contents path schema start files before old mid
    × (place.number ≡ before.number + 1) × is_seen (segment_name path before.number) file
    × IfSome (contents file) (λ bytes. IsNext schema before (text_of bytes) place
    × IsAsked (string_bytes before.header) before.skip (text_of bytes) (Journal 0) mid new)

-- From old the lines of a journal behind a position are asked, and new is left: the segments in front of the newest one, and then that, of which this
-- is said.
pub record IsAskedBehind {F : Type 0} (is_locked : F → Type 0) (is_seen : List ℕ → F → Type 0) (is_newest : ℕ → Type 0) (contents : F → Option (List ℕ))
    (path : List ℕ) (schema : JournalSchema) (position : Option Position) (old : HeldDatabase) (asked : Asked F) (new : HeldDatabase) : Type 0 where
  pub start : Place
  pub files : List F
  pub mid : HeldDatabase
  pub starts : IsStart schema position start
  pub asks : AsksUpTo is_seen contents path schema start files asked.place old mid
  pub is_last : is_newest asked.place.number
  pub locked : is_locked asked.file
  pub seen : is_seen (segment_name path asked.place.number) asked.file
  pub text : IfSome (contents asked.file) (λ bytes. asked.text ≡ length (text_of bytes))
  pub newest : IfSome (contents asked.file) (λ bytes. IsAsked (string_bytes asked.place.header) asked.place.skip (text_of bytes) asked.found mid new)

-- From old, of which the replayer is a connection, the newest segment is gone on with, and new is left. What was held is undone in some steps; what the
-- segment has behind that are the bytes that are kept of its text, and what these steps append.
pub record GoesOn (header text : List ℕ) (found : Journaled) (keeping : Keeping) (old new : HubState) (told : Option (List ℕ)) : Type 0 where
  pub undone : IsUndone old.held new.held
  pub steps : List Step
  pub none : GivesNone steps
  pub makes : Makes steps old new (told_by keeping (kept_bytes header text found)) told

-- From old a journal is opened behind a position, and new goes on with its newest segment, which has this number.
pub record IsOpenedBehind {F : Type 0} (is_locked : F → Type 0) (is_seen : List ℕ → F → Type 0) (is_newest : ℕ → Type 0) (contents : F → Option (List ℕ))
    (path : List ℕ) (schema : JournalSchema) (position : Option Position) (keeping : Keeping) (old new : HubState) (told : Option (List ℕ))
    (segment : Option ℕ) : Type 0 where
  pub asked : Asked F
  pub mid : HubState
  pub behind : IsAskedBehind is_locked is_seen is_newest contents path schema position old.held asked mid.held
  pub goes : IfSome (contents asked.file) (λ bytes. GoesOn (string_bytes asked.place.header) (text_of bytes) asked.found keeping mid new told)
  pub number : segment ≡ Some asked.place.number
