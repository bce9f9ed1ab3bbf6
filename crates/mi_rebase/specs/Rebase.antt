-- A journal's base is made anew. Segment 3 is closed, and segment 4 begins. The base stands there; where a session is open it stands in front of its
-- start, in segment 3. Or a journal begins with a base.
use Rattle.std.specs.Prelude.{◌≡◌, ◌⊎◌, ◌+◌, ◌<◌, ◌∷◌, ◌++◌, [], true, ℕ, List, Option, Some, None, IfSome}
use Rattle.std.specs.String.{string_bytes}
use Rattle.std.specs.Io.KnownBytes.{Keeps}
use Rattle.mi_model.specs.Table.{Table}
use Rattle.mi_model.specs.Database.{Database}
use Rattle.mi_commands.specs.Holder.{HeldDatabase}
use Rattle.mi_base.specs.declared.heading.Heading.{Heading}
use Rattle.mi_base.specs.Base.{base_text}
use Rattle.mi_rebase.specs.Images.{AreImagesOf}
use Rattle.mi_front.specs.declared.front.Front.{Front}
use Rattle.mi_front.specs.Front.{IsFront}
use Rattle.mi_front.specs.Closed.{IsClosedFront}
use Rattle.mi_recovery.specs.declared.device.JournalDevice.{JournalDevice}
use Rattle.mi_recovery.specs.declared.device.Keeping.TheVariants.{Synced}
use Rattle.mi_recovery.specs.declared.place.JournalSchema.{JournalSchema}
use Rattle.mi_recovery.specs.declared.place.Place.{Place}
use Rattle.mi_recovery.specs.declared.place.Position.{Position}
use Rattle.mi_recovery.specs.Device.{told_of, is_staying}
use Rattle.mi_recovery.specs.JournalFile.{text_of}
use Rattle.mi_recovery.specs.Names.{new_base_name}
use Rattle.mi_recovery.specs.Recovery.{Has, kept_bytes}
use Rattle.mi_recovery.specs.Segments.{IsNext, IsStart, hash_of}

-- what the first line of a base says that stands at a place, where the database has this revision
pub record IsHeadingAt (schema : JournalSchema) (revision : ℕ) (place : Place) (heading : Heading) : Type 0 where
  pub schema_is : string_bytes heading.schema ≡ string_bytes schema.hash
  pub revision_is : heading.revision ≡ revision
  pub segment_is : heading.segment ≡ place.number
  pub line_is : heading.line ≡ place.skip
  pub sum_is : string_bytes heading.sum ≡ hash_of (string_bytes place.header)

-- A file of a base that isn't whole yet was seen, and this process alone had it. It has the base of this database then, which stays: its tables.
pub record IsWritten {F : Type 0} (is_locked : F → Type 0) (is_seen : List ℕ → F → Type 0) (contents stays : F → Option (List ℕ)) (path : List ℕ)
    (heading : Heading) (d : Database) : Type 0 where
  pub before : F
  pub after : F
  pub images : List Table
  pub seen : is_seen (new_base_name path) before
  pub locked : is_locked before
  pub are : AreImagesOf d images
  pub written : IfSome (contents before) (λ _. contents after ≡ Some (base_text heading d.catalog images))
  pub stay : Keeps (contents after) (stays after)

-- a segment of the journal was there
abbrev pub HasSegment : (ℕ → Type 0) → Type 0
HasSegment is_newest = (number : ℕ) × is_newest number × (0 < number)

-- A base stands where the next segment begins where no line is left behind the front. Else it stands in the newest, at the front's place.
abbrev pub IsWithin : ℕ → Option Place → Option Place → Type 0
IsWithin left place None = left ≡ 0
IsWithin left place (Some within) = (0 < left) × (place ≡ Some within)

-- the place of a base, by that in the newest segment and the next one's
abbrev pub base_place : Option Place → Place → Place
base_place None next = next
base_place (Some place) next = place

-- From old, which stands at a position of a journal of which a segment was there, its base is made anew: the lines behind are asked, and new is the base
-- that may stand among them. That was written to the file of a base that isn't whole yet. Its heading names where it stands. Where that file goes isn't
-- said.
pub record IsRebased {F : Type 0} (is_locked : F → Type 0) (is_seen : List ℕ → F → Type 0) (is_newest : ℕ → Type 0) (contents stays : F → Option (List ℕ))
    (path : List ℕ) (schema : JournalSchema) (position : Option Position) (old : HeldDatabase) : Type 0 where
  pub there : HasSegment is_newest
  pub front : Front F
  pub new : HeldDatabase
  pub within : Option Place
  pub next : Place
  pub heading : Heading
  pub asked : IsFront is_locked is_seen is_newest contents path schema position old front new
  pub stands : IsWithin front.left front.place within
  pub number : next.number ≡ front.asked.place.number + 1
  pub closes : IfSome (contents front.asked.file) (λ bytes. IsNext schema front.asked.place
      (text_of (kept_bytes (string_bytes front.asked.place.header) (text_of bytes) front.asked.found)) next)
  pub at : IsHeadingAt schema new.database.revision (base_place within next) heading
  pub is : IsWritten is_locked is_seen contents stays path heading new.database

-- a base stands at this place, or without one that is the journal's start
abbrev pub IsStanding : Option Position → Place → Type 0
IsStanding None place = (place.number ≡ 1) × (place.skip ≡ 0)
IsStanding (Some p) place = (place.number ≡ p.segment) × (place.skip ≡ p.line)

-- From old, which stands at a position of a journal whose newest segment was this, its base is made anew of the segments in front of that. New is the base
-- that may stand at a place among their lines. Either a base stands there, or it was written to the file of a base that isn't whole yet.
pub record IsRebasedBeside {F : Type 0} (is_locked : F → Type 0) (is_seen : List ℕ → F → Type 0) (is_newest : ℕ → Type 0)
    (contents stays : F → Option (List ℕ)) (path : List ℕ) (schema : JournalSchema) (position : Option Position) (old : HeldDatabase) : Type 0 where
  pub newest : ℕ
  pub is_last : is_newest newest
  pub there : 0 < newest
  pub place : Place
  pub new : HeldDatabase
  pub asked : IsClosedFront is_seen contents path schema position newest old place new
  pub put : IsStanding position place ⊎ ((heading : Heading) × IsHeadingAt schema new.database.revision place heading
      × IsWritten is_locked is_seen contents stays path heading new.database)

-- A segment was made that stands at a place, and this process alone had its file. It has the place's header and a newline, and no more, which stays.
pub record IsMade {F : Type 0} (is_locked : F → Type 0) (contents stays : F → Option (List ℕ)) (place : Place) : Type 0 where
  pub file : F
  pub device : JournalDevice F
  pub locked : is_locked file
  pub has : IfSome (contents file) (λ _. Has Synced (string_bytes place.header ++ 10 ∷ []) (told_of contents device))
  pub stay : Keeps (told_of contents device) (told_of stays device)
  pub synced : is_staying device ≡ true

-- Where no segment was, a journal of this schema begins with the tables of a database. Its base was written to the file of a base that isn't whole yet,
-- and stands in front of segment 1, which was made and has no line. Where that file goes, and the segment's path, aren't said.
pub record IsBegun {F : Type 0} (is_locked : F → Type 0) (is_seen : List ℕ → F → Type 0) (is_newest : ℕ → Type 0) (contents stays : F → Option (List ℕ))
    (path : List ℕ) (schema : JournalSchema) (d : Database) : Type 0 where
  pub place : Place
  pub heading : Heading
  pub nothing : is_newest 0
  pub is_first : IsStart schema None place
  pub stands : IsHeadingAt schema d.revision place heading
  pub is : IsWritten is_locked is_seen contents stays path heading d
  pub segment : IsMade is_locked contents stays place
