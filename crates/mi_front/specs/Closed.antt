-- A base in the closed segments, while another process appends to the newest. Segments 1 and 2 are closed, and a session is open that began in segment 1
-- behind two lines. So the base stands there, and has those two.
use Rattle.std.specs.Prelude.{◌≡◌, ◌≤◌, ◌+◌, ◌-◌, ℕ, List, ◌++◌, [], ◌∷◌, length, drop, Option, IfSome}
use Rattle.std.specs.String.{string_bytes}
use Rattle.mi_model.specs.Database.{depth}
use Rattle.mi_commands.specs.Holder.{HeldDatabase}
use Rattle.mi_replay.specs.Replayed.{replayed, IsSame}
use Rattle.mi_checkpoint.specs.Settled.{AreTaken}
use Rattle.mi_checkpoint.specs.OpenStarts.{IsCheckpoint, base_at}
use Rattle.mi_recovery.specs.declared.opening.Journaled.TheVariants.{Journal}
use Rattle.mi_recovery.specs.declared.place.JournalSchema.{JournalSchema}
use Rattle.mi_recovery.specs.declared.place.Position.{Position}
use Rattle.mi_recovery.specs.declared.place.Place.{Place}
use Rattle.mi_recovery.specs.JournalFile.{text_of}
use Rattle.mi_recovery.specs.Names.{segment_name}
use Rattle.mi_recovery.specs.Segments.{IsNext, IsStart}
use Rattle.mi_front.specs.declared.row.NotedSegment.{NotedSegment}
use Rattle.mi_front.specs.Noted.{Lines}
use Rattle.mi_front.specs.Front.{HasLines}

-- These are the lines of the segments from start on to this place. These are their files, the last one first. Each was seen under its path, has whole
-- lines alone, and its sum stands in the next one's header.
abbrev pub HasLinesUpTo : {F : Type 0} → (List ℕ → F → Type 0) → (F → Option (List ℕ)) → List ℕ → JournalSchema → Place → List F → Place → Lines → Type 0
HasLinesUpTo is_seen contents path schema start [] place lines = (place ≡ start) × (lines ≡ [])
HasLinesUpTo is_seen contents path schema start (file ∷ files) place lines =
    (before : Place) × (front : Lines) × (own : Lines) × HasLinesUpTo is_seen contents path schema start files before front
    × (lines ≡ front ++ own) × (place.number ≡ before.number + 1) × is_seen (segment_name path before.number) file
    × IfSome (contents file) (λ bytes. IsNext schema before (text_of bytes) place
    × HasLines (string_bytes before.header) before.skip (text_of bytes) (Journal 0) own)

-- ---- where a line stands

-- the place in a noted segment behind n of all lines
abbrev pub IsPlaceIn : NotedSegment → ℕ → Place → Type 0
IsPlaceIn s n place =
    (place.number ≡ s.place.number) × (string_bytes place.header ≡ string_bytes s.place.header) × (place.skip ≡ s.place.skip + (n - s.before))

-- Behind each place in a noted segment stand the other ones of all lines, up to the next segment's place.
pub record Reaches {F : Type 0} (is_seen : List ℕ → F → Type 0) (contents : F → Option (List ℕ)) (path : List ℕ) (schema : JournalSchema) (next : Place)
    (lines : Lines) (s : NotedSegment) : Type 0 where
  pub within : s.behind ≤ length lines
  pub left : (n : ℕ) (place : Place) → s.before ≤ n → n ≤ s.behind → IsPlaceIn s n place
      → (files : List F) × HasLinesUpTo is_seen contents path schema place files next (drop n lines)

-- ---- the base

-- Whatever lines a replay takes behind those that are there: with them, the lines behind the first n give of a base what all lines give, and as many
-- sessions held. A replay takes each of them.
abbrev pub ReplaysOn : HeldDatabase → Lines → ℕ → HeldDatabase → Type 0
ReplaysOn old lines n base = (more : Lines) → AreTaken (lines ++ more) old
    → IsSame (replayed (lines ++ more) old) (replayed (drop n lines ++ more) base) × AreTaken (drop n lines ++ more) base

-- From old, where no session is open, the lines behind a position are asked of all segments in front of this number. Behind n of them a base may
-- stand, and behind no more. The hub is left as that base. Behind its place stand the lines that it doesn't have. With these, and with all that come
-- later, it gives what the journal gives.
pub record IsClosedFront {F : Type 0} (is_seen : List ℕ → F → Type 0) (contents : F → Option (List ℕ)) (path : List ℕ) (schema : JournalSchema)
    (position : Option Position) (newest : ℕ) (old : HeldDatabase) (place : Place) (new : HeldDatabase) : Type 0 where
  pub start : Place
  pub next : Place
  pub files : List F
  pub left : List F
  pub lines : Lines
  pub n : ℕ
  pub bare : depth old.database ≡ 0
  pub starts : IsStart schema position start
  pub number : next.number ≡ newest
  pub asked : HasLinesUpTo is_seen contents path schema start files next lines
  pub taken : AreTaken lines old
  pub at : IsCheckpoint old lines n
  pub base : new ≡ base_at old lines n
  pub replays : ReplaysOn old lines n new
  pub behind : HasLinesUpTo is_seen contents path schema place left next (drop n lines)
