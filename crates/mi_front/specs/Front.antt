-- A base in front of the oldest session that is open at a journal's end. The newest segment has the lines start, insert, commit, start, insert. So the
-- base stands behind three of them, and has the first insert.
use Rattle.std.specs.Prelude.{◌≡◌, ◌↔◌, ◌<◌, ◌≤◌, ◌+◌, ◌-◌, ℕ, List, ◌++◌, [], ◌∷◌, length, drop, Option, Some, None, IfSome, codes}
use Rattle.std.specs.String.{string_bytes}
use Rattle.mi_model.specs.Database.{depth}
use Rattle.mi_commands.specs.Asked.{Asked, text}
use Rattle.mi_commands.specs.Holder.{HeldDatabase}
use Rattle.mi_hub.specs.Ended.{ended}
use Rattle.mi_durable.specs.Replay.{Passes}
use Rattle.mi_replay.specs.Replayed.{replayed}
use Rattle.mi_checkpoint.specs.Settled.{AreTaken}
use Rattle.mi_checkpoint.specs.OpenStarts.{IsCheckpoint, BaseReplays, base_at}
use Rattle.mi_recovery.specs.declared.asking.Asked.{Asked as AskedJournal}
use Rattle.mi_recovery.specs.declared.opening.Journaled.{Journaled}
use Rattle.mi_recovery.specs.declared.opening.Journaled.TheVariants.{Nothing, Journal}
use Rattle.mi_recovery.specs.declared.place.JournalSchema.{JournalSchema}
use Rattle.mi_recovery.specs.declared.place.Position.{Position}
use Rattle.mi_recovery.specs.declared.place.Place.{Place}
use Rattle.mi_recovery.specs.JournalFile.{text_of}
use Rattle.mi_recovery.specs.Recovery.{IsBeginning}
use Rattle.mi_recovery.specs.Segments.{IsAsked, IsAskedBehind}
use Rattle.mi_front.specs.declared.front.Front.{Front}
use Rattle.mi_front.specs.Noted.{Lines, Gives}

-- These are the lines of a segment's text behind this header and so many lines. Behind them so many bytes are torn. Where no more is there than a
-- beginning of the header it has none.
abbrev pub HasLines : List ℕ → ℕ → List ℕ → Journaled → Lines → Type 0
HasLines header skip all Nothing lines = IsBeginning header all × (lines ≡ [])
HasLines header skip all (Journal torn) lines =
    (rest : List ℕ) × (left : List ℕ) × (last : List ℕ) × (all ≡ header ++ 10 ∷ rest) × Passes skip rest left × Gives left lines last
    × (ended last ≡ []) × (torn ≡ length last)

-- the line that undoes all open sessions
abbrev pub undo_all_line : Asked
undo_all_line = text (codes "{\"cmd\":\"undo_all\"}")

-- From old the lines of a journal behind a position are asked, and new is left: those of the segments in front of the newest, and then those of the newest.
pub record IsNoted {F : Type 0} (is_locked : F → Type 0) (is_seen : List ℕ → F → Type 0) (is_newest : ℕ → Type 0) (contents : F → Option (List ℕ))
    (path : List ℕ) (schema : JournalSchema) (position : Option Position) (old : HeldDatabase) (asked : AskedJournal F) (older newest : Lines)
    (new : HeldDatabase) : Type 0 where
  pub behind : IsAskedBehind is_locked is_seen is_newest contents path schema position old asked new
  pub in_front : behind.mid ≡ replayed older old
  pub own : IfSome (contents asked.file) (λ bytes. HasLines (string_bytes asked.place.header) asked.place.skip (text_of bytes) asked.found newest)

-- The newest segment stands at a place, and so many lines are in front of it. Behind n lines this is the place, or none, where that is in front of it.
abbrev pub IsFrontPlace : Place → ℕ → ℕ → Option Place → Type 0
IsFrontPlace newest older n None = n < older
IsFrontPlace newest older n (Some place) =
    (older ≤ n) × (place.number ≡ newest.number) × (string_bytes place.header ≡ string_bytes newest.header) × (place.skip ≡ newest.skip + (n - older))

-- these are the lines of the newest segment behind the place, where there is one
abbrev pub HasBehind : Option (List ℕ) → Journaled → Lines → Option Place → Type 0
HasBehind contents found lines None = Unit {0}
HasBehind contents found lines (Some place) = IfSome contents (λ bytes. HasLines (string_bytes place.header) place.skip (text_of bytes) found lines)

-- From old, where no session is open, the lines of a journal behind a position are asked. Behind n of them a base may stand, and behind no more. The hub
-- is left as that base. It stands at the place, and with the lines behind that it gives what all lines give.
pub record IsFront {F : Type 0} (is_locked : F → Type 0) (is_seen : List ℕ → F → Type 0) (is_newest : ℕ → Type 0) (contents : F → Option (List ℕ))
    (path : List ℕ) (schema : JournalSchema) (position : Option Position) (old : HeldDatabase) (front : Front F) (new : HeldDatabase) : Type 0 where
  pub older : Lines
  pub newest : Lines
  pub n : ℕ
  pub bare : depth old.database ≡ 0
  pub noted : IsNoted is_locked is_seen is_newest contents path schema position old front.asked older newest (replayed (older ++ newest) old)
  pub taken : AreTaken (older ++ newest) old
  pub at : IsCheckpoint old (older ++ newest) n
  pub base : new ≡ base_at old (older ++ newest) n
  pub replays : BaseReplays old (older ++ newest) n
  pub place : IsFrontPlace front.asked.place (length older) n front.place
  pub left : front.left ≡ length (older ++ newest) - n
  pub behind : HasBehind (contents front.asked.file) front.asked.found (drop (n - length older) newest) front.place

-- ---- a law

-- what is asked of a text behind so many lines are these lines, and no others
abbrev pub LinesAreAsked : Type 0
LinesAreAsked = (header all : List ℕ) (skip : ℕ) (found : Journaled) (lines : Lines) (old new : HeldDatabase) → HasLines header skip all found lines
    → IsAsked header skip all found old new ↔ (new ≡ replayed lines old)
