-- What a journal's bytes leave when they are asked again: of "{\"journal\":1, ..}⏎start⏎st" the line "start" is replayed, and "st" is torn.
use Rattle.std.specs.Prelude.{◌≡◌, ◌≤◌, ◌-◌, ◌+◌, min, nat_lt, ⊤, ℕ, List, [], ◌∷◌, ◌++◌, length, take, Bool, true, false, if◌then◌else◌, Option, Some, None}
use Rattle.mi_commands.specs.Holder.{HeldDatabase, released}
use Rattle.mi_hub.specs.Ended.{after_newlines}
use Rattle.mi_hub.specs.Lines.{lines_of}
use Rattle.mi_replay.specs.Replayed.{replayer, replayed}
use Rattle.mi_durable.specs.Durable.{holder_conn}
use Rattle.mi_clients.specs.Steps.{HoldsSome}
use Rattle.mi_recovery.specs.declared.device.Keeping.{Keeping}
use Rattle.mi_recovery.specs.Device.{is_synced}
use Rattle.mi_durable.specs.declared.replaying.ReplayFault.{ReplayFault}
use Rattle.mi_durable.specs.declared.replaying.ReplayFault.TheVariants as replay
use Rattle.mi_recovery.specs.declared.fault.JournalFailure.{JournalFailure}
use Rattle.mi_recovery.specs.declared.fault.JournalFailure.TheVariants as failure
use Rattle.mi_recovery.specs.declared.opening.Journaled.{Journaled}
use Rattle.mi_recovery.specs.declared.opening.Journaled.TheVariants.{Nothing, Journal}

-- these bytes are a beginning of the header, or nothing
abbrev pub IsBeginning : List ℕ → List ℕ → Type 0
IsBeginning header bytes = (more : List ℕ) × (header ≡ bytes ++ more)

-- the header and a newline stood in front of what was left to read, where a reader tells that
abbrev pub HasHeader : List ℕ → Option (List ℕ) → Option (List ℕ) → Type 0
HasHeader header None later = ⊤
HasHeader header (Some bytes) None = ⊥
HasHeader header (Some bytes) (Some rest) = bytes ≡ header ++ 10 ∷ rest

-- From old all whole lines of these bytes are replayed, and new is left; so many bytes behind the last newline aren't.
abbrev pub IsReplayed : List ℕ → ℕ → HeldDatabase → HeldDatabase → Type 0
IsReplayed bytes torn old new = (new ≡ replayed (lines_of bytes) old) × (torn ≡ length (after_newlines bytes))

-- A hub with this state goes on with its journal, and has that. Where there was a journal, the sessions are undone that the connection which
-- replayed it holds, and no other, where whoever holds sessions holds one at least.
abbrev pub IsUndone : HeldDatabase → HeldDatabase → Type 0
IsUndone old new = (HoldsSome old.holder → new ≡ released replayer old) × (¬ (holder_conn old.holder ≡ Some replayer) → new ≡ old)

-- what was found in these bytes: a beginning of the header, or so many torn bytes at their end
abbrev pub IsFound : List ℕ → List ℕ → Journaled → Type 0
IsFound header bytes Nothing = IsBeginning header bytes
IsFound header bytes (Journal torn) = torn ≤ length bytes

-- what a service keeps of these bytes before it goes on: the header alone, where they are no journal yet; else all of them but the torn ones
abbrev pub kept_bytes : List ℕ → List ℕ → Journaled → List ℕ
kept_bytes header bytes Nothing = header ++ 10 ∷ []
kept_bytes header bytes (Journal torn) = take (length bytes - torn) bytes

-- what a device tells that has these bytes
abbrev pub told_by : Keeping → List ℕ → Option (List ℕ)
told_by keeping bytes = if is_synced keeping then Some bytes else None

abbrev pub Has : Keeping → List ℕ → Option (List ℕ) → Type 0
Has keeping bytes told = told ≡ told_by keeping bytes

-- whether a replay may end by this failure: what can't be read, isn't a journal of this schema, or lacks memory or turns
abbrev pub ends_replay : JournalFailure → Bool
ends_replay failure.File = true
ends_replay failure.Schema = true
ends_replay (failure.Line line) = true
ends_replay (failure.Segment segment) = true
ends_replay (failure.SegmentLine segment line) = true
ends_replay failure.Base = true
ends_replay failure.Sessions = false
ends_replay failure.Memory = true
ends_replay failure.Turns = true
ends_replay failure.Locked = false
ends_replay failure.Write = false

-- what is said of a fault of the replay
abbrev pub told_as : ReplayFault → JournalFailure
told_as replay.Read = failure.File
told_as (replay.Damaged line) = failure.Line line
told_as replay.Memory = failure.Memory
told_as replay.Turns = failure.Turns

-- The same in a segment, where so many lines were passed over: a line is told with the segment's number where that isn't the first, and a header
-- that isn't the wanted one by the number alone.
abbrev pub told_in : ℕ → ℕ → JournalFailure → JournalFailure
told_in number skip failure.File = failure.File
told_in number skip failure.Schema = if nat_lt 1 number then failure.Segment number else failure.Schema
told_in number skip (failure.Line line) =
    if nat_lt 1 line
    then (if nat_lt 1 number then failure.SegmentLine number (min (line + skip) 18446744073709551615) else failure.Line (min (line + skip) 18446744073709551615))
    else (if nat_lt 1 number then failure.Segment number else failure.Line line)
told_in number skip (failure.Segment segment) = failure.Segment segment
told_in number skip (failure.SegmentLine segment line) = failure.SegmentLine segment line
told_in number skip failure.Base = failure.Base
told_in number skip failure.Sessions = failure.Sessions
told_in number skip failure.Locked = failure.Locked
told_in number skip failure.Write = failure.Write
told_in number skip failure.Memory = failure.Memory
told_in number skip failure.Turns = failure.Turns
