-- The exit status of a service: 3 where its schema or its journal is at fault, else 4. And what a service says of a failure of its journal.
use Rattle.std.specs.Prelude.{ℕ}
use Rattle.mi_recovery.specs.declared.fault.JournalFailure.{JournalFailure}
use Rattle.mi_recovery.specs.declared.fault.JournalFailure.TheVariants as journal
use Rattle.mi_serving.specs.declared.failure.Failure.{Failure}
use Rattle.mi_serving.specs.declared.failure.Failure.TheVariants as failure

abbrev pub status_of : Failure → ℕ
status_of failure.SchemaFile = 3
status_of (failure.Schema fault) = 3
status_of failure.JournalFile = 3
status_of failure.JournalSchema = 3
status_of (failure.JournalLine line) = 3
status_of (failure.JournalSegment segment) = 3
status_of (failure.JournalSegmentLine segment line) = 3
status_of failure.JournalBase = 3
status_of failure.JournalSessions = 3
status_of failure.JournalLocked = 3
status_of failure.MovedType = 3
status_of (failure.MovedUnique first second) = 3
status_of failure.MovedFull = 3
status_of failure.MovedTable = 3
status_of failure.Journal = 4
status_of failure.Output = 4
status_of failure.Listen = 4
status_of failure.Poll = 4
status_of failure.Memory = 4
status_of failure.Turns = 4

-- what a service says of a failure of its journal
abbrev pub failure_of : JournalFailure → Failure
failure_of journal.File = failure.JournalFile
failure_of journal.Schema = failure.JournalSchema
failure_of (journal.Line line) = failure.JournalLine line
failure_of (journal.Segment segment) = failure.JournalSegment segment
failure_of (journal.SegmentLine segment line) = failure.JournalSegmentLine segment line
failure_of journal.Base = failure.JournalBase
failure_of journal.Sessions = failure.JournalSessions
failure_of journal.Locked = failure.JournalLocked
failure_of journal.Write = failure.Journal
failure_of journal.Memory = failure.Memory
failure_of journal.Turns = failure.Turns
