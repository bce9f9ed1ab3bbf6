-- What a call of a durable hub adds to the journal. Connection 1 asks to start a session: the act is that it asks, and the bytes are the line and
-- its newline.
use Rattle.std.specs.Prelude.{◌≡◌, ℕ, List, [], ◌++◌, Bool, if◌then◌else◌, Some, Option}
use Rattle.std.specs.Io.KnownBytes.{Appends}
use Rattle.mi_commands.specs.Holder.{HeldDatabase}
use Rattle.mi_hub.specs.Lines.{lines_of, rest_of}
use Rattle.mi_hub.specs.Connections.{rest_at}
use Rattle.mi_hub.specs.Run.{HubState, piece, Done}
use Rattle.mi_hub.specs.OneLine.{AnswersOne}
use Rattle.mi_replay.specs.Acts.{Act}
use Rattle.mi_replay.specs.Journal.{JournalOf}
use Rattle.mi_replay.specs.RunActs.{ActsOfDone}
-- a text without newlines, and a newline
pub use Rattle.mi_hub.specs.OneLine.{IsWholeLine}

-- From old these acts were done, and new is left; what was appended are whole lines, which are a journal of them.
pub record Journals (old new : HeldDatabase) (before after : Option (List ℕ)) (acts : List Act) : Type 0 where
  pub bytes : List ℕ
  pub whole : rest_of bytes ≡ Some []
  pub journal : JournalOf old acts (lines_of bytes) new
  pub appended : Appends before after bytes

-- From old a connection asks a line, out is its reply, and new is left, where it has again sent nothing that isn't asked. Of the line is said
-- whether it may have changed something: the journal has it just then.
pub record Asks (conn : ℕ) (line : List ℕ) (old new : HubState) (before after : Option (List ℕ)) (out : List ℕ) : Type 0 where
  pub done : Done old (piece conn line) out new
  pub still : rest_at conn new.attached ≡ Some (Some [])
  pub acts : List Act
  pub are : ActsOfDone old (piece conn line) out acts
  pub journal : Journals old.held new.held before after acts
  pub changed : Bool
  pub answered : AnswersOne conn old.held (lines_of line) out changed new.held
  pub noted : journal.bytes ≡ (if changed then line else [])

-- The journal of a run goes on with what a call adds: whole lines, that are a journal of all acts so far.
abbrev pub JournalsGoOn : Type 0
JournalsGoOn = (start old new : HeldDatabase) (acts more : List Act) (file : List ℕ) (after : Option (List ℕ)) → rest_of file ≡ Some []
    → JournalOf start acts (lines_of file) old → Journals old new (Some file) after more
    → (grown : List ℕ) × (after ≡ Some grown) × (rest_of grown ≡ Some []) × JournalOf start (acts ++ more) (lines_of grown) new
