-- The table of commands without members: the name of each, and the command that it is. Their lines are written by one rule:
-- {"cmd":"push"} asks a push.
use Rattle.std.specs.Prelude.{ℕ, List, [], ◌∷◌, ◌++◌, if◌then◌else◌, Option, Some, None, codes, bytes_eq}
use Rattle.mi_request.specs.declared.nullary_command.NullaryCommand.{NullaryCommand}
use Rattle.mi_request.specs.declared.nullary_command.NullaryCommand.TheVariants as nullary_command
use Rattle.mi_request.specs.declared.request.SessionCommand.{SessionCommand}
use Rattle.mi_request.specs.declared.request.SessionCommand.TheVariants as session

-- all of them
abbrev pub nullary_commands : List NullaryCommand
nullary_commands = nullary_command.Undo ∷ nullary_command.Start ∷ nullary_command.Squash ∷ nullary_command.UndoAll ∷ nullary_command.Push ∷ nullary_command.Revision ∷ []

-- the name of each
abbrev pub nullary_name : NullaryCommand → List ℕ
nullary_name nullary_command.Undo = codes "undo"
nullary_name nullary_command.Start = codes "start"
nullary_name nullary_command.Squash = codes "squash"
nullary_name nullary_command.UndoAll = codes "undo_all"
nullary_name nullary_command.Push = codes "push"
nullary_name nullary_command.Revision = codes "revision"

-- the command that each is
abbrev pub asked_nullary : NullaryCommand → SessionCommand
asked_nullary nullary_command.Undo = session.Undo
asked_nullary nullary_command.Start = session.Start
asked_nullary nullary_command.Squash = session.Squash
asked_nullary nullary_command.UndoAll = session.UndoAll
asked_nullary nullary_command.Push = session.Push
asked_nullary nullary_command.Revision = session.Revision

-- which of them a command is
abbrev pub nullary_of : SessionCommand → Option NullaryCommand
nullary_of session.Undo = Some nullary_command.Undo
nullary_of session.Start = Some nullary_command.Start
nullary_of session.Squash = Some nullary_command.Squash
nullary_of session.UndoAll = Some nullary_command.UndoAll
nullary_of session.Push = Some nullary_command.Push
nullary_of session.Revision = Some nullary_command.Revision
nullary_of other = None

-- how the line of each is written without spaces
abbrev pub nullary_text : NullaryCommand → List ℕ
nullary_text b = codes "{\"cmd\":\"" ++ (nullary_name b ++ codes "\"}")

-- the first of these that has a text
abbrev pub first_with : (NullaryCommand → List ℕ) → List NullaryCommand → List ℕ → Option NullaryCommand
first_with text [] t = None
first_with text (b ∷ bs) t = if bytes_eq t (text b) then Some b else first_with text bs t

-- the one of a name
unfoldable pub nullary_named : List ℕ → Option NullaryCommand
nullary_named t = first_with nullary_name nullary_commands t

-- the one of a line
abbrev pub nullary_line : List ℕ → Option NullaryCommand
nullary_line line = first_with nullary_text nullary_commands line
