-- What a line is answered, and what it leaves: a line that is kept out is answered `busy`, and nothing changes.
use Rattle.std.specs.Prelude.{◌≡◌, ◌⊎◌, ℕ, List, Bool, true, false, ◌&&◌, if◌then◌else◌, Some, Result, Ok, Err}
use Rattle.mi_value.specs.declared.refusal.Refusal.{Refusal}
use Rattle.mi_value.specs.declared.refusal.Refusal.TheVariants.{Line, Busy, Memory}
use Rattle.mi_protocol.specs.Lines.{command_line}
use Rattle.mi_protocol.specs.Commands.{keeps_out}
use Rattle.mi_protocol.specs.Binding.{bound_command}
use Rattle.mi_protocol.specs.Replies.{Said, refused, reply_text, is_short}
use Rattle.mi_request.specs.Short.{short_line}
use Rattle.mi_request.specs.declared.request.NumberLookUpRequest.TheVariants as by_number
use Rattle.mi_request.specs.declared.request.Request.{Request}
use Rattle.mi_request.specs.declared.request.Request.TheVariants as request
use Rattle.mi_request.specs.declared.request.SessionCommand.{SessionCommand}
use Rattle.mi_request.specs.declared.request.SessionCommand.TheVariants as session
use Rattle.mi_protocol.specs.declared.command.Command.{Command}
use Rattle.mi_protocol.specs.declared.command.Command.TheVariants as command
use Rattle.mi_commands.specs.Asked.{Asked, text, too_long}
use Rattle.mi_commands.specs.Holder.{HeldDatabase, is_busy}
use Rattle.mi_commands.specs.Performed.{performed}
use Rattle.mi_commands.specs.Told.{may_change}

-- a refusal, which leaves all as it is
abbrev pub refusal : HeldDatabase → Refusal → Said × HeldDatabase
refusal s e = (refused 0 e, s)

-- a command that fits the catalog is done, and any other refused
abbrev pub command_answer : HeldDatabase → ℕ → Result Command Refusal → Said × HeldDatabase
command_answer s conn (Ok c) = performed s conn c
command_answer s conn (Err e) = refusal s e

-- the command that a request is, unless it is kept out as `busy`, before its names, row and key are looked at
abbrev pub command_of : HeldDatabase → ℕ → Result Request Refusal → Result Command Refusal
command_of s conn (Ok r) = if keeps_out r && is_busy s.holder conn then Err Busy else bound_command s.database.catalog r
command_of s conn (Err e) = Err e

-- the answer to a line of a connection
abbrev pub answer : HeldDatabase → ℕ → Asked → Said × HeldDatabase
answer s conn (text t) = command_answer s conn (command_of s conn (command_line t))
answer s conn too_long = refusal s Line

-- the reply is the text of this answer, and what it leaves is left
abbrev pub IsGiven : Said × HeldDatabase → HeldDatabase → List ℕ → HeldDatabase → Type 0
IsGiven a s reply t = (reply ≡ reply_text s.database.catalog a.0) × (t ≡ a.1)

-- a command over sessions that is done without memory. A start and a reserve may need room
abbrev pub session_needs_none : SessionCommand → Bool
session_needs_none session.Start = false
session_needs_none (session.Reserve changes sessions) = false
session_needs_none x = true

-- a request that is done and answered without memory: one over sessions, or a look-up by numbers that shows no record. A record is shown in
-- memory that is asked for; a key, a row and edits are made in such memory, and an erase may need room
abbrev pub needs_none : Request → Bool
needs_none (request.NumberLookUp table (by_number.Rank index id)) = true
needs_none (request.NumberLookUp table by_number.Size) = true
needs_none (request.Session x) = session_needs_none x
needs_none r = false

-- a command may lack memory in the place of this answer: a look-up where it shows records
abbrev pub Lacks : Command → Said → Type 0
Lacks (command.Change n x) said = Unit {0}
Lacks (command.NumberLookUp n x) said = is_short said ≡ false
Lacks (command.KeyLookUp n x) said = is_short said ≡ false
Lacks (command.Session x) said = session_needs_none x ≡ false

-- a line that takes no memory from its first byte to its reply: one of these, as it is written without spaces
abbrev pub TakesNone : List ℕ → Type 0
TakesNone t = (r : Request) × (needs_none r ≡ true) × (short_line r ≡ Some t)

-- `memory` may stand in the place of any answer but those to such lines and to over-long ones, and then nothing has changed
abbrev pub MayLackMemory : Asked → Type 0
MayLackMemory (text t) = ¬ TakesNone t
MayLackMemory too_long = ⊥

-- this answer, or where it may lack memory that refusal
abbrev pub GivenOrMemory : Type 0 → Said × HeldDatabase → HeldDatabase → List ℕ → HeldDatabase → Type 0
GivenOrMemory MayLack a s reply t = IsGiven a s reply t ⊎ (MayLack × IsGiven (refusal s Memory) s reply t)

-- From s, this line of the connection may be given this reply, and t is left.
abbrev pub MayGive : ℕ → HeldDatabase → Asked → List ℕ → HeldDatabase → Type 0
MayGive conn s line reply t = GivenOrMemory (MayLackMemory line) (answer s conn line) s reply t

-- whether what a command tells may be a change; a refusal in its place is none
abbrev pub command_changes : HeldDatabase → ℕ → Result Command Refusal → Bool
command_changes s conn (Ok c) = may_change c (performed s conn c).0
command_changes s conn (Err e) = false

-- whether the answer to a line may be a change
abbrev pub line_changes : HeldDatabase → ℕ → Asked → Bool
line_changes s conn (text t) = command_changes s conn (command_of s conn (command_line t))
line_changes s conn too_long = false

-- this answer, and it is said whether it may be a change; or that refusal, which is said to be none
abbrev pub AnsweredOrMemory : Type 0 → Said × HeldDatabase → Bool → HeldDatabase → List ℕ → Bool → HeldDatabase → Type 0
AnsweredOrMemory MayLack a may s reply changed t =
    (IsGiven a s reply t × (changed ≡ may)) ⊎ (MayLack × IsGiven (refusal s Memory) s reply t × (changed ≡ false))

-- A command is done from s and answered: this reply is given, and t is left; and `changed` is said of it.
abbrev pub IsAnswered : HeldDatabase → ℕ → Command → List ℕ → Bool → HeldDatabase → Type 0
IsAnswered s conn c reply changed t =
    let done = performed s conn c in AnsweredOrMemory (Lacks c done.0) done (may_change c done.0) s reply changed t

-- The same of a request, which is kept out, refused or done.
abbrev pub IsAsked : HeldDatabase → ℕ → Request → List ℕ → Bool → HeldDatabase → Type 0
IsAsked s conn r reply changed t =
    let c = command_of s conn (Ok r) in
    AnsweredOrMemory (needs_none r ≡ false) (command_answer s conn c) (command_changes s conn c) s reply changed t

-- From s, this line may be given this reply, and t is left; and `changed` is said of it.
abbrev pub MayAnswer : ℕ → HeldDatabase → Asked → List ℕ → Bool → HeldDatabase → Type 0
MayAnswer conn s line reply changed t = AnsweredOrMemory (MayLackMemory line) (answer s conn line) (line_changes s conn line) s reply changed t
