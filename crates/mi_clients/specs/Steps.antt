-- What a service does to its hub, one step after another. Connection 2 comes, asks to start a session, and goes away:
-- comes 2, asks 2 "{\"cmd\":\"start\"}⏎" "{\"ok\":true,\"revision\":1}⏎" true, undoes 2 "{\"ok\":true,\"revision\":0}⏎", goes 2.
use Rattle.std.specs.Prelude.{◌≡◌, ◌⊎◌, ℕ, ◌<◌, List, [], ◌∷◌, ◌++◌, ◌==◌, Bool, true, false, if◌then◌else◌, not, ◌&&◌, codes, Option, Some, None}
use Rattle.mi_commands.specs.declared.holder.Holder.{Holder}
use Rattle.mi_hub.specs.Run.{HubState, Event, attach, piece, cut, Done}
use Rattle.mi_replay.specs.Acts.{Act}
use Rattle.mi_replay.specs.RunActs.{ActsOfDone}
use Rattle.mi_durable.specs.Journals.{Journals}
use Rattle.mi_durable.specs.Durable.{holder_conn, is_conn}
use Rattle.mi_durable.specs.Room.{IsTurnedAway}
use Rattle.mi_model.specs.Database.{depth}
use Rattle.mi_clients.specs.Input.{count_on}
use Rattle.mi_clients.specs.ServiceLines.{is_service, told_to}

-- A connection comes; it asks a line, this is the reply, and it begins to hold sessions by it or doesn't; a line that it asks is turned away with this reply; the service tells it this text
-- to a line of its own; a session is undone that it leaves behind, and nobody hears the reply; it goes away.
pub data Step : Type 0 where
  comes : ℕ → Step
  asks : ℕ → List ℕ → List ℕ → Bool → Step
  denies : ℕ → List ℕ → List ℕ → Step
  tells : ℕ → List ℕ → List ℕ → Step
  undoes : ℕ → List ℕ → Step
  goes : ℕ → Step

-- the line that undoes a session, with its newline
abbrev pub undo_bytes : List ℕ
undo_bytes = codes "{\"cmd\":\"undo\"}\n"

-- From old, the hub does this event, and writes these bytes; these are its acts, and new is left.
abbrev pub HubDoes : HubState → Event → List ℕ → List Act → HubState → Type 0
HubDoes old event out acts new = Done old event out new × ActsOfDone old event out acts

-- a connection holds no session before, and holds some then
abbrev pub begins_in : ℕ → HubState → HubState → Bool
begins_in conn old new = not (is_conn (holder_conn old.held.holder) conn) && is_conn (holder_conn new.held.holder) conn

-- From old, a step is made; these are its acts, and new is left. A line that reaches the tables is none of the service's, and to one of the
-- service's some text is told, which changes nothing. Nor does a line that is turned away, since the journal has no room for it. A session that
-- is undone is the connection's own: it is the holder.
abbrev pub StepDone : HubState → Step → List Act → HubState → Type 0
StepDone old (comes conn) acts new = HubDoes old (attach conn) [] acts new
StepDone old (asks conn line reply begins) acts new =
    HubDoes old (piece conn line) reply acts new × (is_service line ≡ false) × (begins ≡ begins_in conn old new)
StepDone old (denies conn line reply) acts new =
    (acts ≡ []) × (new ≡ old) × (is_service line ≡ false) × IsTurnedAway (depth old.held.database) line reply
StepDone old (tells conn line text) acts new = (acts ≡ []) × (new ≡ old) × (is_service line ≡ true) × ¬ (text ≡ [])
StepDone old (undoes conn reply) acts new = HubDoes old (piece conn undo_bytes) reply acts new × (holder_conn old.held.holder ≡ Some conn)
StepDone old (goes conn) acts new = HubDoes old (cut conn) [] acts new

-- From old, these steps are made one after another; these are their acts, and new is left.
abbrev pub DoneBy : HubState → List Step → List Act → HubState → Type 0
DoneBy old [] acts new = (acts ≡ []) × (new ≡ old)
DoneBy old (step ∷ steps) acts new =
    (mid : HubState) × (first : List Act) × (later : List Act) × StepDone old step first mid × DoneBy mid steps later new × (acts ≡ first ++ later)

-- From old, these steps are made, and new is left; what was appended to the journal meanwhile are whole lines, which are a journal of their acts.
pub record Makes (steps : List Step) (old new : HubState) (before after : Option (List ℕ)) : Type 0 where
  pub acts : List Act
  pub done : DoneBy old steps acts new
  pub journal : Journals old.held new.held before after acts

-- In a step this connection asks this line, and this is the reply: the line is done, or turned away.
abbrev pub IsAskOf : ℕ → List ℕ → List ℕ → Step → Type 0
IsAskOf conn line reply step = ((begins : Bool) × (step ≡ asks conn line reply begins)) ⊎ (step ≡ denies conn line reply)

-- whether a line is turned away in a step
abbrev pub is_denial : Step → Bool
is_denial (comes conn) = false
is_denial (asks conn line reply begins) = false
is_denial (denies conn line reply) = true
is_denial (tells conn line text) = false
is_denial (undoes conn reply) = false
is_denial (goes conn) = false

-- All of these steps are this connection asking a line: taken are their lines, one behind another, and given their replies.
abbrev pub AreAsks : ℕ → List Step → List ℕ → List ℕ → Type 0
AreAsks conn [] taken given = (taken ≡ []) × (given ≡ [])
AreAsks conn (comes k ∷ steps) taken given = ⊥
AreAsks conn (asks k line reply begins ∷ steps) taken given =
    (k ≡ conn) × (more : List ℕ) × (later : List ℕ) × AreAsks conn steps more later × (taken ≡ line ++ more) × (given ≡ reply ++ later)
AreAsks conn (denies k line reply ∷ steps) taken given =
    (k ≡ conn) × (more : List ℕ) × (later : List ℕ) × AreAsks conn steps more later × (taken ≡ line ++ more) × (given ≡ reply ++ later)
AreAsks conn (tells k line text ∷ steps) taken given = ⊥
AreAsks conn (undoes k reply ∷ steps) taken given = ⊥
AreAsks conn (goes k ∷ steps) taken given = ⊥

-- All of these steps are a session of this connection undone.
abbrev pub AreUndos : ℕ → List Step → Type 0
AreUndos conn [] = Unit {0}
AreUndos conn (comes k ∷ steps) = ⊥
AreUndos conn (asks k line reply begins ∷ steps) = ⊥
AreUndos conn (denies k line reply ∷ steps) = ⊥
AreUndos conn (tells k line text ∷ steps) = ⊥
AreUndos conn (undoes k reply ∷ steps) = (k ≡ conn) × AreUndos conn steps
AreUndos conn (goes k ∷ steps) = ⊥

-- All of these steps are the service telling this connection something.
abbrev pub AreTells : ℕ → List Step → Type 0
AreTells conn [] = Unit {0}
AreTells conn (comes k ∷ steps) = ⊥
AreTells conn (asks k line reply begins ∷ steps) = ⊥
AreTells conn (denies k line reply ∷ steps) = ⊥
AreTells conn (tells k line text ∷ steps) = (k ≡ conn) × AreTells conn steps
AreTells conn (undoes k reply ∷ steps) = ⊥
AreTells conn (goes k ∷ steps) = ⊥

-- All of these steps are the service telling a connection something.
abbrev pub AllTell : List Step → Type 0
AllTell [] = Unit {0}
AllTell (comes k ∷ steps) = ⊥
AllTell (asks k line reply begins ∷ steps) = ⊥
AllTell (denies k line reply ∷ steps) = ⊥
AllTell (tells k line text ∷ steps) = AllTell steps
AllTell (undoes k reply ∷ steps) = ⊥
AllTell (goes k ∷ steps) = ⊥

-- what a connection is replied in a step: only where it asks a line itself, which is done or turned away, or a text is told to its own line
abbrev pub reply_to : ℕ → Step → List ℕ
reply_to k (comes conn) = []
reply_to k (asks conn line reply begins) = if conn == k then reply else []
reply_to k (denies conn line reply) = if conn == k then reply else []
reply_to k (tells conn line text) = if conn == k then text else []
reply_to k (undoes conn reply) = []
reply_to k (goes conn) = []

-- what a connection is given in these steps: the replies to its own lines, whole and in their order
abbrev pub given_to : ℕ → List Step → List ℕ
given_to k [] = []
given_to k (step ∷ steps) = reply_to k step ++ given_to k steps

-- in these steps no other connection than this one is given anything
abbrev pub GivesOnly : ℕ → List Step → Type 0
GivesOnly conn steps = (k : ℕ) → (conn == k) ≡ false → given_to k steps ≡ []

-- in these steps no connection is given anything
abbrev pub GivesNone : List Step → Type 0
GivesNone steps = (k : ℕ) → given_to k steps ≡ []

-- the line that a connection asks in a step, of the tables or of the service, where it asks one itself
abbrev pub line_by : ℕ → Step → List ℕ
line_by k (comes conn) = []
line_by k (asks conn line reply begins) = if conn == k then line else []
line_by k (denies conn line reply) = if conn == k then line else []
line_by k (tells conn line text) = if conn == k then line else []
line_by k (undoes conn reply) = []
line_by k (goes conn) = []

-- what a connection asks in these steps: its lines, one behind another
abbrev pub asked_by : ℕ → List Step → List ℕ
asked_by k [] = []
asked_by k (step ∷ steps) = line_by k step ++ asked_by k steps

-- whether a connection asks a line in a step, and begins to hold sessions by it
abbrev pub begins_by : ℕ → Step → Bool
begins_by k (comes conn) = false
begins_by k (asks conn [] reply begins) = false
begins_by k (asks conn (b ∷ bs) reply begins) = (conn == k) && begins
begins_by k (denies conn line reply) = false
begins_by k (tells conn line text) = false
begins_by k (undoes conn reply) = false
begins_by k (goes conn) = false

-- The number of the line with which a connection last began to hold sessions, where it had asked so many lines before these steps, and this was
-- that number then.
abbrev pub since_after : ℕ → ℕ → ℕ → List Step → ℕ
since_after k lines since [] = since
since_after k lines since (step ∷ steps) =
    since_after k (count_on lines (line_by k step)) (if begins_by k step then count_on lines (line_by k step) else since) steps

-- in these steps no other connection than this one asks a line
abbrev pub AsksOnly : ℕ → List Step → Type 0
AsksOnly conn steps = (k : ℕ) → (conn == k) ≡ false → asked_by k steps ≡ []

-- in these steps no connection asks a line
abbrev pub AsksNone : List Step → Type 0
AsksNone steps = (k : ℕ) → asked_by k steps ≡ []

-- the line of a connection that a text is told to in a step
abbrev pub told_line : ℕ → Step → List ℕ
told_line k (comes conn) = []
told_line k (asks conn line reply begins) = []
told_line k (denies conn line reply) = []
told_line k (tells conn line text) = if conn == k then line else []
told_line k (undoes conn reply) = []
told_line k (goes conn) = []

-- the lines of a connection that texts are told to in these steps, one behind another
abbrev pub told_by : ℕ → List Step → List ℕ
told_by k [] = []
told_by k (step ∷ steps) = told_line k step ++ told_by k steps

-- in none of these steps a text is told
abbrev pub TellsNone : List Step → Type 0
TellsNone [] = Unit {0}
TellsNone (comes conn ∷ steps) = TellsNone steps
TellsNone (asks conn line reply begins ∷ steps) = TellsNone steps
TellsNone (denies conn line reply ∷ steps) = TellsNone steps
TellsNone (tells conn line text ∷ steps) = ⊥
TellsNone (undoes conn reply ∷ steps) = TellsNone steps
TellsNone (goes conn ∷ steps) = TellsNone steps

-- What is told in these steps is told to the line that it is told to, where this line tells the status and that one the schema.
abbrev pub TellsSo : List ℕ → List ℕ → List Step → Type 0
TellsSo status schema [] = Unit {0}
TellsSo status schema (comes conn ∷ steps) = TellsSo status schema steps
TellsSo status schema (asks conn line reply begins ∷ steps) = TellsSo status schema steps
TellsSo status schema (denies conn line reply ∷ steps) = TellsSo status schema steps
TellsSo status schema (tells conn line text ∷ steps) = (text ≡ told_to status schema line) × TellsSo status schema steps
TellsSo status schema (undoes conn reply ∷ steps) = TellsSo status schema steps
TellsSo status schema (goes conn ∷ steps) = TellsSo status schema steps

-- in these steps a connection doesn't come, no session of it is undone, and it doesn't go
abbrev pub OnlyAsks : ℕ → List Step → Type 0
OnlyAsks k [] = Unit {0}
OnlyAsks k (comes conn ∷ steps) = ((conn == k) ≡ false) × OnlyAsks k steps
OnlyAsks k (asks conn line reply begins ∷ steps) = OnlyAsks k steps
OnlyAsks k (denies conn line reply ∷ steps) = OnlyAsks k steps
OnlyAsks k (tells conn line text ∷ steps) = OnlyAsks k steps
OnlyAsks k (undoes conn reply ∷ steps) = ((conn == k) ≡ false) × OnlyAsks k steps
OnlyAsks k (goes conn ∷ steps) = ((conn == k) ≡ false) × OnlyAsks k steps

-- that is so of every other connection than this one
abbrev pub LeavesOthers : ℕ → List Step → Type 0
LeavesOthers conn steps = (k : ℕ) → (conn == k) ≡ false → OnlyAsks k steps

-- whoever holds sessions holds one at least
abbrev pub HoldsSome : Option Holder → Type 0
HoldsSome None = Unit {0}
HoldsSome (Some h) = 0 < h.held
