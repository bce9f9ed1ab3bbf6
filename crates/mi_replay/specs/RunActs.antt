-- The acts of a run of the hub, event by event. A piece with two whole lines is two acts, and the close of a connection is one for the
-- line that it ends, if any, and one that it leaves.
use Rattle.std.specs.Prelude.{◌≡◌, ◌⊎◌, ℕ, List, [], ◌∷◌, ◌++◌, length, option_to_list}
use Rattle.std.specs.Option.{option_map_or}
use Rattle.mi_commands.specs.Asked.{Asked}
use Rattle.mi_hub.specs.Lines.{lines_from, last_line}
use Rattle.mi_hub.specs.Connections.{rest_at}
use Rattle.mi_hub.specs.Served.{sent}
use Rattle.mi_hub.specs.Run.{HubState, Event, attach, piece, close, cut, Done, Refused, DoneOrRefused, OneByOne, Unsent}
use Rattle.mi_hub.specs.declared.fault.HubFault.{HubFault}
use Rattle.mi_model.specs.Database.{Database}
use Rattle.mi_replay.specs.Acts.{Act, asks, leaves, AllActs}
use Rattle.mi_replay.specs.Journal.{JournalOf}
use Rattle.mi_replay.specs.Replayed.{replayed, unheld, IsSame}

-- lines asked by a connection, each with its reply; a line that has none was not asked
abbrev pub asked_by : ℕ → List Asked → List (List ℕ) → List Act
asked_by conn [] replies = []
asked_by conn (line ∷ lines) [] = []
asked_by conn (line ∷ lines) (reply ∷ replies) = asks conn line reply ∷ asked_by conn lines replies

-- the connection of an event
abbrev pub conn_of : Event → ℕ
conn_of (attach conn) = conn
conn_of (piece conn bytes) = conn
conn_of (close conn) = conn
conn_of (cut conn) = conn

-- the lines that an event ends
abbrev pub lines_in : HubState → Event → List Asked
lines_in old (attach conn) = []
lines_in old (piece conn bytes) = option_map_or (λ r. lines_from r bytes) (rest_at conn old.attached) []
lines_in old (close conn) = option_map_or (λ r. option_to_list (last_line r)) (rest_at conn old.attached) []
lines_in old (cut conn) = []

-- whether its connection leaves
abbrev pub leaving : Event → List Act
leaving (attach conn) = []
leaving (piece conn bytes) = []
leaving (close conn) = leaves conn ∷ []
leaving (cut conn) = leaves conn ∷ []

-- The acts of an event that is done: each of its lines is asked, and out is the replies.
pub record ActsOfDone (old : HubState) (event : Event) (out : List ℕ) (acts : List Act) : Type 0 where
  pub replies : List (List ℕ)
  pub are : acts ≡ asked_by (conn_of event) (lines_in old event) replies ++ leaving event
  pub each : length replies ≡ length (lines_in old event)
  pub written : out ≡ sent replies

-- The acts of an event whose replies don't go out: its first lines are asked, out is a front of their replies, and its connection leaves.
pub record ActsOfUnsent (old : HubState) (event : Event) (out : List ℕ) (acts : List Act) : Type 0 where
  pub replies : List (List ℕ)
  pub are : acts ≡ asked_by (conn_of event) (lines_in old event) replies ++ leaves (conn_of event) ∷ []
  pub unsent : List ℕ
  pub written : sent replies ≡ out ++ unsent

-- From old, the event is done, or it is refused, or its replies don't go out.
abbrev pub Happens : HubState → Event → List ℕ → HubState → Type 0
Happens old event out new = DoneOrRefused old event out new ⊎ Unsent old event out new

-- The same, and these are its acts. An event that is refused has none.
abbrev pub HappensBy : HubState → Event → List ℕ → List Act → HubState → Type 0
HappensBy old event out acts new =
    (Done old event out new × ActsOfDone old event out acts)
    ⊎ (((fault : HubFault) × Refused old event fault × (new ≡ old) × (acts ≡ [])) ⊎ (Unsent old event out new × ActsOfUnsent old event out acts))

-- From old, these events happen one after another, these are the acts of each, and new is left.
abbrev pub RunBy : HubState → List Event → List Act → HubState → Type 0
RunBy old [] acts new = (acts ≡ []) × (new ≡ old)
RunBy old (event ∷ events) acts new =
    (mid : HubState) × (out : List ℕ) × (first : List Act) × (later : List Act)
    × HappensBy old event out first mid × RunBy mid events later new × (acts ≡ first ++ later)

-- Whatever happens to a hub is acts: its database and holder are what they leave.
abbrev pub RunsAreActs : Type 0
RunsAreActs = (old new : HubState) (events : List Event) (out : List ℕ) → OneByOne Happens old events out new
    → (acts : List Act) × RunBy old events acts new × AllActs old.held acts new.held

-- a hub that nobody is connected to
abbrev pub quiet_hub : Database → HubState
quiet_hub d = record { held = unheld d; attached = [] }

-- So a hub's run has a journal that, asked again of the database that the run began with, gives the run's database and as many sessions
-- held.
abbrev pub HubsReplay : Type 0
HubsReplay = (d : Database) (new : HubState) (events : List Event) (out : List ℕ) → OneByOne Happens (quiet_hub d) events out new
    → (acts : List Act) × (lines : List Asked) × RunBy (quiet_hub d) events acts new × JournalOf (unheld d) acts lines new.held
    × IsSame new.held (replayed lines (unheld d))
