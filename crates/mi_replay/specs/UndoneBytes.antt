-- Undo lines take back what the bytes of any connections did since a start. Connection 1 feeds "{\"cmd\":\"sta" and then "rt\"}⏎"; connection 2
-- comes and asks in vain, connection 1 inserts; then connection 1 feeds "{\"cmd\":\"un" and then "do\"}⏎", and all is as the start found it.
use Rattle.std.specs.Prelude.{◌≡◌, ℕ, zero, suc, ◌+◌, List, [], ◌∷◌, ◌++◌, map, false, Some, codes}
use Rattle.mi_model.specs.Database.{started}
use Rattle.mi_commands.specs.Holder.{is_busy}
use Rattle.mi_commands.specs.Undone.{StaysOpen, undo_replies}
use Rattle.mi_hub.specs.Connections.{rest_at}
use Rattle.mi_hub.specs.Served.{sent}
use Rattle.mi_hub.specs.Run.{HubState, Event, piece, AllDone}
use Rattle.mi_replay.specs.Acts.{Act, AllActs}
use Rattle.mi_replay.specs.RunActs.{RunBy}

-- pieces of one connection, one after another
abbrev pub fed : ℕ → List (List ℕ) → List Event
fed conn pieces = map (piece conn) pieces

-- all their bytes
abbrev pub joined : List (List ℕ) → List ℕ
joined [] = []
joined (p ∷ pieces) = p ++ joined pieces

-- A connection that is at the beginning of a line feeds these bytes, in pieces that are cut anywhere, and out is written to it.
pub record Feeds (old : HubState) (conn : ℕ) (bytes out : List ℕ) (new : HubState) : Type 0 where
  pub at_line : rest_at conn old.attached ≡ Some (Some [])
  pub pieces : List (List ℕ)
  pub whole : joined pieces ≡ bytes
  pub done : AllDone old (fed conn pieces) out new

-- the line {"cmd":"start"}
abbrev pub start_bytes : List ℕ
start_bytes = codes "{\"cmd\":\"start\"}" ++ 10 ∷ []

-- so many lines {"cmd":"undo"}
abbrev pub undo_bytes : ℕ → List ℕ
undo_bytes zero = []
undo_bytes (suc k) = codes "{\"cmd\":\"undo\"}" ++ 10 ∷ undo_bytes k

-- a connection starts a session: its line is accepted
pub record Starts (old : HubState) (conn : ℕ) (new : HubState) : Type 0 where
  pub out : List ℕ
  pub feeds : Feeds old conn start_bytes out new
  pub accepted : new.held.database ≡ started old.held.database

-- Any events happen to a hub: connections come, pieces of theirs come, cut anywhere, they end or break off; some events are refused, and of some
-- the replies don't go out. Through all their lines, and all connections that go away, the session of this number stays open.
pub record LeavesOpen (n : ℕ) (old : HubState) (events : List Event) (new : HubState) : Type 0 where
  pub acts : List Act
  pub by : RunBy old events acts new
  pub run : AllActs old.held acts new.held
  pub stays : StaysOpen n acts old.held new.held run

-- What s had stands in v again: all tables with their records, orders and counters, and the revision. Each line since t was an accepted undo, so
-- none was answered `memory`, `busy` or `session`.
pub record GivenBack (s t : HubState) (k : ℕ) (out : List ℕ) (v : HubState) : Type 0 where
  pub tables : v.held.database.tables ≡ s.held.database.tables
  pub revision : v.held.database.revision ≡ s.held.database.revision
  pub catalog : v.held.database.catalog ≡ s.held.database.catalog
  pub accepted : out ≡ sent (undo_replies s.held.database.catalog k t.held.database.revision)

-- A session is started. Then any events happen that leave it open, with k - 1 sessions above it. A connection that isn't kept out then feeds k lines
-- {"cmd":"undo"}: what the start began with is there again, and each undo was accepted.
abbrev pub UndoBytesTakeBack : Type 0
UndoBytesTakeBack = (s u t v : HubState) (first last k : ℕ) (events : List Event) (out : List ℕ)
    → Starts s first u → LeavesOpen (s.held.database.revision + 1) u events t → t.held.database.revision ≡ s.held.database.revision + k
    → is_busy t.held.holder last ≡ false → Feeds t last (undo_bytes k) out v → GivenBack s t k out v

-- such lines are always answered, wherever their bytes are cut
abbrev pub UndoBytesAreGiven : Type 0
UndoBytesAreGiven = (t : HubState) (last k : ℕ) (pieces : List (List ℕ)) → rest_at last t.attached ≡ Some (Some []) → joined pieces ≡ undo_bytes k
    → (out : List ℕ) × (v : HubState) × Feeds t last (undo_bytes k) out v
