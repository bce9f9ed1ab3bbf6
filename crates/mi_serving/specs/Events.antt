-- What the events of one wait tell: of [port, 2] the port may have a caller, and connection 2 is ready.
use Rattle.std.specs.Prelude.{ℕ, List, [], ◌∷◌, Bool, ◌==◌, ◌||◌, ◌&&◌, not, if◌then◌else◌, map}
use Rattle.mio.specs.declared.event.event.Event.{Event}
use Rattle.mio.specs.Event.{event_token, is_readable, is_writable, is_error, is_read_closed, is_write_closed}
use Rattle.mi_clients.specs.declared.client.Client.{Client}
use Rattle.mi_clients.specs.Client.{told}
use Rattle.mi_replay.specs.Replayed.{replayer}
use Rattle.mi_serving.specs.declared.acceptor.Callers.{Callers}

-- what an event is reported under
abbrev pub token_of : Event → ℕ
token_of e = (event_token e).0

-- It is the listener of the port's, or that of the path's. No connection has either number: the first is none, the other that of the
-- connection that replays.
abbrev pub is_port : ℕ → Bool
is_port token = token == 0

abbrev pub is_path : ℕ → Bool
is_path token = token == replayer

abbrev pub is_listener : ℕ → Bool
is_listener token = is_port token || is_path token

-- its peer has closed, or its stream has failed
abbrev pub is_closing : Event → Bool
is_closing e = is_read_closed e || is_write_closed e || is_error e

-- An event of a listener is no connection's; another tells the one of its number.
abbrev pub told_by : {S : Type 0} → Event → List (Client S) → List (Client S)
told_by e clients = if is_listener (token_of e) then clients else map (told (token_of e) (is_readable e) (is_writable e) (is_closing e)) clients

abbrev pub told_by_all : {S : Type 0} → List Event → List (Client S) → List (Client S)
told_by_all [] clients = clients
told_by_all (e ∷ es) clients = told_by_all es (told_by e clients)

-- at which listeners a connection may be there, behind an event of one
abbrev pub called_by : Event → Callers → Callers
called_by e c = record { port = c.port || is_port (token_of e); path = c.path || is_path (token_of e) }

abbrev pub called_by_all : List Event → Callers → Callers
called_by_all [] c = c
called_by_all (e ∷ es) c = called_by_all es (called_by e c)

-- the path's listener is asked for the next connection: where one may be there, and it's its turn or none may be at the port
abbrev pub is_path_asked : Callers → Bool → Bool
is_path_asked c path_is_next = c.path && (path_is_next || not c.port)

-- behind a wait: where the system gave no connection before it, one may be there at each listener; else as before
abbrev pub callers_behind : Bool → Bool → Bool → Callers → Callers
callers_behind is_tired port path c = if is_tired then record { port = port; path = path } else c
