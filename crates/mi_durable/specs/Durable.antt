-- What a durable hub is: a hub and a log. And who of its connections holds sessions.
use Rattle.std.specs.Prelude.{◌≡◌, ℕ, List, Bool, false, ◌==◌, Option, Some, None, option_map}
use Rattle.std.specs.Io.KnownBytes.{Keeps}
use Rattle.mi_commands.specs.declared.holder.Holder.{Holder}
use Rattle.mi_hub.specs.Run.{HubState}
use Rattle.mi_durable.specs.declared.durable.Durable.{Durable}

abbrev pub hub_of : {D L : Type 0} → Durable D L → HubState
hub_of l = l.hub

abbrev pub log_of : {D L : Type 0} → Durable D L → L
log_of l = l.log

-- Where it holds that nothing was appended since the last sync, all that is appended stays.
abbrev pub IsSettled : {D L : Type 0} → (L → Option (List ℕ)) → (L → Option (List ℕ)) → Durable D L → Type 0
IsSettled appended synced l = l.unsynced ≡ false → Keeps (appended l.log) (synced l.log)

-- the connection that holds sessions
abbrev pub holder_conn : Option Holder → Option ℕ
holder_conn holder = option_map (λ (h : Holder). h.conn) holder

-- this connection is the holder
abbrev pub is_conn : Option ℕ → ℕ → Bool
is_conn None conn = false
is_conn (Some holder) conn = holder == conn
