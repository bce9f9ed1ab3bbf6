-- A turn of an open connection: what one read of it gives, and what comes of it. Connection 1 gives a piece, and its replies go out:
-- fed 1 "{\"cmd\":\"start\"}⏎". Then it gives another, and a write of a reply fails: unanswered 1 "{\"cmd\":\"undo\"}⏎".
use Rattle.std.specs.Prelude.{◌≡◌, ℕ, ◌≤◌, List, [], ◌∷◌, length, Bool, true, false, Result, Ok, Err, Option, Some, None}
use Rattle.std.specs.Io.KnownBytes.{IsAtEnd}
use Rattle.mi_value.specs.declared.limits.TheConstants.{PIECE}
use Rattle.mi_hub.specs.Run.{HubState, piece, close, cut, Done, Failed, Unflushed}
use Rattle.mi_hub.specs.Watching.{watched, has_failed, flush_failed, Reads}
use Rattle.mi_hub.specs.declared.fault.ServeFault.{ServeFault}
use Rattle.mi_hub.specs.declared.fault.ServeFault.TheVariants.{Read, Write}
use Rattle.mi_hub.specs.declared.watched.Watched.{Watched}

-- A turn of an open connection: a piece of its bytes is fed, or they are at their end and it is closed; or its read fails and it is
-- cut; or a write of a reply to a piece fails, or of the one at the end; or the replies were written, and the flush behind the piece or the end
-- fails.
pub data ConnectionTurn : Type 0 where
  fed : ℕ → List ℕ → ConnectionTurn
  ended : ℕ → ConnectionTurn
  unread : ℕ → ConnectionTurn
  unanswered : ℕ → List ℕ → ConnectionTurn
  unended : ℕ → ConnectionTurn
  unflushed : ℕ → List ℕ → ConnectionTurn
  unflushed_end : ℕ → ConnectionTurn

-- the connection whose turn it is
abbrev pub conn_of : ConnectionTurn → ℕ
conn_of (fed conn bytes) = conn
conn_of (ended conn) = conn
conn_of (unread conn) = conn
conn_of (unanswered conn bytes) = conn
conn_of (unended conn) = conn
conn_of (unflushed conn bytes) = conn
conn_of (unflushed_end conn) = conn

-- whether the connection is open still, or the fault that has ended it
abbrev pub outcome : ConnectionTurn → Result Bool ServeFault
outcome (fed conn bytes) = Ok true
outcome (ended conn) = Ok false
outcome (unread conn) = Err Read
outcome (unanswered conn bytes) = Err Write
outcome (unended conn) = Err Write
outcome (unflushed conn bytes) = Err Write
outcome (unflushed_end conn) = Err Write

-- what the read gave: a piece, no bytes at their end, or nothing where it failed
abbrev pub given_in : ConnectionTurn → Option (List ℕ)
given_in (fed conn bytes) = Some bytes
given_in (ended conn) = Some []
given_in (unread conn) = None
given_in (unanswered conn bytes) = Some bytes
given_in (unended conn) = Some []
given_in (unflushed conn bytes) = Some bytes
given_in (unflushed_end conn) = Some []

-- The stream of a turn tells a flush that failed, where it was sound before.
abbrev pub TellsFlush : {T : Type 0} → ConnectionTurn → Watched T → Watched T → Type 0
TellsFlush (fed conn bytes) old new = Unit {0}
TellsFlush (ended conn) old new = Unit {0}
TellsFlush (unread conn) old new = Unit {0}
TellsFlush (unanswered conn bytes) old new = Unit {0}
TellsFlush (unended conn) old new = Unit {0}
TellsFlush (unflushed conn bytes) old new = has_failed old ≡ false → flush_failed new ≡ true
TellsFlush (unflushed_end conn) old new = has_failed old ≡ false → flush_failed new ≡ true

-- what one read gives
abbrev pub IsPiece : List ℕ → Type 0
IsPiece bytes = (1 ≤ length bytes) × (length bytes ≤ PIECE)

-- From old, this turn is made: out is written to the connection, and new is left.
abbrev pub Made : HubState → ConnectionTurn → List ℕ → HubState → Type 0
Made old (fed conn bytes) out new = Done old (piece conn bytes) out new × IsPiece bytes
Made old (ended conn) out new = Done old (close conn) out new
Made old (unread conn) out new = Done old (cut conn) out new
Made old (unanswered conn bytes) out new = Failed old (piece conn bytes) out new × IsPiece bytes
Made old (unended conn) out new = Failed old (close conn) out new
Made old (unflushed conn bytes) out new = Unflushed old (piece conn bytes) out new × IsPiece bytes
Made old (unflushed_end conn) out new = Unflushed old (close conn) out new

-- One read of a reader gave this: bytes, or none since it is at its end, or nothing since it failed.
abbrev pub Gave : {T : Type 0} → (T → Option (List ℕ)) → Watched T → Watched T → Option (List ℕ) → Type 0
Gave remaining old new None = Reads remaining old new [] × (has_failed new ≡ true)
Gave remaining old new (Some []) = Reads remaining old new [] × IsAtEnd (remaining (watched new))
Gave remaining old new (Some (b ∷ bytes)) = Reads remaining old new (b ∷ bytes)
