-- What events do to a hub: the one relation that the calls of the hub are proved against. Connection 1 comes, gives bytes and ends:
-- attach 1, piece 1 "{\"cmd\":\"start\"}⏎{\"cmd\":\"und", piece 1 "o\"}", close 1.
use Rattle.std.specs.Prelude.{◌≡◌, ◌⊎◌, ℕ, ◌<◌, ◌≤◌, List, [], ◌∷◌, ◌++◌, length, option_to_list, Some, None, IsSome}
use Rattle.mi_hub.specs.Lines.{Rest, lines_from, rest_from, last_line}
use Rattle.mi_commands.specs.Holder.{HeldDatabase, released}
use Rattle.mi_hub.specs.Connections.{rest_at, with_rest, others}
use Rattle.mi_commands.specs.Answer.{MayGive}
use Rattle.mi_hub.specs.Served.{Served, CutOff}
use Rattle.mi_hub.specs.declared.connection.Connection.{Connection}
use Rattle.mi_hub.specs.declared.fault.HubFault.{HubFault}
use Rattle.mi_hub.specs.declared.fault.HubFault.TheVariants.{NotAttached, AlreadyAttached, TooMany, Memory, Write}
use Rattle.mi_value.specs.declared.limits.TheConstants.{MAX_CONNECTIONS}

-- the database with its holder, and the attached connections, each with the rest of the bytes fed to it
pub record HubState : Type 0 where
  pub held : HeldDatabase
  pub attached : List Connection

-- what happens to one connection: it comes, a piece of its bytes comes, its bytes end, or it breaks off
pub data Event : Type 0 where
  attach : ℕ → Event
  piece : ℕ → List ℕ → Event
  close : ℕ → Event
  cut : ℕ → Event

-- a connection comes, with no bytes
abbrev pub with_connection : ℕ → HubState → HubState
with_connection conn s = record { held = s.held; attached = s.attached ++ record { id = conn; rest = Some [] } ∷ [] }

-- a connection is gone, with the sessions that it held
abbrev pub gone : ℕ → HubState → HubState
gone conn s = record { held = released conn s.held; attached = others conn s.attached }

-- the same with another database and holder
abbrev pub with_held : HeldDatabase → HubState → HubState
with_held h s = record { held = h; attached = s.attached }

-- From old, the event is done: out is written, and new is left.
-- attach: the connection isn't attached, and there is room for it. piece: the lines that end in it are answered, and what follows is its
-- rest. close: its rest is a line and is answered, and then it is gone. cut: nothing is asked, and it is gone.
abbrev pub Done : HubState → Event → List ℕ → HubState → Type 0
Done old (attach conn) out new =
    (rest_at conn old.attached ≡ None) × (length old.attached < MAX_CONNECTIONS) × (out ≡ []) × (new ≡ with_connection conn old)
Done old (piece conn bytes) out new =
    (r : Rest) × (rest_at conn old.attached ≡ Some r) × Served (MayGive conn) old.held (lines_from r bytes) out new.held
    × (new.attached ≡ with_rest conn (rest_from r bytes) old.attached)
Done old (close conn) out new =
    (r : Rest) × (mid : HeldDatabase) × (rest_at conn old.attached ≡ Some r)
    × Served (MayGive conn) old.held (option_to_list (last_line r)) out mid × (new ≡ gone conn (with_held mid old))
Done old (cut conn) out new = IsSome (rest_at conn old.attached) × (out ≡ []) × (new ≡ gone conn old)

-- From old, a write of the event's replies fails: out is written, the connection is gone, and new is left.
abbrev pub Failed : HubState → Event → List ℕ → HubState → Type 0
Failed old (attach conn) out new = ⊥
Failed old (piece conn bytes) out new =
    (r : Rest) × (mid : HeldDatabase) × (rest_at conn old.attached ≡ Some r)
    × CutOff (MayGive conn) old.held (lines_from r bytes) out mid × (new ≡ gone conn (with_held mid old))
Failed old (close conn) out new =
    (r : Rest) × (mid : HeldDatabase) × (rest_at conn old.attached ≡ Some r)
    × CutOff (MayGive conn) old.held (option_to_list (last_line r)) out mid × (new ≡ gone conn (with_held mid old))
Failed old (cut conn) out new = ⊥

-- why the attach of a connection changes nothing; memory may be wanting only where there is a place for it
abbrev pub AttachRefused : HubState → ℕ → HubFault → Type 0
AttachRefused old conn AlreadyAttached = IsSome (rest_at conn old.attached)
AttachRefused old conn TooMany = (rest_at conn old.attached ≡ None) × (MAX_CONNECTIONS ≤ length old.attached)
AttachRefused old conn Memory = (rest_at conn old.attached ≡ None) × (length old.attached < MAX_CONNECTIONS)
AttachRefused old conn NotAttached = ⊥
AttachRefused old conn Write = ⊥

-- why another event changes nothing: its connection isn't attached
abbrev pub OtherRefused : HubState → ℕ → HubFault → Type 0
OtherRefused old conn NotAttached = rest_at conn old.attached ≡ None
OtherRefused old conn AlreadyAttached = ⊥
OtherRefused old conn TooMany = ⊥
OtherRefused old conn Memory = ⊥
OtherRefused old conn Write = ⊥

-- At old, the event is refused for this reason.
abbrev pub Refused : HubState → Event → HubFault → Type 0
Refused old (attach conn) fault = AttachRefused old conn fault
Refused old (piece conn bytes) fault = OtherRefused old conn fault
Refused old (close conn) fault = OtherRefused old conn fault
Refused old (cut conn) fault = OtherRefused old conn fault

-- From old, the event is done; or it is refused, and then nothing is written or changed.
abbrev pub DoneOrRefused : HubState → Event → List ℕ → HubState → Type 0
DoneOrRefused old event out new = Done old event out new ⊎ ((fault : HubFault) × Refused old event fault × (out ≡ []) × (new ≡ old))

-- From old, these events are made one after another, each as `Makes` says: out is all that is written, and new is left.
abbrev pub OneByOne : (HubState → Event → List ℕ → HubState → Type 0) → HubState → List Event → List ℕ → HubState → Type 0
OneByOne Makes old [] out new = (out ≡ []) × (new ≡ old)
OneByOne Makes old (event ∷ events) out new =
    (mid : HubState) × (first : List ℕ) × (later : List ℕ) × Makes old event first mid × OneByOne Makes mid events later new × (out ≡ first ++ later)

-- From old, these events come one after another, and some may be refused.
abbrev pub Run : HubState → List Event → List ℕ → HubState → Type 0
Run = OneByOne DoneOrRefused

-- The same, and none is refused.
abbrev pub AllDone : HubState → List Event → List ℕ → HubState → Type 0
AllDone = OneByOne Done

-- From old, the event is done, and then the flush behind it fails: out is what the writer has taken, all of its replies. Which of them have
-- gone out nobody knows. The connection is gone, and new is left.
abbrev pub Unflushed : HubState → Event → List ℕ → HubState → Type 0
Unflushed old (attach conn) out new = ⊥
Unflushed old (piece conn bytes) out new = AllDone old (piece conn bytes ∷ cut conn ∷ []) out new
Unflushed old (close conn) out new = Done old (close conn) out new
Unflushed old (cut conn) out new = ⊥

-- From old, the replies of the event don't go out: the writer fails at one of them, or at the flush behind them.
abbrev pub Unsent : HubState → Event → List ℕ → HubState → Type 0
Unsent old event out new = Failed old event out new ⊎ Unflushed old event out new

-- how an event ends whose replies don't go out: `Failed` or `Unflushed`
abbrev pub Fault : Type 1
Fault = HubState → Event → List ℕ → HubState → Type 0

-- From old, these events are done, and then one more ends so.
abbrev pub DoneToFault : Fault → HubState → List Event → Event → List ℕ → HubState → Type 0
DoneToFault Ends old events event out new =
    (mid : HubState) × (first : List ℕ) × (later : List ℕ) × AllDone old events first mid × Ends mid event later new × (out ≡ first ++ later)

-- From old, the first bytes of a connection are done, and then a piece ends so that was read last; or, at the end of the bytes, its close.
abbrev pub FaultAtLast : Fault → Type 0 → HubState → ℕ → List ℕ → List ℕ → List ℕ → HubState → Type 0
FaultAtLast Ends AtEnd old conn first last out new =
    DoneToFault Ends old (piece conn first ∷ []) (piece conn last) out new
    ⊎ (AtEnd × (last ≡ []) × DoneToFault Ends old (piece conn first ∷ []) (close conn) out new)
