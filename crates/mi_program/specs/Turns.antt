-- What serving connections by turns does to a hub. The connections 1 and 2 are open, in this row. 1 gives a piece and goes behind 2;
-- then the write of a reply to 2 fails, and then 1 ends: fed 1 "{\"cmd\":\"start\"}⏎", unanswered 2 "{\"cmd\":\"undo\"}⏎", ended 1.
use Rattle.std.specs.Prelude.{◌≡◌, ℕ, List, [], ◌∷◌, ◌++◌, length, map, Bool, true, false, ◌==◌, Option, Result, Ok, Err, Some, IsSome, OnErr, ⊤}
use Rattle.std.specs.Result.{result_and}
use Rattle.std.specs.List.{range_with_len}
use Rattle.mi_hub.specs.Connections.{rest_at}
use Rattle.mi_hub.specs.Run.{HubState}
use Rattle.mi_hub.specs.ConnectionTurn.{ConnectionTurn, fed, ended, unread, unanswered, unended, unflushed, unflushed_end}
use Rattle.mi_hub.specs.declared.connection.Connection.{Connection}
use Rattle.mi_hub.specs.declared.fault.ServeFault.{ServeFault}
use Rattle.mi_hub.specs.declared.fault.ServeFault.TheVariants.{Read, Write, Accept, Memory, Turns}
use Rattle.mi_hub.specs.ConnectionTurn.{conn_of, outcome, given_in, Made, TellsFlush, Gave}
use Rattle.mi_hub.specs.Watching.{has_failed, Writes}
use Rattle.mi_hub.specs.declared.watched.Watched.{Watched}
use Rattle.mi_hub.specs.IoNotes.{with_read, with_write}
use Rattle.mi_hub.specs.declared.io_errors.IoErrors.{IoErrors}
use Rattle.mi_program.specs.Buffer.{contents_of, remaining_of}
use Rattle.mi_program.specs.declared.buffered.Buffered.{Buffered}
use Rattle.mi_program.specs.declared.listener.Client.{Client}

-- a connection that has come, with no bytes
abbrev pub fresh : ℕ → Connection
fresh conn = record { id = conn; rest = Some [] }

-- n connections have come to a hub with none, numbered from 1 in this order
abbrev pub with_clients : ℕ → HubState → HubState
with_clients n s = record { held = s.held; attached = map fresh (range_with_len 1 n) }

-- In this turn the stream of its client gave what the turn was given, and then out was written to it. It has failed where the turn has a fault,
-- and tells whether that was a flush.
pub record TakesTurn {S : Type 0} (remaining contents : S → Option (List ℕ)) (turn : ConnectionTurn) (out : List ℕ) (old new : Client S) : Type 0 where
  pub conn : conn_of turn ≡ old.conn
  pub same : new.conn ≡ old.conn
  pub between : Watched (Buffered S)
  pub read : Gave (remaining_of remaining) old.stream between (given_in turn)
  pub written : Writes (contents_of contents) between new.stream out
  pub told : TellsFlush turn between new.stream
  pub failed : OnErr (outcome turn) (has_failed new.stream ≡ true)

-- a client whose connection stays open goes behind the others
abbrev pub row_after : {S : Type 0} → ConnectionTurn → Client S → List (Client S) → List (Client S)
row_after (fed conn bytes) client others = others ++ client ∷ []
row_after (ended conn) client others = others
row_after (unread conn) client others = others
row_after (unanswered conn bytes) client others = others
row_after (unended conn) client others = others
row_after (unflushed conn bytes) client others = others
row_after (unflushed_end conn) client others = others

-- From a row of clients whose connections are open and from old, these turns are made, each by the first of the row then; left is the row that
-- is left, and new the hub. The streams of the others stay as they are.
abbrev pub ByTurns : {S : Type 0} → (S → Option (List ℕ)) → (S → Option (List ℕ)) → List (Client S) → HubState → List ConnectionTurn → List (Client S) → HubState → Type 0
ByTurns remaining contents row old [] left new = (left ≡ row) × (new ≡ old)
ByTurns {S} remaining contents row old (turn ∷ turns) left new =
    (first : Client S) × (after : Client S) × (others : List (Client S)) × (out : List ℕ) × (mid : HubState) × (row ≡ first ∷ others)
    × TakesTurn remaining contents turn out first after × Made old turn out mid
    × ByTurns remaining contents (row_after turn after others) mid turns left new

-- a fault, or none
abbrev pub turn_fault : Result Bool ServeFault → Result ⊤ ServeFault
turn_fault (Ok is_open) = Ok tt
turn_fault (Err fault) = Err fault

-- the first fault of these turns, or none
abbrev pub first_fault : List ConnectionTurn → Result ⊤ ServeFault
first_fault [] = Ok tt
first_fault (turn ∷ turns) = result_and (turn_fault (outcome turn)) (first_fault turns)

-- what is noted of the errors of streams by a turn with this outcome: a failed read, or a failed write or flush
abbrev pub with_turn : Result Bool ServeFault → IoErrors → IoErrors
with_turn (Ok is_open) e = e
with_turn (Err Read) e = with_read true e
with_turn (Err Write) e = with_write true e
with_turn (Err Accept) e = e
with_turn (Err Memory) e = e
with_turn (Err Turns) e = e

-- what is noted by these turns, one after another
abbrev pub all_noted : List ConnectionTurn → IoErrors → IoErrors
all_noted [] e = e
all_noted (turn ∷ turns) e = all_noted turns (with_turn (outcome turn) e)

-- no stream of these clients has failed
abbrev pub AllSound : {S : Type 0} → List (Client S) → Type 0
AllSound [] = Unit {0}
AllSound (c ∷ clients) = (has_failed c.stream ≡ false) × AllSound clients

-- the numbers of clients, in order
abbrev pub client_ids : {S : Type 0} → List (Client S) → List ℕ
client_ids clients = map (λ c. c.conn) clients

-- so many clients have come, numbered from 1 in this order, and no stream of theirs has failed
pub record HaveCome {S : Type 0} (n : ℕ) (row : List (Client S)) : Type 0 where
  pub numbered : client_ids row ≡ range_with_len 1 n
  pub sound : AllSound row

-- all of these are attached
abbrev pub AllAttached : List ℕ → List Connection → Type 0
AllAttached [] cs = Unit {0}
AllAttached (conn ∷ row) cs = IsSome (rest_at conn cs) × AllAttached row cs

-- none of these is this number
abbrev pub IsNoneOf : ℕ → List ℕ → Type 0
IsNoneOf k [] = Unit {0}
IsNoneOf k (x ∷ xs) = ((k == x) ≡ false) × IsNoneOf k xs

-- no two are the same
abbrev pub AllDiffer : List ℕ → Type 0
AllDiffer [] = Unit {0}
AllDiffer (x ∷ xs) = IsNoneOf x xs × AllDiffer xs

-- the open connections of this row are those that are attached, and no two are the same
pub record Serves (row : List ℕ) (cs : List Connection) : Type 0 where
  pub there : AllAttached row cs
  pub count : length cs ≡ length row
  pub differ : AllDiffer row
