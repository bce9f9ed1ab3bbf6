-- Laws of runs, as clauses state them.
use Rattle.std.specs.Prelude.{◌≡◌, ◌≢◌, ◌↔◌, ℕ, List, [], ◌∷◌, ◌++◌, ◌==◌, if◌then◌else◌, Some}
use Rattle.mi_hub.specs.Lines.{rest_of}
use Rattle.mi_hub.specs.Connections.{rest_at}
use Rattle.mi_hub.specs.Run.{HubState, Event, attach, piece, close, cut, Done, Run}

-- In a run with no write fault, a piece may be cut in two adjacent pieces anywhere, or two joined: what may be written and left is the same.
abbrev pub PiecesCutInTwo : Type 0
PiecesCutInTwo = (conn : ℕ) (a b : List ℕ) (before later : List Event) (old new : HubState) (out : List ℕ)
    → Run old (before ++ piece conn (a ++ b) ∷ later) out new ↔ Run old (before ++ piece conn a ∷ piece conn b ∷ later) out new

-- the bytes of a connection's pieces, joined
abbrev pub bytes_of : ℕ → List Event → List ℕ
bytes_of conn [] = []
bytes_of conn (attach c ∷ events) = bytes_of conn events
bytes_of conn (piece c bytes ∷ events) = if c == conn then bytes ++ bytes_of conn events else bytes_of conn events
bytes_of conn (close c ∷ events) = bytes_of conn events
bytes_of conn (cut c ∷ events) = bytes_of conn events

-- none of these events ends this connection
abbrev pub Stays : ℕ → List Event → Type 0
Stays conn [] = Unit {0}
Stays conn (attach c ∷ events) = Stays conn events
Stays conn (piece c bytes ∷ events) = Stays conn events
Stays conn (close c ∷ events) = (c ≢ conn) × Stays conn events
Stays conn (cut c ∷ events) = (c ≢ conn) × Stays conn events

-- A connection comes, and stays through a run of events of any connections: what is left of it is the rest of all its bytes joined.
abbrev pub RestOfAllBytes : Type 0
RestOfAllBytes = (conn : ℕ) (events : List Event) (old come new : HubState) (out : List ℕ)
    → Done old (attach conn) [] come → Stays conn events → Run come events out new → rest_at conn new.attached ≡ Some (rest_of (bytes_of conn events))
