-- Those that come while all places are taken. Connection 66 comes to a full list: it waits for some turns, and is admitted where one of the list goes
-- meanwhile. Else it stands beside the list.
use Rattle.std.specs.Prelude.{◌≡◌, ◌⊎◌, ◌≤◌, ◌<◌, ℕ, List, [], length, Option, Some, None}
use Rattle.mi_value.specs.declared.limits.TheConstants.{MAX_CONNECTIONS}
use Rattle.mi_hub.specs.Run.{HubState}
use Rattle.mi_clients.specs.declared.client.Client.{Client}
use Rattle.mi_clients.specs.declared.clients.ConnectOutcome.{ConnectOutcome}
use Rattle.mi_clients.specs.Clients.{IsNew, Admits}
use Rattle.mi_serving.specs.declared.link.Link.{Link}
use Rattle.mi_serving.specs.declared.overflow.Comer.{Comer}
use Rattle.mi_serving.specs.declared.overflow.Overflow.{Overflow}

-- nobody is there
abbrev pub IsNobody : Overflow → Type 0
IsNobody o = (o.comer ≡ None) × (o.beside.client ≡ None)

-- who waits has no number above this one
abbrev pub WaitsUpTo : ℕ → Option Comer → Type 0
WaitsUpTo last None = Unit {0}
WaitsUpTo last (Some c) = c.conn ≤ last

-- this connection waits
abbrev pub Waits : Comer → Option Comer → Type 0
Waits c None = ⊥
Waits c (Some d) = (d.conn ≡ c.conn) × (d.link ≡ c.link)

-- this one stands beside the list, where nobody was
abbrev pub StandsBeside : Comer → Overflow → Overflow → Type 0
StandsBeside c old new = (old.beside.client ≡ None) × (client : Client Link) × (new.beside.client ≡ Some client) × (client.conn ≡ c.conn)
    × (client.stream ≡ c.link) × IsNew client []

-- One that the list has no place for waits, or stands beside the list.
abbrev pub IsKept : Comer → Overflow → Overflow → Type 0
IsKept c old new = ((new.beside ≡ old.beside) × Waits c new.comer) ⊎ ((new.comer ≡ None) × StandsBeside c old new)

-- What became of who waits, where one does: it is admitted to the list where that has a place, and else kept, and the list and its hub are as they were.
abbrev pub IsPlaced : Option Comer → Overflow → Overflow → HubState → HubState → List (Client Link) → List (Client Link) → Type 0
IsPlaced None old new hub mid olds news = (new ≡ old) × (mid ≡ hub) × (news ≡ olds)
IsPlaced (Some c) old new hub mid olds news =
    ((length olds < MAX_CONNECTIONS) × (new.comer ≡ None) × (new.beside ≡ old.beside) × (a : ConnectOutcome) × Admits c.conn c.link hub mid olds news a)
    ⊎ ((MAX_CONNECTIONS ≤ length olds) × (mid ≡ hub) × (news ≡ olds) × IsKept c old new)

-- Nobody comes, or one comes where nobody was, under a number above the last.
abbrev pub Comes : ℕ → ℕ → Overflow → Overflow → Type 0
Comes last more old new =
    ((more ≡ last) × (new ≡ old))
    ⊎ (IsNobody old × (last < more) × (c : Comer) × (new.comer ≡ Some c) × (c.conn ≡ more) × (new.beside ≡ old.beside))
