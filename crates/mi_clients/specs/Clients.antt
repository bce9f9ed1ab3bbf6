-- The connections of a service in a list are those that its hub has attached, in this order, and none has a rest there.
use Rattle.std.specs.Prelude.{◌≡◌, ◌⊎◌, ◌<◌, ℕ, ℤ, Bool, true, List, [], ◌∷◌, ◌++◌, map, false, ◌==◌, Some, Option, IsTrue}
use Rattle.std.specs.List.{All, AllZip, Contains}
use Rattle.std.specs.Io.KnownBytes.{Keeps}
use Rattle.mi_hub.specs.declared.connection.Connection.{Connection}
use Rattle.mi_hub.specs.Run.{HubState, attach, Refused as HubRefuses}
use Rattle.mi_clients.specs.Client.{owed, IsServed, IsOver, IsAsFar, Takes, AsksAll, AsksWhatCame, KnowsSince, GoesOn, IsWoken, IsWhole, BreaksWith, IsSame, IsRead}
use Rattle.mi_clients.specs.Input.{waiting, count_on}
use Rattle.mi_clients.specs.Status.{IsStatus}
use Rattle.mi_clients.specs.Steps.{Step, given_to, asked_by, OnlyAsks, Makes, TellsSo}
use Rattle.mi_clients.specs.declared.client.Client.{Client}
use Rattle.mi_clients.specs.declared.client.Phase.TheVariants.{Open}
use Rattle.mi_clients.specs.declared.input.Input.{Input}
use Rattle.mi_clients.specs.declared.clients.ConnectOutcome.{ConnectOutcome}
use Rattle.mi_clients.specs.declared.clients.ConnectOutcome.TheVariants.{Connected, Refused}

-- the numbers of clients, in order
abbrev pub ids : {S : Type 0} → List (Client S) → List ℕ
ids clients = map (λ c. c.conn) clients

-- what each of them has sent and wasn't asked yet, in order
abbrev pub inputs : {S : Type 0} → List (Client S) → List Input
inputs clients = map (λ c. c.input) clients

-- a connection that is attached, and has sent nothing that wasn't asked
abbrev pub fresh : ℕ → Connection
fresh conn = record { id = conn; rest = Some [] }

-- none of these is this number
abbrev pub IsNoneOf : ℕ → List ℕ → Type 0
IsNoneOf k [] = Unit {0}
IsNoneOf k (x ∷ xs) = ((x == k) ≡ false) × IsNoneOf k xs

-- none stands behind another of the same number
abbrev pub AllDiffer : List ℕ → Type 0
AllDiffer [] = Unit {0}
AllDiffer (x ∷ xs) = IsNoneOf x xs × AllDiffer xs

-- these connections are attached, in this order, and no other is
pub record Attends (clients : List ℕ) (attached : List Connection) : Type 0 where
  pub there : attached ≡ map fresh clients
  pub differ : AllDiffer clients

-- Each connection of a list is given in these steps the replies to its own lines, and no other bytes; the list stays.
abbrev pub EachServed : {S : Type 0} → (S → Option (List ℕ)) → List Step → List (Client S) → List (Client S) → Type 0
EachServed contents steps olds news = AllZip (λ old new. IsServed contents (given_to old.conn steps) old new) olds news

-- Each connection of a list was asked in these steps what came of it, or that waits, and since which line it holds sessions is known.
abbrev pub EachAsked : {S : Type 0} → (S → Option (List ℕ)) → List Step → List (Client S) → List (Client S) → Type 0
EachAsked remaining steps olds news =
    AllZip (λ old new. AsksWhatCame remaining (asked_by old.conn steps) old new × KnowsSince steps old new) olds news

-- nothing is read of any stream of a list
abbrev pub EachUnread : {S : Type 0} → (S → Option (List ℕ)) → List (Client S) → List (Client S) → Type 0
EachUnread remaining olds news = AllZip (λ old new. Keeps (remaining old.stream) (remaining new.stream)) olds news

-- it has just come: more may come of it, its first line too, nothing of it waits or was asked, it is owed nothing, its number is none of the
-- row's, and it has held no session
abbrev pub IsNew : {S : Type 0} → Client S → List (Client S) → Type 0
IsNew c clients = (c.phase ≡ Open) × (waiting c.input ≡ []) × (owed c ≡ []) × IsNoneOf c.conn (ids clients) × IsTrue c.input.is_first × (c.input.lines ≡ 0)
    × (c.input.since ≡ 0)

-- some connections have come, and stand behind the others, which are as they were
abbrev pub Joins : {S : Type 0} → List (Client S) → List (Client S) → Type 0
Joins {S} olds news = (comers : List (Client S)) × (news ≡ olds ++ comers) × ((c : Client S) → Contains comers c → IsNew c olds)

-- Of a list those that are over may have gone; the others are as they were, and no other is there.
pub record LetsGo {S : Type 0} (olds news : List (Client S)) : Type 0 where
  pub from : (c : Client S) → Contains news c → Contains olds c
  pub to : (c : Client S) → Contains olds c → Contains news c ⊎ IsOver c

-- Each connection that is in a list was in it before, and was asked in these steps what came of it, or that waits. Since which line it holds
-- sessions is known.
abbrev pub StayersAsked : {S : Type 0} → (S → Option (List ℕ)) → List Step → List (Client S) → List (Client S) → Type 0
StayersAsked {S} remaining steps olds news = (new : Client S) → Contains news new
    → (old : Client S) × Contains olds old × (new.conn ≡ old.conn) × AsksWhatCame remaining (asked_by old.conn steps) old new × KnowsSince steps old new

-- the service told each of a list what it asked in these steps
abbrev pub EachTakes : {S : Type 0} → List Step → List (Client S) → List (Client S) → Type 0
EachTakes steps olds news = AllZip (λ old new. Takes (asked_by old.conn steps) old new) olds news

-- What the service tells in these steps is so: the status is that of these connections, this hub and this journal, as the first of the
-- steps have left them, and the schema is told by this line. The connections are those that the hub has attached then: they were in the list
-- before, or have come, and each was served meanwhile, its lines were counted, and the line noted since which it holds sessions. Whether the journal lacks room is as it is at the end, since
-- no later step asks for any, and so is its segment. What of it stayed then, and for how many bytes it had room, is not bound by start or end.
pub record TellsWhatIs {S : Type 0} (contents : S → Option (List ℕ)) (schema : List ℕ) (seconds : ℕ) (steps : List Step) (start : HubState)
    (before : Option (List ℕ)) (lacks : Bool) (segment : Option ℕ) (olds : List (Client S)) : Type 0 where
  pub first : List Step
  pub later : List Step
  pub parts : steps ≡ first ++ later
  pub hub : HubState
  pub appended : Option (List ℕ)
  pub stays : Option (List ℕ)
  pub room : ℕ
  pub makes : Makes first start hub before appended
  pub clients : List (Client S)
  pub attends : Attends (ids clients) hub.attached
  pub from : (c : Client S) → Contains clients c
      → (old : Client S) × (Contains olds old ⊎ IsNew old olds) × IsServed contents (given_to old.conn first) old c
      × (c.input.lines ≡ count_on old.input.lines (asked_by old.conn first)) × KnowsSince first old c
  pub status : List ℕ
  pub «is» : IsStatus appended stays lacks room segment seconds clients hub status
  pub told : TellsSo status schema steps

-- none of a list is over
abbrev pub NoneIsOver : {S : Type 0} → List (Client S) → Type 0
NoneIsOver clients = All (λ c. ¬ IsOver c) clients

-- What becomes of a list while these steps are made. Each connection that is there then was there before, or has come owed nothing; each that
-- was there before is there, or has gone when it was over. What it was given meanwhile are the replies to its own lines: behind what it was
-- owed they were sent to its own stream, or are owed still. No whole line of those that are there waits, but where the replies had no room, or
-- where the service has told something to a line in front of it.
pub record Serves {S : Type 0} (contents : S → Option (List ℕ)) (steps : List Step) (olds news : List (Client S)) : Type 0 where
  pub from : (new : Client S) → Contains news new
      → (old : Client S) × (Contains olds old ⊎ IsNew old olds) × IsServed contents (given_to old.conn steps) old new
      × AsksAll steps old new
  pub to : (old : Client S) → Contains olds old
      → (last : Client S) × (Contains news last ⊎ IsOver last) × IsServed contents (given_to old.conn steps) old last

-- each of a list is as far as it was, or it is broken
abbrev pub EachAsFar : {S : Type 0} → List (Client S) → List (Client S) → Type 0
EachAsFar olds news = AllZip (λ old new. IsAsFar old new) olds news

-- Of a list those that go on have neither come nor gone in these steps, and no session of theirs was undone.
abbrev pub OpenOnlyAsk : {S : Type 0} → List Step → List (Client S) → Type 0
OpenOnlyAsk steps [] = Unit {0}
OpenOnlyAsk steps (c ∷ clients) = (GoesOn c → OnlyAsks c.conn steps) × OpenOnlyAsk steps clients

-- each of these connections has neither come nor gone in these steps, and no session of it was undone
abbrev pub AllOnlyAsk : List Step → List ℕ → Type 0
AllOnlyAsk steps [] = Unit {0}
AllOnlyAsk steps (k ∷ ks) = OnlyAsks k steps × AllOnlyAsk steps ks

-- so is each that was in a list before, is there still, and goes on
abbrev pub StayersOnlyAsk : {S : Type 0} → List Step → List (Client S) → List (Client S) → Type 0
StayersOnlyAsk {S} steps olds news =
    (old new : Client S) → Contains olds old → Contains news new → new.conn ≡ old.conn → GoesOn new → OnlyAsks new.conn steps

-- the readiness of some of a list was told, and nothing else of it is another
abbrev pub EachWoken : {S : Type 0} → List (Client S) → List (Client S) → Type 0
EachWoken olds news = AllZip (λ old new. IsWoken old new) olds news

-- nobody in a list is whole: of each whose bytes have ended a whole line may wait still, or its sessions are undone
abbrev pub NoneIsWhole : {S : Type 0} → List (Client S) → Type 0
NoneIsWhole clients = All (λ c. ¬ IsWhole c) clients

-- each of a list whose stream has failed is broken
abbrev pub AllBreakWith : {S : Type 0} → (S → Bool) → List (Client S) → Type 0
AllBreakWith has_failed clients = All (λ c. BreaksWith has_failed c) clients

-- no stream of a list has failed
abbrev pub NoneHasFailed : {S : Type 0} → (S → Bool) → List (Client S) → Type 0
NoneHasFailed has_failed clients = All (λ c. ¬ (has_failed c.stream ≡ true)) clients

-- each of a list has kept its number, and its stream
abbrev pub EachSame : {S : Type 0} → (S → ℤ) → List (Client S) → List (Client S) → Type 0
EachSame handle olds news = AllZip (λ old new. IsSame handle old new) olds news

-- the stream of each of a list that wanted bytes was read once
abbrev pub EachRead : {S : Type 0} → (S → Option ℕ) → List (Client S) → List (Client S) → Type 0
EachRead reads olds news = AllZip (λ old new. IsRead reads old new) olds news

-- no stream of a list was read
abbrev pub EachUncounted : {S : Type 0} → (S → Option ℕ) → List (Client S) → List (Client S) → Type 0
EachUncounted reads olds news = AllZip (λ old new. reads new.stream ≡ reads old.stream) olds news

-- it was in a list before, with its number and its stream
abbrev pub StoodIn : {S : Type 0} → (S → ℤ) → List (Client S) → Client S → Type 0
StoodIn {S} handle olds new = (old : Client S) × Contains olds old × IsSame handle old new

-- each that is in a list was in it before so
abbrev pub StayersSame : {S : Type 0} → (S → ℤ) → List (Client S) → List (Client S) → Type 0
StayersSame {S} handle olds news = (new : Client S) → Contains news new → StoodIn handle olds new

-- Each that is in a list was in it before so, or has a number above this one: it has come since.
abbrev pub SameStreams : {S : Type 0} → (S → ℤ) → ℕ → List (Client S) → List (Client S) → Type 0
SameStreams {S} handle last olds news = (new : Client S) → Contains news new → StoodIn handle olds new ⊎ (last < new.conn)

-- each that is in a list was in it before, and where it wanted bytes its stream was read once
abbrev pub StayersRead : {S : Type 0} → (S → Option ℕ) → List (Client S) → List (Client S) → Type 0
StayersRead {S} reads olds news = (new : Client S) → Contains news new
    → (old : Client S) × Contains olds old × (new.conn ≡ old.conn) × IsRead reads old new

-- What became of a connection that came under this number over this stream: it stands behind the others, or the hub has refused it for this
-- reason, and nothing has changed.
abbrev pub Admits : {S : Type 0} → ℕ → S → HubState → HubState → List (Client S) → List (Client S) → ConnectOutcome → Type 0
Admits {S} conn stream old new olds news Connected =
    (client : Client S) × (news ≡ olds ++ client ∷ []) × (client.conn ≡ conn) × (client.stream ≡ stream) × IsNew client olds
Admits {S} conn stream old new olds news (Refused fault) = HubRefuses old (attach conn) fault × (new ≡ old) × (news ≡ olds)
