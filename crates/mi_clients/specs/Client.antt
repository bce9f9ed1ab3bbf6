-- What a connection is to be sent, and what becomes of that while some steps are made.
use Rattle.std.specs.Prelude.{◌≡◌, ◌⊎◌, ◌≤◌, ◌<◌, ◌==◌, ◌||◌, ℕ, ℤ, Bool, true, List, [], ◌∷◌, ◌++◌, length, IsTrue, IsFalse, Option, IfSome, IsSome, if◌then◌else◌}
use Rattle.std.specs.Io.KnownBytes.{Appends, Consumes, IsAtEnd}
use Rattle.mi_durable.specs.HeldReplies.{bytes_of}
use Rattle.mi_clients.specs.Output.{unsent, HoldsNothing}
use Rattle.mi_clients.specs.Input.{waiting, count_on}
use Rattle.mi_clients.specs.Lines.{SameLines, Ends}
use Rattle.mi_clients.specs.Heard.{heard, still_first, is_last}
use Rattle.mi_clients.specs.Stream.{one_more}
use Rattle.mi_clients.specs.ServiceLines.{is_service, ended_in}
use Rattle.mi_clients.specs.Steps.{Step, IsAskOf, given_to, told_by, since_after}
use Rattle.mi_durable.specs.Journals.{IsWholeLine}
use Rattle.mi_hub.specs.Ended.{ended}
use Rattle.mi_clients.specs.declared.client.Client.{Client}
use Rattle.mi_clients.specs.declared.client.Phase.TheVariants.{Open, Ended, Drained, Broken}
use Rattle.mi_clients.specs.declared.client.TheConstants.{MOST_UNSENT}

-- the replies that its stream hasn't taken: those that were handed out, and then those that are held
abbrev pub owed : {S : Type 0} → Client S → List ℕ
owed c = unsent c.output ++ bytes_of c.held

-- Between old and new a connection is given these replies, and nothing is sent: they are owed behind what was. Of one that is broken the last
-- of them may be lost; one that was broken before is given none.
pub record Owes {S : Type 0} (given : List ℕ) (old new : Client S) : Type 0 where
  pub conn : new.conn ≡ old.conn
  pub stream : new.stream ≡ old.stream
  pub lost : List ℕ
  pub bytes : owed old ++ given ≡ owed new ++ lost
  pub whole : (new.phase ≡ Broken) ⊎ (lost ≡ [])
  pub broken : old.phase ≡ Broken → (new.phase ≡ Broken) × (given ≡ [])

-- Between old and new a connection is given these replies: of what it was owed, and of these behind it, its stream has taken a front, where
-- it tells, and the rest is owed. Of one that is broken the last of them may be lost; one that was broken before is given none.
pub record IsServed {S : Type 0} (contents : S → Option (List ℕ)) (given : List ℕ) (old new : Client S) : Type 0 where
  pub conn : new.conn ≡ old.conn
  pub sent : List ℕ
  pub lost : List ℕ
  pub taken : Appends (contents old.stream) (contents new.stream) sent
  pub bytes : owed old ++ given ≡ sent ++ (owed new ++ lost)
  pub whole : (new.phase ≡ Broken) ⊎ (lost ≡ [])
  pub broken : old.phase ≡ Broken → (new.phase ≡ Broken) × (given ≡ [])

-- it is over, and to be let go: its stream has failed, or all its lines are asked and it is owed nothing
abbrev pub IsOver : {S : Type 0} → Client S → Type 0
IsOver c = (c.phase ≡ Broken) ⊎ ((c.phase ≡ Drained) × (owed c ≡ []))

-- so little of its replies is unsent that a line may be asked
abbrev pub HasRoom : {S : Type 0} → Client S → Type 0
HasRoom c = length (owed c) ≤ MOST_UNSENT

-- its lines may be asked: its stream hasn't failed, a whole line may wait, and its replies have room
abbrev pub MayAsk : {S : Type 0} → Client S → Type 0
MayAsk c = ¬ (c.phase ≡ Broken) × IsTrue c.has_lines × HasRoom c

-- its bytes have ended, and no line of it may wait to be asked
abbrev pub IsWhole : {S : Type 0} → Client S → Type 0
IsWhole c = (c.phase ≡ Ended) × IsFalse c.has_lines

-- no whole line of it waits to be asked
abbrev pub HasNoLine : {S : Type 0} → Client S → Type 0
HasNoLine c = ended (waiting c.input) ≡ []

-- it goes on: more may come of it, or a whole line of it waits
abbrev pub GoesOn : {S : Type 0} → Client S → Type 0
GoesOn c = (c.phase ≡ Open) ⊎ ¬ HasNoLine c

-- the first whole line of it that waits is the service's own
abbrev pub IsAtService : {S : Type 0} → Client S → Type 0
IsAtService c = (line : List ℕ) × (rest : List ℕ) × IsWholeLine line × (is_service line ≡ true) × (waiting c.input ≡ line ++ rest)

-- the service may tell it something: its lines may be asked, and the first is the service's own
abbrev pub MayTell : {S : Type 0} → Client S → Type 0
MayTell c = MayAsk c × IsAtService c

-- no more of its lines can be asked of the tables now: its stream has failed, or no whole line waits, or its replies have no room, or the next
-- line is the service's own
abbrev pub IsAsked : {S : Type 0} → Client S → Type 0
IsAsked c = (c.phase ≡ Broken) ⊎ (HasNoLine c ⊎ (¬ HasRoom c ⊎ MayTell c))

-- the same once the service has told what it is asked: in these steps it has told something to a line of it, and what follows waits
abbrev pub IsHeard : {S : Type 0} → List Step → Client S → Type 0
IsHeard steps c = (c.phase ≡ Broken) ⊎ (HasNoLine c ⊎ (¬ HasRoom c ⊎ ¬ (told_by c.conn steps ≡ [])))

-- Between old and new these steps are made, and no whole line of a connection is left waiting, unless what it was owed and was given had no
-- room, or the service has told something to a line of it.
abbrev pub AsksAll : {S : Type 0} → List Step → Client S → Client S → Type 0
AsksAll steps old new =
    HasNoLine new ⊎ ((MOST_UNSENT < length (owed old ++ given_to old.conn steps)) ⊎ ¬ (told_by old.conn steps ≡ []))

-- its stream is to be read: more may come, a read may give something, no whole line waits, and its replies have room
abbrev pub WantsBytes : {S : Type 0} → Client S → Type 0
WantsBytes c = (c.phase ≡ Open) × IsTrue c.may_read × IsFalse c.has_lines × HasRoom c

-- something of it can be done at once: its lines asked, its stream read, some of what was handed out written to it, or another one ended that
-- it has asked to end
abbrev pub IsBusy : {S : Type 0} → Client S → Type 0
IsBusy c = MayAsk c ⊎ (WantsBytes c ⊎ ((IsTrue c.may_write × ¬ (unsent c.output ≡ [])) ⊎ IsSome c.ends))

-- These steps of a connection are none, or in the last of them it asks a line while what it was owed, and the replies of the steps in front
-- of that, had room.
abbrev pub AsksWithin : {S : Type 0} → Client S → List Step → Type 0
AsksWithin old steps =
    (steps ≡ []) ⊎ (¬ (old.phase ≡ Broken) × (front : List Step) × (last : Step) × (steps ≡ front ++ last ∷ []) × (line : List ℕ) × (reply : List ℕ)
    × IsAskOf old.conn line reply last × (length (owed old ++ given_to old.conn front) ≤ MOST_UNSENT))

-- Between old and new these bytes waited of a connection or came, and it has asked these lines: they and what waits then have the lines that are
-- heard. Behind a first line that begins as no command does no more comes.
abbrev pub Hears : {S : Type 0} → List ℕ → List ℕ → Client S → Client S → Type 0
Hears bytes taken old new =
    SameLines (heard old.input.is_first bytes) (taken ++ waiting new.input)
    × (new.input.is_first ≡ still_first old.input.is_first bytes)
    × (is_last old.input.is_first bytes ≡ true → ¬ (new.phase ≡ Open))

-- Between old and new a piece came of a connection, and it has asked these lines: what is heard of what waited and the piece is asked, or waits.
-- Or its bytes have ended, and what no newline ended is the last line. Of one whose stream fails nothing is asked. Of one of which no more
-- comes nothing is read, now or later. The lines that it has asked are counted.
abbrev pub AsksWhatCame : {S : Type 0} → (S → Option (List ℕ)) → List ℕ → Client S → Client S → Type 0
AsksWhatCame remaining taken old new =
    (piece : List ℕ) × Consumes (remaining old.stream) (remaining new.stream) piece
    × (¬ (old.phase ≡ Open) → (piece ≡ []) × ¬ (new.phase ≡ Open))
    × (((new.phase ≡ Broken) × (taken ≡ [])) ⊎ (Hears (waiting old.input ++ piece) taken old new
    ⊎ (¬ (new.phase ≡ Open) × (piece ≡ []) × IfSome (remaining old.stream) (λ _. IsAtEnd (remaining new.stream))
    × Ends (waiting old.input) (taken ++ waiting new.input))))
    × (new.input.lines ≡ count_on old.input.lines taken)

-- Between old and new these steps are made, and it is known with which of its lines a connection last began to hold sessions.
abbrev pub KnowsSince : {S : Type 0} → List Step → Client S → Client S → Type 0
KnowsSince steps old new = new.input.since ≡ since_after old.conn old.input.lines old.input.since steps

-- it is as far as it was, or it is broken
abbrev pub IsAsFar : {S : Type 0} → Client S → Client S → Type 0
IsAsFar old new = (new.phase ≡ Broken) ⊎ (new.phase ≡ old.phase)

-- what it has asked to end, once a line was told something
abbrev pub ends_after : Option ℕ → List ℕ → Option ℕ
ends_after before [] = before
ends_after before (b ∷ bs) = ended_in (b ∷ bs)

-- Between old and new the service may have told something to a line of a connection, whose bytes these are: the line is taken of what waited.
-- One that stands at a line of the service is told something, or is broken; any other is as it was.
pub record Takes {S : Type 0} (taken : List ℕ) (old new : Client S) : Type 0 where
  pub conn : new.conn ≡ old.conn
  pub stream : new.stream ≡ old.stream
  pub waits : waiting old.input ≡ taken ++ waiting new.input
  pub first : new.input.is_first ≡ old.input.is_first
  pub counts : new.input.lines ≡ count_on old.input.lines taken
  pub since : new.input.since ≡ old.input.since
  pub far : IsAsFar old new
  pub lines : new.has_lines ≡ old.has_lines
  pub ends : new.ends ≡ ends_after old.ends taken
  pub other : ¬ MayTell old → (new ≡ old) × (taken ≡ [])
  pub told : MayTell old → (new.phase ≡ Broken) ⊎ ¬ (taken ≡ [])

-- no byte of it waits that its stream may take: it is broken, or its stream takes none now, or none waits and the memory of all is let go
abbrev pub HasSent : {S : Type 0} → Client S → Type 0
HasSent c = (c.phase ≡ Broken) ⊎ (IsFalse c.may_write ⊎ HoldsNothing c.output)

-- the same, and no reply of it is held
abbrev pub IsSent : {S : Type 0} → Client S → Type 0
IsSent c = (c.phase ≡ Broken) ⊎ ((bytes_of c.held ≡ []) × (IsFalse c.may_write ⊎ HoldsNothing c.output))

-- its readiness was told, and nothing else of it is another
pub record IsWoken {S : Type 0} (old new : Client S) : Type 0 where
  pub conn : new.conn ≡ old.conn
  pub stream : new.stream ≡ old.stream
  pub input : new.input ≡ old.input
  pub held : new.held ≡ old.held
  pub output : new.output ≡ old.output
  pub phase : new.phase ≡ old.phase
  pub has_lines : new.has_lines ≡ old.has_lines

-- where its stream has failed it is broken
abbrev pub BreaksWith : {S : Type 0} → (S → Bool) → Client S → Type 0
BreaksWith has_failed c = has_failed c.stream ≡ true → c.phase ≡ Broken

-- it has kept its number, and its stream
abbrev pub IsSame : {S : Type 0} → (S → ℤ) → Client S → Client S → Type 0
IsSame handle old new = (new.conn ≡ old.conn) × (handle new.stream ≡ handle old.stream)

-- where it wanted bytes, its stream was read once
abbrev pub IsRead : {S : Type 0} → (S → Option ℕ) → Client S → Client S → Type 0
IsRead reads old new = WantsBytes old → reads new.stream ≡ one_more (reads old.stream)

-- It is to be read no more only where it wasn't before, or the read would have waited; or where this piece is shorter than the room for it, and
-- nobody has said that its peer has closed.
abbrev pub StopsReading : {S : Type 0} → (S → Bool) → List ℕ → ℕ → Client S → Client S → Type 0
StopsReading is_dry piece room old new = IsFalse new.may_read
    → IsFalse old.may_read ⊎ ((is_dry new.stream ≡ true) ⊎ (IsFalse old.is_closing × (length piece < room)))

-- what becomes of it where its stream is reported ready: of one that closes both a read and a write may tell that
abbrev pub woken : {S : Type 0} → Bool → Bool → Bool → Client S → Client S
woken readable writable closing c = record c {
  may_read = c.may_read || readable || closing;
  may_write = c.may_write || writable || closing;
  is_closing = c.is_closing || closing;
}

-- the same, where it has this number
abbrev pub told : {S : Type 0} → ℕ → Bool → Bool → Bool → Client S → Client S
told conn readable writable closing c = if c.conn == conn then woken readable writable closing c else c

-- Nothing of it is to be done that takes memory: none of its lines may be asked, its stream isn't to be read, and it isn't whole.
abbrev pub IsIdle : {S : Type 0} → Client S → Type 0
IsIdle c = ¬ MayAsk c × ¬ WantsBytes c × ¬ IsWhole c
