-- The connection beside those of a list. It asks "{\"service\":\"status\"}⏎{\"cmd\":\"start\"}⏎": it is told the status, and then that there is no place
-- for it. No more of it is read, and it goes once it has taken both.
use Rattle.std.specs.Prelude.{◌≡◌, ◌⊎◌, ◌<◌, ℕ, List, [], ◌∷◌, length, ◌++◌, Bool, true, false, not, IsFalse, Option, Some, None, option_and_then, if◌then◌else◌}
use Rattle.mi_hub.specs.OneLine.{IsWholeLine}
use Rattle.mi_durable.specs.HeldReplies.{bytes_of}
use Rattle.mi_clients.specs.Client.{owed, Owes, IsServed, IsAsFar, IsOver, HasNoLine, HasRoom, HasSent, AsksWhatCame, ends_after}
use Rattle.mi_clients.specs.Ending.{EachEnded}
use Rattle.mi_clients.specs.Input.{waiting, count_on}
use Rattle.mi_clients.specs.ServiceLines.{is_service, places_line, told_beside}
use Rattle.mi_clients.specs.Silence.{IsSilent, IsJudged}
use Rattle.mi_clients.specs.declared.client.Client.{Client}
use Rattle.mi_clients.specs.declared.client.Phase.{Phase}
use Rattle.mi_clients.specs.declared.client.Phase.TheVariants.{Open, Ended, Drained, Broken}
use Rattle.mi_clients.specs.declared.client.TheConstants.{MOST_UNSENT}

-- A text is told to a line, or there is neither.
abbrev pub Tells : List ℕ → List ℕ → List ℕ → List ℕ → Type 0
Tells status schema line text = ((line ≡ []) × (text ≡ [])) ⊎ (IsWholeLine line × (text ≡ told_beside status schema line))

-- whether a line is none of the service's own
abbrev pub is_other : List ℕ → Bool
is_other [] = false
is_other (b ∷ bs) = not (is_service (b ∷ bs))

-- how far a connection is of which no more is read
abbrev pub shut : Phase → Phase
shut Open = Ended
shut Ended = Ended
shut Drained = Drained
shut Broken = Broken

-- Between old and new this line of it was answered: it is as far as it was, and where the line is none of the service's no more of it is read. Or
-- it is broken.
abbrev pub IsFarBehind : {S : Type 0} → List ℕ → Client S → Client S → Type 0
IsFarBehind line old new = (new.phase ≡ Broken) ⊎ (new.phase ≡ (if is_other line then shut old.phase else old.phase))

-- Between old and new the first whole line of it that waited was answered, where one may be: it isn't broken, its replies have room, and none is held.
pub record Answers {S : Type 0} (status schema : List ℕ) (old new : Client S) : Type 0 where
  pub line : List ℕ
  pub text : List ℕ
  pub tells : Tells status schema line text
  pub owes : Owes text old new
  pub far : IsFarBehind line old new
  pub waits : waiting old.input ≡ line ++ waiting new.input
  pub first : new.input.is_first ≡ old.input.is_first
  pub counts : new.input.lines ≡ count_on old.input.lines line
  pub held : new.held ≡ old.held
  pub ends : new.ends ≡ ends_after old.ends line
  pub sound : old.phase ≡ Broken → line ≡ []
  pub none : line ≡ [] → (old.phase ≡ Broken) ⊎ (HasNoLine new ⊎ (¬ HasRoom old ⊎ ¬ (bytes_of old.held ≡ [])))

-- Between old and new it was read, its first whole line answered, and what it is owed was sent, as much as its stream took. What came and isn't
-- answered waits. Behind a line that is none of the service's no more of it is read.
pub record Attended {S : Type 0} (contents remaining : S → Option (List ℕ)) (status schema : List ℕ) (old new : Client S) : Type 0 where
  pub line : List ℕ
  pub text : List ℕ
  pub tells : Tells status schema line text
  pub served : IsServed contents text old new
  pub asked : AsksWhatCame remaining line old new
  pub held : new.held ≡ old.held
  pub ends : new.ends ≡ ends_after old.ends line
  pub shuts : is_other line ≡ true → ¬ (new.phase ≡ Open)
  pub none : line ≡ [] → (new.phase ≡ Broken) ⊎ (HasNoLine new ⊎ ((MOST_UNSENT < length (owed old)) ⊎ ¬ (bytes_of old.held ≡ [])))
  pub sent : HasSent new

-- who was attended to stays in the place, unless it is over
abbrev pub Stays : {S : Type 0} → Client S → Option (Client S) → Type 0
Stays c None = IsOver c
Stays c (Some d) = (d ≡ c) × ¬ IsOver c

-- what becomes of the place where the one that is there is so
abbrev pub InPlace : {S : Type 0} → (Client S → Client S → Type 0) → Option (Client S) → Option (Client S) → Type 0
InPlace P None new = new ≡ None
InPlace {S} P (Some old) new = (last : Client S) × P old last × Stays last new

-- Nothing was told to it yet, more of it may come, and it has been silent for too long.
abbrev pub IsIdler : {S : Type 0} → Option ℕ → ℕ → Client S → Type 0
IsIdler limit now c = (c.phase ≡ Open) × (c.input.lines ≡ 0) × (bytes_of c.held ≡ []) × IsFalse c.has_come × IsSilent limit now c

-- Between old and new it is told that there is no place for it, and no more of it is read. Or it is broken.
pub record IsTurnedAway {S : Type 0} (old new : Client S) : Type 0 where
  pub owes : Owes places_line old new
  pub phase : (new.phase ≡ Broken) ⊎ (new.phase ≡ Ended)
  pub input : new.input ≡ old.input
  pub held : new.held ≡ old.held
  pub ends : new.ends ≡ old.ends

-- What becomes of it at this second: it is turned away where nothing was told to it before, and else judged as one of a list is.
abbrev pub IsJudgedBeside : {S : Type 0} → Option ℕ → ℕ → Client S → Client S → Type 0
IsJudgedBeside limit now old new = (IsIdler limit now old × IsTurnedAway old new) ⊎ (¬ IsIdler limit now old × IsJudged limit now old new)

-- the one that is there was judged at this second, and is there still
abbrev pub JudgedThere : {S : Type 0} → Option ℕ → ℕ → Option (Client S) → Option (Client S) → Type 0
JudgedThere limit now None new = new ≡ None
JudgedThere {S} limit now (Some old) new = (c : Client S) × (new ≡ Some c) × IsJudgedBeside limit now old c

-- of a list the connection of this number was given up, where one is named
abbrev pub EndedAs : {S : Type 0} → Option ℕ → List (Client S) → List (Client S) → Type 0
EndedAs None olds news = news ≡ olds
EndedAs (Some n) olds news = EachEnded n olds news

-- the number that the one in the place has asked to end
abbrev pub end_there : {S : Type 0} → Option (Client S) → Option ℕ
end_there place = option_and_then (λ c. c.ends) place
