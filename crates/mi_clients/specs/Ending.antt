-- Connections that others have asked to end. Connection 3 asks "{\"service\":\"end\",\"connection\":2}⏎": that is noted of it, and then 2 is given up.
use Rattle.std.specs.Prelude.{◌≡◌, ◌⊎◌, ℕ, List, [], ◌∷◌, Some, None}
use Rattle.std.specs.List.{All, AllZip}
use Rattle.mi_clients.specs.Silence.{IsGivenUp}
use Rattle.mi_clients.specs.declared.client.Client.{Client}
use Rattle.mi_clients.specs.declared.client.Phase.TheVariants.{Broken}

-- nothing is noted of it any more
abbrev pub forgotten : {S : Type 0} → Client S → Client S
forgotten c = record c { ends = None }

-- of none of a list anything is noted
abbrev pub NoneEnds : {S : Type 0} → List (Client S) → Type 0
NoneEnds clients = All (λ c. c.ends ≡ None) clients

-- the first of a list of which something is noted has asked to end this number; that is forgotten, and nothing else is another
abbrev pub TakesEnd : {S : Type 0} → ℕ → List (Client S) → List (Client S) → Type 0
TakesEnd n [] news = ⊥
TakesEnd {S} n (c ∷ clients) news =
    ((c.ends ≡ Some n) × (news ≡ forgotten c ∷ clients))
    ⊎ ((c.ends ≡ None) × (rest : List (Client S)) × (news ≡ c ∷ rest) × TakesEnd n clients rest)

-- it is given up where it has this number, and else as it was
abbrev pub IsEnded : {S : Type 0} → ℕ → Client S → Client S → Type 0
IsEnded n old new = ((old.conn ≡ n) × IsGivenUp old new) ⊎ (¬ (old.conn ≡ n) × (new ≡ old))

-- so is each of a list
abbrev pub EachEnded : {S : Type 0} → ℕ → List (Client S) → List (Client S) → Type 0
EachEnded n olds news = AllZip (λ old new. IsEnded n old new) olds news

-- some of a list has asked to end this number
abbrev pub HasAsked : {S : Type 0} → ℕ → List (Client S) → Type 0
HasAsked n [] = ⊥
HasAsked n (c ∷ clients) = (c.ends ≡ Some n) ⊎ HasAsked n clients

-- the connection of this number is broken, where it is in a list
abbrev pub IsBroken : {S : Type 0} → ℕ → List (Client S) → Type 0
IsBroken n [] = Unit {0}
IsBroken n (c ∷ clients) = (c.conn ≡ n → c.phase ≡ Broken) × IsBroken n clients

-- it is as far as it was, and its stream is the same
abbrev pub IsAsBefore : {S : Type 0} → ℕ → List (Client S) → List (Client S) → Type 0
IsAsBefore n olds news = AllZip (λ old new. old.conn ≡ n → (new.phase ≡ old.phase) × (new.stream ≡ old.stream)) olds news
