-- Lines that are asked one after another, and the replies that go out. `Gives` says what one line may be given.
use Rattle.std.specs.Prelude.{◌≡◌, ℕ, ◌<◌, List, [], ◌∷◌, ◌++◌, length, take, flat_map}
use Rattle.mi_commands.specs.Asked.{Asked}

-- From old, these lines may be given these replies, one after another, and new is left.
abbrev pub InTurn : {S : Type 0} → (S → Asked → List ℕ → S → Type 0) → S → List Asked → List (List ℕ) → S → Type 0
InTurn Gives old [] [] new = new ≡ old
InTurn {S} Gives old (line ∷ lines) (reply ∷ replies) new = (mid : S) × Gives old line reply mid × InTurn Gives mid lines replies new
InTurn Gives old [] (reply ∷ replies) new = ⊥
InTurn Gives old (line ∷ lines) [] new = ⊥

-- a reply as it goes out
abbrev pub with_newline : List ℕ → List ℕ
with_newline reply = reply ++ 10 ∷ []

-- replies as they go out, one behind another
abbrev pub sent : List (List ℕ) → List ℕ
sent replies = flat_map with_newline replies

-- All these lines are asked, and out is their replies.
pub record Served {S : Type 0} (Gives : S → Asked → List ℕ → S → Type 0) (old : S) (lines : List Asked) (out : List ℕ) (new : S) : Type 0 where
  pub replies : List (List ℕ)
  pub in_turn : InTurn Gives old lines replies new
  pub written : out ≡ sent replies

-- The writer fails at the reply to one of these lines. The lines up to that one are asked, and those behind it are dropped. Of its reply
-- with the newline a front is written, and not all.
pub record CutOff {S : Type 0} (Gives : S → Asked → List ℕ → S → Type 0) (old : S) (lines : List Asked) (out : List ℕ) (new : S) : Type 0 where
  pub asked : List Asked
  pub line : Asked
  pub dropped : List Asked
  pub parts : lines ≡ asked ++ line ∷ dropped
  pub replies : List (List ℕ)
  pub reply : List ℕ
  pub in_turn : InTurn Gives old (asked ++ line ∷ []) (replies ++ reply ∷ []) new
  pub front : ℕ
  pub short : front < length (with_newline reply)
  pub written : out ≡ sent replies ++ take front (with_newline reply)
