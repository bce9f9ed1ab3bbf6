-- What a write at a place does to a file's bytes, where they are told: "xy" over "abcd" from 1 on leaves "axyd".
use Rattle.std.specs.Prelude.{◌≡◌, ◌+◌, ℕ, List, ◌++◌, take, drop, Option, Some, None, Result, MatchResult}

-- the first n of these bytes stand over those from this place on
abbrev pub placed : ℕ → List ℕ → List ℕ → ℕ → List ℕ
placed at bytes all n = take at all ++ (take n bytes ++ drop (at + n) all)

abbrev pub IsPlaced : ℕ → List ℕ → ℕ → Option (List ℕ) → Option (List ℕ) → Type 0
IsPlaced at bytes n None new = new ≡ None
IsPlaced at bytes n (Some all) new = new ≡ Some (placed at bytes all n)

-- known bytes are cut to so many, of which there are as many at least
abbrev pub IsCutTo : ℕ → Option (List ℕ) → Option (List ℕ) → Type 0
IsCutTo size None new = new ≡ None
IsCutTo size (Some all) new = new ≡ Some (take size all)

-- a write of these bytes has placed as many as it answers, and nothing where it failed
abbrev pub WritesAt : {E : Type 0} → ℕ → List ℕ → Option (List ℕ) → Option (List ℕ) → Result ℕ E → Type 0
WritesAt at bytes old new r = MatchResult r (λ n. IsPlaced at bytes n old new) (λ _. new ≡ old)
