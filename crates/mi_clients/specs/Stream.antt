-- What the calls of a stream answer.
use Rattle.std.specs.Prelude.{◌≡◌, ◌⊎◌, ◌+◌, ℕ, Bool, true, Option, Result, IsErrAnd, IfErr, MatchResult, option_map}
use Rattle.std.specs.IoError.{error_kind}
use Rattle.std.specs.declared.io.Error.{Error}
use Rattle.std.specs.declared.io.ErrorKind.{ErrorKind}
use Rattle.std.specs.declared.io.ErrorKind.TheVariants.{WouldBlock, Interrupted}

-- an error of this kind passes: the call would have waited, or was interrupted
abbrev pub Passes : ErrorKind → Type 0
Passes kind = (kind ≡ WouldBlock) ⊎ (kind ≡ Interrupted)

-- In this call a stream has failed only where the call answered an error that doesn't pass.
abbrev pub FailsBy : Bool → Bool → Result ℕ Error → Type 0
FailsBy old new answer = new ≡ true → (old ≡ true) ⊎ IsErrAnd answer (λ e. ¬ Passes (error_kind e))

-- where the call would have waited this is so
abbrev pub OnWait : Result ℕ Error → Bool → Type 0
OnWait answer b = IfErr answer (λ e. error_kind e ≡ WouldBlock → b ≡ true)

-- where the call took no byte, or answered another error than one that would have waited, this is so
abbrev pub OnLoss : Result ℕ Error → Bool → Type 0
OnLoss answer b = MatchResult answer (λ n. n ≡ 0 → b ≡ true) (λ e. ¬ (error_kind e ≡ WouldBlock) → b ≡ true)

-- one more, where it is counted
abbrev pub one_more : Option ℕ → Option ℕ
one_more count = option_map (λ n. n + 1) count
