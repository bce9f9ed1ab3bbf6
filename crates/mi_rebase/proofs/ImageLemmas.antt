-- What follows of an answer that is there.
-- Cited by `LinkedImaged::images`.
use Rattle.std.specs.Prelude.{Result, Ok, Err, IfOk}

pub followed : {A E : Type 0} (P Q : A → Type 0) (r : Result A E) → ((a : A) → P a → Q a) → IfOk r P → IfOk r Q
followed P Q (Ok a) goes p = goes a p
followed P Q (Err e) goes p = tt
