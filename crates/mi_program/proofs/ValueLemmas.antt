-- What the values that clap gives are read as.
-- Cited by `words::values` and `mi_serving`.
use Rattle.std.proofs.Common.{◌≡◌, ℕ, Bool, true, false, List, Option, Some, None, refl, sym, ap, codes}
use Rattle.std.specs.Prelude.{unwrap_or, bytes_eq}
use Rattle.std.specs.Str.Parse.{ParsesBool}
use Rattle.std.proofs.lemmas.Slice.Eq.{bytes_eq-Decides}
use Rattle.clap.specs.Words.{ReadsOne}
use Rattle.mi_program.specs.Words.{is_set}

-- not true is false
not_true : (b : Bool) → (b ≡ true → ⊥) → b ≡ false
not_true false isnt = refl
not_true true isnt = absurd (isnt refl)

-- a flag is read as set exactly where it was matched as true
pub flag_read : (E : Type 0) (value : Option (List ℕ)) (read : Option Bool) → (value ≡ None → read ≡ None)
    → ((text : List ℕ) → value ≡ Some text → ReadsOne {E = E} ParsesBool text read) → unwrap_or read false ≡ is_set value
flag_read E None read none some = ap (λ r. unwrap_or r false) (none refl)
flag_read E (Some text) (Some true) none some = sym (ap (λ t. bytes_eq t (codes "true")) (some text refl))
flag_read E (Some text) (Some false) none some = sym (ap (λ t. bytes_eq t (codes "true")) (some text refl))
flag_read E (Some text) None none some =
    sym (not_true (bytes_eq text (codes "true")) (λ is. (some text refl).1.0 ((bytes_eq-Decides text (codes "true")).0 is)))
