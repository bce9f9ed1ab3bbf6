-- What several writes append together.
-- Cited by `send::send`, `stream::serve_stream` and `mi_program`.
use Rattle.std.proofs.Common.{◌≡◌, ℕ, ◌+◌, Option, List, ◌++◌, length, take, Bool, true, false, ◌||◌, ◌&&◌}
use Rattle.std.proofs.Common.{nat_eq, ◌<◌, refl, sym, subst, ap, ◌∙◌, arith, length-append, append-nil, []}
use Rattle.std.proofs.Math.Seq.{take-append-add}
use Rattle.std.proofs.KnownBytes.{Appends-trans, Consumes-trans}
use Rattle.std.specs.Io.KnownBytes.{Appends, Consumes}

not_none : (n : ℕ) → 0 < n → nat_eq n 0 ≡ false
not_none n h = grind arith

-- a write of some bytes is no failure
pub still_sound : (failed some : Bool) (n : ℕ) → 0 < n → (failed || (some && nat_eq n 0)) ≡ failed
still_sound failed some n h = ap (λ b. failed || (some && b)) (not_none n h) ∙ none failed some
  where
    none : (f s : Bool) → (f || (s && false)) ≡ f
    none true s = refl
    none false true = refl
    none false false = refl

-- all of xs is written, and then a front of ys
pub front_more : (a b c : Option (List ℕ)) (xs ys : List ℕ) → Appends a b xs → (n : ℕ) × (n < length ys) × Appends b c (take n ys)
    → (n : ℕ) × (n < length (xs ++ ys)) × Appends a c (take n (xs ++ ys))
front_more a b c xs ys p q = (
  length xs + q.0,
  omega (arith, length-append xs ys, q.1),
  subst (Appends a c) (sym (take-append-add xs ys q.0)) (Appends-trans a b c xs (take q.0 ys) p q.2),
)

pub appends_no_more : (a b c : Option (List ℕ)) (xs : List ℕ) → Appends a b xs → Appends b c [] → Appends a c xs
appends_no_more a b c xs p q = subst (Appends a c) (append-nil xs) (Appends-trans a b c xs [] p q)

pub consumes_no_more : (a b c : Option (List ℕ)) (xs : List ℕ) → Consumes a b xs → Consumes b c [] → Consumes a c xs
consumes_no_more a b c xs p q = subst (Consumes a c) (append-nil xs) (Consumes-trans a b c xs [] p q)
