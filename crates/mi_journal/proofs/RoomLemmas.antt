-- The room for changes in three rings.
-- Cited by `Inverses::note`, `Inverses::pop`, `Inverses::reserve` and `Inverses::take_oldest`.
use Rattle.std.proofs.Common.{◌≡◌, ◌≢◌, ℕ, zero, suc, ◌+◌, ◌*◌, ◌/◌, ◌<◌, ◌≤◌, min, refl, subst, arith}
use Rattle.std.proofs.lemmas.Nat.{le-div}
use Rattle.std.proofs.Math.Nat.{div-mul-le_self, add-div_left, le_trans, mul-le-mul_right}
use Rattle.mi_journal.specs.Stored.{room_in}

pub from_was : {a b c : ℕ} → a ≡ b → a ≤ c → b ≤ c
from_was {c = c} same under = subst (λ n. n ≤ c) same under

div_mono : (m p p' : ℕ) → p ≤ p' → p / suc m ≤ p' / suc m
div_mono m p p' more =
    let under : p / suc m * suc m ≤ p = div-mul-le_self p (suc m) in le-div (p / suc m) p' (suc m) (omega arith) (le_trans under more)

div_falls : (m p p' : ℕ) → p ≤ suc m + p' → p / suc m ≤ p' / suc m + 1
div_falls m p p' most =
    let one : (suc m + p') / suc m ≡ p' / suc m + 1 = add-div_left p' (omega arith) in
    let falls : p / suc m ≤ (suc m + p') / suc m = div_mono m p (suc m + p') most in
    subst (λ n. p / suc m ≤ n) one falls

least_mono : (e e' r r' q q' : ℕ) → e ≤ e' → r ≤ r' → q ≤ q' → min (min e r) q ≤ min (min e' r') q'
least_mono e e' r r' q q' a b c = omega (arith, a, b, c)

least_falls : (e e' r r' q q' : ℕ) → e ≤ e' + 1 → r ≤ r' + 1 → q ≤ q' + 1 → min (min e r) q ≤ min (min e' r') q' + 1
least_falls e e' r r' q q' a b c = omega (arith, a, b, c)

least_over : (n e r q : ℕ) → n ≤ e → n ≤ r → n ≤ q → n ≤ min (min e r) q
least_over n e r q a b c = omega (arith, a, b, c)

pub room_mono : (m e e' r r' p p' : ℕ) → e ≤ e' → r ≤ r' → p ≤ p' → room_in m e r p ≤ room_in m e' r' p'
room_mono zero e e' r r' p p' a b c = omega (arith, a, b)
room_mono (suc m) e e' r r' p p' a b c = least_mono e e' r r' (p / suc m) (p' / suc m) a b (div_mono m p p' c)

-- by one change
pub room_falls : (m e e' r r' p p' : ℕ) → e ≤ e' + 1 → r ≤ r' + 1 → p ≤ m + p' → room_in m e r p ≤ room_in m e' r' p' + 1
room_falls zero e e' r r' p p' a b c = omega (arith, a, b)
room_falls (suc m) e e' r r' p p' a b c = least_falls e e' r r' (p / suc m) (p' / suc m) a b (div_falls m p p' c)

pub room_over : (n m e r p : ℕ) → n ≤ e → n ≤ r → n * m ≤ p → n ≤ room_in m e r p
room_over n zero e r p a b c = omega (arith, a, b)
room_over n (suc m) e r p a b c = least_over n e r (p / suc m) a b (le-div n p (suc m) (omega arith) c)

pub room_some : (m e r p : ℕ) → m ≢ 0 → room_in m e r p ≡ min (min e r) (p / m)
room_some zero e r p some = absurd (some refl)
room_some (suc m) e r p some = refl

-- for one change
pub record RoomForOne (m e r p : ℕ) : Type 0 where
  pub entry : 0 < e
  pub record_ : 0 < r
  pub places : m ≤ p

least_of : (e r q : ℕ) → 0 < min (min e r) q → (0 < e) × (0 < r) × (0 < q)
least_of e r q some = (omega (arith, some), omega (arith, some), omega (arith, some))

one_time : (m : ℕ) → 1 * m ≡ m
one_time m = omega arith

once : (q m : ℕ) → 0 < q → m ≤ q * m
once q m some = let times : 1 * m ≤ q * m = mul-le-mul_right m some in subst (λ n. n ≤ q * m) (one_time m) times

pub room_for_one : (m e r p : ℕ) → 0 < room_in m e r p → RoomForOne m e r p
room_for_one zero e r p some = record { entry = omega (arith, some); record_ = omega (arith, some); places = omega arith }
room_for_one (suc m) e r p some =
    let each = least_of e r (p / suc m) some in
    let under : p / suc m * suc m ≤ p = div-mul-le_self p (suc m) in
    record { entry = each.0; record_ = each.1; places = le_trans (once (p / suc m) (suc m) each.2) under }
