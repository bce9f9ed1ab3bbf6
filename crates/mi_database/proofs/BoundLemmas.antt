-- A number is below the power of two of its binary digits.
-- Cited by `LinkedSessions::count`, `LinkedSessions::find_row`, `LinkedSessions::get`, `LinkedSessions::lower` and 7 more.
use Rattle.std.proofs.Common.{◌≡◌, ℕ, zero, suc, ◌+◌, ◌*◌, ◌/◌, ◌^◌, ◌<◌, ◌≤◌, ap, sym, ◌∙◌, subst, arith}
use Rattle.std.proofs.Math.Nat.{pow-suc}
use Rattle.mi_catalog.specs.Shape.{Shape}
use Rattle.mi_model.specs.Table.{Table, size}
use Rattle.mi_database.specs.Bound.{halvings, binary_digits, look_up_bound, LookUpsAreBounded}

halvings_reach : (most n : ℕ) → n ≤ most → n < 2 ^ halvings most n
halvings_reach zero zero le = omega arith
halvings_reach zero (suc n) le = absurd (omega (arith, le))
halvings_reach (suc most) zero le = omega arith
halvings_reach (suc most) (suc n) le =
    let half : suc n / 2 < 2 ^ halvings most (suc n / 2) = halvings_reach most (suc n / 2) (omega (arith, le)) in
    let twice : 2 ^ suc (halvings most (suc n / 2)) ≡ 2 ^ halvings most (suc n / 2) * 2 = pow-suc 2 (halvings most (suc n / 2)) in
    omega (arith, half, twice)

below_digits : (n : ℕ) → n < 2 ^ binary_digits n
below_digits n = halvings_reach n n (omega arith)

below_table : (t u : Table) → t ≡ u → size t < 2 ^ binary_digits (size u)
below_table t u same = subst (λ n. n < 2 ^ binary_digits (size u)) (sym (ap size same)) (below_digits (size u))

-- a container's bound, for every number of digits that suffices, at the table's own
pub within_one : (t u : Table) (before after : ℕ) → t ≡ u
    → ((b : ℕ) → size t < 2 ^ b → after ≤ before + (2 * b + 1)) → after ≤ before + 1 * look_up_bound (size u)
within_one t u before after same steps =
    let most : after ≤ before + (2 * binary_digits (size u) + 1) = steps (binary_digits (size u)) (below_table t u same) in
    omega (arith, most)

pub within_two : (t u : Table) (before after : ℕ) → t ≡ u
    → ((b : ℕ) → size t < 2 ^ b → after ≤ before + 2 * (2 * b + 1)) → after ≤ before + 2 * look_up_bound (size u)
within_two t u before after same steps =
    let most : after ≤ before + 2 * (2 * binary_digits (size u) + 1) = steps (binary_digits (size u)) (below_table t u same) in
    omega (arith, most)

pub within_range : (s r : Shape) (t u : Table) (rows : Shape → Table → ℕ) (before after : ℕ) → s ≡ r → t ≡ u
    → ((b : ℕ) → size t < 2 ^ b → after ≤ before + (2 * b + 1) + rows s t) → after ≤ before + look_up_bound (size u) + rows r u
within_range s r t u rows before after shape same steps =
    let most : after ≤ before + (2 * binary_digits (size u) + 1) + rows s t = steps (binary_digits (size u)) (below_table t u same) in
    let long : rows s t ≡ rows r u = ap (λ k. rows k t) shape ∙ ap (rows r) same in
    omega (arith, most, long)

halvings_few : (most n b : ℕ) → n < 2 ^ b → halvings most n ≤ b
halvings_few zero n b l = omega arith
halvings_few (suc most) zero b l = omega arith
halvings_few (suc most) (suc n) zero l = absurd (omega (arith, l))
halvings_few (suc most) (suc n) (suc b) l =
    let twice : 2 ^ suc b ≡ 2 ^ b * 2 = pow-suc 2 b in
    let fewer : halvings most (suc n / 2) ≤ b = halvings_few most (suc n / 2) b (omega (arith, l, twice)) in
    omega (arith, fewer)

pub look_ups_are_bounded : LookUpsAreBounded
look_ups_are_bounded n b l = let few : binary_digits n ≤ b = halvings_few n n b l in omega (arith, few)
