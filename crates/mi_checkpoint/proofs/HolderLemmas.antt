-- A holder that holds no more than so many of the newest sessions, and what a step makes of it.
-- Cited by `RunLemmas`, `SettledLemmas` and `StepLemmas`.
use Rattle.std.proofs.Common.{◌≡◌, ℕ, zero, suc, ◌+◌, ◌-◌, ◌≤◌, min, Bool, true, false, cond, nat_eq, nat_le, Option, Some, None}
use Rattle.std.proofs.Common.{refl, sym, ap, ◌∙◌, arith}
use Rattle.std.specs.Prelude.{◌==◌}
use Rattle.std.proofs.lemmas.Bool.{ne_eqb}
use Rattle.mi_commands.specs.Holder.{is_busy, one_more, one_less, at_most, held_count, held_by, without_holder}
use Rattle.mi_commands.specs.declared.holder.Holder.{Holder}
use Rattle.mi_replay.proofs.AnswerLemmas.{same_conn, held_by_holder, without_free}

pub not_zero : (n : ℕ) → 1 ≤ n → (n == 0) ≡ false
not_zero n some = ne_eqb n 0 (λ e. omega arith)

abbrev holding : ℕ → ℕ → Option Holder
holding conn held = Some (record { conn = conn; held = held })

pub most_none : (o : Option Holder) → at_most 0 o ≡ None
most_none None = refl
most_none (Some h) = refl

most_some : (n : ℕ) (h : Holder) → at_most (suc n) (Some h) ≡ holding h.conn (min h.held (suc n))
most_some n h = ap (λ b. cond b None (holding h.conn (min h.held (suc n)))) (not_zero (suc n) (omega arith))

pub most_free : (n conn : ℕ) (o : Option Holder) → is_busy o conn ≡ false → is_busy (at_most n o) conn ≡ false
most_free n conn None free = refl
most_free zero conn (Some h) free = ap (λ o. is_busy o conn) (most_none (Some h))
most_free (suc n) conn (Some h) free = ap (λ o. is_busy o conn) (most_some n h) ∙ free

-- ---- one less

less_small : (h : Holder) → h.held ≤ 1 → one_less (Some h) ≡ None
less_small h few = ap (λ b. cond b None (holding h.conn (h.held - 1))) test
  where
    test : nat_le h.held 1 ≡ true
    test = grind arith

less_more : (h : Holder) → 2 ≤ h.held → one_less (Some h) ≡ holding h.conn (h.held - 1)
less_more h many = ap (λ b. cond b None (holding h.conn (h.held - 1))) test
  where
    test : nat_le h.held 1 ≡ false
    test = grind arith

less_many : (n : ℕ) (h : Holder) → 2 ≤ h.held → one_less (holding h.conn (min h.held (suc n))) ≡ at_most n (holding h.conn (h.held - 1))
less_many zero h many = less_small (record { conn = h.conn; held = min h.held 1 }) (omega arith) ∙ sym (most_none (holding h.conn (h.held - 1)))
less_many (suc n) h many =
    let same : min h.held (suc (suc n)) - 1 ≡ min (h.held - 1) (suc n) = omega arith in
    less_more (record { conn = h.conn; held = min h.held (suc (suc n)) }) (omega arith) ∙ ap (holding h.conn) same
    ∙ sym (most_some n (record { conn = h.conn; held = h.held - 1 }))

pub less_most : (n : ℕ) (o : Option Holder) → one_less (at_most (suc n) o) ≡ at_most n (one_less o)
less_most n None = refl
less_most n (Some h) = ap one_less (most_some n h) ∙ by_test (nat_le h.held 1) refl
  where
    is_small : nat_le h.held 1 ≡ true → h.held ≤ 1
    is_small t = grind arith

    is_more : nat_le h.held 1 ≡ false → 2 ≤ h.held
    is_more t = grind arith

    by_test : (b : Bool) → nat_le h.held 1 ≡ b → one_less (holding h.conn (min h.held (suc n))) ≡ at_most n (one_less (Some h))
    by_test true t =
        let few : h.held ≤ 1 = is_small t in
        less_small (record { conn = h.conn; held = min h.held (suc n) }) (omega arith) ∙ ap (at_most n) (sym (less_small h few))
    by_test false t = less_many n h (is_more t) ∙ ap (at_most n) (sym (less_more h (is_more t)))

-- ---- at most so many, twice

pub most_most : (a b : ℕ) (o : Option Holder) → at_most a (at_most b o) ≡ at_most (min a b) o
most_most a b None = refl
most_most zero b (Some h) =
    let none : 0 ≡ min 0 b = omega arith in most_none (at_most b (Some h)) ∙ sym (most_none (Some h)) ∙ ap (λ n. at_most n (Some h)) none
most_most (suc a) zero (Some h) =
    let none : 0 ≡ min (suc a) 0 = omega arith in ap (at_most (suc a)) (most_none (Some h)) ∙ sym (most_none (Some h)) ∙ ap (λ n. at_most n (Some h)) none
most_most (suc a) (suc b) (Some h) =
    let least : suc (min a b) ≡ min (suc a) (suc b) = omega arith in
    let same : min (min h.held (suc b)) (suc a) ≡ min h.held (suc (min a b)) = omega arith in
    ap (at_most (suc a)) (most_some b h) ∙ most_some a (record { conn = h.conn; held = min h.held (suc b) }) ∙ ap (holding h.conn) same
    ∙ sym (most_some (min a b) h) ∙ ap (λ n. at_most n (Some h)) least

-- what is no more than either
pub most_least : (n a b : ℕ) (o : Option Holder) → n ≤ a → n ≤ b → at_most n (at_most a o) ≡ at_most n (at_most b o)
most_least n a b o h k =
    let one : min n a ≡ n = omega arith in
    let other : n ≡ min n b = omega arith in
    most_most n a o ∙ ap (λ m. at_most m o) (one ∙ other) ∙ sym (most_most n b o)

-- ---- one more, and none

one_holds : (n conn : ℕ) → at_most (suc n) (holding conn 1) ≡ holding conn 1
one_holds n conn = let one : min 1 (suc n) ≡ 1 = omega arith in most_some n (record { conn = conn; held = 1 }) ∙ ap (holding conn) one

pub more_most : (n conn : ℕ) (o : Option Holder) → is_busy o conn ≡ false → one_more conn (at_most n o) ≡ at_most (suc n) (one_more conn o)
more_most n conn None free = sym (one_holds n conn)
more_most zero conn (Some h) free =
    let one : 1 ≡ min (h.held + 1) 1 = omega arith in
    ap (one_more conn) (most_none (Some h)) ∙ ap (λ i. holding i 1) (sym mine) ∙ ap (holding h.conn) one
    ∙ sym (most_some 0 (record { conn = h.conn; held = h.held + 1 }))
  where
    same : nat_eq h.conn conn ≡ true
    same = same_conn h.conn conn free

    mine : h.conn ≡ conn
    mine = grind (arith, same)
more_most (suc n) conn (Some h) free =
    let same : min h.held (suc n) + 1 ≡ min (h.held + 1) (suc (suc n)) = omega arith in
    ap (one_more conn) (most_some n h) ∙ ap (holding h.conn) same ∙ sym (most_some (suc n) (record { conn = h.conn; held = h.held + 1 }))

pub without_most : (n conn : ℕ) (o : Option Holder) → is_busy o conn ≡ false → without_holder conn (at_most n o) ≡ at_most n (without_holder conn o)
without_most n conn o free = without_free conn (at_most n o) (most_free n conn o free) ∙ ap (at_most n) (sym (without_free conn o free))

-- as many as are held, where they are no more
count_most : (n : ℕ) (o : Option Holder) → held_count o ≤ n → held_count (at_most n o) ≡ held_count o
count_most n None fits = refl
count_most zero (Some h) fits = omega arith
count_most (suc n) (Some h) fits = ap held_count (most_some n h) ∙ (omega arith)

pub held_most : (n conn : ℕ) (o : Option Holder) → is_busy o conn ≡ false → held_count o ≤ n → held_by conn (at_most n o) ≡ held_count o
held_most n conn o free fits = held_by_holder conn (at_most n o) (most_free n conn o free) ∙ count_most n o fits
