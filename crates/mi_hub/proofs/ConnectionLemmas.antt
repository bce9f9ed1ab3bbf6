-- Finding, changing and taking out a connection.
-- Cited by `connection::place_of`, `HolderLemmas`, `OneLineLemmas`, `PieceLemmas`, 1 more, `mi_durable`, `mi_program` and `mi_replay`.
use Rattle.std.proofs.Common.{◌≡◌, ℕ, zero, suc, ◌<◌, List, [], ◌∷◌, ◌++◌, length, get_or, Bool, true, false}
use Rattle.std.proofs.Common.{cond, nat_eq, Option, Some, None, is_some, refl, sym, ap, ◌∙◌, arith, inl, inr, ◌⊎◌}
use Rattle.mi_hub.specs.Lines.{Rest}
use Rattle.mi_hub.specs.Connections.{rest_at, with_rest, others}
use Rattle.mi_hub.specs.Places.{StandsAt}
use Rattle.mi_hub.specs.declared.connection.Connection.{Connection}

same_test : (x y : ℕ) → x ≡ y → nat_eq x y ≡ true
same_test x y h = grind arith

other_test : (x y : ℕ) → (x ≡ y → ⊥) → nat_eq x y ≡ false
other_test x y h = grind arith

pub not_there : (conn : ℕ) (xs : List Connection) → ((k : ℕ) (d : Connection) → k < length xs → (get_or xs k d).id ≡ conn → ⊥) → rest_at conn xs ≡ None
not_there conn [] h = refl
not_there conn (x ∷ xs) h =
    let test = other_test x.id conn (h 0 x (omega arith)) in
    ap (λ b. cond b (Some x.rest) (rest_at conn xs)) test ∙ not_there conn xs (λ k d lt. h (suc k) d (omega arith))

pub there : (conn : ℕ) (xs : List Connection) (i : ℕ) → i < length xs → ((d : Connection) → (get_or xs i d).id ≡ conn)
    → ((k : ℕ) (d : Connection) → k < i → (get_or xs k d).id ≡ conn → ⊥) → StandsAt conn i xs
there conn [] i lt same h = absurd (omega arith)
there conn (y ∷ xs) zero lt same h =
    let test = same_test y.id conn (same y) in record {
      within = lt;
      same = same;
      rest = λ d. ap (λ b. cond b (Some y.rest) (rest_at conn xs)) test;
      removed = sym (ap (λ b. cond b xs (y ∷ others conn xs)) test);
      written = λ r. ap (λ n. record { id = n; rest = r } ∷ xs) (sym (same y))
          ∙ sym (ap (λ b. cond b (record { id = y.id; rest = r } ∷ xs) (y ∷ with_rest conn r xs)) test);
    }
there conn (y ∷ xs) (suc i) lt same h =
    let test = other_test y.id conn (h 0 y (omega arith)) in
    let p = there conn xs i (omega arith) same (λ k d less. h (suc k) d (omega arith)) in record {
      within = lt;
      same = same;
      rest = λ d. ap (λ b. cond b (Some y.rest) (rest_at conn xs)) test ∙ p.rest d;
      removed = ap (λ ls. y ∷ ls) p.removed ∙ sym (ap (λ b. cond b xs (y ∷ others conn xs)) test);
      written = λ r. ap (λ ls. y ∷ ls) (p.written r) ∙ sym (ap (λ b. cond b (record { id = y.id; rest = r } ∷ xs) (y ∷ with_rest conn r xs)) test);
    }

pub same_at : (conn : ℕ) (xs : List Connection) (i : ℕ) (x : Connection) → i < length xs
    → x ≡ get_or xs i x → x.id ≡ conn → (d : Connection) → (get_or xs i d).id ≡ conn
same_at conn [] i x lt is same d = absurd (omega arith)
same_at conn (y ∷ xs) zero x lt is same d = ap (λ (z : Connection). z.id) (sym is) ∙ same
same_at conn (y ∷ xs) (suc i) x lt is same d = same_at conn xs i x (omega arith) is same d

-- ---- another rest for a connection

test_of : (b : Bool) → (b ≡ true) ⊎ (b ≡ false)
test_of true = inl refl
test_of false = inr refl

abbrev with_new : Connection → Rest → Connection
with_new c r = record { id = c.id; rest = r }

-- the three look-ups at the head, by whether it is the connection
rest_at-here : (conn : ℕ) (c : Connection) (cs : List Connection) → nat_eq c.id conn ≡ true → rest_at conn (c ∷ cs) ≡ Some c.rest
rest_at-here conn c cs h = ap (λ b. cond b (Some c.rest) (rest_at conn cs)) h

rest_at-later : (conn : ℕ) (c : Connection) (cs : List Connection) → nat_eq c.id conn ≡ false → rest_at conn (c ∷ cs) ≡ rest_at conn cs
rest_at-later conn c cs h = ap (λ b. cond b (Some c.rest) (rest_at conn cs)) h

with_rest-here : (conn : ℕ) (r : Rest) (c : Connection) (cs : List Connection) → nat_eq c.id conn ≡ true → with_rest conn r (c ∷ cs) ≡ with_new c r ∷ cs
with_rest-here conn r c cs h = ap (λ b. cond b (with_new c r ∷ cs) (c ∷ with_rest conn r cs)) h

with_rest-later : (conn : ℕ) (r : Rest) (c : Connection) (cs : List Connection) → nat_eq c.id conn ≡ false → with_rest conn r (c ∷ cs) ≡ c ∷ with_rest conn r cs
with_rest-later conn r c cs h = ap (λ b. cond b (with_new c r ∷ cs) (c ∷ with_rest conn r cs)) h

others-here : (conn : ℕ) (c : Connection) (cs : List Connection) → nat_eq c.id conn ≡ true → others conn (c ∷ cs) ≡ cs
others-here conn c cs h = ap (λ b. cond b cs (c ∷ others conn cs)) h

others-later : (conn : ℕ) (c : Connection) (cs : List Connection) → nat_eq c.id conn ≡ false → others conn (c ∷ cs) ≡ c ∷ others conn cs
others-later conn c cs h = ap (λ b. cond b cs (c ∷ others conn cs)) h

pub rest_at-with_rest : (conn : ℕ) (q r : Rest) (cs : List Connection) → rest_at conn cs ≡ Some r → rest_at conn (with_rest conn q cs) ≡ Some q
rest_at-with_rest conn q r [] h = absurd (none_some h)
  where
    none_some : {A : Type 0} {x : A} → None ≡ Some x → ⊥
    none_some k = cc
rest_at-with_rest conn q r (c ∷ cs) h = elim (test_of (nat_eq c.id conn)) [
  | inl is ↦ ap (rest_at conn) (with_rest-here conn q c cs is) ∙ rest_at-here conn (with_new c q) cs is
  | inr other ↦
      ap (rest_at conn) (with_rest-later conn q c cs other) ∙ rest_at-later conn c (with_rest conn q cs) other
      ∙ rest_at-with_rest conn q r cs (sym (rest_at-later conn c cs other) ∙ h)
]

pub with_rest-twice : (conn : ℕ) (p q : Rest) (cs : List Connection) → with_rest conn q (with_rest conn p cs) ≡ with_rest conn q cs
with_rest-twice conn p q [] = refl
with_rest-twice conn p q (c ∷ cs) = elim (test_of (nat_eq c.id conn)) [
  | inl is ↦ ap (with_rest conn q) (with_rest-here conn p c cs is) ∙ with_rest-here conn q (with_new c p) cs is ∙ sym (with_rest-here conn q c cs is)
  | inr other ↦
      ap (with_rest conn q) (with_rest-later conn p c cs other) ∙ with_rest-later conn q c (with_rest conn p cs) other
      ∙ ap (λ ds. c ∷ ds) (with_rest-twice conn p q cs) ∙ sym (with_rest-later conn q c cs other)
]

pub with_rest-same : (conn : ℕ) (r : Rest) (cs : List Connection) → rest_at conn cs ≡ Some r → with_rest conn r cs ≡ cs
with_rest-same conn r [] h = refl
with_rest-same conn r (c ∷ cs) h = elim (test_of (nat_eq c.id conn)) [
  | inl is ↦ with_rest-here conn r c cs is ∙ ap (λ q. with_new c q ∷ cs) (same (sym h ∙ rest_at-here conn c cs is))
  | inr other ↦ with_rest-later conn r c cs other ∙ ap (λ ds. c ∷ ds) (with_rest-same conn r cs (sym (rest_at-later conn c cs other) ∙ h))
]
  where
    same : {A : Type 0} {x y : A} → Some x ≡ Some y → x ≡ y
    same k = cc

pub others-with_rest : (conn : ℕ) (r : Rest) (cs : List Connection) → others conn (with_rest conn r cs) ≡ others conn cs
others-with_rest conn r [] = refl
others-with_rest conn r (c ∷ cs) = elim (test_of (nat_eq c.id conn)) [
  | inl is ↦ ap (others conn) (with_rest-here conn r c cs is) ∙ others-here conn (with_new c r) cs is ∙ sym (others-here conn c cs is)
  | inr other ↦
      ap (others conn) (with_rest-later conn r c cs other) ∙ others-later conn c (with_rest conn r cs) other
      ∙ ap (λ ds. c ∷ ds) (others-with_rest conn r cs) ∙ sym (others-later conn c cs other)
]

-- ---- another connection

differs : (x y z : ℕ) → nat_eq x y ≡ true → (y ≡ z → ⊥) → nat_eq x z ≡ false
differs x y z e n = grind arith

pub rest_at-others : (k conn : ℕ) (cs : List Connection) → (conn ≡ k → ⊥) → rest_at k (others conn cs) ≡ rest_at k cs
rest_at-others k conn [] h = refl
rest_at-others k conn (c ∷ cs) h = elim (test_of (nat_eq c.id conn)) [
  | inl is ↦ ap (rest_at k) (others-here conn c cs is) ∙ sym (rest_at-later k c cs (differs c.id conn k is h))
  | inr other ↦ ap (rest_at k) (others-later conn c cs other) ∙ ap (λ o. cond (nat_eq c.id k) (Some c.rest) o) (rest_at-others k conn cs h)
]

pub rest_at-with_other : (k conn : ℕ) (r : Rest) (cs : List Connection) → (conn ≡ k → ⊥) → rest_at k (with_rest conn r cs) ≡ rest_at k cs
rest_at-with_other k conn r [] h = refl
rest_at-with_other k conn r (c ∷ cs) h = elim (test_of (nat_eq c.id conn)) [
  | inl is ↦
      ap (rest_at k) (with_rest-here conn r c cs is) ∙ rest_at-later k (with_new c r) cs (differs c.id conn k is h)
      ∙ sym (rest_at-later k c cs (differs c.id conn k is h))
  | inr other ↦ ap (rest_at k) (with_rest-later conn r c cs other) ∙ ap (λ o. cond (nat_eq c.id k) (Some c.rest) o) (rest_at-with_other k conn r cs h)
]

-- those that are attached stay so where another comes
pub rest_at-append : (k : ℕ) (r : Rest) (cs ds : List Connection) → rest_at k cs ≡ Some r → rest_at k (cs ++ ds) ≡ Some r
rest_at-append k r [] ds h = absurd (none_some h)
  where
    none_some : {A : Type 0} {x : A} → None ≡ Some x → ⊥
    none_some e = cc
rest_at-append k r (c ∷ cs) ds h = elim (test_of (nat_eq c.id k)) [
  | inl is ↦ rest_at-here k c (cs ++ ds) is ∙ sym (rest_at-here k c cs is) ∙ h
  | inr other ↦ rest_at-later k c (cs ++ ds) other ∙ rest_at-append k r cs ds (sym (rest_at-later k c cs other) ∙ h)
]

-- the last to come has no bytes
pub rest_at-last : (k : ℕ) (r : Rest) (cs : List Connection) → rest_at k cs ≡ None → rest_at k (cs ++ record { id = k; rest = r } ∷ []) ≡ Some r
rest_at-last k r [] h = rest_at-here k (record { id = k; rest = r }) [] (same_test k k refl)
rest_at-last k r (c ∷ cs) h = elim (test_of (nat_eq c.id k)) [
  | inl is ↦ absurd (some_none (sym (rest_at-here k c cs is) ∙ h))
  | inr other ↦ rest_at-later k c (cs ++ record { id = k; rest = r } ∷ []) other ∙ rest_at-last k r cs (sym (rest_at-later k c cs other) ∙ h)
]
  where
    some_none : {A : Type 0} {x : A} → Some x ≡ None → ⊥
    some_none e = cc

-- another rest leaves who is attached
pub some_with_rest : (k conn : ℕ) (r : Rest) (cs : List Connection) → is_some (rest_at k (with_rest conn r cs)) ≡ is_some (rest_at k cs)
some_with_rest k conn r [] = refl
some_with_rest k conn r (c ∷ cs) = elim (test_of (nat_eq c.id conn)) [
  | inl is ↦ ap (λ ds. is_some (rest_at k ds)) (with_rest-here conn r c cs is) ∙ either (nat_eq c.id k)
  | inr other ↦ ap (λ ds. is_some (rest_at k ds)) (with_rest-later conn r c cs other) ∙ later (nat_eq c.id k) (some_with_rest k conn r cs)
]
  where
    either : (b : Bool) → is_some (cond b (Some r) (rest_at k cs)) ≡ is_some (cond b (Some c.rest) (rest_at k cs))
    either true = refl
    either false = refl

    later : (b : Bool) → is_some (rest_at k (with_rest conn r cs)) ≡ is_some (rest_at k cs)
        → is_some (cond b (Some c.rest) (rest_at k (with_rest conn r cs))) ≡ is_some (cond b (Some c.rest) (rest_at k cs))
    later true h = refl
    later false h = h

pub some_append : (k : ℕ) (cs ds : List Connection) → is_some (rest_at k cs) ≡ true → is_some (rest_at k (cs ++ ds)) ≡ true
some_append k cs ds = by_rest (rest_at k cs) refl
  where
    by_rest : (o : Option Rest) → rest_at k cs ≡ o → is_some o ≡ true → is_some (rest_at k (cs ++ ds)) ≡ true
    by_rest None e h = absurd (false_true h)
      where
        false_true : is_some {T = Rest} None ≡ true → ⊥
        false_true f = cc
    by_rest (Some r) e h = ap is_some (rest_at-append k r cs ds e)
