-- A session keeps its number.
-- Cited by `mi_sessions`.
use Rattle.std.proofs.Common.{◌≡◌, ℕ, zero, suc, ◌+◌, ◌-◌, ◌<◌, ◌≤◌, cond, min, inl, inr, List, [], ◌∷◌, length, take, slice_get, refl, ap, sym, ◌∙◌, arith}
use Rattle.std.specs.Prelude.{◌==◌, nat_lt}
use Rattle.std.specs.List.{filter}
use Rattle.std.specs.Map.{lookup}
use Rattle.std.proofs.lemmas.Bool.{cases_lt, lt-ltb, le-ltb}
use Rattle.std.proofs.lemmas.Bool.Decides.{eqb_tells}
use Rattle.std.specs.declared.option.Option.TheVariants.{None, Some}
use Rattle.mi_model.specs.Table.{Table}
use Rattle.mi_model.specs.Database.{started}
use Rattle.mi_model.specs.Run.{run}
use Rattle.mi_model.specs.Sessions.{numbered, SessionsAreNumbered, CommitsEndByNumber, StartsTakeTheNextNumber, SessionsKeepTheirNumbers}
use Rattle.mi_model.proofs.SessionLaws.{Holds, run_keeps, get_within}

-- the session with j above it has a number that is j below the newest
number_of_place : (j n : ℕ) (old : List (List Table)) (r : ℕ) (tables : List Table) → r ≡ j + n
    → slice_get old j ≡ Some tables → lookup (λ m. m == n) (numbered r old) ≡ Some tables
number_of_place j n [] r tables e at = absurd (let h : None ≡ Some tables = at in cc)
number_of_place zero n (o ∷ old) r tables e at =
    elim (eqb_tells r n) [
      | inl is ↦ ap (λ b. cond b (Some o) (lookup (λ m. m == n) (numbered (r - 1) old))) is.0 ∙ at
      | inr isnt ↦ absurd (isnt.1 (omega arith))
    ]
number_of_place (suc j) n (o ∷ old) r tables e at =
    elim (eqb_tells r n) [
      | inl is ↦ absurd (let same : r ≡ n = is.1 in omega arith)
      | inr isnt ↦ ap (λ b. cond b (Some o) (lookup (λ m. m == n) (numbered (r - 1) old))) isnt.0 ∙ number_of_place j n old (r - 1) tables (omega arith) at
    ]

-- where a number is found, so many are above
place_of_number : (n : ℕ) (old : List (List Table)) (r : ℕ) (tables : List Table) → 0 < n → lookup (λ m. m == n) (numbered r old) ≡ Some tables
    → (j : ℕ) × (r ≡ j + n) × (slice_get old j ≡ Some tables)
place_of_number n [] r tables p at = absurd (let h : None ≡ Some tables = at in cc)
place_of_number n (o ∷ old) r tables p at =
    elim (eqb_tells r n) [
      | inl is ↦ (0, omega (arith, is.1), sym (ap (λ b. cond b (Some o) (lookup (λ m. m == n) (numbered (r - 1) old))) is.0) ∙ at)
      | inr isnt ↦
          let q : (j : ℕ) × (r - 1 ≡ j + n) × (slice_get old j ≡ Some tables) =
          place_of_number n old (r - 1) tables p (sym (ap (λ b. cond b (Some o) (lookup (λ m. m == n) (numbered (r - 1) old))) isnt.0) ∙ at) in
          (suc q.0, (let e : r - 1 ≡ q.0 + n = q.1 in omega arith), q.2)
    ]

pub sessions_are_numbered : SessionsAreNumbered
sessions_are_numbered d k tables is at =
    let within : k < length d.old = get_within d.old k tables at in
    let all : length d.old ≤ d.revision = is.numbered in
    number_of_place k (d.revision - k) d.old d.revision tables (omega arith) at

-- no number is above the newest
none_above : (x : ℕ) (old : List (List Table)) (r : ℕ) → r ≤ x → filter (λ s. nat_lt x s.0) (numbered r old) ≡ []
none_above x [] r l = refl
none_above x (o ∷ old) r l =
    ap (λ b. cond b ((r, o) ∷ filter (λ s. nat_lt x s.0) (numbered (r - 1) old)) (filter (λ s. nat_lt x s.0) (numbered (r - 1) old))) (le-ltb x r l)
    ∙ none_above x old (r - 1) (omega arith)

committed_numbers : (x : ℕ) (old : List (List Table)) (r : ℕ) → length old ≤ r
    → numbered r (take (length old - min (length old) (x + length old - r)) old) ≡ filter (λ s. nat_lt x s.0) (numbered r old)
committed_numbers x [] r l = ap (λ m. numbered r (take m [])) (let none : 0 - min 0 (x + 0 - r) ≡ 0 = omega arith in none)
committed_numbers x (o ∷ old) r l =
    elim (cases_lt x r) [
      | inl below ↦
          let one_more : length (o ∷ old) - min (length (o ∷ old)) (x + length (o ∷ old) - r)
          ≡ suc (length old - min (length old) (x + length old - (r - 1))) = omega arith in
          ap (λ m. numbered r (take m (o ∷ old))) one_more
          ∙ ap (λ rest. (r, o) ∷ rest) (committed_numbers x old (r - 1) (omega arith))
          ∙ sym (ap (λ b. cond b ((r, o) ∷ filter (λ s. nat_lt x s.0) (numbered (r - 1) old)) (filter (λ s. nat_lt x s.0) (numbered (r - 1) old)))
          (lt-ltb x r below))
      | inr above ↦
          let none : length (o ∷ old) - min (length (o ∷ old)) (x + length (o ∷ old) - r) ≡ 0 = omega arith in
          ap (λ m. numbered r (take m (o ∷ old))) none ∙ sym (none_above x (o ∷ old) r above)
    ]

pub commits_end_by_number : CommitsEndByNumber
commits_end_by_number d x is = committed_numbers x d.old d.revision is.numbered

pub starts_take_the_next_number : StartsTakeTheNextNumber
starts_take_the_next_number d = number_of_place 0 (d.revision + 1) (started d).old (started d).revision d.tables (omega arith) refl

pub sessions_keep_their_numbers : SessionsKeepTheirNumbers
sessions_keep_their_numbers d n tables cs p at opens =
    let q : (j : ℕ) × (d.revision ≡ j + n) × (slice_get d.old j ≡ Some tables) = place_of_number n d.old d.revision tables p at in
    let h : Holds n tables (run cs d) = run_keeps n tables cs d p (record { above = q.0; number = q.1; start = q.2 }) opens in
    number_of_place h.above n (run cs d).old (run cs d).revision tables h.number h.start
