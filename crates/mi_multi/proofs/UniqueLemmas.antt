-- The only row of a table that can have a record's key in a unique index.
-- Cited by `ConflictLemmas`.
use Rattle.std.proofs.Common.{◌≡◌, ◌≢◌, ℕ, ◌+◌, ◌<◌, ◌≤◌, Bool, true, false, cond, not, ◌&&◌, inl}
use Rattle.std.proofs.Common.{inr, List, [], ◌∷◌, slice_get, refl, ap, sym, ◌∙◌, subst, arith}
use Rattle.std.specs.Prelude.{◌==◌}
use Rattle.std.specs.List.{AllByRecursion, filter}
use Rattle.std.specs.Map.{lookup}
use Rattle.std.specs.Option.{is_some, unwrap_or}
use Rattle.std.specs.Ordering.{is_eq}
use Rattle.std.specs.Cmp.{IsTotalOrder}
use Rattle.std.proofs.lemmas.Bool.{eqb-true, false≢true, and_parts}
use Rattle.std.proofs.lemmas.Bool.Decides.{eqb_tells}
use Rattle.std.proofs.lemmas.Cmp.{tied_back}
use Rattle.std.specs.declared.cmp.Ordering.{Ordering}
use Rattle.std.specs.declared.cmp.Ordering.TheVariants.{Less, Equal, Greater}
use Rattle.std.specs.declared.option.Option.{Option}
use Rattle.std.specs.declared.option.Option.TheVariants.{None, Some}
use Rattle.mi_value.specs.declared.value.Value.{Value}
use Rattle.mi_value.specs.declared.compare.KeyPart.{KeyPart}
use Rattle.mi_value.specs.Order.{compare_key}
use Rattle.mi_value.proofs.OrderLaws.{compare_key_total}
use Rattle.mi_catalog.specs.Shape.{Shape, index_at}
use Rattle.mi_catalog.specs.Key.{Row, compare_rows}
use Rattle.mi_model.specs.Table.{Table, IsTable, Rise, has, row, times, ListsEach}
use Rattle.mi_model.specs.Conflict.{is_rival, rival}
use Rattle.mi_model.specs.Unique.{HasUniqueKeys}
use Rattle.mi_model.proofs.LookUpLaws.{stands}
use Rattle.mi_model.proofs.PlaceLaws.{there_of_each, times-filter-le}
use Rattle.mi_model.proofs.SortLaws.{both_ways}
use Rattle.mi_container.proofs.PairLemmas.{is_itself, is_other, none_some, some_is, head_is, head_isnt}

is_equal : (o : Ordering) → is_eq o ≡ true → o ≡ Equal
is_equal Less h = absurd (false≢true h)
is_equal Equal h = refl
is_equal Greater h = absurd (false≢true h)

-- Rivals are rows that are there

behind : (a e : ℕ) (v : List Value) (rows : List Row) → AllByRecursion (λ q. a < q.0) rows → lookup (λ k. k == e) rows ≡ Some v → a < e
behind a e v [] all at = absurd (none_some at)
behind a e v (q ∷ rows) all at =
    both_ways (q.0 == e)
    (λ yes. subst (λ k. a < k) (eqb-true q.0 e yes) all.0)
    (λ isnt. behind a e v rows all.1 (sym (head_isnt e q rows isnt) ∙ at))

-- a row that is there, and is a rival
record Found (ps : List KeyPart) (r : List Value) (except : Option ℕ) (rows : List Row) (e : ℕ) : Type 0 where
  values : List Value
  there : lookup (λ k. k == e) rows ≡ Some values
  is : is_rival ps r except (e, values) ≡ true

module _ (ps : List KeyPart) (r : List Value) (except : Option ℕ) where
  found : (next : ℕ) (rows : List Row) → Rise next rows → (e : ℕ) → rival rows ps r except ≡ Some e → Found ps r except rows e
  found next [] up e h = absurd (none_some h)
  found next (q ∷ rows) up e h =
      both_ways (is_rival ps r except q)
      (λ yes.
      let same : q.0 ≡ e = some_is (sym (ap (λ b. cond b (Some q.0) (rival rows ps r except)) yes) ∙ h) in
      subst (Found ps r except (q ∷ rows)) same (record { values = q.1; there = head_is q.0 q rows (is_itself q.0); is = yes }))
      (λ isnt.
      let rest : Found ps r except rows e = found next rows up.2 e (sym (ap (λ b. cond b (Some q.0) (rival rows ps r except)) isnt) ∙ h) in
      let l : q.0 < e = behind q.0 e rest.values rows up.1 rest.there in
      record { values = rest.values; there = head_isnt e q rows (is_other q.0 e (λ same. absurd (omega (arith, same)))) ∙ rest.there; is = rest.is })

  -- where there is none no row that is there is one
  none_found : (rows : List Row) (e : ℕ) (v : List Value) → rival rows ps r except ≡ None
      → lookup (λ k. k == e) rows ≡ Some v → is_rival ps r except (e, v) ≡ false
  none_found [] e v none at = absurd (none_some at)
  none_found (q ∷ rows) e v none at =
      both_ways (is_rival ps r except q)
      (λ yes. absurd (none_some (sym none ∙ ap (λ b. cond b (Some q.0) (rival rows ps r except)) yes)))
      (λ isnt.
      both_ways (q.0 == e)
      (λ same.
      let v_is : q.1 ≡ v = some_is (sym (head_is e q rows same) ∙ at) in
      subst (λ w. is_rival ps r except (e, w) ≡ false) v_is (subst (λ k. is_rival ps r except (k, q.1) ≡ false) (eqb-true q.0 e same) isnt))
      (λ other. none_found rows e v (sym (ap (λ b. cond b (Some q.0) (rival rows ps r except)) isnt) ∙ none) (sym (head_isnt e q rows other) ∙ at)))

-- The first that passes a test

passes : (p : ℕ → Bool) (ids : List ℕ) (h : ℕ) → slice_get (filter p ids) 0 ≡ Some h → p h ≡ true
passes p [] h at = absurd (none_some at)
passes p (a ∷ ids) h at =
    both_ways (p a)
    (λ yes. ap p (sym (some_is (sym (ap (λ b. slice_get (cond b (a ∷ filter p ids) (filter p ids)) 0) yes) ∙ at))) ∙ yes)
    (λ isnt. passes p ids h (sym (ap (λ b. slice_get (cond b (a ∷ filter p ids) (filter p ids)) 0) isnt) ∙ at))

-- there is one, if a test is passed by one of the list
first_there : (p : ℕ → Bool) (ids : List ℕ) (e : ℕ) → 0 < times e ids → p e ≡ true → (h : ℕ) × (slice_get (filter p ids) 0 ≡ Some h)
first_there p [] e some pass = absurd (omega arith)
first_there p (a ∷ ids) e some pass =
    both_ways (p a)
    (λ is. (a, ap (λ b. slice_get (cond b (a ∷ filter p ids) (filter p ids)) 0) is))
    (λ isnt.
    let other : (a == e) ≡ false = is_other a e (λ same. false≢true (sym isnt ∙ ap p same ∙ pass)) in
    let rest : 0 < 0 + times e ids = subst (λ b. 0 < cond {A = ℕ} b 1 0 + times e ids) other some in
    let there = first_there p ids e (omega (arith, rest)) pass in
    (there.0, ap (λ b. slice_get (cond b (a ∷ filter p ids) (filter p ids)) 0) isnt ∙ there.1))

-- Keys of rows

rows_key : (ps : List KeyPart) (a b : ℕ) (v w : List Value) → ps ≢ [] → compare_rows ps (a, v) (b, w) ≡ compare_key ps v w
rows_key [] a b v w some = absurd (some refl)
rows_key (p ∷ ps) a b v w some = refl

same_keys : (ps : List KeyPart) (v w r : List Value) → is_eq (compare_key ps v r) ≡ true → is_eq (compare_key ps w r) ≡ true → is_eq (compare_key ps v w) ≡ true
same_keys ps v w r hv hw =
    let o : IsTotalOrder (compare_key ps) = compare_key_total ps in
    ap is_eq (o.congr v r w (is_equal (compare_key ps v r) hv) ∙ tied_back o w r (is_equal (compare_key ps w r) hw))

value_there : (o : Option (List Value)) → is_some o ≡ true → (v : List Value) × (o ≡ Some v)
value_there None h = absurd (false≢true h)
value_there (Some v) h = (v, refl)

-- whether the row of an id has r's key
abbrev pub has_key_of : List KeyPart → Table → List Value → ℕ → Bool
has_key_of ps t r id = is_eq (compare_key ps (row t id).1 r)

module _ (s : Shape) (t : Table) (x : ℕ) (r : List Value) (is : IsTable s t) (unique : HasUniqueKeys s t)
    (p : 0 < x) (one : (index_at s x).«unique» ≡ true) (some : (index_at s x).parts ≢ []) where
  abbrev ps : List KeyPart
  ps = (index_at s x).parts

  abbrev key : ℕ → Bool
  key = has_key_of ps t r

  one_row : (a b : ℕ) → has t a ≡ true → has t b ≡ true → key a ≡ true → key b ≡ true → a ≡ b
  one_row a b ha hb ka kb =
      elim (eqb_tells a b) [
        | inl same ↦ same.1
        | inr isnt ↦ absurd (false≢true (sym (unique x a b p one ha hb isnt.1)
            ∙ ap is_eq (rows_key ps a b (row t a).1 (row t b).1 some) ∙ same_keys ps (row t a).1 (row t b).1 r ka kb))
      ]

  key_is : (e : ℕ) (v : List Value) → lookup (λ k. k == e) t.rows ≡ Some v → key e ≡ is_eq (compare_key ps v r)
  key_is e v at = ap (λ o. is_eq (compare_key ps (unwrap_or o []) r)) at

  -- the first id with the key in a list of all
  module _ (ids : List ℕ) (each : ListsEach t ids) where
    first_is : (q : Option ℕ) → slice_get (filter key ids) 0 ≡ q → (o : Option ℕ) → rival t.rows ps r None ≡ o → o ≡ q
    first_is None hq None ho = refl
    first_is (Some h) hq None ho =
        let l : 0 < times h (filter key ids) = stands h 0 (filter key ids) hq in
        let k : times h (filter key ids) ≤ times h ids = times-filter-le key h ids in
        let at = value_there (lookup (λ k. k == h) t.rows) (there_of_each t ids each h (omega arith)) in
        absurd (false≢true (sym (none_found ps r None t.rows h at.0 ho at.1) ∙ sym (key_is h at.0 at.1) ∙ passes key ids h hq))
    first_is None hq (Some e) ho =
        let f : Found ps r None t.rows e = found ps r None t.next t.rows is.ordered e ho in
        let l : times e ids ≡ cond {A = ℕ} true 1 0 = each e ∙ ap (λ o. cond {A = ℕ} (is_some o) 1 0) f.there in
        let there = first_there key ids e (omega arith) (key_is e f.values f.there ∙ f.is) in
        absurd (none_some (sym hq ∙ there.1))
    first_is (Some h) hq (Some e) ho =
        let f : Found ps r None t.rows e = found ps r None t.next t.rows is.ordered e ho in
        let l : 0 < times h (filter key ids) = stands h 0 (filter key ids) hq in
        let k : times h (filter key ids) ≤ times h ids = times-filter-le key h ids in
        ap Some (one_row e h (ap is_some f.there) (there_of_each t ids each h (omega arith)) (key_is e f.values f.there ∙ f.is) (passes key ids h hq))

    pub rival_is_first : slice_get (filter key ids) 0 ≡ rival t.rows ps r None
    rival_is_first = sym (first_is (slice_get (filter key ids) 0) refl (rival t.rows ps r None) refl)

  -- the rivals but for one row

  has_key : (except : Option ℕ) (e : ℕ) (v : List Value) → is_rival ps r except (e, v) ≡ true → is_eq (compare_key ps v r) ≡ true
  has_key None e v h = h
  has_key (Some own) e v h = (and_parts (not (e == own)) (is_eq (compare_key ps v r)) h).1

  found_key : (except : Option ℕ) (e : ℕ) → rival t.rows ps r except ≡ Some e → (has t e ≡ true) × (key e ≡ true)
  found_key except e h =
      let f : Found ps r except t.rows e = found ps r except t.next t.rows is.ordered e h in
      (ap is_some f.there, key_is e f.values f.there ∙ has_key except e f.values f.is)

  none_but : (own : ℕ) (o : Option ℕ) → rival t.rows ps r (Some own) ≡ o → rival t.rows ps r None ≡ None → o ≡ None
  none_but own None h none = refl
  none_but own (Some e) h none =
      let f : Found ps r (Some own) t.rows e = found ps r (Some own) t.next t.rows is.ordered e h in
      absurd (false≢true (sym (none_found ps r None t.rows e f.values none f.there) ∙ has_key (Some own) e f.values f.is))

  -- without a row of the key there is no rival
  pub no_rival : (except : Option ℕ) → rival t.rows ps r None ≡ None → rival t.rows ps r except ≡ None
  no_rival None none = none
  no_rival (Some own) none = none_but own (rival t.rows ps r (Some own)) refl none

  kept_but : (own : ℕ) (o : Option ℕ) → rival t.rows ps r (Some own) ≡ o → has t own ≡ true → key own ≡ true → o ≡ None
  kept_but own None h there kept = refl
  kept_but own (Some e) h there kept =
      let f : Found ps r (Some own) t.rows e = found ps r (Some own) t.next t.rows is.ordered e h in
      let a = found_key (Some own) e h in
      let same : e ≡ own = one_row e own a.0 there a.1 kept in
      let other : not (e == own) ≡ true = (and_parts (not (e == own)) (is_eq (compare_key ps f.values r)) f.is).0 in
      absurd (false≢true (sym (ap (λ k. not (k == own)) same ∙ ap not (is_itself own)) ∙ other))

  -- but for a row that has the key there is none
  pub kept_row : (own : ℕ) → has t own ≡ true → key own ≡ true → rival t.rows ps r (Some own) ≡ None
  kept_row own there kept = kept_but own (rival t.rows ps r (Some own)) refl there kept

  -- the row itself is no rival
  pub own_row : (own : ℕ) → rival t.rows ps r None ≡ Some own → rival t.rows ps r (Some own) ≡ None
  own_row own h = let k = found_key None own h in kept_row own k.0 k.1

  other_but : (own e : ℕ) (o : Option ℕ) → rival t.rows ps r (Some own) ≡ o → own ≢ e → rival t.rows ps r None ≡ Some e → o ≡ Some e
  other_but own e None h ne is_e =
      let f : Found ps r None t.rows e = found ps r None t.next t.rows is.ordered e is_e in
      let no_ : (not (e == own) && is_eq (compare_key ps f.values r)) ≡ false = none_found ps r (Some own) t.rows e f.values h f.there in
      let yes : (not (e == own) && is_eq (compare_key ps f.values r)) ≡ true =
      ap (λ b. not b && is_eq (compare_key ps f.values r)) (is_other e own (λ same. ne (sym same))) ∙ f.is in
      absurd (false≢true (sym no_ ∙ yes))
  other_but own e (Some b) h ne is_e =
      let a = found_key (Some own) b h in
      let k = found_key None e is_e in
      ap Some (one_row b e a.0 k.0 a.1 k.1)

  -- any other is
  pub other_row : (own e : ℕ) → own ≢ e → rival t.rows ps r None ≡ Some e → rival t.rows ps r (Some own) ≡ Some e
  other_row own e ne h = other_but own e (rival t.rows ps r (Some own)) refl ne h
