-- Ranks and neighbours in a list that rises by an order, and the ends of what sorting gives.
-- Cited by `NextLaws`, `PlaceLaws`, `QueryLaws`, `RankLaws`, `WalkLaws`, `mi_container`, `mi_multi` and `mi_plain`.
use Rattle.std.proofs.Common.{◌≡◌, ◌≢◌, ℕ, zero, suc, ◌+◌, ◌<◌, ◌≤◌, Bool, true, false, cond, not, inl, inr, Option}
use Rattle.std.proofs.Common.{Some, None, List, [], ◌∷◌, length, slice_get, refl, ap, sym, ◌∙◌, subst, arith}
use Rattle.std.specs.Prelude.{◌==◌}
use Rattle.std.specs.List.{filter, AllByRecursion}
use Rattle.std.specs.Ordering.{is_lt, ordering_reverse, nat_cmp, on}
use Rattle.std.specs.Cmp.{IsTotalOrder, tied_itself}
use Rattle.std.proofs.lemmas.Cmp.{ranked}
use Rattle.std.proofs.lemmas.Bool.{lt-ltb}
use Rattle.std.proofs.lemmas.Bool.Decides.{eqb_tells}
use Rattle.std.specs.declared.cmp.Ordering.{Ordering}
use Rattle.std.specs.declared.cmp.Ordering.TheVariants.{Less, Equal, Greater}
use Rattle.mi_model.specs.Table.{times}
use Rattle.mi_model.specs.View.{place, sorted}
use Rattle.mi_model.specs.LookUp.{rank_in, before_place}
use Rattle.mi_model.proofs.SortLaws.{both_ways, each, below, Ascends}
use Rattle.mi_model.proofs.StampLaws.{Rises, of_one, times_first}
use Rattle.mi_model.proofs.TableLaws.{count_itself, not_same, lacks_of_count}
use Rattle.mi_model.proofs.ViewLaws.{Lacks}
use Rattle.mi_model.proofs.EraseLaws.{count-shown}
use Rattle.mi_catalog.specs.declared.index.IndexKind.TheVariants.{Ordered}

filter_none : (p : ℕ → Bool) (xs : List ℕ) → AllByRecursion (λ a. p a ≡ false) xs → filter p xs ≡ []
filter_none p [] all = refl
filter_none p (a ∷ xs) all = ap (λ b. cond b (a ∷ filter p xs) (filter p xs)) all.0 ∙ filter_none p xs all.1

filter_yes : (p : ℕ → Bool) (a : ℕ) (xs : List ℕ) → p a ≡ true → filter p (a ∷ xs) ≡ a ∷ filter p xs
filter_yes p a xs is = ap (λ b. cond b (a ∷ filter p xs) (filter p xs)) is

filter_no : (p : ℕ → Bool) (a : ℕ) (xs : List ℕ) → p a ≡ false → filter p (a ∷ xs) ≡ filter p xs
filter_no p a xs isnt = ap (λ b. cond b (a ∷ filter p xs) (filter p xs)) isnt

-- the rank of the first id is 0, and of another one more than without the first
pub rank_first : (e a : ℕ) (xs : List ℕ) → (a == e) ≡ true → rank_in (a ∷ xs) e ≡ 0
rank_first e a xs is = ap (λ b. cond (not b) (1 + rank_in xs e) 0) is

pub rank_next : (e a : ℕ) (xs : List ℕ) → (a == e) ≡ false → rank_in (a ∷ xs) e ≡ 1 + rank_in xs e
rank_next e a xs isnt = ap (λ b. cond (not b) (1 + rank_in xs e) 0) isnt

-- an id that stands behind the first
behind_first : (e a : ℕ) (xs : List ℕ) → (a == e) ≡ false → 0 < times e (a ∷ xs) → 0 < times e xs
behind_first e a xs isnt some = let z : cond {A = ℕ} (a == e) 1 0 ≡ 0 = ap (λ b. cond {A = ℕ} b 1 0) isnt in omega arith

-- an id that stands in a list stands at its rank
pub at_rank : (e : ℕ) (xs : List ℕ) → 0 < times e xs → slice_get xs (rank_in xs e) ≡ Some e
at_rank e [] some = absurd (omega arith)
at_rank e (a ∷ xs) some =
    elim (eqb_tells a e) [
      | inl is ↦ ap (slice_get (a ∷ xs)) (rank_first e a xs is.0) ∙ ap Some is.1
      | inr isnt ↦
          let more : 1 + rank_in xs e ≡ suc (rank_in xs e) = omega arith in
          ap (slice_get (a ∷ xs)) (rank_next e a xs isnt.0 ∙ more) ∙ at_rank e xs (behind_first e a xs isnt.0 some)
    ]

pub rank_within : (e : ℕ) (xs : List ℕ) → 0 < times e xs → rank_in xs e < length xs
rank_within e [] some = absurd (omega arith)
rank_within e (a ∷ xs) some =
    elim (eqb_tells a e) [
      | inl is ↦ let r : rank_in (a ∷ xs) e ≡ 0 = rank_first e a xs is.0 in omega (arith, r)
      | inr isnt ↦
          let r : rank_in (a ∷ xs) e ≡ 1 + rank_in xs e = rank_next e a xs isnt.0 in
          let l : rank_in xs e < length xs = rank_within e xs (behind_first e a xs isnt.0 some) in omega (arith, r, l)
    ]

-- what stands at a place stands in the list
pub stands : (e n : ℕ) (xs : List ℕ) → slice_get xs n ≡ Some e → 0 < times e xs
stands e n [] h = absurd (let k : None ≡ Some e = h in cc)
stands e zero (a ∷ xs) h = let k : Some a ≡ Some e = h in let is : a ≡ e = cc in subst (λ b. 0 < times b (a ∷ xs)) is (times_first a xs)
stands e (suc n) (a ∷ xs) h = let l : 0 < times e xs = stands e n xs h in omega (arith, l)

-- where no id stands twice, the id at place n has the rank n
pub rank_at : (n e : ℕ) (xs : List ℕ) → ((id : ℕ) → times id xs ≤ 1) → slice_get xs n ≡ Some e → rank_in xs e ≡ n
rank_at n e [] once h = absurd (let k : None ≡ Some e = h in cc)
rank_at zero e (a ∷ xs) once h = let k : Some a ≡ Some e = h in let is : a ≡ e = cc in rank_first e a xs (subst (λ b. (a == b) ≡ true) is (count_itself a))
rank_at (suc n) e (a ∷ xs) once h =
    let some : 0 < times e xs = stands e n xs h in
    elim (eqb_tells a e) [
      | inl is ↦ absurd (let o : cond {A = ℕ} (a == e) 1 0 + times e xs ≤ 1 = once e in
          let c : cond {A = ℕ} (a == e) 1 0 ≡ 1 = ap (λ b. cond {A = ℕ} b 1 0) is.0 in
          omega (arith, o, c, some))
      | inr isnt ↦
          let later : rank_in xs e ≡ n = rank_at n e xs (λ id. let o : cond {A = ℕ} (a == id) 1 0 + times id xs ≤ 1 = once id in omega (arith, o)) h in
          let more : 1 + rank_in xs e ≡ suc n = omega (arith, later) in
          rank_next e a xs isnt.0 ∙ more
    ]

less_of : (m n : ℕ) → m < n → nat_cmp m n ≡ Less
less_of m n l = ap (λ b. cond b Less (cond (m == n) Equal Greater)) (lt-ltb m n l)

-- in the order of their places, the ids of a list rise
pub places_rise : (xs : List ℕ) → ((id : ℕ) → times id xs ≤ 1) → Rises (on (rank_in xs) nat_cmp) xs
places_rise [] once = tt
places_rise (a ∷ xs) once =
    let others : Lacks a xs =
    lacks_of_count a xs (let n : cond {A = ℕ} (a == a) 1 0 + times a xs ≤ 1 = once a in
    let c : cond {A = ℕ} (a == a) 1 0 ≡ 1 = ap (λ b. cond {A = ℕ} b 1 0) (count_itself a) in
    omega (arith, n, c)) in (
      each (λ b ne.
          let r : rank_in (a ∷ xs) a ≡ 0 = rank_first a a xs (count_itself a) in
          let q : rank_in (a ∷ xs) b ≡ 1 + rank_in xs b = rank_next b a xs (not_same a b (λ e. ne (sym e))) in
          less_of (rank_in (a ∷ xs) a) (rank_in (a ∷ xs) b) (omega (arith, r, q))) xs others,
      rises_further xs others (places_rise xs (λ id. let n : cond {A = ℕ} (a == id) 1 0 + times id xs ≤ 1 = once id in omega (arith, n))),
    )
  where
    further : (b c : ℕ) → b ≢ a → c ≢ a → nat_cmp (rank_in xs b) (rank_in xs c) ≡ Less → nat_cmp (rank_in (a ∷ xs) b) (rank_in (a ∷ xs) c) ≡ Less
    further b c nb nc l =
        let q : rank_in (a ∷ xs) b ≡ 1 + rank_in xs b = rank_next b a xs (not_same a b (λ e. nb (sym e))) in
        let r : rank_in (a ∷ xs) c ≡ 1 + rank_in xs c = rank_next c a xs (not_same a c (λ e. nc (sym e))) in
        let k : rank_in xs b < rank_in xs c = ranked (rank_in xs b) (rank_in xs c) Less (sym l) in
        less_of (rank_in (a ∷ xs) b) (rank_in (a ∷ xs) c) (omega (arith, q, r, k))

    all_further : (b : ℕ) → b ≢ a → (ys : List ℕ) → Lacks a ys → AllByRecursion (λ c. nat_cmp (rank_in xs b) (rank_in xs c) ≡ Less) ys
        → AllByRecursion (λ c. nat_cmp (rank_in (a ∷ xs) b) (rank_in (a ∷ xs) c) ≡ Less) ys
    all_further b nb [] others all = tt
    all_further b nb (c ∷ ys) others all = (further b c nb others.0 all.0, all_further b nb ys others.1 all.1)

    rises_further : (ys : List ℕ) → Lacks a ys → Rises (on (rank_in xs) nat_cmp) ys → Rises (on (rank_in (a ∷ xs)) nat_cmp) ys
    rises_further [] others up = tt
    rises_further (b ∷ ys) others up = (all_further b others.0 ys others.1 up.0, rises_further ys others.1 up.1)

module _ {order : ℕ → ℕ → Ordering} (o : IsTotalOrder order) where
  itself : (a e : ℕ) → a ≡ e → is_lt (order a e) ≡ false
  itself a e is = subst (λ b. is_lt (order a b) ≡ false) is (ap is_lt (tied_itself o a))

  turned : (a e : ℕ) → order a e ≡ Less → order e a ≡ Greater
  turned a e l = o.antisymm e a ∙ ap ordering_reverse l

  later_than : (e a : ℕ) (xs : List ℕ) → a ≡ e → AllByRecursion (λ b. order a b ≡ Less) xs → AllByRecursion (λ b. order e b ≡ Less) xs
  later_than e a xs is all = subst (λ k. AllByRecursion (λ b. order k b ≡ Less) xs) is all

  -- the rank of an id is how many are before it
  pub rank_counts : (e : ℕ) (xs : List ℕ) → Rises order xs → 0 < times e xs → length (filter (λ a. is_lt (order a e)) xs) ≡ rank_in xs e
  rank_counts e [] up some = absurd (omega arith)
  rank_counts e (a ∷ xs) up some =
      elim (eqb_tells a e) [
        | inl is ↦
            ap length (filter_no (λ a. is_lt (order a e)) a xs (itself a e is.1)
            ∙ filter_none (λ a. is_lt (order a e)) xs (each (λ b l. ap is_lt (turned e b l)) xs (later_than e a xs is.1 up.0)))
            ∙ sym (rank_first e a xs is.0)
        | inr isnt ↦
            let there : 0 < times e xs = behind_first e a xs isnt.0 some in
            let ih : length (filter (λ a. is_lt (order a e)) xs) ≡ rank_in xs e = rank_counts e xs up.1 there in
            let more : suc (length (filter (λ a. is_lt (order a e)) xs)) ≡ 1 + rank_in xs e = omega (arith, ih) in
            ap length (filter_yes (λ a. is_lt (order a e)) a xs (ap is_lt (of_one (λ b. order a b ≡ Less) e xs up.0 there)))
            ∙ more ∙ sym (rank_next e a xs isnt.0)
      ]

  -- and one more than that are not behind it
  pub rank_counts_itself : (e : ℕ) (xs : List ℕ) → Rises order xs → 0 < times e xs → length (filter (λ a. not (is_lt (order e a))) xs) ≡ rank_in xs e + 1
  rank_counts_itself e [] up some = absurd (omega arith)
  rank_counts_itself e (a ∷ xs) up some =
      elim (eqb_tells a e) [
        | inl is ↦
            ap length (filter_yes (λ a. not (is_lt (order e a))) a xs (ap not (itself e a (sym is.1))))
            ∙ ap (λ ys. length (a ∷ ys)) (filter_none (λ a. not (is_lt (order e a))) xs
            (each (λ b l. ap (λ r. not (is_lt r)) l) xs (later_than e a xs is.1 up.0)))
            ∙ ap (λ n. n + 1) (sym (rank_first e a xs is.0))
        | inr isnt ↦
            let there : 0 < times e xs = behind_first e a xs isnt.0 some in
            let ih : length (filter (λ a. not (is_lt (order e a))) xs) ≡ rank_in xs e + 1 = rank_counts_itself e xs up.1 there in
            let more : suc (length (filter (λ a. not (is_lt (order e a))) xs)) ≡ 1 + rank_in xs e + 1 = omega (arith, ih) in
            ap length (filter_yes (λ a. not (is_lt (order e a))) a xs (ap (λ r. not (is_lt r)) (turned a e (of_one (λ b. order a b ≡ Less) e xs up.0 there))))
            ∙ more ∙ ap (λ n. n + 1) (sym (rank_next e a xs isnt.0))
      ]

  -- what holds of an id holds of each id before it
  abbrev pub HoldsBefore : (ℕ → Bool) → Type 0
  HoldsBefore p = (a b : ℕ) → order a b ≡ Less → p b ≡ true → p a ≡ true

  none_behind : (p : ℕ → Bool) → HoldsBefore p → (a : ℕ) (xs : List ℕ) → p a ≡ false
      → AllByRecursion (λ b. order a b ≡ Less) xs → AllByRecursion (λ b. p b ≡ false) xs
  none_behind p holds a xs isnt all = each
      (λ b l. both_ways (p b) (λ yes. absurd (let h : p a ≡ true = holds a b l yes in let k : true ≡ false = sym h ∙ isnt in cc)) (λ no. no)) xs all

  -- the first for which it doesn't hold has as many before it as there are for which it does
  pub first_past : (p : ℕ → Bool) → HoldsBefore p → (xs : List ℕ) → Rises order xs
      → slice_get (filter (λ a. not (p a)) xs) 0 ≡ slice_get xs (length (filter p xs))
  first_past p holds [] up = refl
  first_past p holds (a ∷ xs) up =
      both_ways (p a)
      (λ yes. ap (λ ys. slice_get ys 0) (filter_no (λ a. not (p a)) a xs (ap not yes))
      ∙ first_past p holds xs up.1 ∙ ap (λ ys. slice_get (a ∷ xs) (length ys)) (sym (filter_yes p a xs yes)))
      (λ isnt. ap (λ ys. slice_get ys 0) (filter_yes (λ a. not (p a)) a xs (ap not isnt))
      ∙ ap (λ ys. slice_get (a ∷ xs) (length ys)) (sym (filter_no p a xs isnt ∙ filter_none p xs (none_behind p holds a xs isnt up.0))))

  one_further : (a n : ℕ) (xs ys : List ℕ) → before_place xs n ≡ before_place ys n → slice_get (a ∷ xs) n ≡ slice_get (a ∷ ys) n
  one_further a zero xs ys h = refl
  one_further a (suc n) xs ys h = h

  -- the last for which it holds stands there too
  pub last_before : (p : ℕ → Bool) → HoldsBefore p → (xs : List ℕ) → Rises order xs
      → before_place (filter p xs) (length (filter p xs)) ≡ before_place xs (length (filter p xs))
  last_before p holds [] up = refl
  last_before p holds (a ∷ xs) up =
      both_ways (p a)
      (λ yes. ap (λ ys. before_place ys (length ys)) (filter_yes p a xs yes)
      ∙ one_further a (length (filter p xs)) (filter p xs) xs (last_before p holds xs up.1)
      ∙ ap (λ ys. before_place (a ∷ xs) (length ys)) (sym (filter_yes p a xs yes)))
      (λ isnt.
      let none : filter p (a ∷ xs) ≡ [] = filter_no p a xs isnt ∙ filter_none p xs (none_behind p holds a xs isnt up.0) in
      ap (λ ys. before_place ys (length ys)) none ∙ ap (λ ys. before_place (a ∷ xs) (length ys)) (sym none))

-- the one of two that goes first, or last; of equals the new one goes last
abbrev pub sooner : (ℕ → ℕ → Ordering) → ℕ → Option ℕ → Option ℕ
sooner order e None = Some e
sooner order e (Some b) = cond (is_lt (order e b)) (Some e) (Some b)

abbrev pub later : (ℕ → ℕ → Ordering) → ℕ → Option ℕ → Option ℕ
later order e None = Some e
later order e (Some b) = cond (is_lt (order e b)) (Some b) (Some e)

pub first-place : (order : ℕ → ℕ → Ordering) (e : ℕ) (ids : List ℕ) → slice_get (place order e ids) 0 ≡ sooner order e (slice_get ids 0)
first-place order e [] = refl
first-place order e (a ∷ ids) = elim (is_lt (order e a))
    as (λ b. slice_get (cond b (e ∷ a ∷ ids) (a ∷ place order e ids)) 0 ≡ cond b (Some e) (Some a)) [ true ↦ refl | false ↦ refl ]

-- the last of a list
abbrev pub last_in : List ℕ → Option ℕ
last_in ids = before_place ids (length ids)

length-place : (order : ℕ → ℕ → Ordering) (e : ℕ) (ids : List ℕ) → length (place order e ids) ≡ suc (length ids)
length-place order e [] = refl
length-place order e (a ∷ ids) = elim (is_lt (order e a)) as (λ b. length (cond b (e ∷ a ∷ ids) (a ∷ place order e ids)) ≡ suc (suc (length ids))) [
  | true ↦ refl
  | false ↦ ap suc (length-place order e ids)
]

last_behind : (a : ℕ) (ids : List ℕ) → 0 < length ids → last_in (a ∷ ids) ≡ last_in ids
last_behind a [] some = absurd (omega arith)
last_behind a (b ∷ ids) some = refl

-- what holds of all holds of the last
last_holds : (P : ℕ → Type 0) (a : ℕ) (ids : List ℕ) → P a → AllByRecursion P ids → (l : ℕ) × (last_in (a ∷ ids) ≡ Some l) × P l
last_holds P a [] p all = (a, refl, p)
last_holds P a (b ∷ ids) p all = last_holds P b ids all.0 all.1

module _ {order : ℕ → ℕ → Ordering} (o : IsTotalOrder order) where
  pub last-place : (e : ℕ) (ids : List ℕ) → Ascends order ids → last_in (place order e ids) ≡ later order e (last_in ids)
  last-place e [] up = refl
  last-place e (a ∷ ids) up =
      both_ways (is_lt (order e a))
      (λ before.
      let l = last_holds (λ b. is_lt (order e b) ≡ true) a ids before (each (λ b n. below o e a b before n) ids up.0) in
      ap (λ b. last_in (cond b (e ∷ a ∷ ids) (a ∷ place order e ids))) before ∙ l.1 ∙ sym (ap (later order e) l.1 ∙ ap (λ b. cond b (Some l.0) (Some e)) l.2))
      (λ isnt. ap (λ b. last_in (cond b (e ∷ a ∷ ids) (a ∷ place order e ids))) isnt
      ∙ last_behind a (place order e ids) (let n : length (place order e ids) ≡ suc (length ids) = length-place order e ids in omega (arith, n))
      ∙ last-place e ids up.1 ∙ one_or_more e a ids isnt)
    where
      one_or_more : (e a : ℕ) (ids : List ℕ) → is_lt (order e a) ≡ false → later order e (last_in ids) ≡ later order e (last_in (a ∷ ids))
      one_or_more e a [] isnt = sym (ap (λ b. cond b (Some a) (Some e)) isnt)
      one_or_more e a (b ∷ ids) isnt = refl

times_filter : (id : ℕ) (ids : List ℕ) → times id ids ≡ length (filter (λ a. a == id) ids)
times_filter id [] = refl
times_filter id (a ∷ ids) =
    let n : times id ids ≡ length (filter (λ a. a == id) ids) = times_filter id ids in
    elim (a == id) as (λ b. cond b 1 0 + times id ids ≡ length (cond b (a ∷ filter (λ a. a == id) ids) (filter (λ a. a == id) ids))) [
      | true ↦ omega (arith, n)
      | false ↦ omega (arith, n)
    ]

-- sorting keeps how many pass a test, and how often an id stands
pub count-sorted : (p : ℕ → Bool) (order : ℕ → ℕ → Ordering) (ids : List ℕ) → length (filter p (sorted order ids)) ≡ length (filter p ids)
count-sorted p order ids = count-shown p Ordered order ids

pub times-sorted : (id : ℕ) (order : ℕ → ℕ → Ordering) (ids : List ℕ) → times id (sorted order ids) ≡ times id ids
times-sorted id order ids = times_filter id (sorted order ids) ∙ count-sorted (λ a. a == id) order ids ∙ sym (times_filter id ids)
