-- Places in a list of distinct ids, and that an index shows each record of its table once.
-- Cited by `NextLaws`, `QueryLaws`, `RankLaws`, `WalkLaws`, `mi_container`, `mi_database`, `mi_multi`, `mi_plain` and `mi_query`.
use Rattle.std.proofs.Common.{◌≡◌, ◌≢◌, ℕ, ◌+◌, ◌-◌, ◌<◌, ◌≤◌, zero, suc, Bool, true, false, cond, not}
use Rattle.std.proofs.Common.{inl, inr, List, [], ◌∷◌, length, reverse, refl, ap, sym, ◌∙◌, subst, arith}
use Rattle.std.specs.Prelude.{◌==◌, slice_get, IsTrue}
use Rattle.std.specs.List.{filter, AllByRecursion}
use Rattle.std.specs.Option.{is_some}
use Rattle.std.specs.Map.{lookup}
use Rattle.std.specs.declared.cmp.Ordering.{Ordering}
use Rattle.std.specs.declared.option.Option.TheVariants.{None, Some}
use Rattle.std.proofs.lemmas.Bool.Decides.{eqb_tells}
use Rattle.std.proofs.lemmas.Bool.{cases_lt}
use Rattle.std.proofs.lemmas.List.{get_or-reverse, get_or_past, length-reverse}
use Rattle.std.proofs.lemmas.Option.{slice_get_within, slice_get_past, slice_get-get_or}
use Rattle.mi_catalog.specs.declared.index.Index.{Index}
use Rattle.mi_catalog.specs.declared.index.IndexKind.{IndexKind}
use Rattle.mi_catalog.specs.declared.index.IndexKind.TheVariants.{Ordered, Ranked, Hashed, Sequenced}
use Rattle.mi_catalog.specs.Shape.{Shape, index_at}
use Rattle.mi_catalog.specs.Key.{Row}
use Rattle.mi_model.specs.Table.{Table, has, size, list_of, Rise, times, ListsEach, IsTable}
use Rattle.mi_model.specs.View.{shown, view}
use Rattle.mi_catalog.specs.Kinds.{is_sorted, shows_one_list}
use Rattle.mi_model.specs.Change.{without}
use Rattle.mi_model.specs.LookUp.{rank_in, after_in, before_place, before_in}
use Rattle.mi_model.proofs.LookUpLaws.{stands, rank_at, times-sorted}
use Rattle.mi_model.proofs.TableLaws.{all_get, count_itself}

-- no id stands in the list twice
abbrev pub IsOnce : List ℕ → Type 0
IsOnce ids = (id : ℕ) → times id ids ≤ 1

-- the id after the one at a place stands at the next
pub after_at : (ids : List ℕ) → IsOnce ids → (k e : ℕ) → slice_get ids k ≡ Some e → after_in ids e ≡ slice_get ids (k + 1)
after_at ids once k e at = ap (λ r. slice_get ids (r + 1)) (rank_at k e ids once at)

pub slice_get-reverse : (ids : List ℕ) (k : ℕ) → k < length ids → slice_get (reverse ids) k ≡ slice_get ids (length ids - 1 - k)
slice_get-reverse ids k l =
    slice_get-get_or (reverse ids) k 0 (subst (λ n. k < n) (sym (length-reverse ids)) l)
    ∙ ap Some (get_or-reverse ids k 0 l)
    ∙ sym (slice_get-get_or ids (length ids - 1 - k) 0 (omega arith))

pub before_first : (ids : List ℕ) (e : ℕ) → rank_in ids e ≡ 0 → before_in ids e ≡ None
before_first ids e is = ap (before_place ids) is

pub before_other : (ids : List ℕ) (e n : ℕ) → rank_in ids e ≡ suc n → before_in ids e ≡ slice_get ids n
before_other ids e n is = ap (before_place ids) is

-- the id before the one at a place of the reversed list stands there at the next
pub before_at : (ids : List ℕ) → IsOnce ids → (k e : ℕ) → slice_get (reverse ids) k ≡ Some e → before_in ids e ≡ slice_get (reverse ids) (k + 1)
before_at ids once k e at =
    let same : length (reverse ids) ≡ length ids = length-reverse ids in
    let within : k < length (reverse ids) = slice_get_within (reverse ids) k e at in
    let inside : k < length ids = omega arith in
    let place : rank_in ids e ≡ length ids - 1 - k = rank_at (length ids - 1 - k) e ids once (sym (slice_get-reverse ids k inside) ∙ at) in
    elim (length ids - 1 - k) as (λ n. length ids - 1 - k ≡ n → before_in ids e ≡ slice_get (reverse ids) (k + 1)) [
      | zero ↦ λ is. before_first ids e (place ∙ is) ∙ sym (slice_get_past (reverse ids) (k + 1) (omega arith))
      | suc n ↦ λ is.
          let next : k + 1 < length ids = omega arith in
          let back : n ≡ length ids - 1 - (k + 1) = omega arith in
          before_other ids e n (place ∙ is) ∙ ap (slice_get ids) back ∙ sym (slice_get-reverse ids (k + 1) next)
    ] refl

-- a filter keeps ids distinct
pub times-filter-le : (p : ℕ → Bool) (id : ℕ) (ids : List ℕ) → times id (filter p ids) ≤ times id ids
times-filter-le p id [] = omega arith
times-filter-le p id (a ∷ ids) =
    let rest : times id (filter p ids) ≤ times id ids = times-filter-le p id ids in
    elim (p a) as (λ b. times id (cond b (a ∷ filter p ids) (filter p ids)) ≤ times id (a ∷ ids)) [
      | true ↦ omega arith
      | false ↦ omega arith
    ]

pub once-filter : (p : ℕ → Bool) (ids : List ℕ) → IsOnce ids → IsOnce (filter p ids)
once-filter p ids once id =
    let less : times id (filter p ids) ≤ times id ids = times-filter-le p id ids in
    let most : times id ids ≤ 1 = once id in
    omega arith

-- what an index shows has each id as often as its list
times-shown : (id : ℕ) (kind : IndexKind) (order : ℕ → ℕ → Ordering) (ids : List ℕ) → times id (shown kind order ids) ≡ times id ids
times-shown id Ordered order ids = times-sorted id order ids
times-shown id Ranked order ids = times-sorted id order ids
times-shown id Hashed order ids = refl
times-shown id Sequenced order ids = refl

filter_all : (ids : List ℕ) → filter (λ _. true) ids ≡ ids
filter_all [] = refl
filter_all (a ∷ ids) = ap (λ rest. a ∷ rest) (filter_all ids)

-- each index shows each record of its table once and nothing else
pub each_in_view : (s : Shape) (t : Table) (x : ℕ) → IsTable s t → x < length s.indexes → ListsEach t (view s t x)
each_in_view s t x is within id =
    times-shown id (index_at s x).kind _ (list_of t x)
    ∙ all_get (ListsEach t) t.lists x is.complete (subst (λ n. x < n) (sym is.one_each) within) id

pub once_of_each : (t : Table) (ids : List ℕ) → ListsEach t ids → IsOnce ids
once_of_each t ids each id =
    elim (has t id) as (λ b. times id ids ≡ cond {A = ℕ} b 1 0 → times id ids ≤ 1) [
      | true ↦ λ is. omega arith
      | false ↦ λ is. omega arith
    ] (each id)

-- an id that is listed is there
pub there_of_each : (t : Table) (ids : List ℕ) → ListsEach t ids → (id : ℕ) → 0 < times id ids → has t id ≡ true
there_of_each t ids each id some =
    let is : times id ids ≡ cond {A = ℕ} (has t id) 1 0 = each id in
    elim (has t id) as (λ b. times id ids ≡ cond {A = ℕ} b 1 0 → b ≡ true) [
      | true ↦ λ _. refl
      | false ↦ λ none. absurd (omega arith)
    ] is

pub there_at : (t : Table) (ids : List ℕ) → ListsEach t ids → (k e : ℕ) → slice_get ids k ≡ Some e → has t e ≡ true
there_at t ids each k e at = there_of_each t ids each e (stands e k ids at)

length-without : (e : ℕ) (ids : List ℕ) → length ids ≡ times e ids + length (without e ids)
length-without e [] = refl
length-without e (a ∷ ids) =
    let rest : length ids ≡ times e ids + length (without e ids) = length-without e ids in
    elim (a == e) as (λ b. suc (length ids) ≡ (cond {A = ℕ} b 1 0 + times e ids) + length (cond (not b) (a ∷ without e ids) (without e ids))) [
      | true ↦ omega arith
      | false ↦ omega arith
    ]

times-without_same : (e : ℕ) (ids : List ℕ) → times e (without e ids) ≡ 0
times-without_same e [] = refl
times-without_same e (a ∷ ids) =
    elim (a == e) as (λ b. a == e ≡ b → times e (cond (not b) (a ∷ without e ids) (without e ids)) ≡ 0) [
      | true ↦ λ _. times-without_same e ids
      | false ↦ λ isnt. ap (λ b. cond {A = ℕ} b 1 0 + times e (without e ids)) isnt
          ∙ (let rest : times e (without e ids) ≡ 0 = times-without_same e ids in omega arith)
    ] refl

times-without_other : (id e : ℕ) (ids : List ℕ) → id ≢ e → times id (without e ids) ≡ times id ids
times-without_other id e [] ne = refl
times-without_other id e (a ∷ ids) ne =
    elim (eqb_tells a e) [
      | inl is ↦
          ap (λ b. times id (cond (not b) (a ∷ without e ids) (without e ids))) is.0
          ∙ (let rest : times id (without e ids) ≡ times id ids = times-without_other id e ids ne in
          let other : cond {A = ℕ} (a == id) 1 0 ≡ 0 = ap (λ b. cond {A = ℕ} b 1 0) (isnt_same a id (λ same. ne (sym same ∙ is.1))) in
          omega arith)
      | inr isnt ↦
          ap (λ b. times id (cond (not b) (a ∷ without e ids) (without e ids))) isnt.0
          ∙ ap (λ n. cond {A = ℕ} (a == id) 1 0 + n) (times-without_other id e ids ne)
    ]
  where
    isnt_same : (a id : ℕ) → a ≢ id → (a == id) ≡ false
    isnt_same a id ne = elim (eqb_tells a id) [ inl is ↦ absurd (ne is.1) | inr isnt ↦ isnt.0 ]

absent_behind : (e : ℕ) (rows : List Row) → AllByRecursion (λ q. e < q.0) rows → lookup (λ k. k == e) rows ≡ None
absent_behind e [] all = refl
absent_behind e (r ∷ rows) all =
    elim (eqb_tells r.0 e) [
      | inl is ↦ absurd (let less : e < r.0 = all.0 in let same : r.0 ≡ e = is.1 in omega arith)
      | inr isnt ↦ ap (λ b. cond b (Some r.1) (lookup (λ k. k == e) rows)) isnt.0 ∙ absent_behind e rows all.1
    ]

-- whether a row has the id, as a number
abbrev pub here : ℕ → List Row → ℕ
here id rows = cond {A = ℕ} (is_some (lookup (λ k. k == id) rows)) 1 0

pub here_behind : (id : ℕ) (r : Row) (rows : List Row) → AllByRecursion (λ q. r.0 < q.0) rows → (ids : List ℕ) → times id ids ≡ here id (r ∷ rows)
    → times id (without r.0 ids) ≡ here id rows
here_behind id r rows all ids is =
    elim (eqb_tells r.0 id) [
      | inl same ↦
          subst (λ a. times a (without r.0 ids) ≡ here a rows) same.1
          (times-without_same r.0 ids ∙ sym (ap (λ o. cond {A = ℕ} (is_some o) 1 0) (absent_behind r.0 rows all)))
      | inr isnt ↦
          times-without_other id r.0 ids (λ same. isnt.1 (sym same)) ∙ is
          ∙ ap (λ b. cond {A = ℕ} (is_some (cond b (Some r.1) (lookup (λ k. k == id) rows))) 1 0) isnt.0
    ]

length_each : (next : ℕ) (rows : List Row) → Rise next rows → (ids : List ℕ) → ((id : ℕ) → times id ids ≡ here id rows) → length ids ≡ length rows
length_each next [] up [] each = refl
length_each next [] up (a ∷ ids) each = absurd
    (let some : 0 < times a (a ∷ ids) = stands a 0 (a ∷ ids) refl in let none : times a (a ∷ ids) ≡ 0 = each a in omega arith)
length_each next (r ∷ rows) up ids each =
    let one : times r.0 ids ≡ 1 = each r.0 ∙ ap (λ b. cond {A = ℕ} (is_some (cond b (Some r.1) (lookup (λ k. k == r.0) rows))) 1 0) (count_itself r.0) in
    let rest : length (without r.0 ids) ≡ length rows = length_each next rows up.2 (without r.0 ids) (λ id. here_behind id r rows up.1 ids (each id)) in
    let all : length ids ≡ times r.0 ids + length (without r.0 ids) = length-without r.0 ids in
    omega arith

-- what an index shows is as long as its table
pub length-view : (s : Shape) (t : Table) (x : ℕ) → IsTable s t → x < length s.indexes → length (view s t x) ≡ size t
length-view s t x is within = length_each t.next t.rows is.ordered (view s t x) (each_in_view s t x is within)

-- an index of one list is one of the schema's
pub listed_within : (s : Shape) (x : ℕ) → IsTrue (shows_one_list (index_at s x).kind) → x < length s.indexes
listed_within s x is =
    elim (cases_lt x (length s.indexes)) [
      | inl within ↦ within
      | inr past ↦ absurd
          (let none : shows_one_list (index_at s x).kind ≡ false = ap (λ (i : Index). shows_one_list i.kind) (get_or_past s.indexes x _ past) in cc)
    ]

-- a sorted index shows one list
pub sorted_listed : (kind : IndexKind) → IsTrue (is_sorted kind) → IsTrue (shows_one_list kind)
sorted_listed Ordered is = refl
sorted_listed Ranked is = refl
sorted_listed Hashed is = absurd (cc)
sorted_listed Sequenced is = absurd (cc)
