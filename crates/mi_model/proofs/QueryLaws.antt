-- Look-ups and ranges over what a sorted index shows: the ids between two bounds stand between two ranks.
-- Cited by `NextLaws`, `mi_multi` and `mi_plain`.
use Rattle.std.proofs.Common.{◌≡◌, ℕ, ◌-◌, ◌<◌, ◌≤◌, zero, suc, Bool, true, false, cond, not, ◌&&◌, ◌≢◌, inl}
use Rattle.std.proofs.Common.{inr, min, get_or, List, [], ◌∷◌, length, take, drop, reverse, refl, ap, sym, ◌∙◌, arith}
use Rattle.std.specs.Prelude.{slice_get, IsTrue}
use Rattle.std.specs.List.{filter, count_by, AllByRecursion}
use Rattle.std.specs.Ordering.{is_lt, is_le, is_gt, is_ge, is_eq, ordering_reverse}
use Rattle.std.specs.Cmp.{IsTotalOrder}
use Rattle.std.specs.declared.cmp.Ordering.{Ordering}
use Rattle.std.specs.declared.cmp.Ordering.TheVariants.{Less, Equal, Greater}
use Rattle.std.specs.declared.option.Option.TheVariants.{None, Some}
use Rattle.std.proofs.Math.Seq.{drop-nil}
use Rattle.std.proofs.lemmas.Bool.{cases_lt}
use Rattle.std.proofs.lemmas.List.{length-drop, length-take, take_all, drop_all}
use Rattle.std.proofs.lemmas.Option.{slice_get-get_or}
use Rattle.std.proofs.lemmas.List.Sums.{length-filter, count_by-le-length}
use Rattle.mi_value.specs.declared.value.Value.{Value}
use Rattle.mi_value.specs.declared.bound.Lower.{Lower}
use Rattle.mi_value.specs.declared.bound.Lower.TheVariants as lower
use Rattle.mi_value.specs.declared.bound.Upper.{Upper}
use Rattle.mi_value.specs.declared.bound.Upper.TheVariants as upper
use Rattle.mi_catalog.specs.declared.index.Index.{Index}
use Rattle.mi_catalog.specs.declared.index.IndexKind.{IndexKind}
use Rattle.mi_catalog.specs.declared.index.IndexKind.TheVariants.{Ordered, Ranked, Hashed, Sequenced}
use Rattle.mi_catalog.specs.Shape.{Shape, index_at}
use Rattle.mi_model.specs.Table.{Table, list_of}
use Rattle.mi_model.specs.View.{compare_ids, compare_to_id, shown, view, of_key}
use Rattle.mi_catalog.specs.Kinds.{is_sorted}
use Rattle.mi_model.specs.LookUp as look
use Rattle.mi_model.specs.LookUp.{rank_in}
use Rattle.mi_model.specs.Page.{meets_lower, meets_upper, between, ids_up, ids_down}
use Rattle.mi_model.proofs.SortLaws.{Ascends, ascends_sorted, each, both_ways}
use Rattle.mi_model.proofs.ViewLaws.{compare_ids_total}
use Rattle.mi_model.proofs.LookUpLaws.{rank_at}
use Rattle.mi_model.proofs.PrefixLaws.{NotBelow, key_falls}
use Rattle.mi_model.proofs.PlaceLaws.{IsOnce}

-- what a key is to a record, and to one that doesn't stand before it: less stays less, and not greater stays not greater
abbrev pub Falls : Ordering → Ordering → Type 0
Falls o later = (is_lt o ≡ true → is_lt later ≡ true) × (is_le o ≡ true → is_le later ≡ true)

falls_of : (o later : Ordering) → NotBelow o later → Falls o later
falls_of Less later n = (λ _. ap is_lt (n.1 refl), λ _. ap is_le (n.1 refl))
falls_of Equal Less n = (λ _. refl, λ _. refl)
falls_of Equal Equal n = (λ h. h, λ h. h)
falls_of Equal Greater n = absurd (let same : Equal ≡ Greater = n.0 refl in cc)
falls_of Greater later n = (λ h. absurd (cc), λ h. absurd (cc))

not_above : (o : Ordering) → is_lt o ≡ false → is_gt (ordering_reverse o) ≡ false
not_above Less h = absurd (cc)
not_above Equal h = refl
not_above Greater h = refl

-- along ascending ids a key that is looked for falls
falls_along : (i : Index) (t : Table) (key : List Value) (a b : ℕ)
    → is_lt (compare_ids i t b a) ≡ false → Falls (compare_to_id i t key a) (compare_to_id i t key b)
falls_along i t key a b up =
    let total : IsTotalOrder (compare_ids i t) = compare_ids_total i t in
    falls_of (compare_to_id i t key a) (compare_to_id i t key b)
    (key_falls i t key a b (ap is_gt (total.antisymm a b) ∙ not_above (compare_ids i t b a) up))

-- what a sorted index shows ascends
shown_ascends : (kind : IndexKind) (order : ℕ → ℕ → Ordering) → IsTotalOrder order
    → (ids : List ℕ) → IsTrue (is_sorted kind) → Ascends order (shown kind order ids)
shown_ascends Ordered order total ids is = ascends_sorted total ids
shown_ascends Ranked order total ids is = ascends_sorted total ids
shown_ascends Hashed order total ids is = absurd (cc)
shown_ascends Sequenced order total ids is = absurd (cc)

pub view_ascends : (s : Shape) (t : Table) (x : ℕ) → IsTrue (is_sorted (index_at s x).kind) → Ascends (compare_ids (index_at s x) t) (view s t x)
view_ascends s t x is = shown_ascends (index_at s x).kind _ (compare_ids_total (index_at s x) t) (list_of t x) is

none_pass : (p : ℕ → Bool) (ids : List ℕ) → AllByRecursion (λ b. p b ≡ false) ids → filter p ids ≡ []
none_pass p [] all = refl
none_pass p (a ∷ ids) all = ap (λ b. cond b (a ∷ filter p ids) (filter p ids)) all.0 ∙ none_pass p ids all.1

-- tests that agree keep the same ids
pub filter_like : (p q : ℕ → Bool) → ((a : ℕ) → p a ≡ q a) → (ids : List ℕ) → filter p ids ≡ filter q ids
filter_like p q same [] = refl
filter_like p q same (a ∷ ids) =
    ap (λ b. cond b (a ∷ filter p ids) (filter p ids)) (same a) ∙ ap (λ rest. cond (q a) (a ∷ rest) rest) (filter_like p q same ids)

all_pass : (p : ℕ → Bool) (ids : List ℕ) → AllByRecursion (λ b. p b ≡ true) ids → filter (λ b. not (p b)) ids ≡ []
all_pass p ids all = none_pass (λ b. not (p b)) ids (each (λ b yes. ap not yes) ids all)

-- of ascending ids those that pass q to the end and p from the start are a segment
module _ (order : ℕ → ℕ → Ordering) (q p : ℕ → Bool)
    (stays : (a b : ℕ) → is_lt (order b a) ≡ false → q a ≡ true → q b ≡ true)
    (began : (a b : ℕ) → is_lt (order b a) ≡ false → p b ≡ true → p a ≡ true) where
  failed : (a b : ℕ) → is_lt (order b a) ≡ false → p a ≡ false → p b ≡ false
  failed a b up fails = both_ways (p b) (λ yes. absurd (let was : p a ≡ true = began a b up yes in cc)) (λ isnt. isnt)

  step : (a : ℕ) (ids : List ℕ) → AllByRecursion (λ b. is_lt (order b a) ≡ false) ids
      → filter (λ id. q id && p id) ids ≡ drop (length (filter (λ id. not (q id)) ids)) (take (length (filter p ids)) ids)
      → (b c : Bool) → p a ≡ b → q a ≡ c
      → cond (c && b) (a ∷ filter (λ id. q id && p id) ids) (filter (λ id. q id && p id) ids)
      ≡ drop (length (cond (not c) (a ∷ filter (λ id. not (q id)) ids) (filter (λ id. not (q id)) ids)))
      (take (length (cond b (a ∷ filter p ids) (filter p ids))) (a ∷ ids))
  step a ids up rest true true e f =
      let none : filter (λ id. not (q id)) ids ≡ [] = all_pass q ids (each (λ b n. stays a b n f) ids up) in
      ap (λ xs. a ∷ xs) (rest ∙ ap (λ (xs : List ℕ). drop (length xs) (take (length (filter p ids)) ids)) none)
      ∙ sym (ap (λ (xs : List ℕ). drop (length xs) (take (suc (length (filter p ids))) (a ∷ ids))) none)
  step a ids up rest true false e f = rest
  step a ids up rest false c e f =
      let later : AllByRecursion (λ b. p b ≡ false) ids = each (λ b n. failed a b n e) ids up in
      let none : filter p ids ≡ [] = none_pass p ids later in
      let neither : filter (λ id. q id && p id) ids ≡ [] = none_pass (λ id. q id && p id) ids (each (λ b no. and_no (q b) (p b) no) ids later) in
      ap (λ b. cond b (a ∷ filter (λ id. q id && p id) ids) (filter (λ id. q id && p id) ids)) (and_no c false refl)
      ∙ neither
      ∙ sym (drop-nil _)
      ∙ sym (ap (λ (xs : List ℕ). drop (length (cond (not c) (a ∷ filter (λ id. not (q id)) ids) (filter (λ id. not (q id)) ids))) (take (length xs) (a ∷ ids)))
      none)
    where
      and_no : (b c : Bool) → c ≡ false → (b && c) ≡ false
      and_no true c fails = fails
      and_no false c fails = refl

  segment_of : (ids : List ℕ) → Ascends order ids
      → filter (λ id. q id && p id) ids ≡ drop (length (filter (λ id. not (q id)) ids)) (take (length (filter p ids)) ids)
  segment_of [] up = sym (drop-nil 0)
  segment_of (a ∷ ids) up = step a ids up.0 (segment_of ids up.1) (p a) (q a) refl refl

  segment : (ids : List ℕ) → Ascends order ids
      → filter (λ id. q id && p id) ids ≡ drop (count_by (λ id. not (q id)) ids) (take (count_by p ids) ids)
  segment ids up =
      segment_of ids up
      ∙ ap (λ n. drop n (take (length (filter p ids)) ids)) (length-filter (λ id. not (q id)) ids)
      ∙ ap (λ n. drop (count_by (λ id. not (q id)) ids) (take n ids)) (length-filter p ids)

-- a page's bounds along ascending keys
low_stays : (i : Index) (t : Table) (low : Lower) (a b : ℕ) → is_lt (compare_ids i t b a) ≡ false → meets_lower i t low a ≡ true → meets_lower i t low b ≡ true
low_stays i t lower.All a b up h = refl
low_stays i t (lower.From key) a b up h = (falls_along i t key a b up).1 h
low_stays i t (lower.Beyond key) a b up h = (falls_along i t key a b up).0 h

back_ge : (o later : Ordering) → Falls o later → is_ge later ≡ true → is_ge o ≡ true
back_ge Less later f h = absurd (let less : is_lt later ≡ true = f.0 refl in
    elim later as (λ l. is_lt l ≡ true → is_ge l ≡ true → ⊥) [ Less ↦ λ x y. cc | Equal ↦ λ x y. cc | Greater ↦ λ x y. cc ] less h)
back_ge Equal later f h = refl
back_ge Greater later f h = refl

back_gt : (o later : Ordering) → Falls o later → is_gt later ≡ true → is_gt o ≡ true
back_gt Less later f h = absurd (let less : is_le later ≡ true = f.1 refl in
    elim later as (λ l. is_le l ≡ true → is_gt l ≡ true → ⊥) [ Less ↦ λ x y. cc | Equal ↦ λ x y. cc | Greater ↦ λ x y. cc ] less h)
back_gt Equal later f h = absurd (let less : is_le later ≡ true = f.1 refl in
    elim later as (λ l. is_le l ≡ true → is_gt l ≡ true → ⊥) [ Less ↦ λ x y. cc | Equal ↦ λ x y. cc | Greater ↦ λ x y. cc ] less h)
back_gt Greater later f h = refl

high_began : (i : Index) (t : Table) (high : Upper) (a b : ℕ) → is_lt (compare_ids i t b a) ≡ false
    → meets_upper i t high b ≡ true → meets_upper i t high a ≡ true
high_began i t upper.All a b up h = refl
high_began i t (upper.UpTo key) a b up h = back_ge _ _ (falls_along i t key a b up) h
high_began i t (upper.Below key) a b up h = back_gt _ _ (falls_along i t key a b up) h

-- how many ids of an index don't meet a lower bound, and how many meet an upper one
abbrev pub rank_from : Shape → Table → ℕ → Lower → ℕ
rank_from s t x low = count_by (λ id. not (meets_lower (index_at s x) t low id)) (view s t x)

abbrev pub rank_to : Shape → Table → ℕ → Upper → ℕ
rank_to s t x high = count_by (meets_upper (index_at s x) t high) (view s t x)

-- what stands between two bounds stands between two ranks
pub between_ranks : (s : Shape) (t : Table) (x : ℕ) (low : Lower) (high : Upper) → IsTrue (is_sorted (index_at s x).kind)
    → between s t x low high ≡ drop (rank_from s t x low) (take (rank_to s t x high) (view s t x))
between_ranks s t x low high is =
    segment (compare_ids (index_at s x) t) (meets_lower (index_at s x) t low) (meets_upper (index_at s x) t high)
    (low_stays (index_at s x) t low) (high_began (index_at s x) t high) (view s t x) (view_ascends s t x is)

count_same : (p q : ℕ → Bool) → ((a : ℕ) → p a ≡ q a) → (ids : List ℕ) → count_by p ids ≡ count_by q ids
count_same p q same ids = sym (length-filter p ids) ∙ ap length (filter_like p q same ids) ∙ length-filter q ids

count_all : (ids : List ℕ) → count_by (λ _. true) ids ≡ length ids
count_all ids = sym (length-filter (λ _. true) ids) ∙ ap length (all ids)
  where
    all : (ids : List ℕ) → filter (λ _. true) ids ≡ ids
    all [] = refl
    all (a ∷ ids) = ap (λ rest. a ∷ rest) (all ids)

count_none : (ids : List ℕ) → count_by (λ _. false) ids ≡ 0
count_none ids = sym (length-filter (λ _. false) ids) ∙ ap length (none ids)
  where
    none : (ids : List ℕ) → filter (λ _. false) ids ≡ []
    none [] = refl
    none (a ∷ ids) = none ids

not_le : (o : Ordering) → not (is_le o) ≡ is_gt o
not_le Less = refl
not_le Equal = refl
not_le Greater = refl

not_lt : (o : Ordering) → not (is_lt o) ≡ is_ge o
not_lt Less = refl
not_lt Equal = refl
not_lt Greater = refl

-- the ranks at which a range begins and ends
pub from_all : (s : Shape) (t : Table) (x : ℕ) → rank_from s t x lower.All ≡ 0
from_all s t x = count_none (view s t x)

pub from_key : (s : Shape) (t : Table) (x : ℕ) (key : List Value) → rank_from s t x (lower.From key) ≡ look.lower_rank s t x key
from_key s t x key = count_same _ _ (λ id. not_le (compare_to_id (index_at s x) t key id)) (view s t x)

pub to_all : (s : Shape) (t : Table) (x : ℕ) → rank_to s t x upper.All ≡ length (view s t x)
to_all s t x = count_all (view s t x)

pub to_within : (s : Shape) (t : Table) (x : ℕ) (high : Upper) → rank_to s t x high ≤ length (view s t x)
to_within s t x high = count_by-le-length _ (view s t x)

pub from_beyond : (s : Shape) (t : Table) (x : ℕ) (key : List Value) → rank_from s t x (lower.Beyond key) ≡ look.upper_rank s t x key
from_beyond s t x key = count_same _ _ (λ id. not_lt (compare_to_id (index_at s x) t key id)) (view s t x)

-- the ids up from a lower bound stand behind its rank, and those down from an upper one in front of it
pub up_is : (s : Shape) (t : Table) (x : ℕ) (low : Lower) (limit : ℕ) → IsTrue (is_sorted (index_at s x).kind)
    → ids_up s t x low limit ≡ take limit (drop (rank_from s t x low) (view s t x))
up_is s t x low limit is =
    ap (take limit)
    (between_ranks s t x low upper.All is
    ∙ ap (λ n. drop (rank_from s t x low) (take n (view s t x))) (to_all s t x)
    ∙ ap (drop (rank_from s t x low)) (take_all (length (view s t x)) (view s t x) (omega arith)))

pub down_is : (s : Shape) (t : Table) (x : ℕ) (high : Upper) (limit : ℕ) → IsTrue (is_sorted (index_at s x).kind)
    → ids_down s t x high limit ≡ take limit (reverse (take (rank_to s t x high) (view s t x)))
down_is s t x high limit is =
    ap (λ ids. take limit (reverse ids))
    (between_ranks s t x lower.All high is
    ∙ ap (λ n. drop n (take (rank_to s t x high) (view s t x))) (from_all s t x))

le_and_ge : (o : Ordering) → is_eq o ≡ (is_le o && is_ge o)
le_and_ge Less = refl
le_and_ge Equal = refl
le_and_ge Greater = refl

-- the ids of a key stand between its ranks
of_key_ranks : (s : Shape) (t : Table) (x : ℕ) (key : List Value) → IsTrue (is_sorted (index_at s x).kind)
    → of_key s t x key ≡ drop (look.lower_rank s t x key) (take (look.upper_rank s t x key) (view s t x))
of_key_ranks s t x key is =
    filter_like _ _ (λ id. le_and_ge (compare_to_id (index_at s x) t key id)) (view s t x)
    ∙ between_ranks s t x (lower.From key) (upper.UpTo key) is
    ∙ ap (λ n. drop n (take (look.upper_rank s t x key) (view s t x))) (from_key s t x key)

fewer : (p q : ℕ → Bool) → ((a : ℕ) → p a ≡ true → q a ≡ true) → (ids : List ℕ) → length (filter p ids) ≤ length (filter q ids)
fewer p q more [] = omega arith
fewer p q more (a ∷ ids) = go (fewer p q more ids) (p a) (q a) refl refl
  where
    go : length (filter p ids) ≤ length (filter q ids) → (b c : Bool) → p a ≡ b → q a ≡ c
        → length (cond b (a ∷ filter p ids) (filter p ids)) ≤ length (cond c (a ∷ filter q ids) (filter q ids))
    go rest true true e f = omega arith
    go rest true false e f = absurd (let is : q a ≡ true = more a e in cc)
    go rest false true e f = omega arith
    go rest false false e f = rest

gt_is_ge : (o : Ordering) → is_gt o ≡ true → is_ge o ≡ true
gt_is_ge Less h = h
gt_is_ge Equal h = refl
gt_is_ge Greater h = refl

pub lower-le-upper : (s : Shape) (t : Table) (x : ℕ) (key : List Value) → look.lower_rank s t x key ≤ look.upper_rank s t x key
lower-le-upper s t x key =
    let p : ℕ → Bool = λ id. is_gt (compare_to_id (index_at s x) t key id) in
    let q : ℕ → Bool = λ id. is_ge (compare_to_id (index_at s x) t key id) in
    let less : length (filter p (view s t x)) ≤ length (filter q (view s t x)) =
    fewer p q (λ id. gt_is_ge (compare_to_id (index_at s x) t key id)) (view s t x) in
    let low : length (filter p (view s t x)) ≡ look.lower_rank s t x key = length-filter p (view s t x) in
    let high : length (filter q (view s t x)) ≡ look.upper_rank s t x key = length-filter q (view s t x) in
    omega arith

pub upper-le-length : (s : Shape) (t : Table) (x : ℕ) (key : List Value) → look.upper_rank s t x key ≤ length (view s t x)
upper-le-length s t x key = count_by-le-length _ (view s t x)

length-segment : (from to : ℕ) (ids : List ℕ) → to ≤ length ids → length (drop from (take to ids)) ≡ to - from
length-segment from to ids within =
    let dropped : length (drop from (take to ids)) ≡ length (take to ids) - from = length-drop from (take to ids) in
    let taken : length (take to ids) ≡ min to (length ids) = length-take to ids in
    omega arith

-- the ids of a key are as many as stand between its ranks
pub count_ranks : (s : Shape) (t : Table) (x : ℕ) (key : List Value) → IsTrue (is_sorted (index_at s x).kind)
    → look.count s t x key ≡ look.upper_rank s t x key - look.lower_rank s t x key
count_ranks s t x key is =
    ap length (of_key_ranks s t x key is)
    ∙ length-segment (look.lower_rank s t x key) (look.upper_rank s t x key) (view s t x) (upper-le-length s t x key)

segment_first : (from to : ℕ) (ids : List ℕ) → from < to → slice_get (drop from (take to ids)) 0 ≡ slice_get ids from
segment_first from zero ids l = absurd (omega arith)
segment_first zero (suc to) [] l = refl
segment_first (suc from) (suc to) [] l = refl
segment_first zero (suc to) (a ∷ ids) l = refl
segment_first (suc from) (suc to) (a ∷ ids) l = segment_first from to ids (omega arith)

pub segment_empty : (from to : ℕ) (ids : List ℕ) → to ≤ from → drop from (take to ids) ≡ []
segment_empty from to ids le = drop_all from (take to ids) (let taken : length (take to ids) ≡ min to (length ids) = length-take to ids in omega arith)

-- a key has a first id exactly where its lower bound isn't its upper one
pub find_none : (s : Shape) (t : Table) (x : ℕ) (key : List Value) → IsTrue (is_sorted (index_at s x).kind) → IsOnce (view s t x)
    → look.lower s t x key ≡ look.upper s t x key → look.find s t x key ≡ None
find_none s t x key is once same =
    let le : look.lower_rank s t x key ≤ look.upper_rank s t x key = lower-le-upper s t x key in
    let within : look.upper_rank s t x key ≤ length (view s t x) = upper-le-length s t x key in
    elim (cases_lt (look.lower_rank s t x key) (look.upper_rank s t x key)) [
      | inl less ↦ absurd (apart (view s t x) once (look.lower_rank s t x key) (look.upper_rank s t x key) less within same)
      | inr past ↦
          ap (λ ids. slice_get ids 0) (of_key_ranks s t x key is ∙ segment_empty (look.lower_rank s t x key) (look.upper_rank s t x key) (view s t x) past)
    ]
  where
    apart : (ids : List ℕ) → IsOnce ids → (m n : ℕ) → m < n → n ≤ length ids → slice_get ids m ≡ slice_get ids n → ⊥
    apart ids once m n l within same =
        let at : slice_get ids m ≡ Some (get_or ids m 0) = slice_get-get_or ids m 0 (omega arith) in
        let one : rank_in ids (get_or ids m 0) ≡ m = rank_at m (get_or ids m 0) ids once at in
        let two : rank_in ids (get_or ids m 0) ≡ n = rank_at n (get_or ids m 0) ids once (sym same ∙ at) in
        omega arith

pub find_some : (s : Shape) (t : Table) (x : ℕ) (key : List Value) → IsTrue (is_sorted (index_at s x).kind)
    → look.lower s t x key ≢ look.upper s t x key → look.find s t x key ≡ look.lower s t x key
find_some s t x key is other =
    let le : look.lower_rank s t x key ≤ look.upper_rank s t x key = lower-le-upper s t x key in
    elim (cases_lt (look.lower_rank s t x key) (look.upper_rank s t x key)) [
      | inl less ↦
          ap (λ ids. slice_get ids 0) (of_key_ranks s t x key is)
          ∙ segment_first (look.lower_rank s t x key) (look.upper_rank s t x key) (view s t x) less
      | inr past ↦ absurd (other (ap (slice_get (view s t x)) (let same : look.lower_rank s t x key ≡ look.upper_rank s t x key = omega arith in same)))
    ]
