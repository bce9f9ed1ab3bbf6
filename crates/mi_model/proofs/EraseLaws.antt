-- Erasing many rows: it depends on which ids are erased, and not on their order.
-- Cited by `LookUpLaws` and `mi_plain`.
use Rattle.std.proofs.Common.{◌≡◌, ℕ, ◌+◌, Bool, true, false, cond, List, [], ◌∷◌, length, map, refl, ap, ap₂, sym, ◌∙◌, arith}
use Rattle.std.specs.Prelude.{◌==◌, ◌&&◌, ◌||◌, not}
use Rattle.std.specs.List.{filter, fold, list_any}
use Rattle.std.specs.Ordering.{is_lt}
use Rattle.std.specs.declared.cmp.Ordering.{Ordering}
use Rattle.mi_catalog.specs.declared.index.IndexKind.{IndexKind}
use Rattle.mi_catalog.specs.declared.index.IndexKind.TheVariants.{Ordered, Ranked, Hashed, Sequenced}
use Rattle.mi_catalog.specs.Key.{Row}
use Rattle.mi_model.specs.Table.{Table}
use Rattle.mi_model.specs.View.{place, sorted, shown}
use Rattle.mi_model.specs.Change.{erase, erase_all}

abbrev pub is_in : List ℕ → ℕ → Bool
is_in ids a = list_any (λ b. a == b) ids

or_swap : (x y z : Bool) → (x || (y || z)) ≡ (y || (x || z))
or_swap true true z = refl
or_swap true false z = refl
or_swap false true z = refl
or_swap false false z = refl

or_left : (x y z : Bool) → ((x || y) || z) ≡ (y || (x || z))
or_left true true z = refl
or_left true false z = refl
or_left false true z = refl
or_left false false z = refl

or_end : (x : Bool) → (x || false) ≡ x
or_end true = refl
or_end false = refl

any_step : (b : Bool) (q : ℕ → Bool) (e a : ℕ) (xs placed : List ℕ) → list_any q placed ≡ (q e || list_any q xs)
    → list_any q (cond b (e ∷ a ∷ xs) (a ∷ placed)) ≡ (q e || list_any q (a ∷ xs))
any_step true q e a xs placed h = refl
any_step false q e a xs placed h = ap (λ b. q a || b) h ∙ or_swap (q a) (q e) (list_any q xs)

any-place : (q : ℕ → Bool) (order : ℕ → ℕ → Ordering) (e : ℕ) (xs : List ℕ) → list_any q (place order e xs) ≡ (q e || list_any q xs)
any-place q order e [] = refl
any-place q order e (a ∷ xs) = any_step (is_lt (order e a)) q e a xs (place order e xs) (any-place q order e xs)

any_from : (q : ℕ → Bool) (order : ℕ → ℕ → Ordering) (done ids : List ℕ)
    → list_any q (fold (λ d e. place order e d) done ids) ≡ (list_any q done || list_any q ids)
any_from q order done [] = sym (or_end (list_any q done))
any_from q order done (e ∷ ids) =
    any_from q order (place order e done) ids ∙ ap (λ b. b || list_any q ids) (any-place q order e done) ∙ or_left (q e) (list_any q done) (list_any q ids)

any-sorted : (q : ℕ → Bool) (order : ℕ → ℕ → Ordering) (ids : List ℕ) → list_any q (sorted order ids) ≡ list_any q ids
any-sorted q order ids = any_from q order [] ids

any_filter_step : (b : Bool) (q : ℕ → Bool) (x : ℕ) (kept rest : List ℕ) (r : Bool)
    → list_any q kept ≡ r → list_any q (cond b (x ∷ kept) kept) ≡ ((b && q x) || r)
any_filter_step true q x kept rest r h = ap (λ b. q x || b) h
any_filter_step false q x kept rest r h = h

any-filter : (p q : ℕ → Bool) (xs : List ℕ) → list_any q (filter p xs) ≡ list_any (λ x. p x && q x) xs
any-filter p q [] = refl
any-filter p q (x ∷ xs) = any_filter_step (p x) q x (filter p xs) xs (list_any (λ y. p y && q y) xs) (any-filter p q xs)

one : Bool → ℕ
one b = cond b 1 0

count_filter : (b : Bool) (x : ℕ) (kept : List ℕ) → length (cond b (x ∷ kept) kept) ≡ one b + length kept
unfolding one
count_filter true x kept = omega arith
count_filter false x kept = omega arith

count_step : (b : Bool) (p : ℕ → Bool) (e a : ℕ) (xs placed : List ℕ) → length (filter p placed) ≡ one (p e) + length (filter p xs)
    → length (filter p (cond b (e ∷ a ∷ xs) (a ∷ placed))) ≡ one (p e) + length (filter p (a ∷ xs))
count_step true p e a xs placed h = count_filter (p e) e (filter p (a ∷ xs))
count_step false p e a xs placed h =
    let left : length (filter p (a ∷ placed)) ≡ one (p a) + length (filter p placed) = count_filter (p a) a (filter p placed) in
    let right : length (filter p (a ∷ xs)) ≡ one (p a) + length (filter p xs) = count_filter (p a) a (filter p xs) in
    omega (arith, left, right, h)

count-place : (p : ℕ → Bool) (order : ℕ → ℕ → Ordering) (e : ℕ) (xs : List ℕ) → length (filter p (place order e xs)) ≡ one (p e) + length (filter p xs)
count-place p order e [] = count_filter (p e) e []
count-place p order e (a ∷ xs) = count_step (is_lt (order e a)) p e a xs (place order e xs) (count-place p order e xs)

count_from : (p : ℕ → Bool) (order : ℕ → ℕ → Ordering) (done ids : List ℕ)
    → length (filter p (fold (λ d e. place order e d) done ids)) ≡ length (filter p done) + length (filter p ids)
count_from p order done [] = omega arith
count_from p order done (e ∷ ids) =
    let later : length (filter p (fold (λ d e. place order e d) (place order e done) ids))
    ≡ length (filter p (place order e done)) + length (filter p ids) = count_from p order (place order e done) ids in
    let placed : length (filter p (place order e done)) ≡ one (p e) + length (filter p done) = count-place p order e done in
    let first : length (filter p (e ∷ ids)) ≡ one (p e) + length (filter p ids) = count_filter (p e) e (filter p ids) in
    omega (arith, later, placed, first)

-- what an index shows has as many ids of a kind as its list, and the same ones
pub count-shown : (p : ℕ → Bool) (kind : IndexKind) (order : ℕ → ℕ → Ordering) (ids : List ℕ) → length (filter p (shown kind order ids)) ≡ length (filter p ids)
count-shown p Ordered order ids = count_from p order [] ids ∙ omega arith
count-shown p Ranked order ids = count_from p order [] ids ∙ omega arith
count-shown p Hashed order ids = refl
count-shown p Sequenced order ids = refl

any-shown : (q : ℕ → Bool) (kind : IndexKind) (order : ℕ → ℕ → Ordering) (ids : List ℕ) → list_any q (shown kind order ids) ≡ list_any q ids
any-shown q Ordered order ids = any-sorted q order ids
any-shown q Ranked order ids = any-sorted q order ids
any-shown q Hashed order ids = refl
any-shown q Sequenced order ids = refl

pub in-shown : (p : ℕ → Bool) (kind : IndexKind) (order : ℕ → ℕ → Ordering) (ids : List ℕ) (a : ℕ)
    → is_in (filter p (shown kind order ids)) a ≡ is_in (filter p ids) a
in-shown p kind order ids a =
    any-filter p (λ b. a == b) (shown kind order ids) ∙ any-shown (λ b. p b && (a == b)) kind order ids ∙ sym (any-filter p (λ b. a == b) ids)

module _ {X : Type 0} where
  filter_all : (xs : List X) → filter (λ x. true) xs ≡ xs
  filter_all [] = refl
  filter_all (x ∷ xs) = ap (λ ys. x ∷ ys) (filter_all xs)

  filter_twice_step : (b : Bool) (p : X → Bool) (x : X) (kept rest : List X)
      → filter p kept ≡ rest → filter p (cond b (x ∷ kept) kept) ≡ cond (b && p x) (x ∷ rest) rest
  filter_twice_step true p x kept rest h = ap (λ ys. cond (p x) (x ∷ ys) ys) h
  filter_twice_step false p x kept rest h = h

  filter_twice : (p q : X → Bool) (xs : List X) → filter p (filter q xs) ≡ filter (λ x. q x && p x) xs
  filter_twice p q [] = refl
  filter_twice p q (x ∷ xs) = filter_twice_step (q x) p x (filter q xs) (filter (λ y. q y && p y) xs) (filter_twice p q xs)

  filter_alike : (p q : X → Bool) → ((x : X) → p x ≡ q x) → (xs : List X) → filter p xs ≡ filter q xs
  filter_alike p q alike [] = refl
  filter_alike p q alike (x ∷ xs) = ap₂ (λ b ys. cond b (x ∷ ys) ys) (alike x) (filter_alike p q alike xs)

neither : (x y : Bool) → (not x && not y) ≡ not (x || y)
neither true y = refl
neither false y = refl

map_twice : (p q r : ℕ → Bool) → ((a : ℕ) → (q a && p a) ≡ r a) → (lists : List (List ℕ)) → map (filter p) (map (filter q) lists) ≡ map (filter r) lists
map_twice p q r both [] = refl
map_twice p q r both (ids ∷ lists) = ap₂ (λ xs ys. xs ∷ ys) (filter_twice p q ids ∙ filter_alike (λ a. q a && p a) r both ids) (map_twice p q r both lists)

map_all : (lists : List (List ℕ)) → map (filter (λ a. true)) lists ≡ lists
map_all [] = refl
map_all (ids ∷ lists) = ap₂ (λ xs ys. xs ∷ ys) (filter_all ids) (map_all lists)

abbrev without_all : List ℕ → Table → Table
without_all ids t = record t { rows = filter (λ r. not (is_in ids r.0)) t.rows; lists = map (filter (λ a. not (is_in ids a))) t.lists }

abbrev with_both : Table → List Row → List (List ℕ) → Table
with_both t rows lists = record t { rows = rows; lists = lists }

erase_all-is : (ids : List ℕ) (t : Table) → erase_all ids t ≡ without_all ids t
erase_all-is [] t = sym (ap₂ (with_both t) (filter_all t.rows) (map_all t.lists))
erase_all-is (e ∷ ids) t =
    erase_all-is ids (erase e t)
    ∙ ap₂ (with_both t)
    (filter_twice (λ r. not (is_in ids r.0)) (λ r. not (r.0 == e)) t.rows
    ∙ filter_alike (λ r. not (r.0 == e) && not (is_in ids r.0)) (λ r. not (is_in (e ∷ ids) r.0)) (λ r. neither (r.0 == e) (is_in ids r.0)) t.rows)
    (map_twice (λ a. not (is_in ids a)) (λ a. not (a == e)) (λ a. not (is_in (e ∷ ids) a)) (λ a. neither (a == e) (is_in ids a)) t.lists)

map_alike : (p q : ℕ → Bool) → ((a : ℕ) → p a ≡ q a) → (lists : List (List ℕ)) → map (filter p) lists ≡ map (filter q) lists
map_alike p q alike [] = refl
map_alike p q alike (ids ∷ lists) = ap₂ (λ xs ys. xs ∷ ys) (filter_alike p q alike ids) (map_alike p q alike lists)

-- two lists with the same ids erase the same
pub erase_all-alike : (ids others : List ℕ) → ((a : ℕ) → is_in ids a ≡ is_in others a) → (t : Table) → erase_all ids t ≡ erase_all others t
erase_all-alike ids others alike t =
    erase_all-is ids t
    ∙ ap₂ (with_both t)
    (filter_alike (λ r. not (is_in ids r.0)) (λ r. not (is_in others r.0)) (λ r. ap not (alike r.0)) t.rows)
    (map_alike (λ a. not (is_in ids a)) (λ a. not (is_in others a)) (λ a. ap not (alike a)) t.lists)
    ∙ sym (erase_all-is others t)
