-- Lists of pairs that ascend by their ids: they are what is found in them.
-- Cited by `AnswerLemmas`, `CountLemmas`, `EraseLemmas`, `HeldLemmas`, `InsertLemmas` and 10 more.
use Rattle.std.proofs.Common.{◌≡◌, ℕ, ◌<◌, Bool, true, false, cond, ◌&&◌, T, inl, inr, List, [], ◌∷◌, refl, ap, sym, ◌∙◌, subst, arith}
use Rattle.std.specs.Prelude.{◌==◌}
use Rattle.std.specs.List.{AllByRecursion}
use Rattle.std.specs.Map.{lookup}
use Rattle.std.specs.Option.{option_and_then}
use Rattle.std.specs.Ordering.{is_lt, nat_cmp, eq_by_cmp}
use Rattle.std.specs.FinMap.{FinMap, find, is_sorted, entries, get, entries_sorted, get-entries}
use Rattle.std.specs.FinMap.Entries.{below_all}
use Rattle.std.proofs.lemmas.Bool.{eqb-true}
use Rattle.std.proofs.lemmas.Bool.Decides.{eqb_tells, nat_tests}
use Rattle.std.specs.declared.option.Option.{Option}
use Rattle.std.specs.declared.option.Option.TheVariants.{None, Some}
use Rattle.mi_model.proofs.SortLaws.{both_ways}
use Rattle.mi_container.specs.Data.{Climbs}
use Rattle.mi_container.proofs.PairLemmas.{is_itself, is_other, none_some, some_is, head_is, head_isnt}
use Rattle.mi_multi.specs.Physical.{with_pair, picked}

-- all ids above one
abbrev pub Above : {A : Type 0} → ℕ → List (ℕ × A) → Type 0
Above e rows = AllByRecursion (λ q. e < q.0) rows

-- each id is below those after it
abbrev pub Up : {A : Type 0} → List (ℕ × A) → Type 0
Up [] = Unit {0}
Up (r ∷ rows) = Above r.0 rows × Up rows

pub up_of_climbs : {A : Type 0} (next : ℕ) (rows : List (ℕ × A)) → Climbs next rows → Up rows
up_of_climbs next [] up = tt
up_of_climbs next (r ∷ rows) up = (up.1, up_of_climbs next rows up.2)

pub eq_cmp : (q k : ℕ) → eq_by_cmp nat_cmp q k ≡ (k == q)
eq_cmp q k = grind (arith, nat_tests)

both_true : (a b : Bool) → T (a && b) → T a × T b
both_true true b p = (tt, p)
both_true false b p = absurd p

module _ {A : Type 0} where
  find_lookup : (q : ℕ) (es : List (ℕ × A)) → find nat_cmp q es ≡ lookup (λ k. k == q) es
  find_lookup q [] = refl
  find_lookup q (r ∷ es) = (λ i. cond (eq_cmp q r.0 i) (Some r.1) (find_lookup q es i))

  above_none : (e : ℕ) (rows : List (ℕ × A)) → Above e rows → lookup (λ k. k == e) rows ≡ None
  above_none e [] all = refl
  above_none e (r ∷ rows) all = head_isnt e r rows (is_other r.0 e (λ same. let l : e < r.0 = all.0 in absurd (omega arith))) ∙ above_none e rows all.1

  above_some : (a e : ℕ) (n : A) (rows : List (ℕ × A)) → Above a rows → lookup (λ k. k == e) rows ≡ Some n → a < e
  above_some a e n [] all some = absurd (none_some some)
  above_some a e n (r ∷ rows) all some =
      both_ways (r.0 == e)
      (λ yes. subst (λ k. a < k) (eqb-true r.0 e yes) all.0)
      (λ isnt. above_some a e n rows all.1 (sym (head_isnt e r rows isnt) ∙ some))

  -- pairs that ascend are what is found in them
  pub same_pairs : (xs ys : List (ℕ × A)) → Up xs → Up ys → ((e : ℕ) → lookup (λ k. k == e) xs ≡ lookup (λ k. k == e) ys) → xs ≡ ys
  same_pairs [] [] ux uy is = refl
  same_pairs [] (y ∷ ys) ux uy is = absurd (none_some (is y.0 ∙ head_is y.0 y ys (is_itself y.0)))
  same_pairs (x ∷ xs) [] ux uy is = absurd (none_some (sym (is x.0) ∙ head_is x.0 x xs (is_itself x.0)))
  same_pairs (x ∷ xs) (y ∷ ys) ux uy is =
      elim (eqb_tells y.0 x.0) [
        | inl same ↦
            let val : x.1 ≡ y.1 = some_is (sym (head_is x.0 x xs (is_itself x.0)) ∙ is x.0 ∙ head_is x.0 y ys same.0) in
            let ids : x.0 ≡ y.0 = sym same.1 in
            let rest : (e : ℕ) → lookup (λ k. k == e) xs ≡ lookup (λ k. k == e) ys = λ e.
            elim (eqb_tells x.0 e) [
              | inl here ↦ above_none e xs (subst (λ n. Above n xs) here.1 ux.0) ∙ sym (above_none e ys (subst (λ n. Above n ys) (same.1 ∙ here.1) uy.0))
              | inr other ↦ sym (head_isnt e x xs other.0) ∙ is e ∙ head_isnt e y ys (is_other y.0 e (λ h. other.1 (ids ∙ h)))
            ] in
            let tails : xs ≡ ys = same_pairs xs ys ux.1 uy.1 rest in
            (λ i. (ids i, val i) ∷ tails i)
        | inr other ↦
            let up : y.0 < x.0 = above_some y.0 x.0 x.1 ys uy.0 (sym (head_isnt x.0 y ys other.0) ∙ sym (is x.0) ∙ head_is x.0 x xs (is_itself x.0)) in
            let down : x.0 < y.0 = above_some x.0 y.0 y.1 xs ux.0
            (sym (head_isnt y.0 x xs (is_other x.0 y.0 (λ h. other.1 (sym h)))) ∙ is y.0 ∙ head_is y.0 y ys (is_itself y.0)) in
            absurd (omega arith)
      ]

module _ {A B : Type 0} (f : A → Option B) where
  above_joined : (a e : ℕ) (o : Option B) (rest : List (ℕ × B)) → a < e → Above a rest → Above a (with_pair e o rest)
  above_joined a e None rest l up = up
  above_joined a e (Some b) rest l up = (l, up)

  above_picked : (a : ℕ) (es : List (ℕ × A)) → Above a es → Above a (picked f es)
  above_picked a [] up = tt
  above_picked a (r ∷ es) up = above_joined a r.0 (f r.1) (picked f es) up.0 (above_picked a es up.1)

  up_joined : (e : ℕ) (o : Option B) (rest : List (ℕ × B)) → Above e rest → Up rest → Up (with_pair e o rest)
  up_joined e None rest above up = up
  up_joined e (Some b) rest above up = (above, up)

  pub up_picked : (es : List (ℕ × A)) → Up es → Up (picked f es)
  up_picked [] up = tt
  up_picked (r ∷ es) up = up_joined r.0 (f r.1) (picked f es) (above_picked r.0 es up.0) (up_picked es up.1)

  found_here : (e : ℕ) (o : Option B) (a : ℕ) (rest : List (ℕ × B)) → (a == e) ≡ true
      → lookup (λ k. k == e) rest ≡ None → lookup (λ k. k == e) (with_pair a o rest) ≡ o
  found_here e None a rest is none = none
  found_here e (Some b) a rest is none = head_is e (a, b) rest is

  found_on : (e : ℕ) (o : Option B) (a : ℕ) (rest : List (ℕ × B)) → (a == e) ≡ false → lookup (λ k. k == e) (with_pair a o rest) ≡ lookup (λ k. k == e) rest
  found_on e None a rest isnt = refl
  found_on e (Some b) a rest isnt = head_isnt e (a, b) rest isnt

  lookup_picked : (e : ℕ) (es : List (ℕ × A)) → Up es → lookup (λ k. k == e) (picked f es) ≡ option_and_then f (lookup (λ k. k == e) es)
  lookup_picked e [] up = refl
  lookup_picked e (r ∷ es) up =
      both_ways (r.0 == e)
      (λ yes. found_here e (f r.1) r.0 (picked f es) yes
      (above_none e (picked f es) (subst (λ n. Above n (picked f es)) (eqb-true r.0 e yes) (above_picked r.0 es up.0)))
      ∙ sym (ap (option_and_then f) (head_is e r es yes)))
      (λ isnt. found_on e (f r.1) r.0 (picked f es) isnt ∙ lookup_picked e es up.1 ∙ sym (ap (option_and_then f) (head_isnt e r es isnt)))

-- The entries of a map

less_of : (a b : ℕ) → T (is_lt (nat_cmp a b)) → a < b
less_of a b h = grind (arith, nat_tests)

above_of : {A : Type 0} (x : ℕ) (es : List (ℕ × A)) → T (below_all nat_cmp x es) → Above x es
above_of x [] h = tt
above_of x (r ∷ es) h = let both = both_true (is_lt (nat_cmp x r.0)) (below_all nat_cmp x es) h in (less_of x r.0 both.0, above_of x es both.1)

up_of_sorted : {A : Type 0} (es : List (ℕ × A)) → T (is_sorted nat_cmp es) → Up es
up_of_sorted [] h = tt
up_of_sorted (r ∷ es) h = let both = both_true (below_all nat_cmp r.0 es) (is_sorted nat_cmp es) h in (above_of r.0 es both.0, up_of_sorted es both.1)

module _ {A : Type 0} where
  pub up_entries : (m : FinMap nat_cmp A) → Up (entries m)
  up_entries m = up_of_sorted (entries m) (entries_sorted m)

  pub get_lookup : (m : FinMap nat_cmp A) (e : ℕ) → lookup (λ k. k == e) (entries m) ≡ get m e
  get_lookup m e = sym (find_lookup e (entries m)) ∙ sym (get-entries m e)

-- what is picked of a map is found by its ids
pub get_picked : {A B : Type 0} (f : A → Option B) (m : FinMap nat_cmp A) (e : ℕ) → lookup (λ k. k == e) (picked f (entries m)) ≡ option_and_then f (get m e)
get_picked f m e = lookup_picked f e (entries m) (up_entries m) ∙ ap (option_and_then f) (get_lookup m e)
