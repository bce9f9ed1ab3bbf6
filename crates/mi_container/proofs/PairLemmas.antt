-- Lists of pairs with ids: what is looked up, left out and entered.
-- Cited by `ContentLemmas`, `DataLemmas`, `FitLemmas`, `GroupLemmas`, 8 more, `mi_database`, `mi_multi` and `test_container`.
use Rattle.std.proofs.Common.{◌≡◌, ◌≢◌, ℕ, ◌+◌, ◌<◌, ◌≤◌, true, false, cond, not, inl, inr, List, [], ◌∷◌, ◌++◌, refl, ap, sym, ◌∙◌, subst, arith}
use Rattle.std.specs.Prelude.{◌==◌, nat_lt}
use Rattle.std.specs.List.{AllByRecursion}
use Rattle.std.specs.Map.{lookup}
use Rattle.std.proofs.lemmas.Bool.{eqb-true, eqb-false, lt-ltb, le-ltb, ltb-true, ltb-false}
use Rattle.std.proofs.lemmas.Bool.Decides.{eqb_tells}
use Rattle.std.specs.declared.option.Option.TheVariants.{None, Some}
use Rattle.mi_model.proofs.SortLaws.{both_ways}
use Rattle.mi_container.specs.Data.{Climbs}
use Rattle.mi_container.specs.Changes.{entered, left_out}

pub is_itself : (e : ℕ) → (e == e) ≡ true
is_itself e = elim (eqb_tells e e) [ inl is ↦ is.0 | inr isnt ↦ absurd (isnt.1 refl) ]

pub is_other : (a e : ℕ) → a ≢ e → (a == e) ≡ false
is_other a e ne = elim (eqb_tells a e) [ inl is ↦ absurd (ne is.1) | inr isnt ↦ isnt.0 ]

-- the test of an id that is another one
pub other_id : (k a e : ℕ) → a ≢ e → (k == e) ≡ true → (k == a) ≡ false
other_id k a e ne is = is_other k a (λ same. ne (sym same ∙ eqb-true k e is))

pub none_some : {A : Type 0} {x : A} → None ≡ Some x → ⊥
none_some h = cc

pub some_is : {A : Type 0} {x y : A} → Some x ≡ Some y → x ≡ y
some_is h = cc

module _ {A : Type 0} where
  -- what a look-up finds of a list whose head has that id or another
  pub head_is : (a : ℕ) (r : ℕ × A) (rows : List (ℕ × A)) → (r.0 == a) ≡ true → lookup (λ k. k == a) (r ∷ rows) ≡ Some r.1
  head_is a r rows same = ap (λ b. cond b (Some r.1) (lookup (λ k. k == a) rows)) same

  pub head_isnt : (a : ℕ) (r : ℕ × A) (rows : List (ℕ × A)) → (r.0 == a) ≡ false → lookup (λ k. k == a) (r ∷ rows) ≡ lookup (λ k. k == a) rows
  head_isnt a r rows no_ = ap (λ b. cond b (Some r.1) (lookup (λ k. k == a) rows)) no_

  pub out_is : (e : ℕ) (r : ℕ × A) (rows : List (ℕ × A)) → (r.0 == e) ≡ true → left_out e (r ∷ rows) ≡ left_out e rows
  out_is e r rows same = ap (λ b. cond (not b) (r ∷ left_out e rows) (left_out e rows)) same

  pub out_isnt : (e : ℕ) (r : ℕ × A) (rows : List (ℕ × A)) → (r.0 == e) ≡ false → left_out e (r ∷ rows) ≡ r ∷ left_out e rows
  out_isnt e r rows no_ = ap (λ b. cond (not b) (r ∷ left_out e rows) (left_out e rows)) no_

  pub lookup_out_same : (e : ℕ) (rows : List (ℕ × A)) → lookup (λ k. k == e) (left_out e rows) ≡ None
  lookup_out_same e [] = refl
  lookup_out_same e (r ∷ rows) =
      both_ways (r.0 == e)
      (λ yes. ap (lookup (λ k. k == e)) (out_is e r rows yes) ∙ lookup_out_same e rows)
      (λ isnt. ap (lookup (λ k. k == e)) (out_isnt e r rows isnt) ∙ head_isnt e r (left_out e rows) isnt ∙ lookup_out_same e rows)

  pub lookup_out : (a e : ℕ) (rows : List (ℕ × A)) → a ≢ e → lookup (λ k. k == a) (left_out e rows) ≡ lookup (λ k. k == a) rows
  lookup_out a e [] ne = refl
  lookup_out a e (r ∷ rows) ne =
      both_ways (r.0 == e)
      (λ yes. ap (lookup (λ k. k == a)) (out_is e r rows yes) ∙ lookup_out a e rows ne ∙ sym (head_isnt a r rows (other_id r.0 a e ne yes)))
      (λ isnt. ap (lookup (λ k. k == a)) (out_isnt e r rows isnt) ∙ ap (cond (r.0 == a) (Some r.1)) (lookup_out a e rows ne))

  pub lookup_push : (a e : ℕ) (n : A) (rows : List (ℕ × A)) → a ≢ e → lookup (λ k. k == a) (rows ++ (e, n) ∷ []) ≡ lookup (λ k. k == a) rows
  lookup_push a e n [] ne = ap (λ b. cond b (Some n) None) (is_other e a (λ same. ne (sym same)))
  lookup_push a e n (r ∷ rows) ne = ap (cond (r.0 == a) (Some r.1)) (lookup_push a e n rows ne)

  pub lookup_push_same : (e : ℕ) (n : A) (rows : List (ℕ × A)) → lookup (λ k. k == e) rows ≡ None → lookup (λ k. k == e) (rows ++ (e, n) ∷ []) ≡ Some n
  lookup_push_same e n [] none = ap (λ b. cond b (Some n) None) (is_itself e)
  lookup_push_same e n (r ∷ rows) none =
      both_ways (r.0 == e)
      (λ yes. absurd (none_some (sym none ∙ head_is e r rows yes)))
      (λ isnt. head_isnt e r (rows ++ (e, n) ∷ []) isnt ∙ lookup_push_same e n rows (sym (head_isnt e r rows isnt) ∙ none))

  -- one that isn't there is left out for nothing
  out_of : (e : ℕ) (rows : List (ℕ × A)) → lookup (λ k. k == e) rows ≡ None → left_out e rows ≡ rows
  out_of e [] none = refl
  out_of e (r ∷ rows) none =
      both_ways (r.0 == e)
      (λ yes. absurd (none_some (sym none ∙ head_is e r rows yes)))
      (λ isnt. out_isnt e r rows isnt ∙ ap (λ q. r ∷ q) (out_of e rows (sym (head_isnt e r rows isnt) ∙ none)))

  pub out_push : (e : ℕ) (n : A) (rows : List (ℕ × A)) → lookup (λ k. k == e) rows ≡ None → left_out e (rows ++ (e, n) ∷ []) ≡ rows
  out_push e n [] none = out_is e (e, n) [] (is_itself e)
  out_push e n (r ∷ rows) none =
      both_ways (r.0 == e)
      (λ yes. absurd (none_some (sym none ∙ head_is e r rows yes)))
      (λ isnt. out_isnt e r (rows ++ (e, n) ∷ []) isnt ∙ ap (λ q. r ∷ q) (out_push e n rows (sym (head_isnt e r rows isnt) ∙ none)))

  pub out_swap : (a b : ℕ) (rows : List (ℕ × A)) → left_out a (left_out b rows) ≡ left_out b (left_out a rows)
  out_swap a b [] = refl
  out_swap a b (r ∷ rows) =
      both_ways (r.0 == a)
      (λ isa. both_ways (r.0 == b)
      (λ isb. ap (left_out a) (out_is b r rows isb) ∙ out_swap a b rows ∙ sym (ap (left_out b) (out_is a r rows isa)))
      (λ notb. ap (left_out a) (out_isnt b r rows notb) ∙ out_is a r (left_out b rows) isa ∙ out_swap a b rows ∙ sym (ap (left_out b) (out_is a r rows isa))))
      (λ nota. both_ways (r.0 == b)
      (λ isb. ap (left_out a) (out_is b r rows isb) ∙ out_swap a b rows
      ∙ sym (out_is b r (left_out a rows) isb) ∙ sym (ap (left_out b) (out_isnt a r rows nota)))
      (λ notb. ap (left_out a) (out_isnt b r rows notb) ∙ out_isnt a r (left_out b rows) nota ∙ ap (λ q. r ∷ q) (out_swap a b rows)
      ∙ sym (out_isnt b r (left_out a rows) notb) ∙ sym (ap (left_out b) (out_isnt a r rows nota))))

  enter_here : (e : ℕ) (n : A) (r : ℕ × A) (rows : List (ℕ × A)) → nat_lt e r.0 ≡ true → entered e n (r ∷ rows) ≡ (e, n) ∷ r ∷ rows
  enter_here e n r rows same = ap (λ b. cond b ((e, n) ∷ r ∷ rows) (r ∷ entered e n rows)) same

  enter_on : (e : ℕ) (n : A) (r : ℕ × A) (rows : List (ℕ × A)) → nat_lt e r.0 ≡ false → entered e n (r ∷ rows) ≡ r ∷ entered e n rows
  enter_on e n r rows no_ = ap (λ b. cond b ((e, n) ∷ r ∷ rows) (r ∷ entered e n rows)) no_

  pub lookup_entered : (a e : ℕ) (n : A) (rows : List (ℕ × A)) → a ≢ e → lookup (λ k. k == a) (entered e n rows) ≡ lookup (λ k. k == a) rows
  lookup_entered a e n [] ne = ap (λ b. cond b (Some n) None) (is_other e a (λ same. ne (sym same)))
  lookup_entered a e n (r ∷ rows) ne =
      both_ways (nat_lt e r.0)
      (λ yes. ap (lookup (λ k. k == a)) (enter_here e n r rows yes) ∙ head_isnt a (e, n) (r ∷ rows) (is_other e a (λ same. ne (sym same))))
      (λ isnt. ap (lookup (λ k. k == a)) (enter_on e n r rows isnt) ∙ ap (cond (r.0 == a) (Some r.1)) (lookup_entered a e n rows ne))

  pub lookup_entered_same : (e : ℕ) (n : A) (rows : List (ℕ × A)) → lookup (λ k. k == e) rows ≡ None → lookup (λ k. k == e) (entered e n rows) ≡ Some n
  lookup_entered_same e n [] none = ap (λ b. cond b (Some n) None) (is_itself e)
  lookup_entered_same e n (r ∷ rows) none =
      both_ways (nat_lt e r.0)
      (λ yes. ap (lookup (λ k. k == e)) (enter_here e n r rows yes) ∙ head_is e (e, n) (r ∷ rows) (is_itself e))
      (λ isnt. ap (lookup (λ k. k == e)) (enter_on e n r rows isnt)
      ∙ both_ways (r.0 == e)
      (λ yes. absurd (none_some (sym none ∙ head_is e r rows yes)))
      (λ other. head_isnt e r (entered e n rows) other ∙ lookup_entered_same e n rows (sym (head_isnt e r rows other) ∙ none)))

  -- what was entered is left out again
  pub out_entered : (e : ℕ) (n : A) (rows : List (ℕ × A)) → lookup (λ k. k == e) rows ≡ None → left_out e (entered e n rows) ≡ rows
  out_entered e n [] none = out_is e (e, n) [] (is_itself e)
  out_entered e n (r ∷ rows) none =
      both_ways (r.0 == e)
      (λ yes. absurd (none_some (sym none ∙ head_is e r rows yes)))
      (λ other. both_ways (nat_lt e r.0)
      (λ yes. ap (left_out e) (enter_here e n r rows yes) ∙ out_is e (e, n) (r ∷ rows) (is_itself e) ∙ out_of e (r ∷ rows) none)
      (λ isnt. ap (left_out e) (enter_on e n r rows isnt) ∙ out_isnt e r (entered e n rows) other
      ∙ ap (λ q. r ∷ q) (out_entered e n rows (sym (head_isnt e r rows other) ∙ none))))

  -- all ids above one
  abbrev Above : ℕ → List (ℕ × A) → Type 0
  Above e rows = AllByRecursion (λ q. e < q.0) rows

  above_none : (e : ℕ) (rows : List (ℕ × A)) → Above e rows → lookup (λ k. k == e) rows ≡ None
  above_none e [] all = refl
  above_none e (r ∷ rows) all = head_isnt e r rows (is_other r.0 e (λ same. let l : e < r.0 = all.0 in absurd (omega arith))) ∙ above_none e rows all.1

  above_some : (a e : ℕ) (n : A) (rows : List (ℕ × A)) → Above a rows → lookup (λ k. k == e) rows ≡ Some n → a < e
  above_some a e n [] all some = absurd (none_some some)
  above_some a e n (r ∷ rows) all some =
      both_ways (r.0 == e)
      (λ yes. subst (λ k. a < k) (eqb-true r.0 e yes) all.0)
      (λ isnt. above_some a e n rows all.1 (sym (head_isnt e r rows isnt) ∙ some))

  above_first : (e : ℕ) (n : A) (rows : List (ℕ × A)) → Above e rows → entered e n rows ≡ (e, n) ∷ rows
  above_first e n [] all = refl
  above_first e n (r ∷ rows) all = enter_here e n r rows (lt-ltb e r.0 all.0)

  -- what was left out is entered again at its place
  pub entered_back : (next e : ℕ) (n : A) (rows : List (ℕ × A)) → Climbs next rows → lookup (λ k. k == e) rows ≡ Some n → entered e n (left_out e rows) ≡ rows
  entered_back next e n [] up some = absurd (none_some some)
  entered_back next e n (r ∷ rows) up some =
      both_ways (r.0 == e)
      (λ yes.
      let ids : r.0 ≡ e = eqb-true r.0 e yes in
      let all : Above e rows = subst (λ k. Above k rows) ids up.1 in
      let node : r.1 ≡ n = some_is (sym (head_is e r rows yes) ∙ some) in
      let both : (e, n) ∷ rows ≡ r ∷ rows = (λ i. (sym ids i, sym node i) ∷ rows) in
      ap (entered e n) (out_is e r rows yes ∙ out_of e rows (above_none e rows all)) ∙ above_first e n rows all ∙ both)
      (λ isnt.
      let rest : lookup (λ k. k == e) rows ≡ Some n = sym (head_isnt e r rows isnt) ∙ some in
      let l : r.0 < e = above_some r.0 e n rows up.1 rest in
      ap (entered e n) (out_isnt e r rows isnt) ∙ enter_on e n r (left_out e rows) (le-ltb e r.0 (omega arith))
      ∙ ap (λ q. r ∷ q) (entered_back next e n rows up.2 rest))

  above_entered : (a e : ℕ) (n : A) (rows : List (ℕ × A)) → a < e → Above a rows → Above a (entered e n rows)
  above_entered a e n [] l all = (l, tt)
  above_entered a e n (r ∷ rows) l all =
      elim (nat_lt e r.0) as (λ b. Above a (cond b ((e, n) ∷ r ∷ rows) (r ∷ entered e n rows))) [
        | true ↦ (l, all)
        | false ↦ (all.0, above_entered a e n rows l all.1)
      ]

  above_lower : (a b : ℕ) (rows : List (ℕ × A)) → a < b → Above b rows → Above a rows
  above_lower a b [] l all = tt
  above_lower a b (r ∷ rows) l all = (let m : b < r.0 = all.0 in omega arith, above_lower a b rows l all.1)

  pub climbs_entered : (next e : ℕ) (n : A) (rows : List (ℕ × A)) → Climbs next rows → e < next
      → lookup (λ k. k == e) rows ≡ None → Climbs next (entered e n rows)
  climbs_entered next e n [] up l none = (l, tt, tt)
  climbs_entered next e n (r ∷ rows) up l none =
      both_ways (r.0 == e)
      (λ yes. absurd (none_some (sym none ∙ head_is e r rows yes)))
      (λ other. both_ways (nat_lt e r.0)
      (λ yes. subst (Climbs next) (sym (enter_here e n r rows yes))
      (let m : e < r.0 = ltb-true e r.0 yes in (l, (m, above_lower e r.0 rows m up.1), up)))
      (λ isnt. subst (Climbs next) (sym (enter_on e n r rows isnt))
      (let m : r.0 ≤ e = ltb-false e r.0 isnt in let ne : r.0 ≢ e = eqb-false r.0 e other in
      (up.0, above_entered r.0 e n rows (omega arith) up.1, climbs_entered next e n rows up.2 l (sym (head_isnt e r rows other) ∙ none)))))

  above_out : (a e : ℕ) (rows : List (ℕ × A)) → Above a rows → Above a (left_out e rows)
  above_out a e [] all = tt
  above_out a e (r ∷ rows) all = elim (r.0 == e) as (λ b. Above a (cond (not b) (r ∷ left_out e rows) (left_out e rows))) [
    | true ↦ above_out a e rows all.1
    | false ↦ (all.0, above_out a e rows all.1)
  ]

  pub climbs_out : (next e : ℕ) (rows : List (ℕ × A)) → Climbs next rows → Climbs next (left_out e rows)
  climbs_out next e [] up = tt
  climbs_out next e (r ∷ rows) up =
      elim (r.0 == e) as (λ b. Climbs next (cond (not b) (r ∷ left_out e rows) (left_out e rows))) [
        | true ↦ climbs_out next e rows up.2
        | false ↦ (up.0, above_out r.0 e rows up.1, climbs_out next e rows up.2)
      ]

  pub climbs_more : (next : ℕ) (rows : List (ℕ × A)) → Climbs next rows → Climbs (next + 1) rows
  climbs_more next [] up = tt
  climbs_more next (r ∷ rows) up = (let l : r.0 < next = up.0 in omega arith, up.1, climbs_more next rows up.2)

  -- an id at or above next isn't there
  pub climbs_none : (next e : ℕ) (rows : List (ℕ × A)) → Climbs next rows → next ≤ e → lookup (λ k. k == e) rows ≡ None
  climbs_none next e [] up l = refl
  climbs_none next e (r ∷ rows) up l =
      head_isnt e r rows (is_other r.0 e (λ same. let m : r.0 < next = up.0 in absurd (omega arith))) ∙ climbs_none next e rows up.2 l

  pub climbs_some : (next e : ℕ) (n : A) (rows : List (ℕ × A)) → Climbs next rows → lookup (λ k. k == e) rows ≡ Some n → e < next
  climbs_some next e n [] up some = absurd (none_some some)
  climbs_some next e n (r ∷ rows) up some =
      both_ways (r.0 == e)
      (λ yes. subst (λ k. k < next) (eqb-true r.0 e yes) up.0)
      (λ isnt. climbs_some next e n rows up.2 (sym (head_isnt e r rows isnt) ∙ some))
