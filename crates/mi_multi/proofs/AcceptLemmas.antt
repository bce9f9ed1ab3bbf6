-- What is known of a record that no rule refuses.
-- Cited by `MultiIndex::has`, `MultiIndex::insert_accepted`, `MultiIndex::insert_refusal`, `MultiIndex::insert_row` and 2 more.
use Rattle.std.proofs.Common.{◌≡◌, ◌≢◌, ℕ, ◌+◌, ◌≤◌, zero, suc, IfSome, Bool, true, false, cond, not}
use Rattle.std.proofs.Common.{◌||◌, inl, inr, List, [], ◌∷◌, get_or, refl, ap, sym, ◌∙◌, subst, arith}
use Rattle.std.specs.Prelude.{◌==◌}
use Rattle.std.specs.Option.{option_map, is_some}
use Rattle.std.specs.Ordering.{nat_cmp}
use Rattle.std.specs.FinMap.{FinMap}
use Rattle.std.proofs.lemmas.Bool.{false≢true}
use Rattle.std.proofs.lemmas.Bool.Decides.{eqb_tells}
use Rattle.std.specs.declared.option.Option.{Option}
use Rattle.std.specs.declared.option.Option.TheVariants.{None, Some}
use Rattle.std.specs.declared.result.Result.TheVariants.{Ok, Err}
use Rattle.mi_value.specs.declared.value.Value.{Value}
use Rattle.mi_value.specs.declared.refusal.Refusal.{Refusal}
use Rattle.mi_value.specs.declared.refusal.Refusal.TheVariants.{NoId, Full, Spent, Memory}
use Rattle.mi_value.specs.declared.limits.TheConstants.{LAST_COUNT}
use Rattle.mi_catalog.specs.declared.index.Index.{Index}
use Rattle.mi_catalog.specs.Kinds.{is_sequenced}
use Rattle.mi_catalog.specs.Shape.{Shape}
use Rattle.mi_model.specs.Table.{Table, has, size}
use Rattle.mi_model.specs.Change.{insert}
use Rattle.mi_model.specs.Conflict.{conflict}
use Rattle.mi_model.specs.DatabaseChange.{MeetsRefusal}
use Rattle.mi_model.specs.Verdict.{is_spent, has_place, as_unique, unless, insert_refusal, insert_outcome}
use Rattle.mi_node.specs.Pool.{Pooled}
use Rattle.mi_node.specs.Refs.{Ref}
use Rattle.mi_order.specs.declared.stored.Stored.{Stored}
use Rattle.mi_index.specs.declared.structure.Structure.{Structure}
use Rattle.mi_container.specs.Asked.{IsSequenced}
use Rattle.mi_container.specs.Data.{Data, as_table}
use Rattle.mi_container.specs.Data.Order.{ById}
use Rattle.mi_container.specs.Fits.{HasOwnList}
use Rattle.mi_container.specs.Run.{PlaceFits}
use Rattle.mi_container.proofs.PairLemmas.{none_some, is_other}
use Rattle.mi_container.proofs.InvariantLemmas.{has_there}
use Rattle.mi_ids.specs.declared.entry.IdEntry.{IdEntry}
use Rattle.mi_ids.specs.IdMap.{live_node}
use Rattle.mi_multi.specs.Physical.{orders_of, plan, node_in}
use Rattle.mi_multi.specs.Multi.{own_lists, plain_of}
use Rattle.mi_multi.specs.Before.{node_before}
use Rattle.mi_multi.proofs.ListLemmas.{itself}
use Rattle.mi_multi.proofs.EveryIndexLemmas.{sequenced_order}
use Rattle.mi_multi.proofs.AnswerLemmas.{live_is, none_has, row_is}
use Rattle.mi_multi.proofs.InsertLemmas.{IsBefore}

pub record Accepted (s : Shape) (at : Option (ℕ × ℕ)) (r : List Value) (t : Table) : Type 0 where
  pub there : has_place t (option_map (λ p. p.1) at) ≡ true
  pub next : t.next ≢ LAST_COUNT
  pub arrivals : t.arrivals ≢ LAST_COUNT
  pub alone : conflict s t r None ≡ None

none_applies : (a b c : Bool) (o : Option (ℕ × ℕ))
    → cond (not a) (Some NoId) (cond b (Some Full) (cond c (Some Spent) (option_map as_unique o))) ≡ None → (a ≡ true) × (c ≡ false) × (o ≡ None)
none_applies false b c o h = absurd (none_some (sym h))
none_applies true true c o h = absurd (none_some (sym h))
none_applies true false true o h = absurd (none_some (sym h))
none_applies true false false None h = (refl, refl, refl)
none_applies true false false (Some p) h = absurd (none_some (sym h))

neither : (a b : Bool) → (a || b) ≡ false → (a ≡ false) × (b ≡ false)
neither false b h = (refl, h)
neither true b h = absurd (false≢true (sym h))

unspent : (n : ℕ) → is_spent n ≡ false → n ≢ LAST_COUNT
unspent n h = elim (eqb_tells n LAST_COUNT) [ inl is ↦ absurd (false≢true (sym h ∙ is.0)) | inr isnt ↦ isnt.1 ]

pub accepted : (s : Shape) (at : Option (ℕ × ℕ)) (r : List Value) (t : Table) → insert_refusal s at r t ≡ None → Accepted s at r t
accepted s at r t h =
    let all = none_applies (has_place t (option_map (λ p. p.1) at)) (size t == s.max_rows) (is_spent t.next || is_spent t.arrivals) (conflict s t r None) h in
    let both = neither (is_spent t.next) (is_spent t.arrivals) all.1 in
    record { there = all.0; next = unspent t.next both.0; arrivals = unspent t.arrivals both.1; alone = all.2 }

-- Which refusal applies

module _ (s : Shape) (at : Option (ℕ × ℕ)) (r : List Value) (t : Table) where
  abbrev others : Option Refusal
  others = cond (is_spent t.next || is_spent t.arrivals) (Some Spent) (option_map as_unique (conflict s t r None))

  pub no_place : not (has_place t (option_map (λ p. p.1) at)) ≡ true → insert_refusal s at r t ≡ Some NoId
  no_place h = ap (λ n. cond n (Some NoId) (cond (size t == s.max_rows) (Some Full) others)) h

  passed_place : not (has_place t (option_map (λ p. p.1) at)) ≡ false → insert_refusal s at r t ≡ cond (size t == s.max_rows) (Some Full) others
  passed_place h = ap (λ n. cond n (Some NoId) (cond (size t == s.max_rows) (Some Full) others)) h

  pub is_full : not (has_place t (option_map (λ p. p.1) at)) ≡ false → size t ≡ s.max_rows → insert_refusal s at r t ≡ Some Full
  is_full h f = passed_place h ∙ ap (λ n. cond n (Some Full) others) (itself f)

  passed_size : not (has_place t (option_map (λ p. p.1) at)) ≡ false → (size t ≡ s.max_rows → ⊥) → insert_refusal s at r t ≡ others
  passed_size h f = passed_place h ∙ ap (λ n. cond n (Some Full) others) (is_other (size t) s.max_rows f)

  pub next_spent : not (has_place t (option_map (λ p. p.1) at)) ≡ false → (size t ≡ s.max_rows → ⊥) → t.next ≡ LAST_COUNT → insert_refusal s at r t ≡ Some Spent
  next_spent h f n = passed_size h f
      ∙ ap (λ a. cond (a || is_spent t.arrivals) (Some Spent) (option_map as_unique (conflict s t r None))) (itself n)

  pub arrivals_spent : not (has_place t (option_map (λ p. p.1) at)) ≡ false → (size t ≡ s.max_rows → ⊥)
      → (t.next ≡ LAST_COUNT → ⊥) → t.arrivals ≡ LAST_COUNT → insert_refusal s at r t ≡ Some Spent
  arrivals_spent h f n a =
      passed_size h f ∙ ap (λ w. cond (w || is_spent t.arrivals) (Some Spent) (option_map as_unique (conflict s t r None))) (is_other t.next LAST_COUNT n)
      ∙ ap (λ w. cond w (Some Spent) (option_map as_unique (conflict s t r None))) (itself a)

  pub unique_refuses : not (has_place t (option_map (λ p. p.1) at)) ≡ false
      → (size t ≡ s.max_rows → ⊥) → (t.next ≡ LAST_COUNT → ⊥) → (t.arrivals ≡ LAST_COUNT → ⊥)
      → insert_refusal s at r t ≡ option_map as_unique (conflict s t r None)
  unique_refuses h f n a =
      passed_size h f ∙ ap (λ w. cond (w || is_spent t.arrivals) (Some Spent) (option_map as_unique (conflict s t r None))) (is_other t.next LAST_COUNT n)
      ∙ ap (λ w. cond w (Some Spent) (option_map as_unique (conflict s t r None))) (is_other t.arrivals LAST_COUNT a)

-- A refusal that is the definition's is met

pub refused_meets : (A : Type 0) {S : Type 0} (e : Refusal) (t : S) → MeetsRefusal {A = A} (Err e, t) e t t
refused_meets A Memory t = refl
refused_meets A e t = (refl, refl)

pub insert_refused : (s : Shape) (at : Option (ℕ × ℕ)) (r : List Value) (t : Table) (e : Refusal)
    → insert_refusal s at r t ≡ Some e → MeetsRefusal (insert_outcome s at r t) e t t
insert_refused s at r t e h = subst (λ o. MeetsRefusal (unless o t.next (insert at r t) t) e t t) (sym h) (refused_meets _ e t)

pub insert_meets : (s : Shape) (at : Option (ℕ × ℕ)) (r : List Value) (t : Table) (id : ℕ) (new : Table)
    → insert_refusal s at r t ≡ None → id ≡ t.next → new ≡ insert at r t
    → ((insert_outcome s at r t).0 ≡ Ok id) × (new ≡ (insert_outcome s at r t).1)
insert_meets s at r t id new h same is =
    (ap (λ o. (unless o t.next (insert at r t) t).0) h ∙ ap Ok (sym same), is ∙ sym (ap (λ o. (unless o t.next (insert at r t) t).1) h))

pub rises : (a b : ℕ) → a ≤ b → a ≢ b → a + 1 ≤ b
rises a b l ne = omega arith

-- The place

listed_at : (is : List Index) (ls : List (List ℕ)) (x : ℕ) (none : Index) → is_sequenced none.kind ≡ false
    → is_sequenced (get_or is x none).kind ≡ true → HasOwnList (get_or (orders_of is ls) x ById)
listed_at [] ls x none no_ h = absurd (false≢true (sym no_ ∙ h))
listed_at (i ∷ is) [] zero none no_ h = subst HasOwnList (sym (sequenced_order i.kind i.parts [] h)) tt
listed_at (i ∷ is) [] (suc x) none no_ h = listed_at is [] x none no_ h
listed_at (i ∷ is) (l ∷ ls) zero none no_ h = subst HasOwnList (sym (sequenced_order i.kind i.parts l h)) tt
listed_at (i ∷ is) (l ∷ ls) (suc x) none no_ h = listed_at is ls x none no_ h

module _ (s : Shape) (ids : FinMap nat_cmp IdEntry) (m : Pooled Stored) (xs : List Structure) (next arrivals : ℕ) where
  abbrev d : Data
  d = plain_of s ids m xs next arrivals

  -- a sequenced index has a list of its own
  has_list : (x : ℕ) → IsSequenced s x → HasOwnList (get_or d.orders x ById)
  has_list x h = listed_at s.indexes (own_lists m xs) x _ refl (ap is_sequenced h)

  pub place_fits : (at : Option (ℕ × ℕ)) → IfSome at (λ p. IsSequenced s p.0) → PlaceFits at d.orders
  place_fits None h = tt
  place_fits (Some p) h = has_list p.0 h

  one_before : (p : ℕ × ℕ) (o : Option Ref) → live_node ids p.1 ≡ o → has (as_table d) p.1 ≡ true → IsBefore ids (Some p) (option_map (λ r. (p.0, r)) o)
  one_before p None is h = absurd (false≢true (sym (none_has s ids m xs next arrivals p.1 is) ∙ h))
  one_before p (Some r) is h = (refl, live_is ids p.1 r is)

  -- the row that a place names is live
  pub before_is : (at : Option (ℕ × ℕ)) → has_place (as_table d) (option_map (λ p. p.1) at) ≡ true → IsBefore ids at (node_before ids at)
  before_is None h = tt
  before_is (Some p) h = one_before p (live_node ids p.1) refl h

  live_has : (e : ℕ) (o : Option Ref) → live_node ids e ≡ o → is_some o ≡ has (as_table d) e
  live_has e None h = sym (none_has s ids m xs next arrivals e h)
  live_has e (Some r) h = sym (has_there d e (node_in m (plan s.indexes) r, row_is s ids m xs next arrivals e r h))

  -- a live id has a row
  pub has_live : (e : ℕ) → is_some (live_node ids e) ≡ has (as_table d) e
  has_live e = live_has e (live_node ids e) refl
