-- What is picked of a map after one of its ids changed.
-- Cited by `EraseLemmas`, `InsertedLemmas`, `LiveNodeLemmas`, `PutLemmas`, `RelocateLemmas` and 6 more.
use Rattle.std.proofs.Common.{◌≡◌, ◌≢◌, ℕ, ◌<◌, true, false, cond, inl, inr, List, [], ◌∷◌, ◌++◌, refl, ap, sym, ◌∙◌, subst, arith}
use Rattle.std.specs.Prelude.{◌==◌}
use Rattle.std.specs.Map.{lookup}
use Rattle.std.specs.Option.{option_and_then}
use Rattle.std.specs.Ordering.{nat_cmp}
use Rattle.std.specs.FinMap.{FinMap, entries, get, insert, remove, get-insert, get-remove}
use Rattle.std.proofs.lemmas.Cmp.{nat_cmp_total}
use Rattle.std.proofs.lemmas.Bool.Decides.{eqb_tells}
use Rattle.std.specs.declared.option.Option.{Option}
use Rattle.std.specs.declared.option.Option.TheVariants.{None, Some}
use Rattle.mi_container.specs.Data.{Content, Node, Climbs}
use Rattle.mi_container.specs.Changes.{entered, left_out, with_content}
use Rattle.mi_container.proofs.PairLemmas.{is_itself, is_other, lookup_out, lookup_out_same, lookup_push, lookup_push_same}
use Rattle.mi_container.proofs.PairLemmas.{lookup_entered, lookup_entered_same, climbs_entered, climbs_out, climbs_none}
use Rattle.mi_container.proofs.ContentLemmas.{node_with, node_beside}
use Rattle.mi_multi.specs.Physical.{picked}
use Rattle.mi_multi.proofs.PickLemmas.{Above, Up, up_of_climbs, eq_cmp, same_pairs, up_picked, up_entries, get_picked}

-- Maps

module _ {A : Type 0} where
  pub get_here : (m : FinMap nat_cmp A) (e : ℕ) (v : A) → get (insert m e v) e ≡ Some v
  get_here m e v = get-insert nat_cmp_total m e v e ∙ ap (λ b. cond b (Some v) (get m e)) (eq_cmp e e ∙ is_itself e)

  pub get_beside : (m : FinMap nat_cmp A) (e q : ℕ) (v : A) → q ≢ e → get (insert m e v) q ≡ get m q
  get_beside m e q v ne = get-insert nat_cmp_total m e v q ∙ ap (λ b. cond b (Some v) (get m q)) (eq_cmp q e ∙ is_other e q (λ same. ne (sym same)))

  pub get_gone : (m : FinMap nat_cmp A) (e : ℕ) → get (remove m e) e ≡ None
  get_gone m e = get-remove nat_cmp_total m e e ∙ ap (λ b. cond b None (get m e)) (eq_cmp e e ∙ is_itself e)

  pub get_left : (m : FinMap nat_cmp A) (e q : ℕ) → q ≢ e → get (remove m e) q ≡ get m q
  get_left m e q ne = get-remove nat_cmp_total m e q ∙ ap (λ b. cond b None (get m q)) (eq_cmp q e ∙ is_other e q (λ same. ne (sym same)))

alike_there : {A B : Type 0} (f g : A → Option B) (o : Option A) → ((a : A) → o ≡ Some a → g a ≡ f a) → option_and_then g o ≡ option_and_then f o
alike_there f g None is = refl
alike_there f g (Some a) is = is a refl

-- Lists that ascend

above_with : (a e : ℕ) (c : Content) (rows : List (ℕ × Node)) → Above a rows → Above a (with_content e c rows)
above_with a e c [] up = tt
above_with a e c (r ∷ rows) up =
    elim (r.0 == e) as (λ b. Above a (cond b ((r.0, record { at = r.1.at; content = c }) ∷ rows) (r ∷ with_content e c rows))) [
      | true ↦ up
      | false ↦ (up.0, above_with a e c rows up.1)
    ]

up_with : (e : ℕ) (c : Content) (rows : List (ℕ × Node)) → Up rows → Up (with_content e c rows)
up_with e c [] up = tt
up_with e c (r ∷ rows) up =
    elim (r.0 == e) as (λ b. Up (cond b ((r.0, record { at = r.1.at; content = c }) ∷ rows) (r ∷ with_content e c rows))) [
      | true ↦ up
      | false ↦ (above_with r.0 e c rows up.0, up_with e c rows up.1)
    ]

above_push : {A : Type 0} (a e : ℕ) (n : A) (rows : List (ℕ × A)) → a < e → Above a rows → Above a (rows ++ (e, n) ∷ [])
above_push a e n [] l up = (l, tt)
above_push a e n (r ∷ rows) l up = (up.0, above_push a e n rows l up.1)

up_push : {A : Type 0} (e : ℕ) (n : A) (rows : List (ℕ × A)) → Climbs e rows → Up (rows ++ (e, n) ∷ [])
up_push e n [] up = (tt, tt)
up_push e n (r ∷ rows) up = (above_push r.0 e n rows up.0 up.1, up_push e n rows up.2)

-- f picked of the map before, g picks of the one after, and the two are alike but for the id e
module _ {A B : Type 0} (f g : A → Option B) (old new : FinMap nat_cmp A) (e : ℕ)
    (others : (q : ℕ) → q ≢ e → get new q ≡ get old q) (alike : (q : ℕ) (a : A) → q ≢ e → get old q ≡ Some a → g a ≡ f a) where
  beside : (q : ℕ) → q ≢ e → option_and_then g (get new q) ≡ option_and_then f (get old q)
  beside q ne = ap (option_and_then g) (others q ne) ∙ alike_there f g (get old q) (λ a is. alike q a ne is)

  is_picked : (ys : List (ℕ × B)) → Up ys → ((q : ℕ) → q ≢ e → lookup (λ k. k == q) ys ≡ lookup (λ k. k == q) (picked f (entries old)))
      → option_and_then g (get new e) ≡ lookup (λ k. k == e) ys → picked g (entries new) ≡ ys
  is_picked ys up same here =
      same_pairs (picked g (entries new)) ys (up_picked g (entries new) (up_entries new)) up
      (λ q. get_picked g new q ∙ elim (eqb_tells q e) [
        | inl is ↦ subst (λ k. option_and_then g (get new k) ≡ lookup (λ i. i == k) ys) (sym is.1) here
        | inr isnt ↦ beside q isnt.1 ∙ sym (get_picked f old q) ∙ sym (same q isnt.1)
      ])

  -- it is gone
  pub picked_lost : (next : ℕ) → Climbs next (picked f (entries old))
      → option_and_then g (get new e) ≡ None → picked g (entries new) ≡ left_out e (picked f (entries old))
  picked_lost next up gone =
      is_picked (left_out e (picked f (entries old))) (up_of_climbs next (left_out e (picked f (entries old))) (climbs_out next e (picked f (entries old)) up))
      (λ q ne. lookup_out q e (picked f (entries old)) ne) (gone ∙ sym (lookup_out_same e (picked f (entries old))))

  -- it is there now
  pub picked_entered : (next : ℕ) (b : B) → Climbs next (picked f (entries old)) → e < next → option_and_then f (get old e) ≡ None
      → option_and_then g (get new e) ≡ Some b → picked g (entries new) ≡ entered e b (picked f (entries old))
  picked_entered next b up l none here =
      let was : lookup (λ k. k == e) (picked f (entries old)) ≡ None = get_picked f old e ∙ none in
      is_picked (entered e b (picked f (entries old)))
      (up_of_climbs next (entered e b (picked f (entries old))) (climbs_entered next e b (picked f (entries old)) up l was))
      (λ q ne. lookup_entered q e b (picked f (entries old)) ne) (here ∙ sym (lookup_entered_same e b (picked f (entries old)) was))

  -- or there as the last
  pub picked_pushed : (b : B) → Climbs e (picked f (entries old)) → option_and_then g (get new e) ≡ Some b
      → picked g (entries new) ≡ picked f (entries old) ++ (e, b) ∷ []
  picked_pushed b up here =
      let was : lookup (λ k. k == e) (picked f (entries old)) ≡ None = climbs_none e e (picked f (entries old)) up (omega arith) in
      is_picked (picked f (entries old) ++ (e, b) ∷ []) (up_push e b (picked f (entries old)) up)
      (λ q ne. lookup_push q e b (picked f (entries old)) ne) (here ∙ sym (lookup_push_same e b (picked f (entries old)) was))

  -- or as it was
  pub picked_still : option_and_then g (get new e) ≡ option_and_then f (get old e) → picked g (entries new) ≡ picked f (entries old)
  picked_still here = is_picked (picked f (entries old)) (up_picked f (entries old) (up_entries old)) (λ q ne. refl) (here ∙ sym (get_picked f old e))

-- a node has another content
pub picked_with : {A : Type 0} (f g : A → Option Node) (old new : FinMap nat_cmp A) (e : ℕ)
    → ((q : ℕ) → q ≢ e → get new q ≡ get old q) → ((q : ℕ) (a : A) → q ≢ e → get old q ≡ Some a → g a ≡ f a)
    → (n : Node) (c : Content) → option_and_then f (get old e) ≡ Some n → option_and_then g (get new e) ≡ Some (record { at = n.at; content = c })
    → picked g (entries new) ≡ with_content e c (picked f (entries old))
picked_with f g old new e others alike n c was now =
    is_picked f g old new e others alike (with_content e c (picked f (entries old)))
    (up_with e c (picked f (entries old)) (up_picked f (entries old) (up_entries old)))
    (λ q ne. node_beside q e c (picked f (entries old)) ne) (now ∙ sym (node_with e c (picked f (entries old)) n (get_picked f old e ∙ was)))
