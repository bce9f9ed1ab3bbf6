-- How long the list of an index is: as many nodes as live ids, which are no more than all ids.
-- Cited by `InsertLemmas`, `NewRecordLemmas`, `OldRecordPlaceLemmas`, `RestampLemmas` and `ReturnLemmas`.
use Rattle.std.proofs.Common.{◌≡◌, ◌≢◌, ℕ, ◌+◌, ◌<◌, ◌≤◌, suc, true, false, cond, not, inl, inr, List, [], ◌∷◌, length, refl, ap, sym, ◌∙◌, subst, arith}
use Rattle.std.specs.Prelude.{◌==◌}
use Rattle.std.specs.Ordering.{nat_cmp}
use Rattle.std.specs.Map.{lookup}
use Rattle.std.specs.FinMap.{FinMap, get, entries, len, len-entries}
use Rattle.std.proofs.lemmas.Bool.Decides.{eqb_tells}
use Rattle.std.specs.declared.option.Option.TheVariants.{None, Some}
use Rattle.mi_model.specs.Table.{times}
use Rattle.mi_model.specs.Change.{without}
use Rattle.mi_node.specs.Pool.{Pooled}
use Rattle.mi_node.specs.Refs.{Ref}
use Rattle.mi_order.specs.declared.stored.Stored.{Stored}
use Rattle.mi_container.proofs.PairLemmas.{is_itself, is_other, head_is, head_isnt, none_some, some_is}
use Rattle.mi_container.proofs.SequenceLemmas.{drop_is, drop_isnt}
use Rattle.mi_ids.specs.declared.entry.IdEntry.{IdEntry}
use Rattle.mi_multi.specs.Multi.{ids_at, is_live, AreLive}
use Rattle.mi_multi.proofs.PickLemmas.{Above, Up, up_entries, get_lookup}

length_without : (e : ℕ) (ids : List ℕ) → length ids ≡ times e ids + length (without e ids)
length_without e [] = refl
length_without e (a ∷ ids) =
    let rest : length ids ≡ times e ids + length (without e ids) = length_without e ids in
    elim (a == e) as (λ b. suc (length ids) ≡ (cond {A = ℕ} b 1 0 + times e ids) + length (cond (not b) (a ∷ without e ids) (without e ids))) [
      | true ↦ omega arith
      | false ↦ omega arith
    ]

times_gone : (e : ℕ) (ids : List ℕ) → times e (without e ids) ≡ 0
times_gone e [] = refl
times_gone e (a ∷ ids) =
    elim (eqb_tells a e) [
      | inl is ↦ ap (times e) (drop_is e a ids is.0) ∙ times_gone e ids
      | inr isnt ↦ ap (times e) (drop_isnt e a ids isnt.0)
          ∙ (let rest : times e (without e ids) ≡ 0 = times_gone e ids in
          let z : cond {A = ℕ} (a == e) 1 0 ≡ 0 = ap (λ b. cond {A = ℕ} b 1 0) isnt.0 in
          omega arith)
    ]

times_left : (q e : ℕ) (ids : List ℕ) → q ≢ e → times q (without e ids) ≡ times q ids
times_left q e [] ne = refl
times_left q e (a ∷ ids) ne =
    elim (eqb_tells a e) [
      | inl is ↦ ap (times q) (drop_is e a ids is.0) ∙ (let rest : times q (without e ids) ≡ times q ids = times_left q e ids ne in
          let z : cond {A = ℕ} (a == q) 1 0 ≡ 0 = ap (λ b. cond {A = ℕ} b 1 0) (is_other a q (λ same. ne (sym same ∙ is.1))) in omega arith)
      | inr isnt ↦ ap (times q) (drop_isnt e a ids isnt.0) ∙ ap (λ n. cond {A = ℕ} (a == q) 1 0 + n) (times_left q e ids ne)
    ]

abbrev pub live_count : List (ℕ × IdEntry) → ℕ
live_count [] = 0
live_count (r ∷ es) = cond {A = ℕ} r.1.live 1 0 + live_count es

above_absent : (e : ℕ) (es : List (ℕ × IdEntry)) → Above e es → lookup (λ k. k == e) es ≡ None
above_absent e [] all = refl
above_absent e (r ∷ es) all = head_isnt e r es (is_other r.0 e (λ same. let l : e < r.0 = all.0 in absurd (omega arith))) ∙ above_absent e es all.1

some_times : (a : ℕ) (ids : List ℕ) → 0 < times a (a ∷ ids)
some_times a ids = let one : cond {A = ℕ} (a == a) 1 0 ≡ 1 = ap (λ b. cond {A = ℕ} b 1 0) (is_itself a) in omega arith

counted : (es : List (ℕ × IdEntry)) → Up es → (ids : List ℕ)
    → ((q : ℕ) → times q ids ≡ cond (is_live (lookup (λ k. k == q) es)) 1 0) → length ids ≡ live_count es
counted [] up [] each = refl
counted [] up (a ∷ ids) each = absurd (let some : 0 < times a (a ∷ ids) = some_times a ids in let none : times a (a ∷ ids) ≡ 0 = each a in omega arith)
counted (r ∷ es) up ids each =
    let first : times r.0 ids ≡ cond {A = ℕ} r.1.live 1 0 = each r.0 ∙ ap (λ o. cond {A = ℕ} (is_live o) 1 0) (head_is r.0 r es (is_itself r.0)) in
    let rest : length (without r.0 ids) ≡ live_count es =
    counted es up.1 (without r.0 ids) (λ q. elim (eqb_tells r.0 q) [
      | inl same ↦
          subst (λ a. times a (without r.0 ids) ≡ cond (is_live (lookup (λ k. k == a) es)) 1 0) same.1
          (times_gone r.0 ids ∙ sym (ap (λ o. cond {A = ℕ} (is_live o) 1 0) (above_absent r.0 es up.0)))
      | inr isnt ↦ times_left q r.0 ids (λ k. isnt.1 (sym k)) ∙ each q ∙ ap (λ o. cond {A = ℕ} (is_live o) 1 0) (head_isnt q r es isnt.0)
    ]) in
    let all : length ids ≡ times r.0 ids + length (without r.0 ids) = length_without r.0 ids in
    omega arith

few_live : (es : List (ℕ × IdEntry)) → live_count es ≤ length es
few_live [] = omega arith
few_live (r ∷ es) =
    let rest : live_count es ≤ length es = few_live es in
    elim r.1.live as (λ b. cond {A = ℕ} b 1 0 + live_count es ≤ suc (length es)) [ true ↦ omega arith | false ↦ omega arith ]

fewer_live : (e : ℕ) (a : IdEntry) (es : List (ℕ × IdEntry)) → lookup (λ k. k == e) es ≡ Some a → a.live ≡ false → live_count es + 1 ≤ length es
fewer_live e a [] there dead = absurd (none_some there)
fewer_live e a (r ∷ es) there dead =
    elim (eqb_tells r.0 e) [
      | inl same ↦
          let is : r.1 ≡ a = some_is (sym (head_is e r es same.0) ∙ there) in
          let z : cond {A = ℕ} r.1.live 1 0 ≡ 0 = ap (λ b. cond {A = ℕ} b 1 0) (ap (λ (k : IdEntry). k.live) is ∙ dead) in
          let rest : live_count es ≤ length es = few_live es in
          let goal : cond {A = ℕ} r.1.live 1 0 + live_count es + 1 ≤ suc (length es) = omega arith in goal
      | inr isnt ↦
          let rest : live_count es + 1 ≤ length es = fewer_live e a es (sym (head_isnt e r es isnt.0) ∙ there) dead in
          elim r.1.live as (λ b. cond {A = ℕ} b 1 0 + live_count es + 1 ≤ suc (length es)) [ true ↦ omega arith | false ↦ omega arith ]
    ]

length_ids : (m : Pooled Stored) (rs : List Ref) → length (ids_at m rs) ≡ length rs
length_ids m [] = refl
length_ids m (r ∷ rs) = ap suc (length_ids m rs)

module _ (ids : FinMap nat_cmp IdEntry) (m : Pooled Stored) (rs : List Ref) (live : AreLive ids m rs) where
  long : length rs ≡ live_count (entries ids)
  long = sym (length_ids m rs)
      ∙ counted (entries ids) (up_entries ids) (ids_at m rs) (λ q. live.each q ∙ ap (λ o. cond {A = ℕ} (is_live o) 1 0) (sym (get_lookup ids q)))

  -- no more nodes than ids
  pub no_longer : length rs ≤ len ids
  no_longer =
      let a : length rs ≡ live_count (entries ids) = long in
      let b : live_count (entries ids) ≤ length (entries ids) = few_live (entries ids) in
      let c : len ids ≡ length (entries ids) = len-entries ids in
      omega arith

  -- and fewer where a node is only kept
  pub shorter : (e : ℕ) (a : IdEntry) → get ids e ≡ Some a → a.live ≡ false → length rs + 1 ≤ len ids
  shorter e a there dead =
      let l : length rs ≡ live_count (entries ids) = long in
      let f : live_count (entries ids) + 1 ≤ length (entries ids) = fewer_live e a (entries ids) (get_lookup ids e ∙ there) dead in
      let c : len ids ≡ length (entries ids) = len-entries ids in omega arith
