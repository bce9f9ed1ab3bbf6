-- What a replace and a modify answer, by which refusal applies.
-- Cited by `MultiIndex::edited`, `MultiIndex::modify`, `MultiIndex::modify_to` and `MultiIndex::replace`.
use Rattle.std.proofs.Common.{◌≡◌, ◌≢◌, ℕ, Bool, true, false, cond, not, inl, inr, List, [], refl, ap, sym, ◌∙◌, subst}
use Rattle.std.specs.Prelude.{IfOk, IfErr, ◌⊎◌}
use Rattle.std.specs.Option.{option_map, option_map_or, is_some, unwrap_or}
use Rattle.std.specs.declared.option.Option.{Option}
use Rattle.std.specs.declared.option.Option.TheVariants.{None, Some}
use Rattle.std.specs.declared.result.Result.{Result}
use Rattle.std.specs.declared.result.Result.TheVariants.{Ok, Err}
use Rattle.mi_value.specs.declared.value.Value.{Value}
use Rattle.mi_value.specs.declared.edit.Edit.{Edit}
use Rattle.mi_value.specs.declared.limits.TheConstants.{LAST_COUNT}
use Rattle.mi_value.specs.declared.refusal.Refusal.{Refusal}
use Rattle.mi_value.specs.declared.refusal.Refusal.TheVariants.{NoId, Range, Spent, Unique, Memory}
use Rattle.mi_value.specs.Edits.{apply}
use Rattle.mi_catalog.specs.Shape.{Shape}
use Rattle.mi_model.specs.Table.{Table, get, has, row}
use Rattle.mi_model.specs.Conflict.{conflict}
use Rattle.mi_model.specs.Change.{put}
use Rattle.mi_model.specs.DatabaseChange.{Meets, MeetsRefusal}
use Rattle.mi_model.specs.Verdict.{Outcome, is_spent, as_unique, unless, replace_refusal, replace_outcome, refused_modify, modified, modify_outcome}
use Rattle.mi_container.specs.Data.{Data, IsData, as_table}
use Rattle.mi_container.specs.Inverse.{Inverse}
use Rattle.mi_container.specs.Run.Change.{Replace, Erase}
use Rattle.mi_container.specs.Makes.{Makes, MakesModify, Tells, TellsAlone, IsNoLoss}
use Rattle.mi_container.specs.Backs.{places_seen, step_seen, lost_by}
use Rattle.mi_container.specs.declared.inverse.Step.{Step}
use Rattle.mi_node.specs.declared.old_place.OldPlace.{OldPlace as Place}
use Rattle.mi_container.proofs.PairLemmas.{is_other, none_some, some_is}
use Rattle.mi_container.proofs.LawLemmas.{change_is_tables}
use Rattle.mi_multi.proofs.AcceptLemmas.{refused_meets}

module _ (s : Shape) (e : ℕ) (r : List Value) (t : Table) where
  pub replace_refused : (x : Refusal) → replace_refusal s e r t ≡ Some x → MeetsRefusal (replace_outcome s e r t) x t t
  replace_refused x h = subst (λ o. MeetsRefusal (unless o tt (put s e r t) t) x t t) (sym h) (refused_meets (Unit {0}) x t)

  pub replace_no_row : has t e ≡ false → replace_refusal s e r t ≡ Some NoId
  replace_no_row h = ap (λ b. cond (not b) (Some NoId) (cond (is_spent t.arrivals) (Some Spent) (option_map as_unique (conflict s t r (Some e))))) h

  pub replace_meets : (new : Table) → replace_refusal s e r t ≡ None → new ≡ put s e r t
      → ((replace_outcome s e r t).0 ≡ Ok tt) × (new ≡ (replace_outcome s e r t).1)
  replace_meets new h is = (ap (λ o. (unless o tt (put s e r t) t).0) h, is ∙ sym (ap (λ o. (unless o tt (put s e r t) t).1) h))

no_memory : (a b : Bool) (o : Option (ℕ × ℕ)) (x : Refusal) → cond (not a) (Some NoId) (cond b (Some Spent) (option_map as_unique o)) ≡ Some x → x ≢ Memory
no_memory false b o x h = λ same. absurd (let is : NoId ≡ Memory = some_is h ∙ same in cc)
no_memory true true o x h = λ same. absurd (let is : Spent ≡ Memory = some_is h ∙ same in cc)
no_memory true false None x h = absurd (none_some h)
no_memory true false (Some p) x h = λ same. absurd (let is : Unique p.0 p.1 ≡ Memory = some_is h ∙ same in cc)

pub replace_no_memory : (s : Shape) (e : ℕ) (r : List Value) (t : Table) (x : Refusal) → replace_refusal s e r t ≡ Some x → x ≢ Memory
replace_no_memory s e r t x h = no_memory (has t e) (is_spent t.arrivals) (conflict s t r (Some e)) x h

none_applies : (a b : Bool) (o : Option (ℕ × ℕ)) → cond (not a) (Some NoId) (cond b (Some Spent) (option_map as_unique o)) ≡ None → (a ≡ true) × (o ≡ None)
none_applies false b o h = absurd (none_some (sym h))
none_applies true true o h = absurd (none_some (sym h))
none_applies true false None h = (refl, refl)
none_applies true false (Some p) h = absurd (none_some (sym h))

pub replaceable : (s : Shape) (e : ℕ) (r : List Value) (t : Table) → replace_refusal s e r t ≡ None → (has t e ≡ true) × (conflict s t r (Some e) ≡ None)
replaceable s e r t h = none_applies (has t e) (is_spent t.arrivals) (conflict s t r (Some e)) h

-- the table that a put leaves
pub put_table : (s : Shape) (e : ℕ) (r : List Value) (old : Data) (i : Inverse) (new : Data)
    → IsData s old → Makes s (Replace e r) old i new → as_table new ≡ put s e r (as_table old)
put_table s e r old i new is made = ap as_table made.changed_data ∙ (change_is_tables s (Replace e r) old is made.allowed).1

-- Modify

module _ (s : Shape) (e : ℕ) (edits : List Edit) (rollback : Bool) (t : Table) where
  pub modify_no_row : has t e ≡ false → MeetsRefusal (modify_outcome s e edits rollback t) NoId t t
  modify_no_row h = ((λ i. (outcome (h i)).0), sym (λ i. (outcome (h i)).1))
    where
      outcome : Bool → Outcome (Unit {0})
      outcome b = cond (not b) (Err NoId, t) (modified s e rollback (apply edits (row t e).1) t)

  modify_there : has t e ≡ true → modify_outcome s e edits rollback t ≡ modified s e rollback (apply edits (row t e).1) t
  modify_there h = ap (λ b. cond (not b) (Err NoId, t) (modified s e rollback (apply edits (row t e).1) t)) h

  edits_refused : (x : Refusal) → has t e ≡ true → (x ≡ Range → apply edits (row t e).1 ≡ None)
      → (x ≡ Range) ⊎ (x ≡ Memory) → MeetsRefusal (modify_outcome s e edits rollback t) x t t
  edits_refused x h range (inl is) =
      subst (λ k. MeetsRefusal (modify_outcome s e edits rollback t) k t t) (sym is)
      (subst (λ o. MeetsRefusal o Range t t) (sym (modify_there h ∙ ap (λ o. modified s e rollback o t) (range is))) (refl, refl))
  edits_refused x h range (inr is) = subst (λ k. MeetsRefusal (modify_outcome s e edits rollback t) k t t) (sym is) refl

-- what is said of a row's edited record
pub record IsEdited (s : Shape) (e : ℕ) (edits : List Edit) (t : Table) (res : Result (List Value) Refusal) : Type 0 where
  pub there : IfOk res (λ edited. has t e ≡ true)
  pub edited : IfOk res (λ edited. apply edits (row t e).1 ≡ Some edited)
  pub refused : (rollback : Bool) → IfErr res (λ x. MeetsRefusal (modify_outcome s e edits rollback t) x t t)
  pub loss : IfErr res IsNoLoss

-- what the edits make of a record that was got
module _ (s : Shape) (e : ℕ) (edits : List Edit) (t : Table) (r : List Value) (at : get t e ≡ Some r) (res : Result (List Value) Refusal)
    (ok : IfOk res (λ edited. apply edits r ≡ Some edited)) (range : res ≡ Err Range → apply edits r ≡ None)
    (only : IfErr res (λ x. (x ≡ Range) ⊎ (x ≡ Memory))) where
  there : has t e ≡ true
  there = ap is_some at

  same : (row t e).1 ≡ r
  same = ap (λ o. unwrap_or o []) at

  got_there : IfOk res (λ edited. has t e ≡ true)
  got_there = elim res as (λ k. IfOk k (λ edited. has t e ≡ true)) [ Ok edited ↦ there | Err x ↦ tt ]

  got_edited : IfOk res (λ edited. apply edits (row t e).1 ≡ Some edited)
  got_edited = subst (λ v. IfOk res (λ edited. apply edits v ≡ Some edited)) (sym same) ok

  refused_of : (k : Result (List Value) Refusal) → res ≡ k → IfErr k (λ x. (x ≡ Range) ⊎ (x ≡ Memory))
      → (rollback : Bool) → IfErr k (λ x. MeetsRefusal (modify_outcome s e edits rollback t) x t t)
  refused_of (Ok edited) is which rollback = tt
  refused_of (Err x) is which rollback = edits_refused s e edits rollback t x there (λ ranged. ap (apply edits) same ∙ range (is ∙ ap Err ranged)) which

  got_refused : (rollback : Bool) → IfErr res (λ x. MeetsRefusal (modify_outcome s e edits rollback t) x t t)
  got_refused = refused_of res refl only

  loss_of : (k : Result (List Value) Refusal) → IfErr k (λ x. (x ≡ Range) ⊎ (x ≡ Memory)) → IfErr k IsNoLoss
  loss_of (Ok edited) which = tt
  loss_of (Err x) (inl is) = subst IsNoLoss (sym is) tt
  loss_of (Err x) (inr is) = subst IsNoLoss (sym is) tt

  pub got_all : IsEdited s e edits t res
  got_all = record { there = got_there; edited = got_edited; refused = got_refused; loss = loss_of res only }

module _ (s : Shape) (e : ℕ) (r : List Value) (rollback : Bool) (t : Table) where
  abbrev later : Outcome (Unit {0})
  later = option_map_or (λ at. refused_modify rollback e at t) (conflict s t r (Some e)) (Ok tt, put s e r t)

  unspent_is : t.arrivals ≢ LAST_COUNT → modified s e rollback (Some r) t ≡ later
  unspent_is a = ap (λ b. cond b (Err Spent, t) later) (is_other t.arrivals LAST_COUNT a)

  none_is : t.arrivals ≢ LAST_COUNT → (o : Option (ℕ × ℕ)) → conflict s t r (Some e) ≡ o
      → modified s e rollback (Some r) t ≡ option_map_or (λ at. refused_modify rollback e at t) o (Ok tt, put s e r t)
  none_is a o h = unspent_is a ∙ ap (λ o. option_map_or (λ at. refused_modify rollback e at t) o (Ok tt, put s e r t)) h

module _ (s : Shape) (e : ℕ) (r : List Value) (rollback : Bool) (old : Data) (is : IsData s old) (unspent : (as_table old).arrivals ≢ LAST_COUNT) where
  abbrev t : Table
  t = as_table old

  -- where nothing refuses it the record is put
  module _ (none : conflict s t r (Some e) ≡ None) (i : Inverse) (new : Data) (made : Makes s (Replace e r) old i new) where
    pub put_meets : Meets (modified s e rollback (Some r) t) (Ok tt) t (as_table new)
    put_meets =
        subst (λ (o : Outcome (Unit {0})). Meets o (Ok tt) t (as_table new))
        (sym (none_is s e r rollback t unspent None none)) (refl, put_table s e r old i new is made)

-- a modify that lost its row
pub lost_made : (s : Shape) (e : ℕ) (old new : Data) (at : ℕ × ℕ) (noted : Bool) (laid : List (Option Place)) (res : Result Step Refusal)
    → IfOk res (λ k. TellsAlone k (λ i. Makes s (Erase e (Some at)) old i new)) → IfOk res (λ k. lost_by k ≡ Some at)
    → IfOk res (λ k. Tells noted k laid (λ i. MakesModify (lost_by k) s e old i new))
lost_made s e old new at noted laid (Err x) made lost = tt
lost_made s e old new at noted laid (Ok k) made lost = (
  places_seen laid,
  (λ n. refl),
  subst (λ w. MakesModify w s e old (step_seen k (places_seen laid)) new) (sym lost) (made (places_seen laid)),
)
