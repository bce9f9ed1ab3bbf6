-- The refusals of a change name an index that is there.
-- Cited by `Executor::insert`, `Executor::modify` and `Executor::replace`.
use Rattle.std.proofs.Common.{◌≡◌, ℕ, ◌+◌, ◌<◌, ◌≤◌, List, [], ◌∷◌, length, drop, Bool, true, false, cond, not, ◌||◌}
use Rattle.std.proofs.Common.{◌==◌, Option, Some, None, Result, Ok, Err, refl, sym, ap, ◌∙◌, subst, arith, inl, inr, ◌⊎◌}
use Rattle.std.specs.Option.{option_map, option_map_or, option_or}
use Rattle.mi_value.specs.declared.value.Value.{Value}
use Rattle.mi_value.specs.declared.refusal.Refusal.{Refusal}
use Rattle.mi_value.specs.declared.refusal.Refusal.TheVariants.{NoId, Full, Spent, Unique, Lost, Memory}
use Rattle.mi_catalog.specs.declared.index.Index.{Index}
use Rattle.mi_catalog.specs.Shape.{Shape, CatalogShape, schema_at}
use Rattle.mi_catalog.specs.Key.{Row}
use Rattle.mi_model.specs.Table.{Table, size}
use Rattle.mi_model.specs.Conflict.{rival, conflict_from, conflict}
use Rattle.mi_value.specs.declared.edit.Edit.{Edit}
use Rattle.mi_value.specs.Edits.{apply}
use Rattle.mi_model.specs.Table.{has, row}
use Rattle.mi_model.specs.Verdict.{Outcome, has_place, is_spent, as_unique, unless, insert_refusal, insert_outcome, replace_refusal}
use Rattle.mi_model.specs.Verdict.{replace_outcome, refused_modify, modified, modify_outcome}
use Rattle.mi_model.specs.Database.{Database, Step, schema_of, table_of}
use Rattle.mi_model.specs.DatabaseChange.{MeetsRefusal, insert_step, replace_step, modify_step}
use Rattle.mi_protocol.specs.Replies.{IsRefusalOf}

abbrev Within : ℕ → Option (ℕ × ℕ) → Type 0
Within n None = Unit {0}
Within n (Some at) = at.0 < n

within_more : (m n : ℕ) (o : Option (ℕ × ℕ)) → m ≤ n → Within m o → Within n o
within_more m n None le h = tt
within_more m n (Some at) le h = omega arith

within_first : (n m : ℕ) (b : Bool) (o : Option ℕ) (rest : Option (ℕ × ℕ)) → n < m
    → Within m rest → Within m (option_or (cond b (option_map (λ id. (n, id)) o) None) rest)
within_first n m true None rest lt h = h
within_first n m true (Some id) rest lt h = lt
within_first n m false o rest lt h = h

conflict_from-within : (n : ℕ) (is : List Index) (rows : List Row) (r : List Value) (except : Option ℕ)
    → Within (n + length is) (conflict_from n is rows r except)
conflict_from-within n [] rows r except = tt
conflict_from-within n (i ∷ is) rows r except =
    within_first n (n + length (i ∷ is)) i.«unique» (rival rows i.parts r except) (conflict_from (n + 1) is rows r except) (omega arith)
    (within_more (n + 1 + length is) (n + length (i ∷ is)) _ (omega arith) (conflict_from-within (n + 1) is rows r except))

conflict-within : (s : Shape) (t : Table) (r : List Value) (except : Option ℕ) → Within (length s.indexes) (conflict s t r except)
conflict-within s t r except = by_indexes s.indexes
  where
    by_indexes : (is : List Index) → Within (length is) (conflict_from 1 (drop 1 is) t.rows r except)
    by_indexes [] = tt
    by_indexes (i ∷ is) = within_more (1 + length is) (length (i ∷ is)) _ (omega arith) (conflict_from-within 1 is t.rows r except)

-- a refusal of a change of a table with so many indexes
abbrev IndexWithin : ℕ → Refusal → Type 0
IndexWithin n (Unique x id) = x < n
IndexWithin n (Lost x id) = x < n
IndexWithin n e = Unit {0}

abbrev RefusalWithin : ℕ → Option Refusal → Type 0
RefusalWithin n None = Unit {0}
RefusalWithin n (Some e) = IndexWithin n e

-- what a change of such a table answers
abbrev AnswerWithin : {A : Type 0} → ℕ → Result A Refusal → Type 0
AnswerWithin n (Ok v) = Unit {0}
AnswerWithin n (Err e) = IndexWithin n e

unique-within : (n : ℕ) (o : Option (ℕ × ℕ)) → Within n o → RefusalWithin n (option_map as_unique o)
unique-within n None h = tt
unique-within n (Some at) h = h

either-within : (n : ℕ) (b : Bool) (o p : Option Refusal) → RefusalWithin n o → RefusalWithin n p → RefusalWithin n (cond b o p)
either-within n true o p h k = h
either-within n false o p h k = k

unless-within : {A : Type 0} (n : ℕ) (o : Option Refusal) (answer : A) (changed t : Table) → RefusalWithin n o → AnswerWithin n (unless o answer changed t).0
unless-within n None answer changed t h = tt
unless-within n (Some e) answer changed t h = h

either-answer : {A : Type 0} (n : ℕ) (b : Bool) (x y : Outcome A) → AnswerWithin n x.0 → AnswerWithin n y.0 → AnswerWithin n (cond b x y).0
either-answer n true x y h k = h
either-answer n false x y h k = k

insert-within : (s : Shape) (at : Option (ℕ × ℕ)) (r : List Value) (t : Table) → AnswerWithin (length s.indexes) (insert_outcome s at r t).0
insert-within s at r t =
    unless-within (length s.indexes) (insert_refusal s at r t) t.next _ t
    (either-within (length s.indexes) (not (has_place t (option_map (λ p. p.1) at))) (Some NoId) _ tt
    (either-within (length s.indexes) (size t == s.max_rows) (Some Full) _ tt
    (either-within (length s.indexes) (is_spent t.next || is_spent t.arrivals) (Some Spent) _ tt
    (unique-within (length s.indexes) (conflict s t r None) (conflict-within s t r None)))))

replace-within : (s : Shape) (e : ℕ) (r : List Value) (t : Table) → AnswerWithin (length s.indexes) (replace_outcome s e r t).0
replace-within s e r t =
    unless-within (length s.indexes) (replace_refusal s e r t) tt _ t
    (either-within (length s.indexes) (not (has t e)) (Some NoId) _ tt
    (either-within (length s.indexes) (is_spent t.arrivals) (Some Spent) _ tt
    (unique-within (length s.indexes) (conflict s t r (Some e)) (conflict-within s t r (Some e)))))

refused_modify-within : (n : ℕ) (rollback : Bool) (e : ℕ) (at : ℕ × ℕ) (t : Table) → at.0 < n → AnswerWithin n (refused_modify rollback e at t).0
refused_modify-within n true e at t h = h
refused_modify-within n false e at t h = h

conflicting-within : (n : ℕ) (rollback : Bool) (e : ℕ) (o : Option (ℕ × ℕ)) (put t : Table) → Within n o
    → AnswerWithin n (option_map_or (λ at. refused_modify rollback e at t) o (Ok tt, put)).0
conflicting-within n rollback e None put t h = tt
conflicting-within n rollback e (Some at) put t h = refused_modify-within n rollback e at t h

modified-within : (s : Shape) (e : ℕ) (rollback : Bool) (r : Option (List Value)) (t : Table) → AnswerWithin (length s.indexes) (modified s e rollback r t).0
modified-within s e rollback None t = tt
modified-within s e rollback (Some r) t =
    either-answer (length s.indexes) (is_spent t.arrivals) (Err Spent, t) _ tt
    (conflicting-within (length s.indexes) rollback e (conflict s t r (Some e)) _ t (conflict-within s t r (Some e)))

modify-within : (s : Shape) (e : ℕ) (edits : List Edit) (rollback : Bool) (t : Table) → AnswerWithin (length s.indexes) (modify_outcome s e edits rollback t).0
modify-within s e edits rollback t =
    either-answer (length s.indexes) (not (has t e)) (Err NoId, t) _ tt (modified-within s e rollback (apply edits (row t e).1) t)

of_index : (c : CatalogShape) (n : ℕ) (e : Refusal) → n < length c.tables → IndexWithin (length (schema_at c n).indexes) e → IsRefusalOf c n e
of_index c n (Unique x id) table h = (table, h)
of_index c n (Lost x id) table h = (table, h)
of_index c n e table h = tt

refusal_cases : {A S : Type 0} (step : Result A Refusal × S) (e : Refusal) (old new : S) → MeetsRefusal step e old new
    → ((step.0 ≡ Err e) × (new ≡ step.1)) ⊎ ((e ≡ Memory) × (new ≡ old))
refusal_cases step Memory old new h = inr (refl, h)
refusal_cases step e old new h = inl h

answered-within : {A : Type 0} (n : ℕ) (answer : Result A Refusal) (e : Refusal) → AnswerWithin n answer → answer ≡ Err e → IndexWithin n e
answered-within n (Ok v) e h is = absurd (ok_err is)
  where
    ok_err : {A : Type 0} {v : A} {e : Refusal} → ◌≡◌ {A = Result A Refusal} (Ok v) (Err e) → ⊥
    ok_err k = cc
answered-within n (Err f) e h is = subst (IndexWithin n) (same is) h
  where
    same : {A : Type 0} {e f : Refusal} → ◌≡◌ {A = Result A Refusal} (Err e) (Err f) → e ≡ f
    same k = cc

-- a refusal of a change of this table can be said over the catalog as it is then
module _ (d new : Database) (table : ℕ) (e : Refusal) (there : table < length d.catalog.tables) where
  refusal_said : {A : Type 0} (step : Step A) → step.1.catalog ≡ d.catalog → AnswerWithin (length (schema_of d table).indexes) step.0
      → MeetsRefusal step e d new → IsRefusalOf new.catalog table e
  refusal_said step stays within h = elim (refusal_cases step e d new h) [
    | inl p ↦
        subst (λ c. IsRefusalOf c table e) (sym (ap (λ (x : Database). x.catalog) p.1 ∙ stays))
        (of_index d.catalog table e there (answered-within (length (schema_of d table).indexes) step.0 e within p.0))
    | inr p ↦ subst (IsRefusalOf new.catalog table) (sym p.0) tt
  ]

  pub insert_refusal_said : (row : List Value) (at : Option (ℕ × ℕ)) → MeetsRefusal (insert_step table at row d) e d new → IsRefusalOf new.catalog table e
  insert_refusal_said row at = refusal_said (insert_step table at row d) refl (insert-within (schema_of d table) at row (table_of d table))

  pub replace_refusal_said : (id : ℕ) (row : List Value) → MeetsRefusal (replace_step table id row d) e d new → IsRefusalOf new.catalog table e
  replace_refusal_said id row = refusal_said (replace_step table id row d) refl (replace-within (schema_of d table) id row (table_of d table))

  pub modify_refusal_said : (id : ℕ) (edits : List Edit) (rollback : Bool)
      → MeetsRefusal (modify_step table id edits rollback d) e d new → IsRefusalOf new.catalog table e
  modify_refusal_said id edits rollback = refusal_said (modify_step table id edits rollback d)
      refl (modify-within (schema_of d table) id edits rollback (table_of d table))
