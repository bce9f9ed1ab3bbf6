-- Erasing the rows of a key one by one, the first of them each time.
-- Cited by `Linked::erase_first`, `LinkedSessions::erase_key` and `KeptLemmas`.
use Rattle.std.proofs.Common.{◌≡◌, ◌≢◌, true, cond, Option, Some, None, ℕ, suc, ◌+◌, ◌<◌, ◌≤◌, List, [], ◌∷◌, length, refl, ap, sym, ◌∙◌, subst, arith}
use Rattle.std.specs.Prelude.{slice_get, ◌==◌}
use Rattle.std.proofs.lemmas.List.{set-set, get_or-set_same}
use Rattle.std.specs.declared.result.Result.{Result}
use Rattle.std.specs.declared.result.Result.TheVariants.{Ok, Err}
use Rattle.mi_value.specs.declared.value.Value.{Value}
use Rattle.mi_value.specs.declared.refusal.Refusal.{Refusal}
use Rattle.mi_value.specs.declared.refusal.Refusal.TheVariants.{Memory, NoId}
use Rattle.mi_catalog.specs.Shape.{Shape}
use Rattle.mi_model.specs.Table.{Table, IsTable, has, times}
use Rattle.mi_model.specs.View.{view, of_key}
use Rattle.mi_model.specs.Change.{without, erase, erase_all, erase_key}
use Rattle.mi_model.specs.LookUp.{find}
use Rattle.mi_model.specs.Verdict.{Outcome}
use Rattle.mi_model.specs.DatabaseChange.{Meets, MeetsRefusal, erase_step, erase_key_step}
use Rattle.mi_model.specs.Database.{Database, schema_of, table_of, with_table}
use Rattle.mi_model.proofs.ViewLaws.{of_key-erase}
use Rattle.mi_model.proofs.TableLaws.{lacks_of_count}
use Rattle.mi_model.proofs.PlaceLaws.{IsOnce, each_in_view, once_of_each, once-filter}
use Rattle.mi_model.proofs.NextLaws.{key_is_there}
use Rattle.mi_database.specs.Keyed.{keyed, ErasesOne}
use Rattle.mi_database.specs.LinkedData.{LinkedData, meaning}
use Rattle.mi_database.specs.Kept.{kept_with}
use Rattle.mi_container.proofs.SequenceLemmas.{without_lacks, drop_is}
use Rattle.mi_container.proofs.PairLemmas.{is_itself}

-- a list by its first
first_split : (ids : List ℕ) (e : ℕ) → slice_get ids 0 ≡ Some e → (rest : List ℕ) × (ids ≡ e ∷ rest)
first_split [] e is = absurd (let h : None ≡ Some e = is in cc)
first_split (a ∷ ids) e is = let same : a ≡ e = (let h : Some a ≡ Some e = is in cc) in (ids, ap (λ q. q ∷ ids) same)

without_first : (e : ℕ) (rest : List ℕ) → IsOnce (e ∷ rest) → without e (e ∷ rest) ≡ rest
without_first e rest once =
    let count : cond {A = ℕ} (e == e) 1 0 + times e rest ≤ 1 = once e in
    let one : cond {A = ℕ} (e == e) 1 0 ≡ 1 = ap (λ b. cond {A = ℕ} b 1 0) (is_itself e) in
    drop_is e e rest (is_itself e) ∙ without_lacks e rest (lacks_of_count e rest (omega arith))

-- the first row of a key erased
pub record ErasesFirst (s : Shape) (t : Table) (x : ℕ) (key : List Value) (e : ℕ) : Type 0 where
  pub there : has t e ≡ true
  pub split : of_key s t x key ≡ e ∷ of_key s (erase e t) x key
  pub fewer : length (of_key s (erase e t) x key) + 1 ≡ length (of_key s t x key)
  pub all : erase_key s x key (erase e t) ≡ erase_key s x key t

pub erases_first : (s : Shape) (t : Table) (x : ℕ) (key : List Value) (e : ℕ) → IsTable s t → x < length s.indexes → find s t x key ≡ Some e
    → ErasesFirst s t x key e
erases_first s t x key e is within first =
    let each = each_in_view s t x is within in
    let split : (rest : List ℕ) × (of_key s t x key ≡ e ∷ rest) = first_split (of_key s t x key) e first in
    let once : IsOnce (of_key s t x key) = once-filter _ (view s t x) (once_of_each t (view s t x) each) in
    let left : of_key s (erase e t) x key ≡ split.0 = of_key-erase s e t x key ∙ ap (without e) split.1 ∙ without_first e split.0 (subst IsOnce split.1 once) in
    record {
      there = key_is_there s t x key each 0 e first;
      split = split.1 ∙ ap (λ q. e ∷ q) (sym left);
      fewer = ap (λ q. length q + 1) left ∙ sym (ap length split.1 ∙ (let more : suc (length split.0) ≡ length split.0 + 1 = omega arith in more));
      all = ap (λ q. erase_all q (erase e t)) left ∙ sym (ap (λ q. erase_all q t) split.1);
    }

refused_there : (n e : ℕ) (d new : Database) (f : Refusal) → has (table_of d n) e ≡ true → f ≢ Memory → MeetsRefusal (erase_step n e d) f d new
    → new ≡ with_table n (erase e (table_of d n)) d
refused_there n e d new Memory there never m = absurd (never refl)
refused_there n e d new f there never m = m.1 ∙ ap (λ b. with_table n
    (cond {A = Outcome (Unit {0})} b (Ok tt, erase e (table_of d n)) (Err NoId, table_of d n)).1 d) there

-- an erase of a row that is there, which isn't refused for memory
pub erased_there : (n e : ℕ) (d new : Database) (r : Result (Unit {0}) Refusal) → has (table_of d n) e ≡ true → r ≢ Err Memory
    → Meets (erase_step n e d) r d new → new ≡ with_table n (erase e (table_of d n)) d
erased_there n e d new (Ok v) there never meets = meets.1 ∙ ap
    (λ b. with_table n (cond {A = Outcome (Unit {0})} b (Ok tt, erase e (table_of d n)) (Err NoId, table_of d n)).1 d) there
erased_there n e d new (Err f) there never meets = refused_there n e d new f there (λ same. never (ap Err same)) meets

pub erases_one : (n x e : ℕ) (key : List Value) (d : Database) → n < length d.tables → ErasesFirst (schema_of d n) (table_of d n) x key e
    → ErasesOne n x key d (with_table n (erase e (table_of d n)) d)
erases_one n x e key d l first =
    let s : Shape = schema_of d n in
    let t : Table = table_of d n in
    let there : table_of (with_table n (erase e t) d) n ≡ erase e t = get_or-set_same d.tables n (erase e t) _ l in
    record {
      fewer = ap (λ q. length (of_key s q x key) + 1) there ∙ first.fewer;
      all = ap (λ q. with_table n (erase_key s x key q) (with_table n (erase e t) d)) there
          ∙ ap (λ ts. record d { tables = ts }) (set-set d.tables n (erase e t) (erase_key s x key (erase e t)))
          ∙ ap (λ q. with_table n q d) first.all;
    }

pub some_found : {A : Type 0} (P : Type 0) (ids : List A) → 0 < length ids → (r : Option A) → r ≡ slice_get ids 0 → ((e : A) → r ≢ Some e) → P
some_found P [] some r is never = absurd (omega arith)
some_found P (a ∷ ids) some r is never = absurd (never a is)

-- while the rows of a key are erased
pub record Erasing (n x : ℕ) (key : List Value) (rows i : ℕ) (first now : LinkedData) : Type 0 where
  pub catalog : now.catalog ≡ first.catalog
  pub secrets : now.secrets ≡ first.secrets
  pub open_ : length now.journal ≡ length first.journal
  pub left : length (keyed n x key (meaning now)) + i ≡ rows
  pub all : (erase_key_step n x key (meaning now)).1 ≡ (erase_key_step n x key (meaning first)).1
  pub room : 0 < length now.journal → rows ≤ now.changes + i
  pub kept : kept_with n x key now ≡ kept_with n x key first
  pub changes : first.changes ≤ now.changes + i
  pub starts : now.starts ≡ first.starts
