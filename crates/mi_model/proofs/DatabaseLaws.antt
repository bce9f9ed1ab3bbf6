-- Each command takes databases to databases.
-- Cited by `AlikeLaws`, `InvariantLaws`, `UniqueLaws` and `mi_plain`.
use Rattle.std.proofs.Common.{◌≡◌, ℕ, ◌+◌, ◌-◌, ◌<◌, ◌≤◌, zero, suc, Bool, true, false, cond, not, ◌&&◌}
use Rattle.std.proofs.Common.{Option, Some, None, List, [], ◌∷◌, length, take, get_or, set, refl, arith}
use Rattle.std.specs.Prelude.{◌==◌, if◌then◌else◌}
use Rattle.std.specs.List.{AllZip, AllByRecursion}
use Rattle.std.specs.Option.{option_map, option_map_or}
use Rattle.std.specs.declared.result.Result.{Result}
use Rattle.std.specs.declared.result.Result.TheVariants.{Ok, Err}
use Rattle.mi_value.specs.declared.value.Value.{Value}
use Rattle.mi_value.specs.declared.edit.Edit.{Edit}
use Rattle.mi_value.specs.declared.refusal.Refusal.{Refusal}
use Rattle.mi_value.specs.declared.refusal.Refusal.TheVariants.{NoId, Spent, Depth}
use Rattle.mi_value.specs.declared.refusal.NoSession.{NoSession}
use Rattle.mi_value.specs.Edits.{apply}
use Rattle.mi_catalog.specs.Shape.{Shape, CatalogShape}
use Rattle.mi_model.specs.Table.{Table, IsTable, has, row}
use Rattle.mi_model.specs.View.{of_key}
use Rattle.mi_model.specs.Conflict.{conflict}
use Rattle.mi_model.specs.Change.{insert, put, erase, erase_all, relocate}
use Rattle.mi_model.specs.Verdict.{Outcome, is_spent, has_place, unless, insert_refusal, insert_outcome, as_unique, replace_outcome}
use Rattle.mi_model.specs.Verdict.{refused_modify, modified, modify_outcome, erase_outcome, erase_key_outcome, relocate_outcome}
use Rattle.mi_model.specs.Database.{Database, IsDatabase, schema_of, table_of, on_table, depth, started, undone, undone_times, squashed, ending, committed}
use Rattle.mi_model.specs.Run.{Command, after_command, run}
use Rattle.mi_model.specs.Run.Command.{Insert, Replace, Modify, Erase, EraseKey, Relocate, Start, Undo, Squash, Commit, UndoAll}
use Rattle.mi_model.proofs.TableLaws.{is_table_insert, is_table_erase, is_table_put, is_table_relocate}

unless_keeps : {A : Type 0} (s : Shape) (o : Option Refusal) (answer : A) (changed t : Table)
    → IsTable s changed → IsTable s t → IsTable s (unless o answer changed t).1
unless_keeps s None answer changed t is was = is
unless_keeps s (Some e) answer changed t is was = was

-- whichever way a test goes
pub either_keeps : {A : Type 0} (P : Table → Type 0) (b : Bool) (x y : Outcome A) → (b ≡ true → P x.1) → (b ≡ false → P y.1) → P (cond b x y).1
either_keeps P true x y f g = f refl
either_keeps P false x y f g = g refl

insert_keeps : (s : Shape) (at : Option (ℕ × ℕ)) (r : List Value) (t : Table) → IsTable s t → IsTable s (insert_outcome s at r t).1
insert_keeps s at r t is = unless_keeps s (insert_refusal s at r t) t.next (insert at r t) t (is_table_insert s at r t is) is

pub not_not : (b : Bool) → not b ≡ false → b ≡ true
not_not true e = refl
not_not false e = absurd (cc)

replaced_keeps : (s : Shape) (e : ℕ) (r : List Value) (t : Table) (there : Bool) → has t e ≡ there → (rest : Option Refusal)
    → IsTable s t → IsTable s (unless {A = Unit {0}} (if not there then Some NoId else rest) tt (put s e r t) t).1
replaced_keeps s e r t true there rest is = unless_keeps {A = Unit {0}} s rest tt (put s e r t) t (is_table_put s e r t there is) is
replaced_keeps s e r t false there rest is = is

replace_keeps : (s : Shape) (e : ℕ) (r : List Value) (t : Table) → IsTable s t → IsTable s (replace_outcome s e r t).1
replace_keeps s e r t is = replaced_keeps s e r t (has t e) refl (if is_spent t.arrivals then Some Spent else option_map as_unique (conflict s t r (Some e))) is

lost_keeps : (P : Table → Type 0) (s : Shape) (e : ℕ) (r : List Value) (rollback : Bool) (t : Table) (at : Option (ℕ × ℕ)) → (at ≡ None → P (put s e r t))
    → P (erase e t) → P t → P (option_map_or (λ at. refused_modify rollback e at t) at (Ok tt, put s e r t)).1
lost_keeps P s e r rollback t None puts erased is = puts refl
lost_keeps P s e r true t (Some at) puts erased is = is
lost_keeps P s e r false t (Some at) puts erased is = erased

-- what holds of a table after each put without a conflict, and once the row is erased, holds after an edit of the row
pub edited_keeps : (P : Table → Type 0) (s : Shape) (e : ℕ) (rollback : Bool) (r : Option (List Value)) (t : Table)
    → ((q : List Value) → conflict s t q (Some e) ≡ None → P (put s e q t)) → P (erase e t) → P t → P (modified s e rollback r t).1
edited_keeps P s e rollback None t puts erased is = is
edited_keeps P s e rollback (Some r) t puts erased is =
    either_keeps {A = Unit {0}} P (is_spent t.arrivals) (Err Spent, t)
    (option_map_or (λ at. refused_modify rollback e at t) (conflict s t r (Some e)) (Ok tt, put s e r t))
    (λ _. is) (λ _. lost_keeps P s e r rollback t (conflict s t r (Some e)) (puts r) erased is)

modified_keeps : (s : Shape) (e : ℕ) (rollback : Bool) (r : Option (List Value)) (t : Table)
    → has t e ≡ true → IsTable s t → IsTable s (modified s e rollback r t).1
modified_keeps s e rollback r t there is =
    edited_keeps (IsTable s) s e rollback r t (λ q _. is_table_put s e q t there is) (is_table_erase s e t is) is

modify_keeps : (s : Shape) (e : ℕ) (edits : List Edit) (rollback : Bool) (t : Table) → IsTable s t → IsTable s (modify_outcome s e edits rollback t).1
modify_keeps s e edits rollback t is =
    either_keeps {A = Unit {0}} (IsTable s) (not (has t e)) (Err NoId, t) (modified s e rollback (apply edits (row t e).1) t) (λ _. is)
    (λ there. modified_keeps s e rollback (apply edits (row t e).1) t (not_not (has t e) there) is)

erase_keeps : (s : Shape) (e : ℕ) (t : Table) → IsTable s t → IsTable s (erase_outcome e t).1
erase_keeps s e t is = either_keeps {A = Unit {0}} (IsTable s) (has t e) (Ok tt, erase e t) (Err NoId, t) (λ _. is_table_erase s e t is) (λ _. is)

is_table_erase_all : (s : Shape) (ids : List ℕ) (t : Table) → IsTable s t → IsTable s (erase_all ids t)
is_table_erase_all s [] t is = is
is_table_erase_all s (e ∷ ids) t is = is_table_erase_all s ids (erase e t) (is_table_erase s e t is)

erase_key_keeps : (s : Shape) (x : ℕ) (key : List Value) (t : Table) → IsTable s t → IsTable s (erase_key_outcome s x key t).1
erase_key_keeps s x key t is = is_table_erase_all s (of_key s t x key) t is

both_true : (a b : Bool) → (a && b) ≡ true → a ≡ true
both_true true b e = refl
both_true false b e = absurd (cc)

relocate_keeps : (s : Shape) (x e : ℕ) (b : Option ℕ) (t : Table) → IsTable s t → IsTable s (relocate_outcome x e b t).1
relocate_keeps s x e b t is =
    either_keeps {A = Unit {0}} (IsTable s) (has t e && has_place t b) (Ok tt, relocate x e b t) (Err NoId, t)
    (λ there. is_table_relocate s x e b t (both_true (has t e) (has_place t b) there) is) (λ _. is)

pub zip_get : (R : Shape → Table → Type 0) (xs : List Shape) (ys : List Table) (n : ℕ) (d : Shape) (e : Table)
    → AllZip R xs ys → n < length ys → R (get_or xs n d) (get_or ys n e)
zip_get R [] [] n d e all l = absurd (omega arith)
zip_get R [] (y ∷ ys) n d e all l = absurd all
zip_get R (x ∷ xs) [] n d e all l = absurd all
zip_get R (x ∷ xs) (y ∷ ys) zero d e all l = all.0
zip_get R (x ∷ xs) (y ∷ ys) (suc n) d e all l = zip_get R xs ys n d e all.1 (omega arith)

pub zip_set : (R : Shape → Table → Type 0) (xs : List Shape) (ys : List Table) (n : ℕ) (d : Shape) (u : Table)
    → AllZip R xs ys → (n < length ys → R (get_or xs n d) u) → AllZip R xs (set ys n u)
zip_set R [] [] n d u all p = all
zip_set R [] (y ∷ ys) n d u all p = absurd all
zip_set R (x ∷ xs) [] n d u all p = absurd all
zip_set R (x ∷ xs) (y ∷ ys) zero d u all p = (p (omega arith), all.1)
zip_set R (x ∷ xs) (y ∷ ys) (suc n) d u all p = (all.0, zip_set R xs ys n d u all.1 (λ l. p (omega arith)))

-- a change that keeps tables keeps databases
on_table_keeps : {A : Type 0} (n : ℕ) (change : Shape → Table → Outcome A)
    → ((s : Shape) (t : Table) → IsTable s t → IsTable s (change s t).1) → (d : Database) → IsDatabase d → IsDatabase (on_table n change d).1
on_table_keeps n change keeps d is =
    record {
      tables = zip_set IsTable d.catalog.tables d.tables n _ (change (schema_of d n) (table_of d n)).1 is.tables
          (λ within. keeps (schema_of d n) (table_of d n) (zip_get IsTable d.catalog.tables d.tables n _ _ is.tables within));
      old = is.old;
      numbered = is.numbered;
    }

started_is : (d : Database) → IsDatabase d → IsDatabase (started d)
started_is d is = record { tables = is.tables; old = (is.tables, is.old); numbered = (let l : length d.old ≤ d.revision = is.numbered in omega arith) }

abbrev db : CatalogShape → List Table → List (List Table) → ℕ → Database
db c ts old r = record { catalog = c; tables = ts; old = old; revision = r }

undone_is : (c : CatalogShape) (ts : List Table) (old : List (List Table)) (r : ℕ) → IsDatabase (db c ts old r) → IsDatabase (undone (db c ts old r))
undone_is c ts [] r is = is
undone_is c ts (o ∷ old) r is = record { tables = is.old.0; old = is.old.1; numbered = (let l : length (o ∷ old) ≤ r = is.numbered in omega arith) }

squashed_is : (c : CatalogShape) (ts : List Table) (old : List (List Table)) (r : ℕ) → IsDatabase (db c ts old r) → IsDatabase (squashed (db c ts old r))
squashed_is c ts [] r is = is
squashed_is c ts (o ∷ old) r is = record { tables = is.tables; old = is.old.1; numbered = (let l : length (o ∷ old) ≤ r = is.numbered in omega arith) }

undone_times_is : (k : ℕ) (d : Database) → IsDatabase d → IsDatabase (undone_times k d)
undone_times_is zero d is = is
undone_times_is (suc k) d is = undone_times_is k (undone d) (undone_is d.catalog d.tables d.old d.revision is)

pub all_take : (P : List Table → Type 0) (n : ℕ) (xs : List (List Table)) → AllByRecursion P xs → AllByRecursion P (take n xs)
all_take P zero xs all = tt
all_take P (suc n) [] all = tt
all_take P (suc n) (x ∷ xs) all = (all.0, all_take P n xs all.1)

length_take : (n : ℕ) (xs : List (List Table)) → length (take n xs) ≤ length xs
length_take zero xs = omega arith
length_take (suc n) [] = omega arith
length_take (suc n) (x ∷ xs) = let l : length (take n xs) ≤ length xs = length_take n xs in omega arith

committed_is : (x : ℕ) (d : Database) → IsDatabase d → IsDatabase (committed x d)
committed_is x d is =
    record {
      tables = is.tables;
      old = all_take (AllZip IsTable d.catalog.tables) _ d.old is.old;
      numbered = (let l : length d.old ≤ d.revision = is.numbered in
          let m : length (take (depth d - ending x d) d.old) ≤ length d.old = length_take _ d.old in
          omega arith);
    }

-- whichever way a test goes
either_is : {A : Type 0} (b : Bool) (x y : A × Database) → IsDatabase x.1 → IsDatabase y.1 → IsDatabase (cond b x y).1
either_is true x y p q = p
either_is false x y p q = q

-- each command, accepted or refused, takes databases to databases
pub is_database_after : (c : Command) (d : Database) → IsDatabase d → IsDatabase (after_command c d)
is_database_after (Insert n at r) d is = on_table_keeps n (λ s t. insert_outcome s at r t) (λ s t. insert_keeps s at r t) d is
is_database_after (Replace n e r) d is = on_table_keeps n (λ s t. replace_outcome s e r t) (λ s t. replace_keeps s e r t) d is
is_database_after (Modify n e edits rollback) d is = on_table_keeps n
    (λ s t. modify_outcome s e edits rollback t) (λ s t. modify_keeps s e edits rollback t) d is
is_database_after (Erase n e) d is = on_table_keeps n (λ s t. erase_outcome e t) (λ s t. erase_keeps s e t) d is
is_database_after (EraseKey n x key) d is = on_table_keeps n (λ s t. erase_key_outcome s x key t) (λ s t. erase_key_keeps s x key t) d is
is_database_after (Relocate n x e b) d is = on_table_keeps n (λ s t. relocate_outcome x e b t) (λ s t. relocate_keeps s x e b t) d is
is_database_after Start d is =
    either_is {A = Result ℕ Refusal} (is_spent d.revision) (Err Spent, d) (if depth d == 1024 then (Err Depth, d) else (Ok (d.revision + 1), started d)) is
    (either_is {A = Result ℕ Refusal} (depth d == 1024) (Err Depth, d) (Ok (d.revision + 1), started d) is (started_is d is))
is_database_after Undo d is = either_is {A = Result ℕ NoSession} (depth d == 0) (Err (record {}), d)
    (Ok (d.revision - 1), undone d) is (undone_is d.catalog d.tables d.old d.revision is)
is_database_after Squash d is = either_is {A = Result ℕ NoSession} (depth d == 0) (Err (record {}), d)
    (Ok (d.revision - 1), squashed d) is (squashed_is d.catalog d.tables d.old d.revision is)
is_database_after (Commit x) d is = committed_is x d is
is_database_after UndoAll d is = undone_times_is (depth d) d is

pub is_database_run : (cs : List Command) (d : Database) → IsDatabase d → IsDatabase (run cs d)
is_database_run [] d is = is
is_database_run (c ∷ cs) d is = is_database_run cs (after_command c d) (is_database_after c d is)
