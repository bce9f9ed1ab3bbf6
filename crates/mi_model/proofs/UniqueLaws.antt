-- No command gives two rows one key in a unique index.
-- Cited by `mi_container` and `mi_sessions`.
use Rattle.std.proofs.Common.{◌≡◌, ◌≢◌, ℕ, zero, suc, ◌+◌, ◌-◌, ◌<◌, Bool, true, false, cond, not, ◌&&◌}
use Rattle.std.proofs.Common.{inl, inr, List, [], ◌∷◌, map, get_or, drop, refl, ap, sym, ◌∙◌, subst, arith}
use Rattle.std.specs.Prelude.{◌==◌, if◌then◌else◌, ◌||◌}
use Rattle.std.specs.List.{AllZip}
use Rattle.std.specs.Option.{is_some, unwrap_or, option_or, option_map}
use Rattle.std.specs.Ordering.{is_eq, ordering_reverse}
use Rattle.std.specs.Map.{lookup}
use Rattle.std.proofs.lemmas.Bool.Decides.{eqb_tells}
use Rattle.std.specs.declared.cmp.Ordering.{Ordering}
use Rattle.std.specs.declared.cmp.Ordering.TheVariants.{Less, Equal, Greater}
use Rattle.std.specs.declared.option.Option.{Option}
use Rattle.std.specs.declared.option.Option.TheVariants.{None, Some}
use Rattle.std.specs.declared.result.Result.{Result}
use Rattle.std.specs.declared.result.Result.TheVariants.{Ok, Err}
use Rattle.mi_value.specs.declared.value.Value.{Value}
use Rattle.mi_value.specs.declared.edit.Edit.{Edit}
use Rattle.mi_value.specs.declared.refusal.Refusal.{Refusal}
use Rattle.mi_value.specs.declared.refusal.Refusal.TheVariants.{NoId, Full, Spent, Depth}
use Rattle.mi_value.specs.declared.refusal.NoSession.{NoSession}
use Rattle.mi_value.specs.declared.compare.KeyPart.{KeyPart}
use Rattle.mi_value.specs.Order.{compare_key}
use Rattle.mi_value.specs.Edits.{apply}
use Rattle.mi_catalog.specs.declared.index.Index.{Index}
use Rattle.mi_catalog.specs.Shape.{Shape, CatalogShape, index_at}
use Rattle.mi_catalog.specs.Key.{Row, compare_rows}
use Rattle.mi_model.specs.Table.{Table, IsTable, get, has, row, size, opened}
use Rattle.mi_model.specs.View.{of_key}
use Rattle.mi_model.specs.Conflict.{is_rival, rival, conflict_from, conflict}
use Rattle.mi_model.specs.Change.{insert, put, erase, erase_all, relocate}
use Rattle.mi_model.specs.Verdict.{Outcome, is_spent, has_place, as_unique, unless, insert_refusal, insert_outcome, replace_refusal}
use Rattle.mi_model.specs.Verdict.{replace_outcome, modified, modify_outcome, erase_outcome, erase_key_outcome, relocate_outcome}
use Rattle.mi_model.specs.Database.{Database, IsDatabase, opened_database, schema_of, table_of, on_table, depth, started, undone, undone_times, squashed}
use Rattle.mi_model.specs.Run.{Command, after_command, run}
use Rattle.mi_model.specs.Run.Command.{Insert, Replace, Modify, Erase, EraseKey, Relocate, Start, Undo, Squash, Commit, UndoAll}
use Rattle.mi_model.specs.Unique.{HasUniqueKeys, UniqueEverywhere, UniqueKeysStayUnique, TablesStayWellFormed}
use Rattle.mi_model.proofs.ViewLaws.{compare_rows_total, lookup_without, lookup_push, lookup_set}
use Rattle.mi_model.proofs.PutLaws.{lookup_set_same}
use Rattle.mi_model.proofs.TableLaws.{not_same, above_next, lookup_push_same, lookup_without_same, is_table_opened}
use Rattle.mi_model.proofs.DatabaseLaws.{either_keeps, edited_keeps, not_not, zip_get, zip_set, all_take, is_database_after, is_database_run}

reversed : (o : Ordering) → is_eq (ordering_reverse o) ≡ is_eq o
reversed Less = refl
reversed Equal = refl
reversed Greater = refl

-- which row comes first doesn't matter
turned : (ps : List KeyPart) (q r : Row) → is_eq (compare_rows ps q r) ≡ is_eq (compare_rows ps r q)
turned ps q r = ap is_eq ((compare_rows_total ps).antisymm q r) ∙ reversed (compare_rows ps r q)

-- any two ids that are there have different keys
abbrev Apart : List KeyPart → (ℕ → Option (List Value)) → Type 0
Apart ps f = (a b : ℕ) → is_some (f a) ≡ true → is_some (f b) ≡ true → a ≢ b → is_eq (compare_rows ps (a, unwrap_or (f a) []) (b, unwrap_or (f b) [])) ≡ false

-- a record for e alone is other than before, and it has a key of its own
module _ (ps : List KeyPart) (f g : ℕ → Option (List Value)) (e : ℕ) (apart : Apart ps f) (same : (a : ℕ) → a ≢ e → g a ≡ f a)
    (own : (b : ℕ) → b ≢ e → is_some (g e) ≡ true → is_some (f b) ≡ true
    → is_eq (compare_rows ps (e, unwrap_or (g e) []) (b, unwrap_or (f b) [])) ≡ false) where
  with_e : (b : ℕ) → b ≢ e → is_some (g e) ≡ true → is_some (g b) ≡ true → is_eq (compare_rows ps (e, unwrap_or (g e) []) (b, unwrap_or (g b) [])) ≡ false
  with_e b ne ge gb = ap (λ o. is_eq (compare_rows ps (e, unwrap_or (g e) []) (b, unwrap_or o []))) (same b ne)
      ∙ own b ne ge (sym (ap is_some (same b ne)) ∙ gb)

  one_new : Apart ps g
  one_new a b ga gb ne =
      elim (eqb_tells a e) [
        | inl at_a ↦ subst (λ k. is_some (g k) ≡ true → is_eq (compare_rows ps (k, unwrap_or (g k) []) (b, unwrap_or (g b) [])) ≡ false) (sym at_a.1)
            (λ ge. with_e b (λ at_b. ne (at_a.1 ∙ sym at_b)) ge gb) ga
        | inr not_a ↦ elim (eqb_tells b e) [
          | inl at_b ↦ subst (λ k. is_some (g k) ≡ true → is_eq (compare_rows ps (a, unwrap_or (g a) []) (k, unwrap_or (g k) [])) ≡ false) (sym at_b.1)
              (λ ge. turned ps (a, unwrap_or (g a) []) (e, unwrap_or (g e) []) ∙ with_e a not_a.1 ge ga) gb
          | inr not_b ↦
              ap (λ o. is_eq (compare_rows ps (a, unwrap_or o []) (b, unwrap_or (g b) []))) (same a not_a.1)
              ∙ ap (λ o. is_eq (compare_rows ps (a, unwrap_or (f a) []) (b, unwrap_or o []))) (same b not_b.1)
              ∙ apart a b (sym (ap is_some (same a not_a.1)) ∙ ga) (sym (ap is_some (same b not_b.1)) ∙ gb) ne
        ]
      ]

-- a row that was looked up is no rival where none was found
none_first : (b : Bool) (id : ℕ) (rest : Option ℕ) → cond b (Some id) rest ≡ None → (b ≡ false) × (rest ≡ None)
none_first true id rest h = absurd (cc)
none_first false id rest h = (refl, h)

no_rival : (ps : List KeyPart) (r : List Value) (except : Option ℕ) (rows : List Row) (b : ℕ)
    → rival rows ps r except ≡ None → is_some (lookup (λ k. k == b) rows) ≡ true
    → is_rival ps r except (b, unwrap_or (lookup (λ k. k == b) rows) []) ≡ false
no_rival ps r except [] b none there = absurd (cc)
no_rival ps r except (q ∷ rows) b none there =
    let parts : (is_rival ps r except q ≡ false) × (rival rows ps r except ≡ None) = none_first (is_rival ps r except q) q.0 (rival rows ps r except) none in
    elim (eqb_tells q.0 b) [
      | inl is ↦ ap (λ c. is_rival ps r except (b, unwrap_or (cond c (Some q.1) (lookup (λ k. k == b) rows)) [])) is.0
          ∙ subst (λ k. is_rival ps r except (k, q.1) ≡ false) is.1 parts.0
      | inr isnt ↦ ap (λ c. is_rival ps r except (b, unwrap_or (cond c (Some q.1) (lookup (λ k. k == b) rows)) [])) isnt.0
          ∙ no_rival ps r except rows b parts.1 (sym (ap (λ c. is_some (cond c (Some q.1) (lookup (λ k. k == b) rows))) isnt.0) ∙ there)
    ]

none_or : {A : Type 0} (a b : Option A) → option_or a b ≡ None → (a ≡ None) × (b ≡ None)
none_or None b h = (refl, h)
none_or (Some x) b h = absurd (cc)

none_mapped : {A B : Type 0} (f : A → B) (o : Option A) → option_map f o ≡ None → o ≡ None
none_mapped f None h = refl
none_mapped f (Some x) h = absurd (cc)

none_in_unique : {A : Type 0} (b : Bool) (o : Option A) → cond b o None ≡ None → b ≡ true → o ≡ None
none_in_unique true o h is = h
none_in_unique false o h is = absurd (cc)

-- with no conflict no unique index has a rival
none_from : (n : ℕ) (is : List Index) (rows : List Row) (r : List Value) (except : Option ℕ) (x : ℕ) (d : Index) → d.«unique» ≡ false
    → conflict_from n is rows r except ≡ None → (get_or is x d).«unique» ≡ true → rival rows (get_or is x d).parts r except ≡ None
none_from n [] rows r except x d isnt none is = absurd (let h : true ≡ false = sym is ∙ isnt in cc)
none_from n (i ∷ is) rows r except zero d isnt none is_unique =
    let here : option_map (λ id. (n, id)) (rival rows i.parts r except) ≡ None =
    none_in_unique i.«unique» (option_map (λ id. (n, id)) (rival rows i.parts r except))
    (none_or (cond i.«unique» (option_map (λ id. (n, id)) (rival rows i.parts r except)) None) (conflict_from (n + 1) is rows r except) none).0 is_unique in
    none_mapped (λ id. (n, id)) (rival rows i.parts r except) here
none_from n (i ∷ is) rows r except (suc x) d isnt none is_unique =
    none_from (n + 1) is rows r except x d isnt
    (none_or (cond i.«unique» (option_map (λ id. (n, id)) (rival rows i.parts r except)) None) (conflict_from (n + 1) is rows r except) none).1 is_unique

behind_first : (is : List Index) (x : ℕ) (d : Index) → 0 < x → get_or (drop 1 is) (x - 1) d ≡ get_or is x d
behind_first is zero d p = absurd (omega arith)
behind_first [] (suc x) d p = refl
behind_first (i ∷ is) (suc x) d p = ap (λ n. get_or is n d) (let e : suc x - 1 ≡ x = omega arith in e)

no_rival_in : (s : Shape) (t : Table) (r : List Value) (except : Option ℕ) (x : ℕ) → conflict s t r except ≡ None → 0 < x → (index_at s x).«unique» ≡ true
    → rival t.rows (index_at s x).parts r except ≡ None
no_rival_in s t r except x none p is =
    subst (λ (i : Index). i.«unique» ≡ true → rival t.rows i.parts r except ≡ None) (behind_first s.indexes x _ p)
    (none_from 1 (drop 1 s.indexes) t.rows r except (x - 1) _ refl none) is

-- a record that is no rival of another has another key
keys_differ : (ps : List KeyPart) (e b : ℕ) (r v : List Value) → is_eq (compare_key ps v r) ≡ false → is_eq (compare_rows ps (e, r) (b, v)) ≡ false
keys_differ [] e b r v differ = absurd (cc)
keys_differ (p ∷ ps) e b r v differ = turned (p ∷ ps) (e, r) (b, v) ∙ differ

-- e gets the record r, with which nothing conflicts
one_record : (s : Shape) (t u : Table) (e : ℕ) (r : List Value) (except : Option ℕ)
    → HasUniqueKeys s t → get u e ≡ Some r → ((a : ℕ) → a ≢ e → get u a ≡ get t a)
    → conflict s t r except ≡ None
    → ((ps : List KeyPart) (b : ℕ) (v : List Value) → b ≢ e → is_rival ps r except (b, v) ≡ false → is_eq (compare_key ps v r) ≡ false)
    → HasUniqueKeys s u
one_record s t u e r except unique now others none rivals x a b p is =
    one_new (index_at s x).parts (get t) (get u) e (λ a b. unique x a b p is) others
    (λ b ne here there.
    ap (λ o. is_eq (compare_rows (index_at s x).parts (e, unwrap_or o []) (b, unwrap_or (get t b) []))) now
    ∙ keys_differ (index_at s x).parts e b r (unwrap_or (get t b) [])
    (rivals (index_at s x).parts b (unwrap_or (get t b) []) ne (no_rival (index_at s x).parts r except t.rows b (no_rival_in s t r except x none p is) there)))
    a b

pub unique_insert : (s : Shape) (at : Option (ℕ × ℕ)) (r : List Value) (t : Table) → IsTable s t
    → HasUniqueKeys s t → conflict s t r None ≡ None → HasUniqueKeys s (insert at r t)
unique_insert s at r t is unique none =
    one_record s t (insert at r t) t.next r None unique (lookup_push_same t.next r t.rows (above_next t.next t.next t.rows is.ordered (omega arith)))
    (λ a ne. lookup_push a t.next r t.rows ne) none (λ ps b v ne differ. differ)

pub unique_put : (s : Shape) (e : ℕ) (r : List Value) (t : Table) → has t e ≡ true
    → HasUniqueKeys s t → conflict s t r (Some e) ≡ None → HasUniqueKeys s (put s e r t)
unique_put s e r t there unique none =
    one_record s t (put s e r t) e r (Some e) unique (lookup_set_same e r t.rows there) (λ a ne. lookup_set a e r t.rows ne) none
    (λ ps b v ne differ. sym (ap (λ c. not c && is_eq (compare_key ps v r)) (not_same b e ne)) ∙ differ)

pub unique_erase : (s : Shape) (e : ℕ) (t : Table) → HasUniqueKeys s t → HasUniqueKeys s (erase e t)
unique_erase s e t unique x a b p is =
    one_new (index_at s x).parts (get t) (get (erase e t)) e (λ a b. unique x a b p is) (λ a ne. lookup_without a e t.rows ne)
    (λ b ne here there. absurd (let gone : false ≡ true = sym (ap is_some (lookup_without_same e t.rows)) ∙ here in cc)) a b

unique_erase_all : (s : Shape) (ids : List ℕ) (t : Table) → HasUniqueKeys s t → HasUniqueKeys s (erase_all ids t)
unique_erase_all s [] t unique = unique
unique_erase_all s (e ∷ ids) t unique = unique_erase_all s ids (erase e t) (unique_erase s e t unique)

-- what one change leaves
module _ {A : Type 0} (s : Shape) where
  -- where a refusal came, nothing changed
  unless_refused : (o : Option Refusal) (answer : A) (changed t : Table) → HasUniqueKeys s t
      → (o ≡ None → HasUniqueKeys s changed) → HasUniqueKeys s (unless o answer changed t).1
  unless_refused None answer changed t was f = f refl
  unless_refused (Some e) answer changed t was f = was

-- where no refusal came, none of the tests did
none_after : (b : Bool) (e : Refusal) (rest : Option Refusal) → cond b (Some e) rest ≡ None → (b ≡ false) × (rest ≡ None)
none_after true e rest h = absurd (cc)
none_after false e rest h = (refl, h)

insert_allowed : (s : Shape) (at : Option (ℕ × ℕ)) (r : List Value) (t : Table) → insert_refusal s at r t ≡ None → conflict s t r None ≡ None
insert_allowed s at r t h =
    let found : Option Refusal = option_map as_unique (conflict s t r None) in
    let late : Option Refusal = if is_spent t.next || is_spent t.arrivals then Some Spent else found in
    let full : Option Refusal = if size t == s.max_rows then Some Full else late in
    none_mapped as_unique (conflict s t r None)
    (none_after (is_spent t.next || is_spent t.arrivals) Spent found
    (none_after (size t == s.max_rows) Full late
    (none_after (not (has_place t (option_map (λ p. p.1) at))) NoId full h).1).1).1

insert_unique : (s : Shape) (at : Option (ℕ × ℕ)) (r : List Value) (t : Table) → IsTable s t → HasUniqueKeys s t → HasUniqueKeys s (insert_outcome s at r t).1
insert_unique s at r t is unique =
    unless_refused s (insert_refusal s at r t) t.next (insert at r t) t unique (λ h. unique_insert s at r t is unique (insert_allowed s at r t h))

replace_unique : (s : Shape) (e : ℕ) (r : List Value) (t : Table) → HasUniqueKeys s t → HasUniqueKeys s (replace_outcome s e r t).1
replace_unique s e r t unique =
    let found : Option Refusal = option_map as_unique (conflict s t r (Some e)) in
    let late : Option Refusal = if is_spent t.arrivals then Some Spent else found in
    unless_refused {A = Unit {0}} s (replace_refusal s e r t) tt (put s e r t) t unique
    (λ h. unique_put s e r t (not_not (has t e) (none_after (not (has t e)) NoId late h).0) unique
    (none_mapped as_unique (conflict s t r (Some e)) (none_after (is_spent t.arrivals) Spent found (none_after (not (has t e)) NoId late h).1).1))

modified_unique : (s : Shape) (e : ℕ) (rollback : Bool) (r : Option (List Value)) (t : Table)
    → has t e ≡ true → HasUniqueKeys s t → HasUniqueKeys s (modified s e rollback r t).1
modified_unique s e rollback r t there unique =
    edited_keeps (HasUniqueKeys s) s e rollback r t (λ q none. unique_put s e q t there unique none) (unique_erase s e t unique) unique

modify_unique : (s : Shape) (e : ℕ) (edits : List Edit) (rollback : Bool) (t : Table)
    → HasUniqueKeys s t → HasUniqueKeys s (modify_outcome s e edits rollback t).1
modify_unique s e edits rollback t unique =
    either_keeps {A = Unit {0}} (HasUniqueKeys s) (not (has t e)) (Err NoId, t) (modified s e rollback (apply edits (row t e).1) t) (λ _. unique)
    (λ there. modified_unique s e rollback (apply edits (row t e).1) t (not_not (has t e) there) unique)

erase_unique : (s : Shape) (e : ℕ) (t : Table) → HasUniqueKeys s t → HasUniqueKeys s (erase_outcome e t).1
erase_unique s e t unique = either_keeps {A = Unit {0}} (HasUniqueKeys s) (has t e) (Ok tt, erase e t) (Err NoId, t) (λ _. unique_erase s e t unique) (λ _. unique)

relocate_unique : (s : Shape) (x e : ℕ) (b : Option ℕ) (t : Table) → HasUniqueKeys s t → HasUniqueKeys s (relocate_outcome x e b t).1
relocate_unique s x e b t unique = either_keeps {A = Unit {0}} (HasUniqueKeys s) (has t e && has_place t b) (Ok tt, relocate x e b t) (Err NoId, t) (λ _. unique) (λ _. unique)

-- a change that keeps tables so keeps databases so
on_table_unique : {A : Type 0} (n : ℕ) (change : Shape → Table → Outcome A)
    → ((s : Shape) (t : Table) → IsTable s t → HasUniqueKeys s t → HasUniqueKeys s (change s t).1)
    → (d : Database) → IsDatabase d → UniqueEverywhere d → UniqueEverywhere (on_table n change d).1
on_table_unique n change keeps d is unique =
    record {
      tables = zip_set HasUniqueKeys d.catalog.tables d.tables n _ (change (schema_of d n) (table_of d n)).1 unique.tables
          (λ within. keeps (schema_of d n) (table_of d n) (zip_get IsTable d.catalog.tables d.tables n _ _ is.tables within)
          (zip_get HasUniqueKeys d.catalog.tables d.tables n _ _ unique.tables within));
      old = unique.old;
    }

abbrev db : CatalogShape → List Table → List (List Table) → ℕ → Database
db c ts old r = record { catalog = c; tables = ts; old = old; revision = r }

undone_unique : (c : CatalogShape) (ts : List Table) (old : List (List Table)) (r : ℕ)
    → UniqueEverywhere (db c ts old r) → UniqueEverywhere (undone (db c ts old r))
undone_unique c ts [] r unique = unique
undone_unique c ts (o ∷ old) r unique = record { tables = unique.old.0; old = unique.old.1 }

squashed_unique : (c : CatalogShape) (ts : List Table) (old : List (List Table)) (r : ℕ)
    → UniqueEverywhere (db c ts old r) → UniqueEverywhere (squashed (db c ts old r))
squashed_unique c ts [] r unique = unique
squashed_unique c ts (o ∷ old) r unique = record { tables = unique.tables; old = unique.old.1 }

undone_times_unique : (k : ℕ) (d : Database) → UniqueEverywhere d → UniqueEverywhere (undone_times k d)
undone_times_unique zero d unique = unique
undone_times_unique (suc k) d unique = undone_times_unique k (undone d) (undone_unique d.catalog d.tables d.old d.revision unique)

either_way : {A : Type 0} (b : Bool) (x y : A × Database) → UniqueEverywhere x.1 → UniqueEverywhere y.1 → UniqueEverywhere (cond b x y).1
either_way true x y p q = p
either_way false x y p q = q

-- each command, accepted or refused
unique_after : (c : Command) (d : Database) → IsDatabase d → UniqueEverywhere d → UniqueEverywhere (after_command c d)
unique_after (Insert n at r) d is unique = on_table_unique n (λ s t. insert_outcome s at r t) (λ s t. insert_unique s at r t) d is unique
unique_after (Replace n e r) d is unique = on_table_unique n (λ s t. replace_outcome s e r t) (λ s t _. replace_unique s e r t) d is unique
unique_after (Modify n e edits rollback) d is unique = on_table_unique n
    (λ s t. modify_outcome s e edits rollback t) (λ s t _. modify_unique s e edits rollback t) d is unique
unique_after (Erase n e) d is unique = on_table_unique n (λ s t. erase_outcome e t) (λ s t _. erase_unique s e t) d is unique
unique_after (EraseKey n x key) d is unique = on_table_unique n (λ s t. erase_key_outcome s x key t)
    (λ s t _. unique_erase_all s (of_key s t x key) t) d is unique
unique_after (Relocate n x e b) d is unique = on_table_unique n (λ s t. relocate_outcome x e b t) (λ s t _. relocate_unique s x e b t) d is unique
unique_after Start d is unique =
    either_way {A = Result ℕ Refusal} (is_spent d.revision) (Err Spent, d) (if depth d == 1024 then (Err Depth, d) else (Ok (d.revision + 1), started d)) unique
    (either_way {A = Result ℕ Refusal} (depth d == 1024) (Err Depth, d) (Ok (d.revision + 1), started d)
    unique (record { tables = unique.tables; old = (unique.tables, unique.old) }))
unique_after Undo d is unique =
    either_way {A = Result ℕ NoSession} (depth d == 0) (Err (record {}), d)
    (Ok (d.revision - 1), undone d) unique (undone_unique d.catalog d.tables d.old d.revision unique)
unique_after Squash d is unique =
    either_way {A = Result ℕ NoSession} (depth d == 0) (Err (record {}), d) (Ok (d.revision - 1), squashed d)
    unique (squashed_unique d.catalog d.tables d.old d.revision unique)
unique_after (Commit x) d is unique = record { tables = unique.tables; old = all_take (AllZip HasUniqueKeys d.catalog.tables) _ d.old unique.old }
unique_after UndoAll d is unique = undone_times_unique (depth d) d unique

unique_run : (cs : List Command) (d : Database) → IsDatabase d → UniqueEverywhere d → UniqueEverywhere (run cs d)
unique_run [] d is unique = unique
unique_run (c ∷ cs) d is unique = unique_run cs (after_command c d) (is_database_after c d is) (unique_after c d is unique)

-- an opened database has empty tables
opened_whole : (shapes : List Shape) → AllZip IsTable shapes (map opened shapes)
opened_whole [] = tt
opened_whole (s ∷ shapes) = (is_table_opened s, opened_whole shapes)

opened_unique : (shapes : List Shape) → AllZip HasUniqueKeys shapes (map opened shapes)
opened_unique [] = tt
opened_unique (s ∷ shapes) = (λ x a b p is here there ne. absurd (let h : false ≡ true = here in cc), opened_unique shapes)

opened_is_database : (c : CatalogShape) → IsDatabase (opened_database c)
opened_is_database c = record { tables = opened_whole c.tables; old = tt; numbered = (omega arith) }

pub tables_stay_well_formed : TablesStayWellFormed
tables_stay_well_formed c cs = is_database_run cs (opened_database c) (opened_is_database c)

pub unique_keys_stay_unique : UniqueKeysStayUnique
unique_keys_stay_unique c cs = unique_run cs (opened_database c) (opened_is_database c) (record { tables = opened_unique c.tables; old = tt })
