-- Commands answer alike in databases that show the same, and leave them so.
-- Cited by `mi_sessions`.
use Rattle.std.proofs.Common.{◌≡◌, ℕ, ◌+◌, ◌-◌, zero, suc, Bool, true, false, cond, not, ◌&&◌, List}
use Rattle.std.proofs.Common.{[], ◌∷◌, length, get_or, set, take, min, refl, ap, sym, ◌∙◌, subst}
use Rattle.std.specs.Prelude.{◌==◌, if◌then◌else◌, IfSome}
use Rattle.std.specs.List.{AllZip, AllByRecursion}
use Rattle.std.specs.Option.{option_map, option_map_or}
use Rattle.std.specs.declared.option.Option.{Option}
use Rattle.std.specs.declared.option.Option.TheVariants.{None, Some}
use Rattle.std.specs.declared.result.Result.{Result}
use Rattle.std.specs.declared.result.Result.TheVariants.{Ok, Err}
use Rattle.mi_value.specs.declared.value.Value.{Value}
use Rattle.mi_value.specs.declared.edit.Edit.{Edit}
use Rattle.mi_value.specs.declared.refusal.Refusal.{Refusal}
use Rattle.mi_value.specs.declared.refusal.Refusal.TheVariants.{NoId, Spent, Depth}
use Rattle.mi_value.specs.declared.refusal.NoSession.{NoSession}
use Rattle.mi_value.specs.Edits.{apply}
use Rattle.mi_catalog.specs.declared.index.IndexKind.TheVariants.{Sequenced}
use Rattle.mi_catalog.specs.Shape.{Shape, CatalogShape, schema_at, index_at}
use Rattle.mi_catalog.specs.Key.{Row, IsWholeKey}
use Rattle.mi_model.specs.Table.{Table, IsTable, has, row}
use Rattle.mi_model.specs.Conflict.{conflict}
use Rattle.mi_model.specs.Change.{insert, put, erase, relocate}
use Rattle.mi_model.specs.Verdict.{Outcome, is_spent, has_place, as_unique, unless, insert_refusal, insert_outcome, replace_outcome}
use Rattle.mi_model.specs.Verdict.{refused_modify, modified, modify_outcome, erase_outcome, erase_key_outcome, relocate_outcome}
use Rattle.mi_model.specs.Database.{Database, IsDatabase, on_table, table_of, depth, started, undone, undone_times, squashed, committed}
use Rattle.mi_model.specs.Same.{SameTable, SameTables, SameDatabase}
use Rattle.mi_model.specs.Run.{Command, after_command}
use Rattle.mi_model.specs.Run.Command.{Insert, Replace, Modify, Erase, EraseKey, Relocate, Start, Undo, Squash, Commit, UndoAll}
use Rattle.mi_model.specs.Alike.{IsCommandOf, AnswersAlike, CommandsAnswerAlike, RunsAnswerAlike}
use Rattle.mi_model.proofs.TableLaws.{fresh_of_table, is_table_opened}
use Rattle.mi_model.proofs.SameLaws.{with_lists, same_insert, same_insert_before, same_put, same_erase, asked, same_of_key, same_erase_key, same_relocate}
use Rattle.mi_model.proofs.DatabaseLaws.{not_not, is_database_after}
use Rattle.mi_model.proofs.AlikeLookUpLaws.{same_at, zip_length}

-- one answer, and tables that show the same
abbrev SameOutcome : {A : Type 0} → Shape → Outcome A → Outcome A → Type 0
SameOutcome s o p = (o.0 ≡ p.0) × SameTable s o.1 p.1

-- tables that show the same differ at most in their lists
abbrev WithLists : (Table → Table → Type 0) → Shape → Type 0
WithLists P s = (rows : List Row) (next arrivals : ℕ) (l m : List (List ℕ)) → SameTable s (with_lists rows l next arrivals) (with_lists rows m next arrivals)
    → P (with_lists rows l next arrivals) (with_lists rows m next arrivals)

in_lists : (P : Table → Table → Type 0) (s : Shape) → WithLists P s → (t u : Table) → SameTable s t u → P t u
in_lists P s f t u same =
    subst (λ k. SameTable s t (with_lists k.0 u.lists k.1 k.2) → P t (with_lists k.0 u.lists k.1 k.2))
    (λ i. let k : List Row × ℕ × ℕ = (same.rows i, same.next i, same.arrivals i) in k)
    (f t.rows t.next t.arrivals t.lists u.lists) same

module _ {A : Type 0} (s : Shape) where
  either_same : (b : Bool) (x y z w : Outcome A) → (b ≡ true → SameOutcome s x z) → (b ≡ false → SameOutcome s y w) → SameOutcome s (cond b x y) (cond b z w)
  either_same true x y z w f g = f refl
  either_same false x y z w f g = g refl

  unless_same : (o : Option Refusal) (answer : A) (changed other t u : Table) → SameTable s t u
      → SameTable s changed other → SameOutcome s (unless o answer changed t) (unless o answer other u)
  unless_same None answer changed other t u was is = (refl, is)
  unless_same (Some e) answer changed other t u was is = (refl, was)

-- what holds of two tables of a schema that show the same
abbrev OfTables : {A : Type 0} → Shape → (Table → Outcome A) → Table → Table → Type 0
OfTables s change t u = IsTable s t → IsTable s u → SameOutcome s (change t) (change u)

long : (s : Shape) (t u : Table) → IsTable s t → IsTable s u → length t.lists ≡ length u.lists
long s t u is iu = is.one_each ∙ sym iu.one_each

inserted : (s : Shape) (at : Option (ℕ × ℕ)) (r : List Value) (t u : Table) → IfSome at (λ p. (index_at s p.0).kind ≡ Sequenced) → IsTable s t → IsTable s u
    → SameTable s t u → SameTable s (insert at r t) (insert at r u)
inserted s None r t u placed is iu same = same_insert s r t u (long s t u is iu) (fresh_of_table s t is) (fresh_of_table s u iu) same
inserted s (Some at) r t u placed is iu same = same_insert_before s at.0 at.1 r t u
    (long s t u is iu) placed (fresh_of_table s t is) (fresh_of_table s u iu) same

insert_same : (s : Shape) (at : Option (ℕ × ℕ)) (r : List Value) → IfSome at (λ p. (index_at s p.0).kind ≡ Sequenced)
    → (t u : Table) → SameTable s t u → OfTables s (insert_outcome s at r) t u
insert_same s at r placed =
    in_lists (OfTables s (insert_outcome s at r)) s (λ rows next arrivals l m same is iu.
    let t : Table = with_lists rows l next arrivals in
    let u : Table = with_lists rows m next arrivals in
    unless_same s (insert_refusal s at r t) next (insert at r t) (insert at r u) t u same (inserted s at r t u placed is iu same))

replaced_same : (s : Shape) (e : ℕ) (r : List Value) (t u : Table) (there : Bool)
    → has t e ≡ there → (rest : Option Refusal) → IsTable s t → IsTable s u → SameTable s t u
    → SameOutcome {A = Unit {0}} s (unless (if not there then Some NoId else rest) tt (put s e r t) t)
    (unless (if not there then Some NoId else rest) tt (put s e r u) u)
replaced_same s e r t u true there rest is iu same = unless_same s rest tt (put s e r t)
    (put s e r u) t u same (same_put s e r t u (long s t u is iu) there same)
replaced_same s e r t u false there rest is iu same = (refl, same)

replace_same : (s : Shape) (e : ℕ) (r : List Value) (t u : Table) → SameTable s t u → OfTables s (replace_outcome s e r) t u
replace_same s e r =
    in_lists (OfTables s (replace_outcome s e r)) s (λ rows next arrivals l m same is iu.
    let t : Table = with_lists rows l next arrivals in
    replaced_same s e r t (with_lists rows m next arrivals) (has t e) refl
    (if is_spent arrivals then Some Spent else option_map as_unique (conflict s t r (Some e))) is iu same)

refused_same : (s : Shape) (e : ℕ) (r : List Value) (rollback : Bool) (t u : Table) (at : Option (ℕ × ℕ))
    → has t e ≡ true → IsTable s t → IsTable s u → SameTable s t u
    → SameOutcome s (option_map_or (λ at. refused_modify rollback e at t) at (Ok tt, put s e r t))
    (option_map_or (λ at. refused_modify rollback e at u) at (Ok tt, put s e r u))
refused_same s e r rollback t u None there is iu same = (refl, same_put s e r t u (long s t u is iu) there same)
refused_same s e r true t u (Some at) there is iu same = (refl, same)
refused_same s e r false t u (Some at) there is iu same = (refl, same_erase s e t u same)

modified_same : (s : Shape) (e : ℕ) (rollback : Bool) (r : Option (List Value)) (rows : List Row) (next arrivals : ℕ) (l m : List (List ℕ))
    → has (with_lists rows l next arrivals) e ≡ true
    → IsTable s (with_lists rows l next arrivals) → IsTable s (with_lists rows m next arrivals)
    → SameTable s (with_lists rows l next arrivals) (with_lists rows m next arrivals)
    → SameOutcome s (modified s e rollback r (with_lists rows l next arrivals)) (modified s e rollback r (with_lists rows m next arrivals))
modified_same s e rollback None rows next arrivals l m there is iu same = (refl, same)
modified_same s e rollback (Some r) rows next arrivals l m there is iu same =
    let t : Table = with_lists rows l next arrivals in
    let u : Table = with_lists rows m next arrivals in
    let rivals : Option (ℕ × ℕ) = conflict s t r (Some e) in
    either_same {A = Unit {0}} s (is_spent arrivals) (Err Spent, t) (option_map_or (λ at. refused_modify rollback e at t) rivals (Ok tt, put s e r t))
    (Err Spent, u) (option_map_or (λ at. refused_modify rollback e at u) rivals (Ok tt, put s e r u)) (λ _. (refl, same))
    (λ _. refused_same s e r rollback t u rivals there is iu same)

modify_same : (s : Shape) (e : ℕ) (edits : List Edit) (rollback : Bool) (t u : Table) → SameTable s t u → OfTables s (modify_outcome s e edits rollback) t u
modify_same s e edits rollback =
    in_lists (OfTables s (modify_outcome s e edits rollback)) s (λ rows next arrivals l m same is iu.
    let t : Table = with_lists rows l next arrivals in
    let u : Table = with_lists rows m next arrivals in
    let r : Option (List Value) = apply edits (row t e).1 in
    either_same {A = Unit {0}} s (not (has t e)) (Err NoId, t) (modified s e rollback r t) (Err NoId, u) (modified s e rollback r u) (λ _. (refl, same))
    (λ there. modified_same s e rollback r rows next arrivals l m (not_not (has t e) there) is iu same))

erase_same : (s : Shape) (e : ℕ) (t u : Table) → SameTable s t u → OfTables s (erase_outcome e) t u
erase_same s e =
    in_lists (OfTables s (erase_outcome e)) s (λ rows next arrivals l m same is iu.
    let t : Table = with_lists rows l next arrivals in
    let u : Table = with_lists rows m next arrivals in
    either_same {A = Unit {0}} s (has t e) (Ok tt, erase e t) (Err NoId, t) (Ok tt, erase e u)
    (Err NoId, u) (λ _. (refl, same_erase s e t u same)) (λ _. (refl, same)))

erase_key_same : (s : Shape) (x : ℕ) (key : List Value) → IsWholeKey (index_at s x).parts key
    → (t u : Table) → SameTable s t u → OfTables s (erase_key_outcome s x key) t u
erase_key_same s x key whole t u same is iu = (
  ap (λ ids. Ok (length ids)) (same_of_key s x key t u (asked (index_at s x).kind (index_at s x).parts key whole) same),
  same_erase_key s x key t u whole same,
)

relocate_same : (s : Shape) (x e : ℕ) (b : Option ℕ) → (index_at s x).kind ≡ Sequenced
    → (t u : Table) → SameTable s t u → OfTables s (relocate_outcome x e b) t u
relocate_same s x e b placed =
    in_lists (OfTables s (relocate_outcome x e b)) s (λ rows next arrivals l m same is iu.
    let t : Table = with_lists rows l next arrivals in
    let u : Table = with_lists rows m next arrivals in
    either_same {A = Unit {0}} s (has t e && has_place t b) (Ok tt, relocate x e b t) (Err NoId, t) (Ok tt, relocate x e b u) (Err NoId, u)
    (λ _. (refl, same_relocate s x e b t u (long s t u is iu) placed same)) (λ _. (refl, same)))

-- tables by number
is_table_at : (shapes : List Shape) (ts : List Table) (n : ℕ) (ds : Shape) (dt : Table)
    → IsTable ds dt → AllZip IsTable shapes ts → IsTable (get_or shapes n ds) (get_or ts n dt)
is_table_at [] [] n ds dt past all = past
is_table_at [] (t ∷ ts) n ds dt past all = absurd all
is_table_at (s ∷ shapes) [] n ds dt past all = absurd all
is_table_at (s ∷ shapes) (t ∷ ts) zero ds dt past all = all.0
is_table_at (s ∷ shapes) (t ∷ ts) (suc n) ds dt past all = is_table_at shapes ts n ds dt past all.1

same_set : (shapes : List Shape) (ts us : List Table) (n : ℕ) (ds : Shape) (t u : Table)
    → AllZip IsTable shapes ts → SameTables shapes ts us → SameTable (get_or shapes n ds) t u
    → SameTables shapes (set ts n t) (set us n u)
same_set [] [] us n ds t u all same new = subst (λ l. set [] n t ≡ set l n u) same refl
same_set [] (v ∷ ts) us n ds t u all same new = absurd all
same_set (s ∷ shapes) [] us n ds t u all same new = absurd all
same_set (s ∷ shapes) (v ∷ ts) [] n ds t u all same new = absurd same
same_set (s ∷ shapes) (v ∷ ts) (w ∷ us) zero ds t u all same new = (new, same.1)
same_set (s ∷ shapes) (v ∷ ts) (w ∷ us) (suc n) ds t u all same new = (same.0, same_set shapes ts us n ds t u all.1 same.1 new)

abbrev db : CatalogShape → List Table → List (List Table) → ℕ → Database
db c ts old r = record { catalog = c; tables = ts; old = old; revision = r }

-- databases that show the same differ at most in their tables
in_tables : (P : Database → Database → Type 0)
    → ((c : CatalogShape) (ts us : List Table) (old others : List (List Table)) (r : ℕ)
    → SameDatabase (db c ts old r) (db c us others r) → P (db c ts old r) (db c us others r))
    → (d e : Database) → SameDatabase d e → P d e
in_tables P f d e same =
    subst (λ k. SameDatabase d (db k.0 e.tables e.old k.1) → P d (db k.0 e.tables e.old k.1))
    (λ i. let k : CatalogShape × ℕ = (same.catalog i, same.revision i) in k)
    (f d.catalog d.tables e.tables d.old e.old d.revision) same

-- one answer, and databases that show the same
abbrev SameStep : {A : Type 0} → A × Database → A × Database → Type 0
SameStep x y = (x.0 ≡ y.0) × SameDatabase x.1 y.1

module _ (c : CatalogShape) (ts us : List Table) (old others : List (List Table)) (r : ℕ) (is : IsDatabase (db c ts old r)) (iu : IsDatabase (db c us others r))
    (same : SameDatabase (db c ts old r) (db c us others r)) where
  on_table_same : {A : Type 0} (n : ℕ) (change : Shape → Table → Outcome A)
      → ((t u : Table) → SameTable (schema_at c n) t u → OfTables (schema_at c n) (change (schema_at c n)) t u)
      → SameStep (on_table n change (db c ts old r)) (on_table n change (db c us others r))
  on_table_same {A} n change alike =
      let s : Shape = schema_at c n in
      let t : Table = table_of (db c ts old r) n in
      let u : Table = table_of (db c us others r) n in
      let o : SameOutcome s (change s t) (change s u) =
      alike t u (same_at c.tables ts us n _ _ same.tables) (is_table_at c.tables ts n _ _ (is_table_opened _) is.tables)
      (is_table_at c.tables us n _ _ (is_table_opened _) iu.tables) in (
        o.0,
        record {
          catalog = refl;
          tables = same_set c.tables ts us n _ (change s t).1 (change s u).1 is.tables same.tables o.1;
          old = same.old;
          revision = refl;
        },
      )

-- steps of sessions
same_depth : (d e : Database) → SameDatabase d e → depth d ≡ depth e
same_depth d e same = zip_length (SameTables d.catalog.tables) d.old e.old same.old

either_way : {A : Type 0} (b : Bool) (x y z w : A × Database) → SameStep x z → SameStep y w → SameStep (cond b x y) (cond b z w)
either_way true x y z w p q = p
either_way false x y z w p q = q

-- the same by a test of the depth, which is equal in both
by_depth : {A : Type 0} (k m n : ℕ) (x y z w : A × Database) → m ≡ n → SameStep x z
    → SameStep y w → SameStep (if m == k then x else y) (if n == k then z else w)
by_depth k m n x y z w e p q = subst (λ n. SameStep (if m == k then x else y) (if n == k then z else w)) e (either_way (m == k) x y z w p q)

started_same : (c : CatalogShape) (ts us : List Table) (old others : List (List Table)) (r : ℕ)
    → SameDatabase (db c ts old r) (db c us others r) → SameDatabase (started (db c ts old r)) (started (db c us others r))
started_same c ts us old others r same = record { catalog = refl; tables = same.tables; old = (same.tables, same.old); revision = refl }

undone_pair : (c : CatalogShape) (ts us : List Table) (old others : List (List Table)) (r : ℕ)
    → SameDatabase (db c ts old r) (db c us others r) → SameDatabase (undone (db c ts old r)) (undone (db c us others r))
undone_pair c ts us [] [] r same = same
undone_pair c ts us [] (o ∷ others) r same = absurd same.old
undone_pair c ts us (o ∷ old) [] r same = absurd same.old
undone_pair c ts us (o ∷ old) (p ∷ others) r same = record { catalog = refl; tables = same.old.0; old = same.old.1; revision = refl }

squashed_pair : (c : CatalogShape) (ts us : List Table) (old others : List (List Table)) (r : ℕ)
    → SameDatabase (db c ts old r) (db c us others r) → SameDatabase (squashed (db c ts old r)) (squashed (db c us others r))
squashed_pair c ts us [] [] r same = same
squashed_pair c ts us [] (o ∷ others) r same = absurd same.old
squashed_pair c ts us (o ∷ old) [] r same = absurd same.old
squashed_pair c ts us (o ∷ old) (p ∷ others) r same = record { catalog = refl; tables = same.tables; old = same.old.1; revision = refl }

undone_times_same : (k : ℕ) (d e : Database) → SameDatabase d e → SameDatabase (undone_times k d) (undone_times k e)
undone_times_same zero d e same = same
undone_times_same (suc k) d e same = undone_times_same k (undone d) (undone e) (in_tables (λ d e. SameDatabase (undone d) (undone e)) undone_pair d e same)

zip_take : (R : List Table → List Table → Type 0) (n : ℕ) (xs ys : List (List Table)) → AllZip R xs ys → AllZip R (take n xs) (take n ys)
zip_take R zero xs ys all = tt
zip_take R (suc n) [] [] all = tt
zip_take R (suc n) [] (y ∷ ys) all = absurd all
zip_take R (suc n) (x ∷ xs) [] all = absurd all
zip_take R (suc n) (x ∷ xs) (y ∷ ys) all = (all.0, zip_take R n xs ys all.1)

-- what a commit ends, by the depth
abbrev ended : ℕ → ℕ → ℕ → ℕ
ended x r k = min k (x + k - r)

committed_same : (x : ℕ) (c : CatalogShape) (ts us : List Table) (old others : List (List Table)) (r : ℕ) → SameDatabase (db c ts old r) (db c us others r)
    → SameDatabase (committed x (db c ts old r)) (committed x (db c us others r))
committed_same x c ts us old others r same =
    record {
      catalog = refl;
      tables = same.tables;
      old = subst (λ k. AllZip (SameTables c.tables) (take (length old - ended x r (length old)) old) (take (k - ended x r k) others))
          (same_depth (db c ts old r) (db c us others r) same)
          (zip_take (SameTables c.tables) (length old - ended x r (length old)) old others same.old);
      revision = refl;
    }

-- a step that needs an open session
in_session_same : (f : Database → Database) (r : ℕ) (d e : Database) → SameDatabase d e → SameDatabase (f d) (f e)
    → SameStep {A = Result ℕ NoSession} (if depth d == 0 then (Err (record {}), d) else (Ok (r - 1), f d))
    (if depth e == 0 then (Err (record {}), e) else (Ok (r - 1), f e))
in_session_same f r d e same on = by_depth {A = Result ℕ NoSession} 0 (depth d) (depth e) (Err (record {}), d) (Ok (r - 1), f d)
    (Err (record {}), e) (Ok (r - 1), f e) (same_depth d e same) (refl, same) (refl, on)

-- each command, in databases of one catalog and one revision
abbrev WorksInBoth : Command → Database → Database → Type 0
WorksInBoth c d e = IsDatabase d → IsDatabase e → IsCommandOf d.catalog c → AnswersAlike c d e × SameDatabase (after_command c d) (after_command c e)

works : (command : Command) (c : CatalogShape) (ts us : List Table) (old others : List (List Table)) (r : ℕ) → SameDatabase (db c ts old r) (db c us others r)
    → WorksInBoth command (db c ts old r) (db c us others r)
works (Insert n at v) c ts us old others r same is iu placed = on_table_same c ts us old others
    r is iu same n (λ s t. insert_outcome s at v t) (insert_same (schema_at c n) at v placed)
works (Replace n e v) c ts us old others r same is iu placed = on_table_same c ts us old others
    r is iu same n (λ s t. replace_outcome s e v t) (replace_same (schema_at c n) e v)
works (Modify n e edits rollback) c ts us old others r same is iu placed =
    on_table_same c ts us old others r is iu same n (λ s t. modify_outcome s e edits rollback t) (modify_same (schema_at c n) e edits rollback)
works (Erase n e) c ts us old others r same is iu placed = on_table_same c ts us old others r is
    iu same n (λ s t. erase_outcome e t) (erase_same (schema_at c n) e)
works (EraseKey n x key) c ts us old others r same is iu placed = on_table_same c ts us old others r
    is iu same n (λ s t. erase_key_outcome s x key t) (erase_key_same (schema_at c n) x key placed)
works (Relocate n x e b) c ts us old others r same is iu placed = on_table_same c ts us old others
    r is iu same n (λ s t. relocate_outcome x e b t) (relocate_same (schema_at c n) x e b placed)
works Start c ts us old others r same is iu placed =
    let d : Database = db c ts old r in
    let e : Database = db c us others r in
    either_way {A = Result ℕ Refusal} (is_spent r) (Err Spent, d) (if depth d == 1024 then (Err Depth, d) else (Ok (r + 1), started d)) (Err Spent, e)
    (if depth e == 1024 then (Err Depth, e) else (Ok (r + 1), started e)) (refl, same)
    (by_depth {A = Result ℕ Refusal} 1024 (depth d) (depth e) (Err Depth, d) (Ok (r + 1), started d)
    (Err Depth, e) (Ok (r + 1), started e) (same_depth d e same) (refl, same)
    (refl, started_same c ts us old others r same))
works Undo c ts us old others r same is iu placed =
    in_session_same undone r (db c ts old r) (db c us others r) same (undone_pair c ts us old others r same)
works Squash c ts us old others r same is iu placed =
    in_session_same squashed r (db c ts old r) (db c us others r) same (squashed_pair c ts us old others r same)
works (Commit x) c ts us old others r same is iu placed =
    (ap (λ k. Ok (ended x r k)) (same_depth (db c ts old r) (db c us others r) same), committed_same x c ts us old others r same)
works UndoAll c ts us old others r same is iu placed =
    let d : Database = db c ts old r in
    let e : Database = db c us others r in (
      ap Ok (same_depth d e same),
      subst (λ k. SameDatabase (undone_times (depth d) d) (undone_times k e)) (same_depth d e same) (undone_times_same (depth d) d e same),
    )

pub commands_answer_alike : CommandsAnswerAlike
commands_answer_alike c d e is iu placed same = in_tables (WorksInBoth c) (works c) d e same is iu placed

-- no command changes the catalog
catalog_either : {A : Type 0} (c : CatalogShape) (b : Bool) (x y : A × Database) → x.1.catalog ≡ c → y.1.catalog ≡ c → (cond b x y).1.catalog ≡ c
catalog_either c true x y p q = p
catalog_either c false x y p q = q

undone_catalog : (c : CatalogShape) (ts : List Table) (old : List (List Table)) (r : ℕ) → (undone (db c ts old r)).catalog ≡ c
undone_catalog c ts [] r = refl
undone_catalog c ts (o ∷ old) r = refl

squashed_catalog : (c : CatalogShape) (ts : List Table) (old : List (List Table)) (r : ℕ) → (squashed (db c ts old r)).catalog ≡ c
squashed_catalog c ts [] r = refl
squashed_catalog c ts (o ∷ old) r = refl

undone_times_catalog : (k : ℕ) (d : Database) → (undone_times k d).catalog ≡ d.catalog
undone_times_catalog zero d = refl
undone_times_catalog (suc k) d = undone_times_catalog k (undone d) ∙ undone_catalog d.catalog d.tables d.old d.revision

catalog_after : (c : Command) (d : Database) → (after_command c d).catalog ≡ d.catalog
catalog_after Start d =
    catalog_either {A = Result ℕ Refusal} d.catalog (is_spent d.revision) (Err Spent, d)
    (if depth d == 1024 then (Err Depth, d) else (Ok (d.revision + 1), started d)) refl
    (catalog_either {A = Result ℕ Refusal} d.catalog (depth d == 1024) (Err Depth, d) (Ok (d.revision + 1), started d) refl refl)
catalog_after Undo d =
    catalog_either {A = Result ℕ NoSession} d.catalog (depth d == 0) (Err (record {}), d)
    (Ok (d.revision - 1), undone d) refl (undone_catalog d.catalog d.tables d.old d.revision)
catalog_after Squash d =
    catalog_either {A = Result ℕ NoSession} d.catalog (depth d == 0) (Err (record {}), d)
    (Ok (d.revision - 1), squashed d) refl (squashed_catalog d.catalog d.tables d.old d.revision)
catalog_after UndoAll d = undone_times_catalog (depth d) d
catalog_after c d = refl

pub runs_answer_alike : RunsAnswerAlike
runs_answer_alike [] d e is iu placed same = same
runs_answer_alike (c ∷ cs) d e is iu placed same =
    let step : AnswersAlike c d e × SameDatabase (after_command c d) (after_command c e) = commands_answer_alike c d e is iu placed.0 same in (
      step.0,
      runs_answer_alike cs (after_command c d) (after_command c e) (is_database_after c d is) (is_database_after c e iu)
          (subst (λ shapes. AllByRecursion (IsCommandOf shapes) cs) (sym (catalog_after c d)) placed.1) step.1,
    )
