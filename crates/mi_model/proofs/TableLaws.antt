-- Each change takes tables to tables.
-- Cited by `AlikeLaws`, `DatabaseLaws`, `InvariantLaws`, `LookUpLaws`, 5 more, `mi_container`, `mi_database`, `mi_multi` and `mi_plain`.
use Rattle.std.proofs.Common.{◌≡◌, ◌≢◌, ℕ, ◌+◌, ◌<◌, ◌≤◌, zero, suc, Bool, true, false, cond, not, inl, inr}
use Rattle.std.proofs.Common.{List, [], ◌∷◌, ◌++◌, map, length, get_or, set, refl, ap, sym, ◌∙◌, subst, arith}
use Rattle.std.specs.Prelude.{◌==◌}
use Rattle.std.specs.List.{filter, AllByRecursion}
use Rattle.std.specs.Option.{is_some}
use Rattle.std.specs.Ordering.{is_eq}
use Rattle.mi_value.specs.Order.{compare_key}
use Rattle.std.specs.Map.{lookup, set_value}
use Rattle.std.proofs.lemmas.Bool.{eqb-true, cases_lt}
use Rattle.std.proofs.lemmas.Bool.Decides.{eqb_tells}
use Rattle.std.proofs.lemmas.List.{get_or_past, length-map, length-set}
use Rattle.std.specs.declared.option.Option.{Option}
use Rattle.std.specs.declared.option.Option.TheVariants.{None, Some}
use Rattle.mi_value.specs.declared.value.Value.{Value}
use Rattle.mi_catalog.specs.declared.index.Index.{Index}
use Rattle.mi_catalog.specs.Shape.{Shape}
use Rattle.mi_catalog.specs.Key.{Row}
use Rattle.mi_model.specs.Table.{Table, get, has, row, list_of, Rise, times, ListsEach, IsTable, opened}
use Rattle.mi_model.specs.Change.{stand_before, stand, without, added, insert, moved_in, moved, put, erase, relocated, relocate}
use Rattle.mi_model.proofs.SortLaws.{all_filter, both_ways}
use Rattle.mi_model.proofs.ViewLaws.{Lacks, lookup_without, lookup_push, lookup_set}
use Rattle.mi_model.proofs.PutLaws.{lookup_set_same}

pub count_itself : (e : ℕ) → (e == e) ≡ true
count_itself e = elim (eqb_tells e e) [ inl is ↦ is.0 | inr isnt ↦ absurd (isnt.1 refl) ]

pub not_same : (a e : ℕ) → a ≢ e → (a == e) ≡ false
not_same a e ne = elim (eqb_tells a e) [ inl is ↦ absurd (ne is.1) | inr isnt ↦ isnt.0 ]

-- an id that is at or above next isn't there
pub above_next : (next e : ℕ) (rows : List Row) → Rise next rows → next ≤ e → lookup (λ k. k == e) rows ≡ None
above_next next e [] up le = refl
above_next next e (r ∷ rows) up le =
    ap (λ b. cond b (Some r.1) (lookup (λ k. k == e) rows)) (not_same r.0 e (λ is. absurd (let l : r.0 < next = up.0 in omega arith)))
    ∙ above_next next e rows up.2 le

-- a list that counts no e lacks it
pub lacks_of_count : (e : ℕ) (ids : List ℕ) → times e ids ≡ 0 → Lacks e ids
lacks_of_count e [] none = tt
lacks_of_count e (a ∷ ids) none =
    elim (eqb_tells a e) [
      | inl is ↦ absurd
          (let n : cond (a == e) 1 0 + times e ids ≡ 0 = none in let one : cond (a == e) 1 0 ≡ 1 = ap (λ b. cond {A = ℕ} b 1 0) is.0 in omega arith)
      | inr isnt ↦ (isnt.1, lacks_of_count e ids (let n : cond (a == e) 1 0 + times e ids ≡ 0 = none in omega arith))
    ]

pub all_get : (P : List ℕ → Type 0) (lists : List (List ℕ)) (x : ℕ) → AllByRecursion P lists → x < length lists → P (get_or lists x [])
all_get P [] x all l = absurd (omega arith)
all_get P (ids ∷ lists) zero all l = all.0
all_get P (ids ∷ lists) (suc x) all l = all_get P lists x all.1 (omega arith)

-- in a table the next id stands in no list
pub fresh_of_table : (s : Shape) (t : Table) → IsTable s t → (x : ℕ) → Lacks t.next (list_of t x)
fresh_of_table s t is x =
    elim (cases_lt x (length t.lists)) [
      | inl within ↦ lacks_of_count t.next (list_of t x)
          (all_get (ListsEach t) t.lists x is.complete within t.next
          ∙ ap (λ o. cond (is_some o) 1 0) (above_next t.next t.next t.rows is.ordered (omega arith)))
      | inr past ↦ subst (Lacks t.next) (sym (get_or_past t.lists x [] past)) tt
    ]

-- how often an id stands in a list that is changed
count-push : (id e : ℕ) (ids : List ℕ) → times id (ids ++ e ∷ []) ≡ times id ids + cond (e == id) 1 0
count-push id e [] = omega arith
count-push id e (a ∷ ids) = let n : times id (ids ++ e ∷ []) ≡ times id ids + cond (e == id) 1 0 = count-push id e ids in omega arith

count-before : (id b e : ℕ) (ids : List ℕ) → times id (stand_before b e ids) ≡ times id ids + cond (e == id) 1 0
count-before id b e [] = omega arith
count-before id b e (a ∷ ids) =
    let n : times id (stand_before b e ids) ≡ times id ids + cond (e == id) 1 0 = count-before id b e ids in
    elim (a == b) as (λ c. times id (cond c (e ∷ a ∷ ids) (a ∷ stand_before b e ids)) ≡ times id (a ∷ ids) + cond (e == id) 1 0) [
      | true ↦ omega arith
      | false ↦ omega arith
    ]

count-stand : (id e : ℕ) (b : Option ℕ) (ids : List ℕ) → times id (stand b e ids) ≡ times id ids + cond (e == id) 1 0
count-stand id e None ids = count-push id e ids
count-stand id e (Some b) ids = count-before id b e ids

count-without_same : (e : ℕ) (ids : List ℕ) → times e (without e ids) ≡ 0
count-without_same e [] = refl
count-without_same e (a ∷ ids) =
    both_ways (a == e)
    (λ yes. ap (λ b. times e (cond (not b) (a ∷ without e ids) (without e ids))) yes ∙ count-without_same e ids)
    (λ isnt. ap (λ b. times e (cond (not b) (a ∷ without e ids) (without e ids))) isnt
    ∙ (let n : times e (without e ids) ≡ 0 = count-without_same e ids in let one : cond (a == e) 1 0 ≡ 0 = ap (λ b. cond {A = ℕ} b 1 0) isnt in omega arith))

count-without : (id e : ℕ) (ids : List ℕ) → id ≢ e → times id (without e ids) ≡ times id ids
count-without id e [] ne = refl
count-without id e (a ∷ ids) ne =
    both_ways (a == e)
    (λ yes. ap (λ b. times id (cond (not b) (a ∷ without e ids) (without e ids))) yes
    ∙ (let n : times id (without e ids) ≡ times id ids = count-without id e ids ne in
    let other : cond (a == id) 1 0 ≡ 0 = ap (λ b. cond {A = ℕ} b 1 0) (not_same a id (λ is. ne (sym is ∙ eqb-true a e yes))) in omega arith))
    (λ isnt. ap (λ b. times id (cond (not b) (a ∷ without e ids) (without e ids))) isnt ∙ ap (λ n. cond (a == id) 1 0 + n) (count-without id e ids ne))

-- claims on every list
all_map : (P Q : List ℕ → Type 0) (f : List ℕ → List ℕ) → ((ids : List ℕ) → P ids → Q (f ids))
    → (lists : List (List ℕ)) → AllByRecursion P lists → AllByRecursion Q (map f lists)
all_map P Q f g [] all = tt
all_map P Q f g (ids ∷ lists) all = (g ids all.0, all_map P Q f g lists all.1)

all_set : (P : List ℕ → Type 0) (lists : List (List ℕ)) (x : ℕ) (ids : List ℕ)
    → AllByRecursion P lists → (x < length lists → P ids) → AllByRecursion P (set lists x ids)
all_set P [] x ids all p = tt
all_set P (l ∷ lists) zero ids all p = (p (omega arith), all.1)
all_set P (l ∷ lists) (suc x) ids all p = (all.0, all_set P lists x ids all.1 (λ w. p (omega arith)))

-- rows
all_rows : {P Q : Row → Type 0} → ((r : Row) → P r → Q r) → (rows : List Row) → AllByRecursion P rows → AllByRecursion Q rows
all_rows f [] all = tt
all_rows f (r ∷ rows) all = (f r all.0, all_rows f rows all.1)

all_push : (P : Row → Type 0) (rows : List Row) (r : Row) → AllByRecursion P rows → P r → AllByRecursion P (rows ++ r ∷ [])
all_push P [] r all p = (p, tt)
all_push P (q ∷ rows) r all p = (all.0, all_push P rows r all.1 p)

pub rise_push : (next : ℕ) (rows : List Row) (r : List Value) → Rise next rows → Rise (next + 1) (rows ++ (next, r) ∷ [])
rise_push next [] r up = (omega arith, tt, tt)
rise_push next (q ∷ rows) r up =
    (let l : q.0 < next = up.0 in omega arith, all_push (λ p. q.0 < p.0) rows (next, r) up.1 up.0, rise_push next rows r up.2)

pub rise_filter : (next : ℕ) (p : Row → Bool) (rows : List Row) → Rise next rows → Rise next (filter p rows)
rise_filter next p [] up = tt
rise_filter next p (r ∷ rows) up =
    elim (p r) as (λ b. Rise next (cond b (r ∷ filter p rows) (filter p rows))) [
      | true ↦ (up.0, all_filter (λ q. r.0 < q.0) p rows up.1, rise_filter next p rows up.2)
      | false ↦ rise_filter next p rows up.2
    ]

all_set_value : (n e : ℕ) (r : List Value) (rows : List Row) → AllByRecursion (λ (q : Row). n < q.0) rows
    → AllByRecursion (λ (q : Row). n < q.0) (set_value (λ k. k == e) rows r)
all_set_value n e r [] all = tt
all_set_value n e r (q ∷ rows) all =
    elim (q.0 == e) as (λ b. AllByRecursion (λ (q : Row). n < q.0) (cond b ((q.0, r) ∷ rows) (q ∷ set_value (λ k. k == e) rows r))) [
      | true ↦ all
      | false ↦ (all.0, all_set_value n e r rows all.1)
    ]

pub rise_set_value : (next e : ℕ) (r : List Value) (rows : List Row) → Rise next rows → Rise next (set_value (λ k. k == e) rows r)
rise_set_value next e r [] up = tt
rise_set_value next e r (q ∷ rows) up =
    elim (q.0 == e) as (λ b. Rise next (cond b ((q.0, r) ∷ rows) (q ∷ set_value (λ k. k == e) rows r))) [
      | true ↦ up
      | false ↦ (up.0, all_set_value q.0 e r rows up.1, rise_set_value next e r rows up.2)
    ]

pub lookup_push_same : (e : ℕ) (r : List Value) (rows : List Row) → lookup (λ k. k == e) rows ≡ None → lookup (λ k. k == e) (rows ++ (e, r) ∷ []) ≡ Some r
lookup_push_same e r [] none = ap (λ b. cond b (Some r) None) (count_itself e)
lookup_push_same e r (q ∷ rows) none =
    both_ways (q.0 == e)
    (λ yes. absurd (let h : Some q.1 ≡ None = sym (ap (λ b. cond b (Some q.1) (lookup (λ k. k == e) rows)) yes) ∙ none in cc))
    (λ isnt. ap (λ b. cond b (Some q.1) (lookup (λ k. k == e) (rows ++ (e, r) ∷ []))) isnt
    ∙ lookup_push_same e r rows (sym (ap (λ b. cond b (Some q.1) (lookup (λ k. k == e) rows)) isnt) ∙ none))

pub lookup_without_same : (e : ℕ) (rows : List Row) → lookup (λ k. k == e) (filter (λ r. not (r.0 == e)) rows) ≡ None
lookup_without_same e [] = refl
lookup_without_same e (q ∷ rows) =
    both_ways (q.0 == e)
    (λ yes. ap (λ b. lookup (λ k. k == e) (cond (not b) (q ∷ filter (λ r. not (r.0 == e)) rows) (filter (λ r. not (r.0 == e)) rows))) yes
    ∙ lookup_without_same e rows)
    (λ isnt. ap (λ b. lookup (λ k. k == e) (cond (not b) (q ∷ filter (λ r. not (r.0 == e)) rows) (filter (λ r. not (r.0 == e)) rows))) isnt
    ∙ ap (λ b. cond b (Some q.1) (lookup (λ k. k == e) (filter (λ r. not (r.0 == e)) rows))) isnt ∙ lookup_without_same e rows)

-- one if an option is there
abbrev one_if : {A : Type 0} → Option A → ℕ
one_if o = cond (is_some o) 1 0

each_stood : (at : Option (ℕ × ℕ)) (r : List Value) (t : Table) (b : Option ℕ) (ids : List ℕ)
    → Rise t.next t.rows → ListsEach t ids → ListsEach (insert at r t) (stand b t.next ids)
each_stood at r t b ids up each id =
    elim (eqb_tells id t.next) [
      | inl is ↦
          let none : lookup (λ k. k == id) t.rows ≡ None = above_next t.next id t.rows up (omega (arith, is.1)) in
          let was : times id ids ≡ 0 = each id ∙ ap one_if none in
          let one : cond {A = ℕ} (t.next == id) 1 0 ≡ 1 = ap (λ n. cond {A = ℕ} (t.next == n) 1 0) is.1 ∙ ap (λ b. cond {A = ℕ} b 1 0) (count_itself t.next) in
          let now : one_if (lookup (λ k. k == id) (t.rows ++ (t.next, r) ∷ [])) ≡ 1 =
          ap one_if (subst (λ n. lookup (λ k. k == n) (t.rows ++ (t.next, r) ∷ []) ≡ Some r) (sym is.1)
          (lookup_push_same t.next r t.rows (subst (λ n. lookup (λ k. k == n) t.rows ≡ None) is.1 none))) in
          let n : times id (stand b t.next ids) ≡ times id ids + cond (t.next == id) 1 0 = count-stand id t.next b ids in
          let e : times id (stand b t.next ids) ≡ 1 = omega arith in e ∙ sym now
      | inr isnt ↦
          let zero_ : cond {A = ℕ} (t.next == id) 1 0 ≡ 0 = ap (λ b. cond {A = ℕ} b 1 0) (not_same t.next id (λ e. isnt.1 (sym e))) in
          let n : times id (stand b t.next ids) ≡ times id ids + cond (t.next == id) 1 0 = count-stand id t.next b ids in
          let e : times id (stand b t.next ids) ≡ times id ids = omega arith in
          e ∙ each id ∙ ap one_if (sym (lookup_push id t.next r t.rows isnt.1))
    ]

all_added : (at : Option (ℕ × ℕ)) (r : List Value) (t : Table) → Rise t.next t.rows
    → AllByRecursion (ListsEach t) t.lists → AllByRecursion (ListsEach (insert at r t)) (added at t.next t.lists)
all_added None r t up all = all_map (ListsEach t) (ListsEach (insert None r t))
    (stand None t.next) (λ ids each. each_stood None r t None ids up each) t.lists all
all_added (Some at) r t up all =
    all_set (ListsEach (insert (Some at) r t)) (map (stand None t.next) t.lists) at.0 _
    (all_map (ListsEach t) (ListsEach (insert (Some at) r t)) (stand None t.next) (λ ids each. each_stood (Some at) r t None ids up each) t.lists all)
    (λ within. each_stood (Some at) r t (Some at.1) (get_or t.lists at.0 []) up
    (all_get (ListsEach t) t.lists at.0 all (subst (λ n. at.0 < n) (length-map t.lists (stand None t.next)) within)))

pub length-added : (at : Option (ℕ × ℕ)) (e : ℕ) (lists : List (List ℕ)) → length (added at e lists) ≡ length lists
length-added None e lists = length-map lists (stand None e)
length-added (Some at) e lists = length-set (map (stand None e) lists) at.0 _ ∙ length-map lists (stand None e)

pub is_table_insert : (s : Shape) (at : Option (ℕ × ℕ)) (r : List Value) (t : Table) → IsTable s t → IsTable s (insert at r t)
is_table_insert s at r t is =
    record {
      ordered = rise_push t.next t.rows r is.ordered;
      one_each = length-added at t.next t.lists ∙ is.one_each;
      complete = all_added at r t is.ordered is.complete;
    }

each_erased : (e : ℕ) (t : Table) (ids : List ℕ) → ListsEach t ids → ListsEach (erase e t) (without e ids)
each_erased e t ids each id =
    elim (eqb_tells id e) [
      | inl is ↦ subst (λ n. times n (without e ids) ≡ one_if (lookup (λ k. k == n) (filter (λ r. not (r.0 == e)) t.rows))) (sym is.1)
          (count-without_same e ids ∙ sym (ap one_if (lookup_without_same e t.rows)))
      | inr isnt ↦ count-without id e ids isnt.1 ∙ each id ∙ ap one_if (sym (lookup_without id e t.rows isnt.1))
    ]

pub is_table_erase : (s : Shape) (e : ℕ) (t : Table) → IsTable s t → IsTable s (erase e t)
is_table_erase s e t is =
    record {
      ordered = rise_filter t.next (λ r. not (r.0 == e)) t.rows is.ordered;
      one_each = length-map t.lists (without e) ∙ is.one_each;
      complete = all_map (ListsEach t) (ListsEach (erase e t)) (without e) (λ ids each. each_erased e t ids each) t.lists is.complete;
    }

-- an id that is there goes to another place of a list
times_moved : (id e : ℕ) (b : Option ℕ) (ids : List ℕ) → times e ids ≡ 1 → times id (stand b e (without e ids)) ≡ times id ids
times_moved id e b ids one =
    elim (eqb_tells id e) [
      | inl is ↦ subst (λ n. times n (stand b e (without e ids)) ≡ times n ids) (sym is.1)
          (let n : times e (stand b e (without e ids)) ≡ times e (without e ids) + cond (e == e) 1 0 = count-stand e e b (without e ids) in
          let z : times e (without e ids) ≡ 0 = count-without_same e ids in
          let i : cond {A = ℕ} (e == e) 1 0 ≡ 1 = ap (λ b. cond {A = ℕ} b 1 0) (count_itself e) in omega arith)
      | inr isnt ↦
          let n : times id (stand b e (without e ids)) ≡ times id (without e ids) + cond (e == id) 1 0 = count-stand id e b (without e ids) in
          let z : times id (without e ids) ≡ times id ids = count-without id e ids isnt.1 in
          let i : cond {A = ℕ} (e == id) 1 0 ≡ 0 = ap (λ b. cond {A = ℕ} b 1 0) (not_same e id (λ is. isnt.1 (sym is))) in omega arith
    ]

has_put : (s : Shape) (e : ℕ) (r : List Value) (t : Table) → has t e ≡ true → (id : ℕ) → one_if (get (put s e r t) id) ≡ one_if (get t id)
has_put s e r t there id =
    elim (eqb_tells id e) [
      | inl is ↦ subst (λ n. one_if (get (put s e r t) n) ≡ one_if (get t n)) (sym is.1)
          (ap one_if (lookup_set_same e r t.rows there) ∙ sym (ap (λ b. cond {A = ℕ} b 1 0) there))
      | inr isnt ↦ ap one_if (lookup_set id e r t.rows isnt.1)
    ]

each_moved_in : (i : Index) (old new : List Value) (e : ℕ) (t : Table) (ids : List ℕ)
    → has t e ≡ true → ListsEach t ids → ListsEach t (moved_in i old new e ids)
each_moved_in i old new e t ids there each id =
    elim (is_eq (compare_key i.parts old new)) as (λ b. times id (cond b ids (without e ids ++ e ∷ [])) ≡ one_if (get t id)) [
      | true ↦ each id
      | false ↦ times_moved id e None ids (each e ∙ ap (λ b. cond {A = ℕ} b 1 0) there) ∙ each id
    ]

all_moved : (is : List Index) (old new : List Value) (e : ℕ) (t : Table) (lists : List (List ℕ)) → has t e ≡ true
    → AllByRecursion (ListsEach t) lists → AllByRecursion (ListsEach t) (moved is old new e lists)
all_moved [] old new e t lists there all = all
all_moved (i ∷ is) old new e t [] there all = tt
all_moved (i ∷ is) old new e t (ids ∷ lists) there all = (each_moved_in i old new e t ids there all.0, all_moved is old new e t lists there all.1)

pub length-moved : (is : List Index) (old new : List Value) (e : ℕ) (lists : List (List ℕ)) → length (moved is old new e lists) ≡ length lists
length-moved [] old new e lists = refl
length-moved (i ∷ is) old new e [] = refl
length-moved (i ∷ is) old new e (ids ∷ lists) = ap suc (length-moved is old new e lists)

all_lists : (P Q : List ℕ → Type 0) → ((ids : List ℕ) → P ids → Q ids) → (lists : List (List ℕ)) → AllByRecursion P lists → AllByRecursion Q lists
all_lists P Q f [] all = tt
all_lists P Q f (ids ∷ lists) all = (f ids all.0, all_lists P Q f lists all.1)

pub is_table_put : (s : Shape) (e : ℕ) (r : List Value) (t : Table) → has t e ≡ true → IsTable s t → IsTable s (put s e r t)
is_table_put s e r t there is =
    record {
      ordered = rise_set_value t.next e r t.rows is.ordered;
      one_each = length-moved s.indexes _ r e t.lists ∙ is.one_each;
      complete = all_lists (ListsEach t) (ListsEach (put s e r t)) (λ ids each id. each id ∙ sym (has_put s e r t there id)) _
          (all_moved s.indexes (row t e).1 r e t t.lists there is.complete);
    }

each_relocated : (t : Table) (b : Option ℕ) (e : ℕ) (ids : List ℕ) → has t e ≡ true → ListsEach t ids → ListsEach t (relocated b e ids)
each_relocated t None e ids there each id = times_moved id e None ids (each e ∙ ap (λ b. cond {A = ℕ} b 1 0) there) ∙ each id
each_relocated t (Some b) e ids there each id =
    elim (b == e) as (λ c. times id (cond c ids (stand (Some b) e (without e ids))) ≡ one_if (get t id)) [
      | true ↦ each id
      | false ↦ times_moved id e (Some b) ids (each e ∙ ap (λ b. cond {A = ℕ} b 1 0) there) ∙ each id
    ]

pub is_table_relocate : (s : Shape) (x e : ℕ) (b : Option ℕ) (t : Table) → has t e ≡ true → IsTable s t → IsTable s (relocate x e b t)
is_table_relocate s x e b t there is =
    record {
      ordered = is.ordered;
      one_each = length-set t.lists x _ ∙ is.one_each;
      complete = all_set (ListsEach t) t.lists x (relocated b e (list_of t x)) is.complete
          (λ within. each_relocated t b e (list_of t x) there (all_get (ListsEach t) t.lists x is.complete within));
    }

all_empty : (s : Shape) (is : List Index) → AllByRecursion (ListsEach (opened s)) (map (λ _. []) is)
all_empty s [] = tt
all_empty s (i ∷ is) = (λ id. refl, all_empty s is)

pub is_table_opened : (s : Shape) → IsTable s (opened s)
is_table_opened s = record { ordered = tt; one_each = length-map s.indexes (λ _. []); complete = all_empty s s.indexes }
