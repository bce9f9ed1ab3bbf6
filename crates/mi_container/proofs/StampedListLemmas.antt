-- The list of an index that goes by stamps, after each change.
-- Cited by `DataLemmas`, `GroupLemmas`, `InverseLemmas`, `RestampLemmas` and `TableLemmas`.
use Rattle.std.proofs.Common.{◌≡◌, ◌≢◌, ℕ, ◌+◌, ◌<◌, ◌≤◌, zero, suc, true, false, cond, not, inl, inr}
use Rattle.std.proofs.Common.{List, [], ◌∷◌, ◌++◌, length, get_or, refl, ap, sym, ◌∙◌, subst, arith}
use Rattle.std.specs.Prelude.{◌==◌}
use Rattle.std.specs.List.{fold, AllByRecursion}
use Rattle.std.specs.Ordering.{is_lt, is_eq, nat_cmp, on}
use Rattle.std.specs.Cmp.{IsTotalOrder, on_total}
use Rattle.std.proofs.lemmas.Cmp.{nat_cmp_total}
use Rattle.std.proofs.lemmas.Bool.{eqb-true, lt-ltb, le-ltb}
use Rattle.std.proofs.lemmas.Bool.Decides.{eqb_tells}
use Rattle.std.specs.declared.cmp.Ordering.{Ordering}
use Rattle.std.specs.declared.cmp.Ordering.TheVariants.{Less, Equal, Greater}
use Rattle.std.specs.declared.option.Option.TheVariants.{None, Some}
use Rattle.mi_value.specs.declared.value.Value.{Value}
use Rattle.mi_value.specs.Order.{compare_key}
use Rattle.mi_model.specs.Table.{times}
use Rattle.mi_model.specs.View.{place, sorted}
use Rattle.mi_model.specs.Change.{without}
use Rattle.mi_model.proofs.SortLaws.{both_ways, sorted-push, sorted_alike, sorted-all, filter-sorted, not_above}
use Rattle.mi_model.proofs.ViewLaws.{Lacks, none_is}
use Rattle.mi_container.specs.Data.{Content, Node, Order, parts_of, node_of, content_in, stamp_of, ids_of, Climbs}
use Rattle.mi_container.specs.Changes.{left_out, with_content, restamped}
use Rattle.mi_container.specs.Fits.{IsThere}
use Rattle.mi_container.proofs.PairLemmas.{is_itself, none_some, head_is, head_isnt, lookup_out, lookup_push, lookup_push_same, out_is, out_isnt}
use Rattle.mi_container.proofs.SequenceLemmas.{Once, drop_is, drop_isnt, without_lacks}
use Rattle.mi_container.proofs.ContentLemmas.{node_with, node_beside}

-- Sorting, where one id is last

-- an id that is below none goes last
place_last : (order : ℕ → ℕ → Ordering) (e : ℕ) (ids : List ℕ) → AllByRecursion (λ a. is_lt (order e a) ≡ false) ids → place order e ids ≡ ids ++ e ∷ []
place_last order e [] all = refl
place_last order e (a ∷ ids) all = ap (λ b. cond b (e ∷ a ∷ ids) (a ∷ place order e ids)) all.0 ∙ ap (λ q. a ∷ q) (place_last order e ids all.1)

all_placed : (P : ℕ → Type 0) (order : ℕ → ℕ → Ordering) (e : ℕ) (ids : List ℕ) → P e → AllByRecursion P ids → AllByRecursion P (place order e ids)
all_placed P order e [] p all = (p, tt)
all_placed P order e (a ∷ ids) p all =
    elim (is_lt (order e a)) as (λ b. AllByRecursion P (cond b (e ∷ a ∷ ids) (a ∷ place order e ids))) [
      | true ↦ (p, all)
      | false ↦ (all.0, all_placed P order e ids p all.1)
    ]

-- an id below the last goes before it
place_before : (order : ℕ → ℕ → Ordering) (a e : ℕ) (ids : List ℕ) → is_lt (order a e) ≡ true → place order a (ids ++ e ∷ []) ≡ place order a ids ++ e ∷ []
place_before order a e [] l = ap (λ b. cond b (a ∷ e ∷ []) (e ∷ a ∷ [])) l
place_before order a e (d ∷ ids) l =
    elim (is_lt (order a d))
    as (λ b. cond b (a ∷ d ∷ ids ++ e ∷ []) (d ∷ place order a (ids ++ e ∷ [])) ≡ cond b (a ∷ d ∷ ids) (d ∷ place order a ids) ++ e ∷ []) [
      | true ↦ refl
      | false ↦ ap (λ q. d ∷ q) (place_before order a e ids l)
    ]

fold_before : (order : ℕ → ℕ → Ordering) (e : ℕ) (done ids : List ℕ) → AllByRecursion (λ a. is_lt (order a e) ≡ true) ids
    → fold (λ d a. place order a d) (done ++ e ∷ []) ids ≡ fold (λ d a. place order a d) done ids ++ e ∷ []
fold_before order e done [] all = refl
fold_before order e done (a ∷ ids) all =
    ap (λ d. fold (λ d a. place order a d) d ids) (place_before order a e done all.0) ∙ fold_before order e (place order a done) ids all.1

each_two : {P Q R : ℕ → Type 0} → ((a : ℕ) → P a → Q a → R a) → (ids : List ℕ) → AllByRecursion P ids → AllByRecursion Q ids → AllByRecursion R ids
each_two f [] p q = tt
each_two f (a ∷ ids) p q = (f a p.0 q.0, each_two f ids p.1 q.1)

fold_last : (order : ℕ → ℕ → Ordering) → IsTotalOrder order → (e : ℕ) (done ids : List ℕ)
    → AllByRecursion (λ a. is_lt (order a e) ≡ true) done → AllByRecursion (λ a. a ≢ e → is_lt (order a e) ≡ true) ids → Once ids → 0 < times e ids
    → fold (λ d a. place order a d) done ids ≡ fold (λ d a. place order a d) done (without e ids) ++ e ∷ []
fold_last order o e done [] past all once some = absurd (omega arith)
fold_last order o e done (a ∷ ids) past all once some =
    both_ways (a == e)
    (λ yes.
    let same : a ≡ e = eqb-true a e yes in
    let lacks : Lacks e ids = subst (λ k. Lacks k ids) same once.0 in
    let rest : AllByRecursion (λ b. is_lt (order b e) ≡ true) ids = each_two (λ b f ne. f ne) ids all.1 lacks in
    ap (λ k. fold (λ d a. place order a d) (place order k done) ids) same
    ∙ ap (λ d. fold (λ d a. place order a d) d ids)
    (place_last order e done (each_two {P = λ b. is_lt (order b e) ≡ true} {Q = λ b. is_lt (order b e) ≡ true} (λ b l _. not_above o b e l) done past past))
    ∙ fold_before order e done ids rest
    ∙ ap (λ q. fold (λ d a. place order a d) done q ++ e ∷ []) (sym (drop_is e a ids yes ∙ without_lacks e ids lacks)))
    (λ isnt.
    let other : a ≢ e = λ same. absurd (let h : true ≡ false = sym (is_itself e) ∙ ap (λ k. k == e) (sym same) ∙ isnt in cc) in
    let rest : 0 < times e ids = (let z : cond {A = ℕ} (a == e) 1 0 ≡ 0 = ap (λ b. cond {A = ℕ} b 1 0) isnt in
    let n : 0 < cond {A = ℕ} (a == e) 1 0 + times e ids = some in
    omega arith) in
    fold_last order o e (place order a done) ids (all_placed (λ b. is_lt (order b e) ≡ true) order a done (all.0 other) past) all.1 once.1 rest
    ∙ ap (λ q. fold (λ d a. place order a d) done q ++ e ∷ []) (sym (drop_isnt e a ids isnt)))

-- an id above all others is sorted last
sorted_last : (order : ℕ → ℕ → Ordering) → IsTotalOrder order → (e : ℕ) (ids : List ℕ)
    → AllByRecursion (λ a. a ≢ e → is_lt (order a e) ≡ true) ids → Once ids → 0 < times e ids
    → sorted order ids ≡ sorted order (without e ids) ++ e ∷ []
sorted_last order o e ids all once some = fold_last order o e [] ids tt all once some

-- The ids of nodes

pub ids_out : (e : ℕ) (rows : List (ℕ × Node)) → ids_of (left_out e rows) ≡ without e (ids_of rows)
ids_out e [] = refl
ids_out e (r ∷ rows) =
    both_ways (r.0 == e)
    (λ yes. ap (λ q. ids_of q) (out_is e r rows yes) ∙ ids_out e rows ∙ sym (drop_is e r.0 (ids_of rows) yes))
    (λ isnt. ap (λ q. ids_of q) (out_isnt e r rows isnt) ∙ ap (λ q. r.0 ∷ q) (ids_out e rows) ∙ sym (drop_isnt e r.0 (ids_of rows) isnt))

pub ids_with : (e : ℕ) (c : Content) (rows : List (ℕ × Node)) → ids_of (with_content e c rows) ≡ ids_of rows
ids_with e c [] = refl
ids_with e c (r ∷ rows) =
    elim (r.0 == e) as (λ b. ids_of (cond b ((r.0, record { at = r.1.at; content = c }) ∷ rows) (r ∷ with_content e c rows)) ≡ r.0 ∷ ids_of rows) [
      | true ↦ refl
      | false ↦ ap (λ q. r.0 ∷ q) (ids_with e c rows)
    ]

pub ids_push : (e : ℕ) (n : Node) (rows : List (ℕ × Node)) → ids_of (rows ++ (e, n) ∷ []) ≡ ids_of rows ++ e ∷ []
ids_push e n [] = refl
ids_push e n (r ∷ rows) = ap (λ q. r.0 ∷ q) (ids_push e n rows)

-- a claim on each live id
all_live : (P : ℕ → Type 0) (rows : List (ℕ × Node)) → ((a : ℕ) → IsThere rows a → P a) → AllByRecursion P (ids_of rows)
all_live P [] f = tt
all_live P (r ∷ rows) f = (
  f r.0 (r.1, head_is r.0 r rows (is_itself r.0)),
  all_live P rows (λ a there.
      f a (both_ways (r.0 == a) (λ yes. (r.1, head_is a r rows yes)) (λ isnt. (there.0, head_isnt a r rows isnt ∙ there.1)))),
)

lacks_above : (e : ℕ) (rows : List (ℕ × Node)) → AllByRecursion (λ (q : ℕ × Node). e < q.0) rows → Lacks e (ids_of rows)
lacks_above e [] all = tt
lacks_above e (r ∷ rows) all = (λ same. let l : e < r.0 = all.0 in absurd (omega arith), lacks_above e rows all.1)

ids_once : (next : ℕ) (rows : List (ℕ × Node)) → Climbs next rows → Once (ids_of rows)
ids_once next [] up = tt
ids_once next (r ∷ rows) up = (lacks_above r.0 rows up.1, ids_once next rows up.2)

ids_has : (e : ℕ) (rows : List (ℕ × Node)) → IsThere rows e → 0 < times e (ids_of rows)
ids_has e [] there = absurd (none_some there.1)
ids_has e (r ∷ rows) there =
    both_ways (r.0 == e)
    (λ yes. let one : cond {A = ℕ} (r.0 == e) 1 0 ≡ 1 = ap (λ b. cond {A = ℕ} b 1 0) yes in omega arith)
    (λ isnt. let n : 0 < times e (ids_of rows) = ids_has e rows (there.0, sym (head_isnt e r rows isnt) ∙ there.1) in omega arith)

-- Stamps

stamp_order_total : (rows : List (ℕ × Node)) (x : ℕ) → IsTotalOrder (on (stamp_of rows x) nat_cmp)
stamp_order_total rows x = on_total (stamp_of rows x) nat_cmp_total

not_less : (n m : ℕ) → m ≤ n → is_lt (nat_cmp n m) ≡ false
not_less n m l =
    ap (λ b. is_lt (cond b Less (cond (n == m) Equal Greater))) (le-ltb n m l)
    ∙ elim (n == m) as (λ b. is_lt (cond b Equal Greater) ≡ false) [ true ↦ refl | false ↦ refl ]

is_less_than : (n m : ℕ) → n < m → is_lt (nat_cmp n m) ≡ true
is_less_than n m l = ap (λ b. is_lt (cond b Less (cond (n == m) Equal Greater))) (lt-ltb n m l)

-- ids with the same stamps are in the same order
stamps_alike : (x : ℕ) (rows other : List (ℕ × Node)) (a b : ℕ) → stamp_of rows x a ≡ stamp_of other x a → stamp_of rows x b ≡ stamp_of other x b
    → on (stamp_of rows x) nat_cmp a b ≡ on (stamp_of other x) nat_cmp a b
stamps_alike x rows other a b p q = ap (λ n. nat_cmp n (stamp_of rows x b)) p ∙ ap (nat_cmp (stamp_of other x a)) q

stamp_from : (rows other : List (ℕ × Node)) (x a : ℕ) → node_of rows a ≡ node_of other a → stamp_of rows x a ≡ stamp_of other x a
stamp_from rows other x a is = ap (λ o. get_or (content_in o).stamps x 0) is

-- a new row goes last
pub by_stamp_insert : (x e : ℕ) (n : Node) (rows : List (ℕ × Node)) → node_of rows e ≡ None
    → ((a : ℕ) → IsThere rows a → stamp_of rows x a ≤ get_or n.content.stamps x 0)
    → sorted (on (stamp_of (rows ++ (e, n) ∷ []) x) nat_cmp) (ids_of (rows ++ (e, n) ∷ [])) ≡ sorted (on (stamp_of rows x) nat_cmp) (ids_of rows) ++ e ∷ []
by_stamp_insert x e n rows none late =
    let order : ℕ → ℕ → Ordering = on (stamp_of (rows ++ (e, n) ∷ []) x) nat_cmp in
    let other : (a : ℕ) → IsThere rows a → a ≢ e = λ a there same. none_some (sym none ∙ subst (λ q. node_of rows q ≡ Some there.0) same there.1) in
    let mine : stamp_of (rows ++ (e, n) ∷ []) x e ≡ get_or n.content.stamps x 0 = ap (λ o. get_or (content_in o).stamps x 0) (lookup_push_same e n rows none) in
    let kept : (a : ℕ) → a ≢ e → stamp_of (rows ++ (e, n) ∷ []) x a ≡ stamp_of rows x a =
    λ a ne. stamp_from (rows ++ (e, n) ∷ []) rows x a (lookup_push a e n rows ne) in
    let alike : sorted order (ids_of rows) ≡ sorted (on (stamp_of rows x) nat_cmp) (ids_of rows) =
    sorted_alike (λ a. a ≢ e) order (on (stamp_of rows x) nat_cmp)
    (λ a b p q. stamps_alike x (rows ++ (e, n) ∷ []) rows a b (kept a p) (kept b q)) (ids_of rows) (all_live (λ a. a ≢ e) rows other) in
    let last : AllByRecursion (λ a. is_lt (order e a) ≡ false) (sorted (on (stamp_of rows x) nat_cmp) (ids_of rows)) =
    sorted-all (λ a. is_lt (order e a) ≡ false) (on (stamp_of rows x) nat_cmp) (on (stamp_of rows x) nat_cmp) (λ _ _ _ _. refl) (ids_of rows)
    (all_live (λ a. is_lt (order e a) ≡ false) rows (λ a there.
    not_less (stamp_of (rows ++ (e, n) ∷ []) x e) (stamp_of (rows ++ (e, n) ∷ []) x a)
    (subst (λ q. q ≤ stamp_of (rows ++ (e, n) ∷ []) x e) (sym (kept a (other a there))) (subst (λ q. stamp_of rows x a ≤ q) (sym mine) (late a there))))) in
    ap (sorted order) (ids_push e n rows) ∙ sorted-push order (ids_of rows) e ∙ ap (place order e) alike
    ∙ place_last order e (sorted (on (stamp_of rows x) nat_cmp) (ids_of rows)) last

-- an erased one leaves
pub by_stamp_erase : (x e : ℕ) (rows : List (ℕ × Node))
    → sorted (on (stamp_of (left_out e rows) x) nat_cmp) (ids_of (left_out e rows)) ≡ without e (sorted (on (stamp_of rows x) nat_cmp) (ids_of rows))
by_stamp_erase x e rows =
    let kept : (a : ℕ) → a ≢ e → stamp_of (left_out e rows) x a ≡ stamp_of rows x a = λ a ne. stamp_from (left_out e rows) rows x a (lookup_out a e rows ne) in
    ap (sorted (on (stamp_of (left_out e rows) x) nat_cmp)) (ids_out e rows)
    ∙ sorted_alike (λ a. a ≢ e) (on (stamp_of (left_out e rows) x) nat_cmp) (on (stamp_of rows x) nat_cmp)
    (λ a b p q. stamps_alike x (left_out e rows) rows a b (kept a p) (kept b q)) (without e (ids_of rows)) (none_is e (ids_of rows))
    ∙ sym (filter-sorted (stamp_order_total rows x) (λ a. not (a == e)) (ids_of rows))

-- with its old stamp it stays
pub by_stamp_stays : (x e : ℕ) (c : Content) (rows : List (ℕ × Node)) → IsThere rows e → get_or c.stamps x 0 ≡ stamp_of rows x e
    → sorted (on (stamp_of (with_content e c rows) x) nat_cmp) (ids_of (with_content e c rows)) ≡ sorted (on (stamp_of rows x) nat_cmp) (ids_of rows)
by_stamp_stays x e c rows there same =
    let kept : (a : ℕ) → stamp_of (with_content e c rows) x a ≡ stamp_of rows x a = λ a.
    elim (eqb_tells a e) [
      | inl is ↦ subst (λ q. stamp_of (with_content e c rows) x q ≡ stamp_of rows x q) (sym is.1)
          (ap (λ o. get_or (content_in o).stamps x 0) (node_with e c rows there.0 there.1) ∙ same)
      | inr isnt ↦ stamp_from (with_content e c rows) rows x a (node_beside a e c rows isnt.1)
    ] in
    ap (sorted (on (stamp_of (with_content e c rows) x) nat_cmp)) (ids_with e c rows)
    ∙ sorted_alike (λ a. Unit {0}) (on (stamp_of (with_content e c rows) x) nat_cmp) (on (stamp_of rows x) nat_cmp)
    (λ a b p q. stamps_alike x (with_content e c rows) rows a b (kept a) (kept b)) (ids_of rows)
    (all_live (λ a. Unit {0}) rows (λ a _. tt))

-- with the newest it goes last
pub by_stamp_moves : (x e next : ℕ) (c : Content) (rows : List (ℕ × Node)) → Climbs next rows
    → IsThere rows e → ((a : ℕ) → IsThere rows a → stamp_of rows x a < get_or c.stamps x 0)
    → sorted (on (stamp_of (with_content e c rows) x) nat_cmp) (ids_of (with_content e c rows))
    ≡ without e (sorted (on (stamp_of rows x) nat_cmp) (ids_of rows)) ++ e ∷ []
by_stamp_moves x e next c rows up there late =
    let order : ℕ → ℕ → Ordering = on (stamp_of (with_content e c rows) x) nat_cmp in
    let kept : (a : ℕ) → a ≢ e → stamp_of (with_content e c rows) x a ≡ stamp_of rows x a =
    λ a ne. stamp_from (with_content e c rows) rows x a (node_beside a e c rows ne) in
    let mine : stamp_of (with_content e c rows) x e ≡ get_or c.stamps x 0 = ap (λ o. get_or (content_in o).stamps x 0) (node_with e c rows there.0 there.1) in
    let less : AllByRecursion (λ a. a ≢ e → is_lt (order a e) ≡ true) (ids_of rows) =
    all_live (λ a. a ≢ e → is_lt (order a e) ≡ true) rows (λ a here ne.
    is_less_than (stamp_of (with_content e c rows) x a) (stamp_of (with_content e c rows) x e)
    (subst (λ q. q < stamp_of (with_content e c rows) x e) (sym (kept a ne)) (subst (λ q. stamp_of rows x a < q) (sym mine) (late a here)))) in
    ap (sorted order) (ids_with e c rows)
    ∙ sorted_last order (stamp_order_total (with_content e c rows) x) e (ids_of rows) less (ids_once next rows up) (ids_has e rows there)
    ∙ ap (λ q. q ++ e ∷ []) (sorted_alike (λ a. a ≢ e) order (on (stamp_of rows x) nat_cmp)
    (λ a b p q. stamps_alike x (with_content e c rows) rows a b (kept a p) (kept b q)) (without e (ids_of rows)) (none_is e (ids_of rows))
    ∙ sym (filter-sorted (stamp_order_total rows x) (λ a. not (a == e)) (ids_of rows)))

-- the stamp of the index of a number after a put
pub restamped_at : (os : List Order) (o : Order) (old new : List Value) (now : ℕ) (stamps : List ℕ) (x : ℕ) → x < length os → x < length stamps
    → get_or (restamped os old new now stamps) x 0 ≡ cond (is_eq (compare_key (parts_of (get_or os x o)) old new)) (get_or stamps x 0) now
restamped_at [] o old new now stamps x l m = absurd (omega arith)
restamped_at (p ∷ os) o old new now [] x l m = absurd (omega arith)
restamped_at (p ∷ os) o old new now (a ∷ stamps) zero l m = refl
restamped_at (p ∷ os) o old new now (a ∷ stamps) (suc x) l m = restamped_at os o old new now stamps x (omega arith) (omega arith)
