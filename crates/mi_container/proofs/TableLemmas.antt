-- The table of changed data is the changed table.
-- Cited by `DataLemmas`, `RestoreLemmas`, `RunLemmas` and `mi_multi`.
use Rattle.std.proofs.Common.{◌≡◌, ℕ, ◌+◌, ◌<◌, zero, suc, true, false, cond, not, List, [], ◌∷◌}
use Rattle.std.proofs.Common.{◌++◌, map, length, get_or, set, refl, ap, sym, ◌∙◌, subst, arith}
use Rattle.std.specs.Prelude.{◌==◌}
use Rattle.std.specs.List.{filter}
use Rattle.std.specs.Option.{option_map, unwrap_or}
use Rattle.std.specs.Ordering.{is_eq}
use Rattle.std.specs.Map.{set_value}
use Rattle.std.proofs.lemmas.List.{map-append}
use Rattle.std.specs.declared.option.Option.{Option}
use Rattle.std.specs.declared.option.Option.TheVariants.{None, Some}
use Rattle.mi_value.specs.declared.value.Value.{Value}
use Rattle.mi_value.specs.declared.compare.KeyPart.{KeyPart}
use Rattle.mi_value.specs.Order.{compare_key}
use Rattle.mi_catalog.specs.declared.index.Index.{Index}
use Rattle.mi_catalog.specs.Shape.{Shape}
use Rattle.mi_model.specs.Table.{row}
use Rattle.mi_model.specs.Change.{stand_before, stand, without, added, insert, moved_in, moved, put, erase, relocated, relocate}
use Rattle.mi_model.proofs.SortLaws.{both_ways}
use Rattle.mi_node.specs.Refs.{Ref}
use Rattle.mi_container.specs.Data.{Content, Node, Order, Data, parts_of, has_stamps, content_in, content_of, stamp_of}
use Rattle.mi_container.specs.Data.{ids_by_stamp, listed, lists_from, plain_row, as_table, KindFits, KindsFit, IsData}
use Rattle.mi_container.specs.Data.Order.{ById, ByKey, ByHash, Listed}
use Rattle.mi_container.specs.Changes.{left_out, with_content, new_content, in_order, new_stamp, new_node, orders_with}
use Rattle.mi_container.specs.Changes.{inserted, replaced, erased_node, erased, moved_order, relocated_in}
use Rattle.mi_container.specs.Fits.{IsThere, HasOwnList}
use Rattle.mi_container.specs.Run.{PlaceFits}
use Rattle.mi_container.proofs.StampLemmas.{new_at}
use Rattle.mi_container.proofs.InvariantLemmas.{rows_climb, no_next, lookup_shown, stamp_early, stamps_long}
use Rattle.mi_container.proofs.StampedListLemmas.{ids_out, ids_with, ids_push, by_stamp_insert, by_stamp_erase, by_stamp_stays, by_stamp_moves, restamped_at}

-- The lists of the indexes, from what becomes of each

-- the list of an index after a change of the rows, and of its own list by f
abbrev Becomes : (rows other : List (ℕ × Node)) (f : List ℕ → List ℕ) → ℕ → Order → Type 0
Becomes rows other f x o = listed x other (in_order f o) ≡ f (listed x rows o)

lists_changed : (rows other : List (ℕ × Node)) (f : List ℕ → List ℕ) (x : ℕ) (os : List Order)
    → ((k : ℕ) → k < length os → Becomes rows other f (x + k) (get_or os k ById))
    → lists_from x other (map (in_order f) os) ≡ map f (lists_from x rows os)
lists_changed rows other f x [] each = refl
lists_changed rows other f x (o ∷ os) each =
    let same : x + 0 ≡ x = omega arith in
    let here : listed x other (in_order f o) ≡ f (listed x rows o) = subst (λ n. Becomes rows other f n o) same (each zero (omega arith)) in
    let rest : lists_from (suc x) other (map (in_order f) os) ≡ map f (lists_from (suc x) rows os) =
    lists_changed rows other f (suc x) os (λ k l.
    let next : x + suc k ≡ suc x + k = omega arith in subst (λ n. Becomes rows other f n (get_or os k ById)) next (each (suc k) (omega arith))) in
    λ i. here i ∷ rest i

-- and one of them, a list of its own, by another
one_set : (rows other : List (ℕ × Node)) (g : List ℕ → List ℕ) (x : ℕ) (o : Order) → HasOwnList o → listed x other (in_order g o) ≡ g (listed x rows o)
one_set rows other g x ById is = absurd is
one_set rows other g x (ByKey ps) is = absurd is
one_set rows other g x (ByHash ps) is = absurd is
one_set rows other g x (Listed ids) is = refl

lists_set : (rows other : List (ℕ × Node)) (f g : List ℕ → List ℕ) (x : ℕ) (os : List Order) (k : ℕ)
    → ((j : ℕ) → j < length os → Becomes rows other f (x + j) (get_or os j ById)) → HasOwnList (get_or os k ById)
    → lists_from x other (set (map (in_order f) os) k (in_order g (get_or os k ById)))
    ≡ set (map f (lists_from x rows os)) k (g (get_or (lists_from x rows os) k []))
lists_set rows other f g x [] k each is = absurd is
lists_set rows other f g x (o ∷ os) zero each is =
    let here : listed x other (in_order g o) ≡ g (listed x rows o) = one_set rows other g x o is in
    let rest : lists_from (suc x) other (map (in_order f) os) ≡ map f (lists_from (suc x) rows os) =
    lists_changed rows other f (suc x) os (λ j l.
    let next : x + suc j ≡ suc x + j = omega arith in subst (λ n. Becomes rows other f n (get_or os j ById)) next (each (suc j) (omega arith))) in
    λ i. here i ∷ rest i
lists_set rows other f g x (o ∷ os) (suc k) each is =
    let same : x + 0 ≡ x = omega arith in
    let here : listed x other (in_order f o) ≡ f (listed x rows o) = subst (λ n. Becomes rows other f n o) same (each zero (omega arith)) in
    let rest : lists_from (suc x) other (set (map (in_order f) os) k (in_order g (get_or os k ById)))
    ≡ set (map f (lists_from (suc x) rows os)) k (g (get_or (lists_from (suc x) rows os) k [])) =
    lists_set rows other f g (suc x) os k (λ j l.
    let next : x + suc j ≡ suc x + j = omega arith in subst (λ n. Becomes rows other f n (get_or os j ById)) next (each (suc j) (omega arith)))
    is in
    λ i. here i ∷ rest i

lists_moved : (rows : List (ℕ × Node)) (g : List ℕ → List ℕ) (x : ℕ) (os : List Order) (k : ℕ) → HasOwnList (get_or os k ById)
    → lists_from x rows (moved_order k g os) ≡ set (lists_from x rows os) k (g (get_or (lists_from x rows os) k []))
lists_moved rows g x [] k is = absurd is
lists_moved rows g x (o ∷ os) zero is = ap (λ q. q ∷ lists_from (suc x) rows os) (one_set rows rows g x o is)
lists_moved rows g x (o ∷ os) (suc k) is = ap (λ q. listed x rows o ∷ q) (lists_moved rows g (suc x) os k is)

-- Insert

stamped_last : (s : Shape) (at : Ref) (r : List Value) (d : Data) → IsData s d → (x : ℕ) → has_stamps (get_or d.orders x ById) ≡ true
    → ids_by_stamp x (d.rows ++ (d.next, new_node at r d) ∷ []) ≡ stand None d.next (ids_by_stamp x d.rows)
stamped_last s at r d is x has_ =
    by_stamp_insert x d.next (new_node at r d) d.rows (no_next s d is) (λ a there.
    let early : stamp_of d.rows x a < d.arrivals = stamp_early s d is x has_ a there in
    let mine : get_or (map (new_stamp d.arrivals) d.orders) x 0 ≡ d.arrivals = new_at d.arrivals d.orders x has_ in omega arith)

inserted_one : (s : Shape) (at : Ref) (r : List Value) (d : Data) → IsData s d → (x : ℕ) (o : Order) → get_or d.orders x ById ≡ o
    → Becomes d.rows (d.rows ++ (d.next, new_node at r d) ∷ []) (stand None d.next) x o
inserted_one s at r d is x ById here = ids_push d.next (new_node at r d) d.rows
inserted_one s at r d is x (ByKey ps) here = stamped_last s at r d is x (ap has_stamps here)
inserted_one s at r d is x (ByHash ps) here = stamped_last s at r d is x (ap has_stamps here)
inserted_one s at r d is x (Listed ids) here = refl

inserted_lists : (s : Shape) (p : Option (ℕ × ℕ)) (at : Ref) (r : List Value) (d : Data) → IsData s d → PlaceFits p d.orders
    → lists_from 0 (d.rows ++ (d.next, new_node at r d) ∷ []) (orders_with p d.next d.orders) ≡ added p d.next (lists_from 0 d.rows d.orders)
inserted_lists s None at r d is fits =
    lists_changed d.rows (d.rows ++ (d.next, new_node at r d) ∷ []) (stand None d.next) 0 d.orders
    (λ k l. let same : 0 + k ≡ k = omega arith in
    subst (λ n. Becomes d.rows (d.rows ++ (d.next, new_node at r d) ∷ []) (stand None d.next) n (get_or d.orders k ById))
    (sym same) (inserted_one s at r d is k (get_or d.orders k ById) refl))
inserted_lists s (Some p) at r d is fits =
    lists_set d.rows (d.rows ++ (d.next, new_node at r d) ∷ []) (stand None d.next) (stand_before p.1 d.next) 0 d.orders p.0
    (λ k l. let same : 0 + k ≡ k = omega arith in
    subst (λ n. Becomes d.rows (d.rows ++ (d.next, new_node at r d) ∷ []) (stand None d.next) n (get_or d.orders k ById))
    (sym same) (inserted_one s at r d is k (get_or d.orders k ById) refl)) fits

pub table_inserted : (s : Shape) (p : Option (ℕ × ℕ)) (at : Ref) (r : List Value) (d : Data)
    → IsData s d → PlaceFits p d.orders → as_table (inserted p at r d) ≡ insert p r (as_table d)
table_inserted s p at r d is fits =
    let rows : map plain_row (d.rows ++ (d.next, new_node at r d) ∷ []) ≡ map plain_row d.rows ++ (d.next, r) ∷ [] =
    map-append plain_row d.rows ((d.next, new_node at r d) ∷ []) in
    let lists = inserted_lists s p at r d is fits in
    λ i. record { rows = rows i; lists = lists i; next = d.next + 1; arrivals = d.arrivals + 1 }

-- Erase

rows_out : (e : ℕ) (rows : List (ℕ × Node)) → map plain_row (left_out e rows) ≡ filter (λ r. not (r.0 == e)) (map plain_row rows)
rows_out e [] = refl
rows_out e (r ∷ rows) =
    elim (r.0 == e) as (λ b. map plain_row (cond (not b) (r ∷ left_out e rows) (left_out e rows))
    ≡ cond (not b) (plain_row r ∷ filter (λ r. not (r.0 == e)) (map plain_row rows)) (filter (λ r. not (r.0 == e)) (map plain_row rows))) [
      | true ↦ rows_out e rows
      | false ↦ ap (λ q. plain_row r ∷ q) (rows_out e rows)
    ]

erased_one : (e : ℕ) (rows : List (ℕ × Node)) (x : ℕ) (o : Order) → Becomes rows (left_out e rows) (without e) x o
erased_one e rows x ById = ids_out e rows
erased_one e rows x (ByKey ps) = by_stamp_erase x e rows
erased_one e rows x (ByHash ps) = by_stamp_erase x e rows
erased_one e rows x (Listed ids) = refl

pub table_erased : (e : ℕ) (d : Data) → IsThere d.rows e → as_table (erased e d) ≡ erase e (as_table d)
table_erased e d there =
    let rows = rows_out e d.rows in
    let lists = lists_changed d.rows (left_out e d.rows) (without e) 0 d.orders (λ k l. erased_one e d.rows (0 + k) (get_or d.orders k ById)) in
    ap (λ o. as_table (erased_node e o d)) there.1 ∙ (λ i. record { rows = rows i; lists = lists i; next = d.next; arrivals = d.arrivals })

-- Put

rows_with : (e : ℕ) (c : Content) (rows : List (ℕ × Node)) → map plain_row (with_content e c rows) ≡ set_value (λ k. k == e) (map plain_row rows) c.values
rows_with e c [] = refl
rows_with e c (r ∷ rows) =
    elim (r.0 == e) as (λ b. map plain_row (cond b ((r.0, record { at = r.1.at; content = c }) ∷ rows) (r ∷ with_content e c rows))
    ≡ cond b ((r.0, c.values) ∷ map plain_row rows) (plain_row r ∷ set_value (λ k. k == e) (map plain_row rows) c.values)) [
      | true ↦ refl
      | false ↦ ap (λ q. plain_row r ∷ q) (rows_with e c rows)
    ]

parts_fit : (i : Index) (o : Order) → KindFits i o → i.parts ≡ parts_of o
parts_fit i ById kind = kind.1
parts_fit i (ByKey ps) kind = kind.1
parts_fit i (ByHash ps) kind = kind.1
parts_fit i (Listed ids) kind = kind.1

-- the list of an index after a put, by the parts of its keys
abbrev moved_by : List KeyPart → List Value → List Value → ℕ → List ℕ → List ℕ
moved_by ps old new e ids = cond (is_eq (compare_key ps old new)) ids (without e ids ++ e ∷ [])

abbrev Moves : (old new : List Value) (e : ℕ) (rows other : List (ℕ × Node)) → ℕ → Order → Type 0
Moves old new e rows other x o = listed x other o ≡ moved_by (parts_of o) old new e (listed x rows o)

lists_put : (old new : List Value) (e : ℕ) (rows other : List (ℕ × Node)) (is : List Index) (x : ℕ) (os : List Order) → KindsFit is os
    → ((k : ℕ) → k < length os → Moves old new e rows other (x + k) (get_or os k ById)) → lists_from x other os ≡ moved is old new e (lists_from x rows os)
lists_put old new e rows other [] x [] kinds each = refl
lists_put old new e rows other [] x (o ∷ os) kinds each = absurd kinds
lists_put old new e rows other (j ∷ is) x [] kinds each = refl
lists_put old new e rows other (j ∷ is) x (o ∷ os) kinds each =
    let same : x + 0 ≡ x = omega arith in
    let first : Moves old new e rows other x o = subst (λ n. Moves old new e rows other n o) same (each zero (omega arith)) in
    let here : listed x other o ≡ moved_in j old new e (listed x rows o) = first
    ∙ sym (ap (λ ps. moved_by ps old new e (listed x rows o)) (parts_fit j o kinds.0)) in
    let rest : lists_from (suc x) other os ≡ moved is old new e (lists_from (suc x) rows os) =
    lists_put old new e rows other is (suc x) os kinds.1 (λ k l.
    let next : x + suc k ≡ suc x + k = omega arith in subst (λ n. Moves old new e rows other n (get_or os k ById)) next (each (suc k) (omega arith))) in
    λ i. here i ∷ rest i

-- the record of a row is that of its node
row_there : (e : ℕ) (d : Data) → IsThere d.rows e → (row (as_table d) e).1 ≡ (content_of d.rows e).values
row_there e d there =
    ap (λ o. unwrap_or o []) (lookup_shown e d.rows ∙ ap (option_map (λ (n : Node). n.content.values)) there.1) ∙ sym (ap (λ o. (content_in o).values) there.1)

stamped_put : (s : Shape) (e : ℕ) (r : List Value) (d : Data) → IsData s d → IsThere d.rows e
    → (x : ℕ) → x < length d.orders → has_stamps (get_or d.orders x ById) ≡ true
    → ids_by_stamp x (replaced e r d).rows ≡ moved_by (parts_of (get_or d.orders x ById)) (content_of d.rows e).values r e (ids_by_stamp x d.rows)
stamped_put s e r d is there x l has_ =
    let was : Content = content_of d.rows e in
    let c : Content = new_content d.orders r d.arrivals was in
    let ps : List KeyPart = parts_of (get_or d.orders x ById) in
    let long : length was.stamps ≡ length d.orders = stamps_long s d is e there in
    let stamp : get_or c.stamps x 0 ≡ cond (is_eq (compare_key ps was.values r)) (get_or was.stamps x 0) d.arrivals =
    restamped_at d.orders ById was.values r d.arrivals was.stamps x l (omega arith) in
    both_ways (is_eq (compare_key ps was.values r))
    (λ yes.
    by_stamp_stays x e c d.rows there (stamp ∙ ap (λ b. cond b (get_or was.stamps x 0) d.arrivals) yes)
    ∙ sym (ap (λ b. cond b (ids_by_stamp x d.rows) (without e (ids_by_stamp x d.rows) ++ e ∷ [])) yes))
    (λ isnt.
    let newest : get_or c.stamps x 0 ≡ d.arrivals = stamp ∙ ap (λ b. cond b (get_or was.stamps x 0) d.arrivals) isnt in
    by_stamp_moves x e d.next c d.rows (rows_climb s d is) there
    (λ a here. subst (λ n. stamp_of d.rows x a < n) (sym newest) (stamp_early s d is x has_ a here))
    ∙ sym (ap (λ b. cond b (ids_by_stamp x d.rows) (without e (ids_by_stamp x d.rows) ++ e ∷ [])) isnt))

put_one : (s : Shape) (e : ℕ) (r : List Value) (d : Data) → IsData s d → IsThere d.rows e
    → (x : ℕ) → x < length d.orders → (o : Order) → get_or d.orders x ById ≡ o
    → Moves (content_of d.rows e).values r e d.rows (replaced e r d).rows x o
put_one s e r d is there x l ById here = ids_with e (new_content d.orders r d.arrivals (content_of d.rows e)) d.rows
put_one s e r d is there x l (ByKey ps) here =
    stamped_put s e r d is there x l (ap has_stamps here) ∙ ap (λ o. moved_by (parts_of o) (content_of d.rows e).values r e (ids_by_stamp x d.rows)) here
put_one s e r d is there x l (ByHash ps) here =
    stamped_put s e r d is there x l (ap has_stamps here) ∙ ap (λ o. moved_by (parts_of o) (content_of d.rows e).values r e (ids_by_stamp x d.rows)) here
put_one s e r d is there x l (Listed ids) here = refl

pub table_replaced : (s : Shape) (e : ℕ) (r : List Value) (d : Data) → IsData s d → IsThere d.rows e → as_table (replaced e r d) ≡ put s e r (as_table d)
table_replaced s e r d is there =
    let old : List Value = (content_of d.rows e).values in
    let rows = rows_with e (new_content d.orders r d.arrivals (content_of d.rows e)) d.rows in
    let lists : lists_from 0 (replaced e r d).rows d.orders ≡ moved s.indexes (row (as_table d) e).1 r e (lists_from 0 d.rows d.orders) =
    lists_put old r e d.rows (replaced e r d).rows s.indexes 0 d.orders is.kinds (λ k l.
    let same : 0 + k ≡ k = omega arith in
    subst (λ n. Moves old r e d.rows (replaced e r d).rows n (get_or d.orders k ById)) (sym same) (put_one s e r d is there k l (get_or d.orders k ById) refl))
    ∙ ap (λ v. moved s.indexes v r e (lists_from 0 d.rows d.orders)) (sym (row_there e d there)) in
    λ i. record { rows = rows i; lists = lists i; next = d.next; arrivals = d.arrivals + 1 }

-- Relocate

pub table_relocated : (x e : ℕ) (b : Option ℕ) (d : Data) → HasOwnList (get_or d.orders x ById) → as_table (relocated_in x e b d) ≡ relocate x e b (as_table d)
table_relocated x e b d is =
    let lists = lists_moved d.rows (relocated b e) 0 d.orders x is in
    λ i. record { rows = map plain_row d.rows; lists = lists i; next = d.next; arrivals = d.arrivals }
