-- How each change of a table changes what its indexes show.
-- Cited by `LookUpLaws`, `PutLaws`, `QueryLaws`, `RankLaws`, `SameLaws`, 2 more, `mi_container`, `mi_database`, `mi_multi` and `mi_plain`.
use Rattle.std.proofs.Common.{◌≡◌, ◌≢◌, ℕ, ◌<◌, Bool, true, false, cond, not, List, [], ◌∷◌, ◌++◌, map, length, refl, ap, sym, ◌∙◌, subst, eqb-true}
use Rattle.std.proofs.lemmas.Bool.{eqb-false}
use Rattle.std.specs.Prelude.{◌==◌}
use Rattle.std.specs.List.{filter, AllByRecursion}
use Rattle.std.specs.Option.{unwrap_or}
use Rattle.std.specs.Ordering.{is_eq}
use Rattle.std.specs.Cmp.{IsTotalOrder, on_total}
use Rattle.std.specs.Map.{lookup, set_value}
use Rattle.std.proofs.Math.ListN.{get_or-map}
use Rattle.std.proofs.lemmas.List.{get_or-map as get_or_map, get_or-set_other, get_or-set_same, length-map}
use Rattle.std.specs.declared.cmp.Ordering.{Ordering}
use Rattle.std.specs.declared.option.Option.{Option}
use Rattle.std.specs.declared.option.Option.TheVariants.{None, Some}
use Rattle.mi_value.specs.declared.value.Value.{Value}
use Rattle.mi_value.specs.declared.compare.KeyPart.{KeyPart}
use Rattle.mi_value.proofs.OrderLaws.{compare_key_total}
use Rattle.mi_catalog.specs.declared.index.Index.{Index}
use Rattle.mi_catalog.specs.declared.index.IndexKind.{IndexKind}
use Rattle.mi_catalog.specs.declared.index.IndexKind.TheVariants.{Ordered, Ranked, Hashed, Sequenced}
use Rattle.mi_catalog.specs.Shape.{Shape, index_at}
use Rattle.mi_catalog.specs.Key.{Row, parts_or_id, record_or_id, compare_rows, compare_to_row}
use Rattle.mi_model.specs.Table.{Table, get, row, list_of}
use Rattle.mi_model.specs.View.{compare_ids, compare_to_id, place, sorted, shown, view, of_key}
use Rattle.mi_model.specs.Change.{stand_before, stand, without, insert, erase}
use Rattle.mi_model.proofs.SortLaws.{sorted-push, sorted_alike, filter-sorted, both_ways}

pub compare_rows_total : (ps : List KeyPart) → IsTotalOrder (compare_rows ps)
compare_rows_total ps = on_total (record_or_id ps) (compare_key_total (parts_or_id ps))

-- the ids of a table stand in a total order by each index
pub compare_ids_total : (i : Index) (t : Table) → IsTotalOrder (compare_ids i t)
compare_ids_total i t = on_total (row t) (compare_rows_total i.parts)

-- the test of an id that is another one
other_id : (k a e : ℕ) → a ≢ e → (k == e) ≡ true → (k == a) ≡ false
other_id k a e ne is = both_ways (k == a) (λ yes. absurd (ne (sym (eqb-true k a yes) ∙ eqb-true k e is))) (λ isnt. isnt)

-- the record of another id is as it was
pub lookup_without : (a e : ℕ) (rows : List Row) → a ≢ e → lookup (λ k. k == a) (filter (λ r. not (r.0 == e)) rows) ≡ lookup (λ k. k == a) rows
lookup_without a e [] ne = refl
lookup_without a e (r ∷ rows) ne =
    both_ways (r.0 == e)
    (λ yes. ap (λ b. lookup (λ k. k == a) (cond (not b) (r ∷ filter (λ r. not (r.0 == e)) rows) (filter (λ r. not (r.0 == e)) rows))) yes
    ∙ lookup_without a e rows ne ∙ ap (λ b. cond b (Some r.1) (lookup (λ k. k == a) rows)) (sym (other_id r.0 a e ne yes)))
    (λ isnt. ap (λ b. lookup (λ k. k == a) (cond (not b) (r ∷ filter (λ r. not (r.0 == e)) rows) (filter (λ r. not (r.0 == e)) rows))) isnt
    ∙ ap (cond (r.0 == a) (Some r.1)) (lookup_without a e rows ne))

pub lookup_push : (a e : ℕ) (r : List Value) (rows : List Row) → a ≢ e → lookup (λ k. k == a) (rows ++ (e, r) ∷ []) ≡ lookup (λ k. k == a) rows
lookup_push a e r [] ne = ap (λ b. cond b (Some r) None) (both_ways (e == a) (λ yes. absurd (ne (sym (eqb-true e a yes)))) (λ isnt. isnt))
lookup_push a e r (s ∷ rows) ne = ap (cond (s.0 == a) (Some s.1)) (lookup_push a e r rows ne)

pub lookup_set : (a e : ℕ) (r : List Value) (rows : List Row) → a ≢ e → lookup (λ k. k == a) (set_value (λ k. k == e) rows r) ≡ lookup (λ k. k == a) rows
lookup_set a e r [] ne = refl
lookup_set a e r (s ∷ rows) ne =
    both_ways (s.0 == e)
    (λ yes. ap (λ b. lookup (λ k. k == a) (cond b ((s.0, r) ∷ rows) (s ∷ set_value (λ k. k == e) rows r))) yes
    ∙ ap (λ b. cond b (Some r) (lookup (λ k. k == a) rows)) (other_id s.0 a e ne yes)
    ∙ ap (λ b. cond b (Some s.1) (lookup (λ k. k == a) rows)) (sym (other_id s.0 a e ne yes)))
    (λ isnt. ap (λ b. lookup (λ k. k == a) (cond b ((s.0, r) ∷ rows) (s ∷ set_value (λ k. k == e) rows r))) isnt
    ∙ ap (cond (s.0 == a) (Some s.1)) (lookup_set a e r rows ne))

-- two ids compare by their records
pub compare_from : (i : Index) (t u : Table) (a b : ℕ) → get t a ≡ get u a → get t b ≡ get u b → compare_ids i t a b ≡ compare_ids i u a b
compare_from i t u a b p q =
    ap (λ r. compare_rows i.parts (a, unwrap_or r []) (b, unwrap_or (get t b) [])) p
    ∙ ap (λ r. compare_rows i.parts (a, unwrap_or (get u a) []) (b, unwrap_or r [])) q

pub key_from : (i : Index) (t u : Table) (key : List Value) (a : ℕ) → get t a ≡ get u a → compare_to_id i t key a ≡ compare_to_id i u key a
key_from i t u key a p = ap (λ r. compare_to_row i.parts key (a, unwrap_or r [])) p

-- none of the filtered ids is e
pub none_is : (e : ℕ) (ids : List ℕ) → AllByRecursion (λ a. a ≢ e) (without e ids)
none_is e [] = tt
none_is e (a ∷ ids) =
    both_ways (a == e)
    (λ yes. subst (λ b. AllByRecursion (λ a. a ≢ e) (cond (not b) (a ∷ without e ids) (without e ids))) (sym yes) (none_is e ids))
    (λ isnt. subst (λ b. AllByRecursion (λ a. a ≢ e) (cond (not b) (a ∷ without e ids) (without e ids))) (sym isnt) (eqb-false a e isnt, none_is e ids))

list_of_erased : (e : ℕ) (t : Table) (x : ℕ) → list_of (erase e t) x ≡ without e (list_of t x)
list_of_erased e t x = get_or-map (without e) t.lists x []

shown_erased : (i : Index) (e : ℕ) (t : Table) (ids : List ℕ) → sorted (compare_ids i (erase e t)) (without e ids) ≡ without e (sorted (compare_ids i t) ids)
shown_erased i e t ids =
    sorted_alike (λ a. a ≢ e) (compare_ids i (erase e t)) (compare_ids i t)
    (λ a b p q. compare_from i (erase e t) t a b (lookup_without a e t.rows p) (lookup_without b e t.rows q)) (without e ids) (none_is e ids)
    ∙ sym (filter-sorted (compare_ids_total i t) (λ a. not (a == e)) ids)

by_kind_erased : (kind : IndexKind) (i : Index) (e : ℕ) (t : Table) (ids : List ℕ)
    → shown kind (compare_ids i (erase e t)) (without e ids) ≡ without e (shown kind (compare_ids i t) ids)
by_kind_erased Ordered i e t ids = shown_erased i e t ids
by_kind_erased Ranked i e t ids = shown_erased i e t ids
by_kind_erased Hashed i e t ids = refl
by_kind_erased Sequenced i e t ids = refl

-- an erase takes the id out of what each index shows, and nothing else
pub view-erase : (s : Shape) (e : ℕ) (t : Table) (x : ℕ) → view s (erase e t) x ≡ without e (view s t x)
view-erase s e t x =
    ap (λ ids. shown (index_at s x).kind (compare_ids (index_at s x) (erase e t)) ids) (list_of_erased e t x)
    ∙ by_kind_erased (index_at s x).kind (index_at s x) e t (list_of t x)

-- no id of the list is e
abbrev pub Lacks : ℕ → List ℕ → Type 0
Lacks e ids = AllByRecursion (λ a. a ≢ e) ids

shown_inserted : (i : Index) (at : Option (ℕ × ℕ)) (r : List Value) (t : Table) (ids : List ℕ) → Lacks t.next ids
    → sorted (compare_ids i (insert at r t)) (ids ++ t.next ∷ []) ≡ place (compare_ids i (insert at r t)) t.next (sorted (compare_ids i t) ids)
shown_inserted i at r t ids lacks =
    sorted-push (compare_ids i (insert at r t)) ids t.next
    ∙ ap (place (compare_ids i (insert at r t)) t.next)
    (sorted_alike (λ a. a ≢ t.next) (compare_ids i (insert at r t)) (compare_ids i t)
    (λ a b p q. compare_from i (insert at r t) t a b (lookup_push a t.next r t.rows p) (lookup_push b t.next r t.rows q)) ids lacks)

-- a new id behind its equals, or behind all
abbrev pub arrived : IndexKind → (ℕ → ℕ → Ordering) → ℕ → List ℕ → List ℕ
arrived Ordered order e ids = place order e ids
arrived Ranked order e ids = place order e ids
arrived Hashed order e ids = ids ++ e ∷ []
arrived Sequenced order e ids = ids ++ e ∷ []

by_kind_inserted : (kind : IndexKind) (i : Index) (at : Option (ℕ × ℕ)) (r : List Value) (t : Table) (ids : List ℕ) → Lacks t.next ids
    → shown kind (compare_ids i (insert at r t)) (ids ++ t.next ∷ []) ≡ arrived kind (compare_ids i (insert at r t)) t.next (shown kind (compare_ids i t) ids)
by_kind_inserted Ordered i at r t ids lacks = shown_inserted i at r t ids lacks
by_kind_inserted Ranked i at r t ids lacks = shown_inserted i at r t ids lacks
by_kind_inserted Hashed i at r t ids lacks = refl
by_kind_inserted Sequenced i at r t ids lacks = refl

-- an insert puts the new id behind its equals in what each index shows
pub view-insert : (s : Shape) (r : List Value) (t : Table) (x : ℕ) → x < length t.lists → Lacks t.next (list_of t x)
    → view s (insert None r t) x ≡ arrived (index_at s x).kind (compare_ids (index_at s x) (insert None r t)) t.next (view s t x)
view-insert s r t x within lacks =
    ap (λ ids. shown (index_at s x).kind (compare_ids (index_at s x) (insert None r t)) ids) (get_or_map (stand None t.next) t.lists x [] [] within)
    ∙ by_kind_inserted (index_at s x).kind (index_at s x) None r t (list_of t x) lacks

-- where the place names another index, that index is as without it
pub view-insert_other : (s : Shape) (y b : ℕ) (r : List Value) (t : Table) (x : ℕ) → x ≢ y → view s (insert (Some (y, b)) r t) x ≡ view s (insert None r t) x
view-insert_other s y b r t x ne =
    ap (λ ids. shown (index_at s x).kind (compare_ids (index_at s x) (insert None r t)) ids) (get_or-set_other _ y x _ [] ne)

-- in the index that the place names, the new id stands before the id that is named
pub list-insert_before : (y b : ℕ) (r : List Value) (t : Table) → y < length t.lists
    → list_of (insert (Some (y, b)) r t) y ≡ stand_before b t.next (list_of t y)
list-insert_before y b r t within = get_or-set_same (map (stand None t.next) t.lists) y _ []
    (subst (λ n. y < n) (sym (length-map t.lists (stand None t.next))) within)

-- ids filtered by tests that agree on ids other than e
pub filter_alike : (e : ℕ) (p q : ℕ → Bool) → ((a : ℕ) → a ≢ e → p a ≡ q a) → (ids : List ℕ) → Lacks e ids → filter p ids ≡ filter q ids
filter_alike e p q same [] lacks = refl
filter_alike e p q same (a ∷ ids) lacks =
    ap (λ b. cond b (a ∷ filter p ids) (filter p ids)) (same a lacks.0) ∙ ap (λ rest. cond (q a) (a ∷ rest) rest) (filter_alike e p q same ids lacks.1)

swap_step : (p q : ℕ → Bool) (a : ℕ) (ids : List ℕ) (b c : Bool) → p a ≡ b → q a ≡ c → filter p (filter q ids) ≡ filter q (filter p ids)
    → filter p (cond c (a ∷ filter q ids) (filter q ids)) ≡ filter q (cond b (a ∷ filter p ids) (filter p ids))
swap_step p q a ids true true e f ih =
    ap (λ b. cond b (a ∷ filter p (filter q ids)) (filter p (filter q ids))) e ∙ ap (λ rest. a ∷ rest) ih
    ∙ sym (ap (λ b. cond b (a ∷ filter q (filter p ids)) (filter q (filter p ids))) f)
swap_step p q a ids true false e f ih = ih ∙ sym (ap (λ b. cond b (a ∷ filter q (filter p ids)) (filter q (filter p ids))) f)
swap_step p q a ids false true e f ih = ap (λ b. cond b (a ∷ filter p (filter q ids)) (filter p (filter q ids))) e ∙ ih
swap_step p q a ids false false e f ih = ih

pub filter_swap : (p q : ℕ → Bool) (ids : List ℕ) → filter p (filter q ids) ≡ filter q (filter p ids)
filter_swap p q [] = refl
filter_swap p q (a ∷ ids) = swap_step p q a ids (p a) (q a) refl refl (filter_swap p q ids)

-- an erase takes the id out of the ids of each key, and nothing else
pub of_key-erase : (s : Shape) (e : ℕ) (t : Table) (x : ℕ) (key : List Value) → of_key s (erase e t) x key ≡ without e (of_key s t x key)
of_key-erase s e t x key =
    ap (filter (λ id. is_eq (compare_to_id (index_at s x) (erase e t) key id))) (view-erase s e t x)
    ∙ filter_alike e _ (λ id. is_eq (compare_to_id (index_at s x) t key id))
    (λ a ne. ap is_eq (key_from (index_at s x) (erase e t) t key a (lookup_without a e t.rows ne))) (without e (view s t x)) (none_is e (view s t x))
    ∙ filter_swap (λ id. is_eq (compare_to_id (index_at s x) t key id)) (λ a. not (a == e)) (view s t x)
