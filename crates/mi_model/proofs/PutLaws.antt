-- What another record for a row changes in what the indexes show.
-- Cited by `SameLaws`, `TableLaws` and `UniqueLaws`.
use Rattle.std.proofs.Common.{◌≡◌, ◌≢◌, ℕ, ◌<◌, zero, suc, Bool, true, false, cond, not, inl, inr}
use Rattle.std.proofs.Common.{List, [], ◌∷◌, ◌++◌, length, get_or, refl, ap, sym, ◌∙◌, subst, arith}
use Rattle.std.specs.Prelude.{◌==◌}
use Rattle.std.specs.List.{filter, AllByRecursion}
use Rattle.std.specs.Option.{unwrap_or, is_some}
use Rattle.std.specs.Ordering.{is_eq}
use Rattle.std.specs.Cmp.{IsTotalOrder, tied_itself, alike_right}
use Rattle.std.specs.Map.{lookup, set_value}
use Rattle.std.proofs.lemmas.Bool.Decides.{eqb_tells}
use Rattle.std.specs.declared.cmp.Ordering.{Ordering}
use Rattle.std.specs.declared.cmp.Ordering.TheVariants.{Less, Equal, Greater}
use Rattle.std.specs.declared.option.Option.TheVariants.{Some}
use Rattle.mi_value.specs.declared.value.Value.{Value}
use Rattle.mi_value.specs.declared.compare.KeyPart.{KeyPart}
use Rattle.mi_value.specs.Order.{compare_key}
use Rattle.mi_catalog.specs.declared.index.Index.{Index}
use Rattle.mi_catalog.specs.declared.index.IndexKind.{IndexKind}
use Rattle.mi_catalog.specs.declared.index.IndexKind.TheVariants.{Ordered, Ranked, Hashed, Sequenced}
use Rattle.mi_catalog.specs.Shape.{Shape, index_at}
use Rattle.mi_catalog.specs.Key.{Row, compare_rows, compare_to_row}
use Rattle.mi_model.specs.Table.{Table, has, row, list_of}
use Rattle.mi_model.specs.View.{compare_ids, compare_to_id, place, sorted, shown, view, of_key}
use Rattle.mi_model.specs.Change.{without, moved_in, moved, put}
use Rattle.mi_model.proofs.SortLaws.{sorted-push, sorted_alike, filter-sorted, both_ways}
use Rattle.mi_model.proofs.ViewLaws.{compare_rows_total, compare_ids_total, compare_from, lookup_set, arrived, none_is, key_from, filter_alike, filter_swap}
use Rattle.std.proofs.lemmas.List.Elements.{filter-append}
use Rattle.mi_value.proofs.OrderLaws.{prefix_alike}

-- the list of each index after a put
list_moved : (is : List Index) (old new : List Value) (e : ℕ) (lists : List (List ℕ)) (x : ℕ) (d : Index) → d.parts ≡ [] → x < length lists
    → get_or (moved is old new e lists) x [] ≡ moved_in (get_or is x d) old new e (get_or lists x [])
list_moved [] old new e lists x d none l = sym
    (ap (λ ps. cond (is_eq (compare_key ps old new)) (get_or lists x []) (without e (get_or lists x []) ++ e ∷ [])) none)
list_moved (i ∷ is) old new e [] x d none l = absurd (omega arith)
list_moved (i ∷ is) old new e (ids ∷ lists) zero d none l = refl
list_moved (i ∷ is) old new e (ids ∷ lists) (suc x) d none l = list_moved is old new e lists x d none (omega arith)

-- the record of e is the new one
pub lookup_set_same : (e : ℕ) (r : List Value) (rows : List Row) → is_some (lookup (λ k. k == e) rows) ≡ true
    → lookup (λ k. k == e) (set_value (λ k. k == e) rows r) ≡ Some r
lookup_set_same e r [] there = absurd (cc)
lookup_set_same e r (s ∷ rows) there =
    both_ways (s.0 == e)
    (λ yes. ap (λ b. lookup (λ k. k == e) (cond b ((s.0, r) ∷ rows) (s ∷ set_value (λ k. k == e) rows r))) yes
    ∙ ap (λ b. cond b (Some r) (lookup (λ k. k == e) rows)) yes)
    (λ isnt. ap (λ b. lookup (λ k. k == e) (cond b ((s.0, r) ∷ rows) (s ∷ set_value (λ k. k == e) rows r))) isnt
    ∙ ap (λ b. cond b (Some s.1) (lookup (λ k. k == e) (set_value (λ k. k == e) rows r))) isnt
    ∙ lookup_set_same e r rows (sym (ap (λ b. is_some (cond b (Some s.1) (lookup (λ k. k == e) rows))) isnt) ∙ there))

is_equal : (o : Ordering) → is_eq o ≡ true → o ≡ Equal
is_equal Less h = absurd (cc)
is_equal Equal h = refl
is_equal Greater h = absurd (cc)

-- one id with two records of one key
rows_alike : (ps : List KeyPart) (e : ℕ) (old new : List Value) → is_eq (compare_key ps old new) ≡ true → compare_rows ps (e, old) (e, new) ≡ Equal
rows_alike [] e old new same = tied_itself (compare_rows_total []) (e, old)
rows_alike (p ∷ ps) e old new same = is_equal (compare_key (p ∷ ps) old new) same

-- each id's row before and after a put that keeps the key
row_alike : (s : Shape) (i : Index) (e : ℕ) (r : List Value) (t : Table) → has t e ≡ true → is_eq (compare_key i.parts (row t e).1 r) ≡ true
    → (a : ℕ) → compare_rows i.parts (row t a) (row (put s e r t) a) ≡ Equal
row_alike s i e r t there same a =
    elim (eqb_tells a e) [
      | inl is ↦ subst (λ b. compare_rows i.parts (row t b) (row (put s e r t) b) ≡ Equal) (sym is.1)
          (ap (λ o. compare_rows i.parts (row t e) (e, unwrap_or o [])) (lookup_set_same e r t.rows there) ∙ rows_alike i.parts e (row t e).1 r same)
      | inr isnt ↦ ap (λ o. compare_rows i.parts (row t a) (a, unwrap_or o [])) (lookup_set a e r t.rows isnt.1)
          ∙ tied_itself (compare_rows_total i.parts) (row t a)
    ]

-- all ids compare as before
compare_kept : (s : Shape) (i : Index) (e : ℕ) (r : List Value) (t : Table) → has t e ≡ true → is_eq (compare_key i.parts (row t e).1 r) ≡ true
    → (a b : ℕ) → compare_ids i (put s e r t) a b ≡ compare_ids i t a b
compare_kept s i e r t there same a b =
    let o : IsTotalOrder (compare_rows i.parts) = compare_rows_total i.parts in
    sym (o.congr (row t a) (row (put s e r t) a) (row t b) (row_alike s i e r t there same a)
    ∙ alike_right o (row t b) (row (put s e r t) b) (row (put s e r t) a) (row_alike s i e r t there same b))

anything : (ids : List ℕ) → AllByRecursion (λ _. Unit {0}) ids
anything [] = tt
anything (a ∷ ids) = (tt, anything ids)

by_kind_kept : (kind : IndexKind) (order other : ℕ → ℕ → Ordering) → ((a b : ℕ) → order a b ≡ other a b)
    → (ids : List ℕ) → shown kind order ids ≡ shown kind other ids
by_kind_kept Ordered order other same ids = sorted_alike (λ _. Unit {0}) order other (λ a b _ _. same a b) ids (anything ids)
by_kind_kept Ranked order other same ids = sorted_alike (λ _. Unit {0}) order other (λ a b _ _. same a b) ids (anything ids)
by_kind_kept Hashed order other same ids = refl
by_kind_kept Sequenced order other same ids = refl

-- where the key stays, so does what the index shows
pub view-put_stays : (s : Shape) (e : ℕ) (r : List Value) (t : Table) (x : ℕ) → x < length t.lists → has t e ≡ true
    → is_eq (compare_key (index_at s x).parts (row t e).1 r) ≡ true → view s (put s e r t) x ≡ view s t x
view-put_stays s e r t x within there same =
    ap (λ ids. shown (index_at s x).kind (compare_ids (index_at s x) (put s e r t)) ids)
    (list_moved s.indexes (row t e).1 r e t.lists x _ refl within ∙ ap (λ b. cond b (list_of t x) (without e (list_of t x) ++ e ∷ [])) same)
    ∙ by_kind_kept (index_at s x).kind _ _ (compare_kept s (index_at s x) e r t there same) (list_of t x)

sorted_moved : (s : Shape) (i : Index) (e : ℕ) (r : List Value) (t : Table) (ids : List ℕ)
    → sorted (compare_ids i (put s e r t)) (without e ids ++ e ∷ []) ≡ place (compare_ids i (put s e r t)) e (without e (sorted (compare_ids i t) ids))
sorted_moved s i e r t ids =
    sorted-push (compare_ids i (put s e r t)) (without e ids) e
    ∙ ap (place (compare_ids i (put s e r t)) e)
    (sorted_alike (λ a. a ≢ e) (compare_ids i (put s e r t)) (compare_ids i t)
    (λ a b p q. compare_from i (put s e r t) t a b (lookup_set a e r t.rows p) (lookup_set b e r t.rows q)) (without e ids) (none_is e ids)
    ∙ sym (filter-sorted (compare_ids_total i t) (λ a. not (a == e)) ids))

by_kind_moved : (kind : IndexKind) (s : Shape) (i : Index) (e : ℕ) (r : List Value) (t : Table) (ids : List ℕ)
    → shown kind (compare_ids i (put s e r t)) (without e ids ++ e ∷ [])
    ≡ arrived kind (compare_ids i (put s e r t)) e (without e (shown kind (compare_ids i t) ids))
by_kind_moved Ordered s i e r t ids = sorted_moved s i e r t ids
by_kind_moved Ranked s i e r t ids = sorted_moved s i e r t ids
by_kind_moved Hashed s i e r t ids = refl
by_kind_moved Sequenced s i e r t ids = refl

-- where the key changes, the id goes behind its new equals
pub view-put_moves : (s : Shape) (e : ℕ) (r : List Value) (t : Table) (x : ℕ) → x < length t.lists
    → is_eq (compare_key (index_at s x).parts (row t e).1 r) ≡ false
    → view s (put s e r t) x ≡ arrived (index_at s x).kind (compare_ids (index_at s x) (put s e r t)) e (without e (view s t x))
view-put_moves s e r t x within changes =
    ap (λ ids. shown (index_at s x).kind (compare_ids (index_at s x) (put s e r t)) ids)
    (list_moved s.indexes (row t e).1 r e t.lists x _ refl within ∙ ap (λ b. cond b (list_of t x) (without e (list_of t x) ++ e ∷ [])) changes)
    ∙ by_kind_moved (index_at s x).kind s (index_at s x) e r t (list_of t x)

-- a key compares alike with the row of one id with two records of one key
key_alike : (ps : List KeyPart) (key : List Value) (e : ℕ) (old new : List Value)
    → is_eq (compare_key ps old new) ≡ true → compare_to_row ps key (e, old) ≡ compare_to_row ps key (e, new)
key_alike [] key e old new same = refl
key_alike (p ∷ ps) key e old new same = prefix_alike (p ∷ ps) key old new (is_equal (compare_key (p ∷ ps) old new) same)

key_kept : (s : Shape) (i : Index) (key : List Value) (e : ℕ) (r : List Value) (t : Table) → has t e ≡ true → is_eq (compare_key i.parts (row t e).1 r) ≡ true
    → (a : ℕ) → compare_to_id i (put s e r t) key a ≡ compare_to_id i t key a
key_kept s i key e r t there same a =
    elim (eqb_tells a e) [
      | inl is ↦ subst (λ b. compare_to_id i (put s e r t) key b ≡ compare_to_id i t key b) (sym is.1)
          (ap (λ o. compare_to_row i.parts key (e, unwrap_or o [])) (lookup_set_same e r t.rows there) ∙ sym (key_alike i.parts key e (row t e).1 r same))
      | inr isnt ↦ key_from i (put s e r t) t key a (lookup_set a e r t.rows isnt.1)
    ]

filter_same : (p q : ℕ → Bool) → ((a : ℕ) → p a ≡ q a) → (ids : List ℕ) → filter p ids ≡ filter q ids
filter_same p q same [] = refl
filter_same p q same (a ∷ ids) = ap (λ b. cond b (a ∷ filter p ids) (filter p ids)) (same a)
    ∙ ap (λ rest. cond (q a) (a ∷ rest) rest) (filter_same p q same ids)

-- where the key stays, so do the ids of each key
pub of_key-put_stays : (s : Shape) (e : ℕ) (r : List Value) (t : Table) (x : ℕ) (key : List Value) → x < length t.lists → has t e ≡ true
    → is_eq (compare_key (index_at s x).parts (row t e).1 r) ≡ true → of_key s (put s e r t) x key ≡ of_key s t x key
of_key-put_stays s e r t x key within there same =
    ap (filter (λ id. is_eq (compare_to_id (index_at s x) (put s e r t) key id))) (view-put_stays s e r t x within there same)
    ∙ filter_same _ _ (λ a. ap is_eq (key_kept s (index_at s x) key e r t there same a)) (view s t x)

-- where the key changes, the id goes behind those of its new key
pub of_key-put_moves : (s : Shape) (e : ℕ) (r : List Value) (t : Table) (x : ℕ) (key : List Value) → (index_at s x).kind ≡ Hashed → x < length t.lists
    → is_eq (compare_key (index_at s x).parts (row t e).1 r) ≡ false
    → of_key s (put s e r t) x key ≡ without e (of_key s t x key) ++ filter (λ id. is_eq (compare_to_id (index_at s x) (put s e r t) key id)) (e ∷ [])
of_key-put_moves s e r t x key hashed within changes =
    let there : ℕ → Bool = λ id. is_eq (compare_to_id (index_at s x) (put s e r t) key id) in
    let here : ℕ → Bool = λ id. is_eq (compare_to_id (index_at s x) t key id) in
    ap (filter there) (view-put_moves s e r t x within changes
    ∙ ap (λ k. arrived k (compare_ids (index_at s x) (put s e r t)) e (without e (view s t x))) hashed)
    ∙ filter-append there (without e (view s t x)) (e ∷ [])
    ∙ ap (λ ids. ids ++ filter there (e ∷ []))
    (filter_alike e there here (λ a ne. ap is_eq (key_from (index_at s x) (put s e r t) t key a (lookup_set a e r t.rows ne)))
    (without e (view s t x)) (none_is e (view s t x))
    ∙ filter_swap here (λ a. not (a == e)) (view s t x))
