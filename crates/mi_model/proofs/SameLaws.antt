-- Tables that show the same: an equivalence, and changes keep it.
-- Cited by `AlikeLaws` and `AlikeLookUpLaws`.
use Rattle.std.proofs.Common.{Option, Some, set, ◌≡◌, ℕ, ◌+◌, ◌<◌, ◌≤◌, Bool, true, false, not, inl, inr}
use Rattle.std.proofs.Common.{List, [], ◌∷◌, ◌++◌, map, length, get_or, refl, ap, sym, ◌∙◌, subst, arith}
use Rattle.std.specs.Prelude.{◌==◌}
use Rattle.std.specs.List.{filter}
use Rattle.std.specs.Ordering.{is_eq}
use Rattle.std.proofs.lemmas.List.{get_or_past, length-map}
use Rattle.std.proofs.lemmas.Bool.{cases_lt}
use Rattle.std.proofs.lemmas.List.Elements.{filter-append}
use Rattle.std.specs.declared.cmp.Ordering.{Ordering}
use Rattle.std.specs.declared.option.Option.TheVariants.{None}
use Rattle.mi_value.specs.declared.value.Value.{Value}
use Rattle.mi_catalog.specs.declared.index.IndexKind.{IndexKind}
use Rattle.mi_catalog.specs.declared.index.IndexKind.TheVariants.{Ordered, Ranked, Hashed, Sequenced}
use Rattle.mi_catalog.specs.Shape.{Shape, index_at}
use Rattle.mi_value.specs.declared.compare.KeyPart.{KeyPart}
use Rattle.mi_catalog.specs.Key.{Row, IsWholeKey, IsAskedBy}
use Rattle.mi_model.specs.Table.{Table, has, row, list_of}
use Rattle.mi_model.specs.View.{compare_ids, compare_to_id, shown, view, of_key}
use Rattle.mi_model.specs.Change.{stand, stand_before, without, added, insert, moved, put, erase, erase_all, erase_key, relocated, relocate}
use Rattle.mi_model.proofs.PutLaws.{view-put_stays, view-put_moves, of_key-put_stays, of_key-put_moves}
use Rattle.mi_model.proofs.TableLaws.{length-moved, length-added}
use Rattle.std.proofs.lemmas.Bool.Decides.{eqb_tells}
use Rattle.std.proofs.lemmas.List.{get_or-set_other, get_or-set_same, length-set}
use Rattle.mi_value.specs.Order.{compare_key}
use Rattle.std.specs.Map.{set_value}
use Rattle.mi_model.specs.Same.{SameView, SameTable}
use Rattle.mi_model.proofs.ViewLaws.{view-insert_other, list-insert_before, view-erase, of_key-erase}
use Rattle.mi_model.proofs.ViewLaws.{view-insert, arrived, Lacks, filter_alike, key_from, lookup_push}

view_refl : (kind : IndexKind) (s : Shape) (x : ℕ) (t : Table) → SameView kind s x t t
view_refl Hashed s x t = λ key whole. refl
view_refl kind s x t = refl

view_sym : (kind : IndexKind) (s : Shape) (x : ℕ) (t u : Table) → SameView kind s x t u → SameView kind s x u t
view_sym Hashed s x t u same = λ key whole. sym (same key whole)
view_sym kind s x t u same = sym same

view_trans : (kind : IndexKind) (s : Shape) (x : ℕ) (t u v : Table) → SameView kind s x t u → SameView kind s x u v → SameView kind s x t v
view_trans Hashed s x t u v a b = λ key whole. a key whole ∙ b key whole
view_trans kind s x t u v a b = a ∙ b

pub same_refl : (s : Shape) (t : Table) → SameTable s t t
same_refl s t = record { rows = refl; next = refl; arrivals = refl; views = λ x. view_refl (index_at s x).kind s x t }

pub same_sym : (s : Shape) (t u : Table) → SameTable s t u → SameTable s u t
same_sym s t u a = record { rows = sym a.rows; next = sym a.next; arrivals = sym a.arrivals; views = λ x. view_sym (index_at s x).kind s x t u (a.views x) }

pub same_trans : (s : Shape) (t u v : Table) → SameTable s t u → SameTable s u v → SameTable s t v
same_trans s t u v a b =
    record {
      rows = a.rows ∙ b.rows;
      next = a.next ∙ b.next;
      arrivals = a.arrivals ∙ b.arrivals;
      views = λ x. view_trans (index_at s x).kind s x t u v (a.views x) (b.views x);
    }

erased_views : (kind : IndexKind) (s : Shape) (e x : ℕ) (t u : Table) → SameView kind s x t u → SameView kind s x (erase e t) (erase e u)
erased_views Hashed s e x t u same = λ key whole. of_key-erase s e t x key ∙ ap (without e) (same key whole) ∙ sym (of_key-erase s e u x key)
erased_views kind s e x t u same = view-erase s e t x ∙ ap (without e) same ∙ sym (view-erase s e u x)

-- an erase keeps tables the same
pub same_erase : (s : Shape) (e : ℕ) (t u : Table) → SameTable s t u → SameTable s (erase e t) (erase e u)
same_erase s e t u a =
    record {
      rows = ap (filter (λ r. not (r.0 == e))) a.rows;
      next = a.next;
      arrivals = a.arrivals;
      views = λ x. erased_views (index_at s x).kind s e x t u (a.views x);
    }

-- the next id stands in no list
abbrev pub IsFresh : Table → Type 0
IsFresh t = (x : ℕ) → Lacks t.next (list_of t x)

abbrev pub with_lists : List Row → List (List ℕ) → ℕ → ℕ → Table
with_lists rows lists next arrivals = record { rows = rows; lists = lists; next = next; arrivals = arrivals }

-- a hashed index shows its list
shown_hashed : (kind : IndexKind) (order : ℕ → ℕ → Ordering) (ids : List ℕ) → kind ≡ Hashed → shown kind order ids ≡ ids
shown_hashed Hashed order ids is = refl
shown_hashed Ordered order ids is = absurd (cc)
shown_hashed Ranked order ids is = absurd (cc)
shown_hashed Sequenced order ids is = refl

-- an insert adds the new id behind those of its key, and to no other
of_key-insert : (s : Shape) (r : List Value) (t : Table) (x : ℕ) (key : List Value)
    → (index_at s x).kind ≡ Hashed → x < length t.lists → Lacks t.next (list_of t x)
    → of_key s (insert None r t) x key ≡ of_key s t x key ++ filter (λ id. is_eq (compare_to_id (index_at s x) (insert None r t) key id)) (t.next ∷ [])
of_key-insert s r t x key hashed within lacks =
    let there : ℕ → Bool = λ id. is_eq (compare_to_id (index_at s x) (insert None r t) key id) in
    let here : ℕ → Bool = λ id. is_eq (compare_to_id (index_at s x) t key id) in
    let shows : view s t x ≡ list_of t x = shown_hashed (index_at s x).kind (compare_ids (index_at s x) t) (list_of t x) hashed in
    ap (filter there) (view-insert s r t x within lacks ∙ ap (λ k. arrived k (compare_ids (index_at s x) (insert None r t)) t.next (view s t x)) hashed)
    ∙ filter-append there (view s t x) (t.next ∷ [])
    ∙ ap (λ ids. ids ++ filter there (t.next ∷ []))
    (filter_alike t.next there here (λ a ne. ap is_eq (key_from (index_at s x) (insert None r t) t key a (lookup_push a t.next r t.rows ne)))
    (view s t x) (subst (Lacks t.next) (sym shows) lacks))

-- past the last list nothing is shown
view_past : (s : Shape) (t : Table) (x : ℕ) → length t.lists ≤ x → view s t x ≡ shown (index_at s x).kind (compare_ids (index_at s x) t) []
view_past s t x past = ap (shown (index_at s x).kind (compare_ids (index_at s x) t)) (get_or_past t.lists x [] past)

inserted_views : (kind : IndexKind) (s : Shape) (r : List Value) (rows : List Row) (next arrivals : ℕ) (l m : List (List ℕ)) (x : ℕ)
    → (index_at s x).kind ≡ kind
    → x < length l → x < length m → Lacks next (get_or l x []) → Lacks next (get_or m x [])
    → SameView kind s x (with_lists rows l next arrivals) (with_lists rows m next arrivals)
    → SameView kind s x (insert None r (with_lists rows l next arrivals)) (insert None r (with_lists rows m next arrivals))
inserted_views Hashed s r rows next arrivals l m x is in_l in_m fresh_l fresh_m same = λ key whole.
    of_key-insert s r (with_lists rows l next arrivals) x key is in_l fresh_l
    ∙ ap (λ ids. ids ++ filter (λ id. is_eq (compare_to_id (index_at s x) (insert None r (with_lists rows l next arrivals)) key id)) (next ∷ []))
    (same key whole)
    ∙ sym (of_key-insert s r (with_lists rows m next arrivals) x key is in_m fresh_m)
inserted_views kind s r rows next arrivals l m x is in_l in_m fresh_l fresh_m same =
    view-insert s r (with_lists rows l next arrivals) x in_l fresh_l
    ∙ ap (arrived (index_at s x).kind (compare_ids (index_at s x) (insert None r (with_lists rows l next arrivals))) next) same
    ∙ sym (view-insert s r (with_lists rows m next arrivals) x in_m fresh_m)

-- of equal views both kinds of `SameView` follow
same_from_view : (kind : IndexKind) (s : Shape) (x : ℕ) (rows : List Row) (next arrivals : ℕ) (l m : List (List ℕ))
    → view s (with_lists rows l next arrivals) x ≡ view s (with_lists rows m next arrivals) x
    → SameView kind s x (with_lists rows l next arrivals) (with_lists rows m next arrivals)
same_from_view Hashed s x rows next arrivals l m e = λ key whole. ap
    (filter (λ id. is_eq (compare_to_id (index_at s x) (with_lists rows l next arrivals) key id))) e
same_from_view kind s x rows next arrivals l m e = e

-- tables that differ in their lists alone: where the lists are, and past the last
same_lists : (s : Shape) (rows : List Row) (next arrivals : ℕ) (l m : List (List ℕ)) (n : ℕ)
    → ((x : ℕ) → x < n → SameView (index_at s x).kind s x (with_lists rows l next arrivals) (with_lists rows m next arrivals))
    → ((x : ℕ) → n ≤ x → view s (with_lists rows l next arrivals) x ≡ view s (with_lists rows m next arrivals) x)
    → SameTable s (with_lists rows l next arrivals) (with_lists rows m next arrivals)
same_lists s rows next arrivals l m n within past =
    record {
      rows = refl;
      next = refl;
      arrivals = refl;
      views = λ x. elim (cases_lt x n) [
        | inl less ↦ within x less
        | inr more ↦ same_from_view (index_at s x).kind s x rows next arrivals l m (past x more)
      ];
    }

inserted_past : (s : Shape) (r : List Value) (rows : List Row) (next arrivals : ℕ) (l m : List (List ℕ)) (x : ℕ) → length l ≤ x → length m ≤ x
    → view s (insert None r (with_lists rows l next arrivals)) x ≡ view s (insert None r (with_lists rows m next arrivals)) x
inserted_past s r rows next arrivals l m x past_l past_m =
    view_past s (insert None r (with_lists rows l next arrivals)) x (subst (λ n. n ≤ x) (sym (length-map l (stand None next))) past_l)
    ∙ sym (view_past s (insert None r (with_lists rows m next arrivals)) x (subst (λ n. n ≤ x) (sym (length-map m (stand None next))) past_m))

insert_lists : (s : Shape) (r : List Value) (rows : List Row) (next arrivals : ℕ) (l m : List (List ℕ)) → length l ≡ length m
    → IsFresh (with_lists rows l next arrivals) → IsFresh (with_lists rows m next arrivals)
    → SameTable s (with_lists rows l next arrivals) (with_lists rows m next arrivals)
    → SameTable s (insert None r (with_lists rows l next arrivals)) (insert None r (with_lists rows m next arrivals))
insert_lists s r rows next arrivals l m long fresh_l fresh_m a =
    same_lists s (rows ++ (next, r) ∷ []) (next + 1) (arrivals + 1) (map (stand None next) l) (map (stand None next) m) (length l)
    (λ x less. inserted_views (index_at s x).kind s r rows next arrivals l m x refl less (omega arith) (fresh_l x) (fresh_m x) (a.views x))
    (λ x past. inserted_past s r rows next arrivals l m x past (omega arith))

insert_any : (s : Shape) (r : List Value) (rows : List Row) (next arrivals : ℕ) (l m : List (List ℕ)) (rows' : List Row) (next' arrivals' : ℕ)
    → rows ≡ rows' → next ≡ next' → arrivals ≡ arrivals' → length l ≡ length m
    → IsFresh (with_lists rows l next arrivals) → IsFresh (with_lists rows' m next' arrivals')
    → SameTable s (with_lists rows l next arrivals) (with_lists rows' m next' arrivals')
    → SameTable s (insert None r (with_lists rows l next arrivals)) (insert None r (with_lists rows' m next' arrivals'))
insert_any s r rows next arrivals l m rows' next' arrivals' er en ea long =
    subst (λ k. IsFresh (with_lists rows l next arrivals) → IsFresh (with_lists k.0 m k.1 k.2)
    → SameTable s (with_lists rows l next arrivals) (with_lists k.0 m k.1 k.2)
    → SameTable s (insert None r (with_lists rows l next arrivals)) (insert None r (with_lists k.0 m k.1 k.2)))
    (λ i. let k : List Row × ℕ × ℕ = (er i, en i, ea i) in k)
    (insert_lists s r rows next arrivals l m long)

-- an insert keeps tables the same
pub same_insert : (s : Shape) (r : List Value) (t u : Table) → length t.lists ≡ length u.lists → IsFresh t → IsFresh u
    → SameTable s t u → SameTable s (insert None r t) (insert None r u)
same_insert s r t u long fresh_t fresh_u a =
    insert_any s r t.rows t.next t.arrivals t.lists u.lists u.rows u.next u.arrivals a.rows a.next a.arrivals long fresh_t fresh_u a

put_views : (kind : IndexKind) (s : Shape) (e : ℕ) (r : List Value) (rows : List Row) (next arrivals : ℕ) (l m : List (List ℕ)) (x : ℕ)
    → (index_at s x).kind ≡ kind
    → x < length l → x < length m → has (with_lists rows l next arrivals) e ≡ true
    → SameView kind s x (with_lists rows l next arrivals) (with_lists rows m next arrivals)
    → (b : Bool) → is_eq (compare_key (index_at s x).parts (row (with_lists rows l next arrivals) e).1 r) ≡ b
    → SameView kind s x (put s e r (with_lists rows l next arrivals)) (put s e r (with_lists rows m next arrivals))
put_views Hashed s e r rows next arrivals l m x is in_l in_m there same true key_is = λ key whole.
    of_key-put_stays s e r (with_lists rows l next arrivals) x key in_l there key_is ∙ same key whole
    ∙ sym (of_key-put_stays s e r (with_lists rows m next arrivals) x key in_m there key_is)
put_views Hashed s e r rows next arrivals l m x is in_l in_m there same false key_is = λ key whole.
    of_key-put_moves s e r (with_lists rows l next arrivals) x key is in_l key_is
    ∙ ap (λ ids. without e ids ++ filter (λ id. is_eq (compare_to_id (index_at s x) (put s e r (with_lists rows l next arrivals)) key id)) (e ∷ []))
    (same key whole)
    ∙ sym (of_key-put_moves s e r (with_lists rows m next arrivals) x key is in_m key_is)
put_views kind s e r rows next arrivals l m x is in_l in_m there same true key_is =
    view-put_stays s e r (with_lists rows l next arrivals) x in_l there key_is ∙ same
    ∙ sym (view-put_stays s e r (with_lists rows m next arrivals) x in_m there key_is)
put_views kind s e r rows next arrivals l m x is in_l in_m there same false key_is =
    view-put_moves s e r (with_lists rows l next arrivals) x in_l key_is
    ∙ ap (λ ids. arrived (index_at s x).kind (compare_ids (index_at s x) (put s e r (with_lists rows l next arrivals))) e (without e ids)) same
    ∙ sym (view-put_moves s e r (with_lists rows m next arrivals) x in_m key_is)

put_past : (s : Shape) (e : ℕ) (r : List Value) (rows : List Row) (next arrivals : ℕ) (l m : List (List ℕ)) (x : ℕ) → length l ≤ x → length m ≤ x
    → view s (put s e r (with_lists rows l next arrivals)) x ≡ view s (put s e r (with_lists rows m next arrivals)) x
put_past s e r rows next arrivals l m x past_l past_m =
    let old : List Value = (row (with_lists rows l next arrivals) e).1 in
    view_past s (put s e r (with_lists rows l next arrivals)) x (subst (λ n. n ≤ x) (sym (length-moved s.indexes _ r e l)) past_l)
    ∙ sym (view_past s (put s e r (with_lists rows m next arrivals)) x (subst (λ n. n ≤ x) (sym (length-moved s.indexes _ r e m)) past_m))

put_lists : (s : Shape) (e : ℕ) (r : List Value) (rows : List Row) (next arrivals : ℕ) (l m : List (List ℕ)) → length l ≡ length m
    → has (with_lists rows l next arrivals) e ≡ true → SameTable s (with_lists rows l next arrivals) (with_lists rows m next arrivals)
    → SameTable s (put s e r (with_lists rows l next arrivals)) (put s e r (with_lists rows m next arrivals))
put_lists s e r rows next arrivals l m long there a =
    same_lists s (set_value (λ k. k == e) rows r) next (arrivals + 1)
    (moved s.indexes (row (with_lists rows l next arrivals) e).1 r e l) (moved s.indexes (row (with_lists rows l next arrivals) e).1 r e m) (length l)
    (λ x less. put_views (index_at s x).kind s e r rows next arrivals l m x refl less (omega arith) there (a.views x) _ refl)
    (λ x past. put_past s e r rows next arrivals l m x past (omega arith))

put_any : (s : Shape) (e : ℕ) (r : List Value) (rows : List Row) (next arrivals : ℕ) (l m : List (List ℕ)) (rows' : List Row) (next' arrivals' : ℕ)
    → rows ≡ rows' → next ≡ next' → arrivals ≡ arrivals' → length l ≡ length m → has (with_lists rows l next arrivals) e ≡ true
    → SameTable s (with_lists rows l next arrivals) (with_lists rows' m next' arrivals')
    → SameTable s (put s e r (with_lists rows l next arrivals)) (put s e r (with_lists rows' m next' arrivals'))
put_any s e r rows next arrivals l m rows' next' arrivals' er en ea long there =
    subst (λ k. SameTable s (with_lists rows l next arrivals) (with_lists k.0 m k.1 k.2)
    → SameTable s (put s e r (with_lists rows l next arrivals)) (put s e r (with_lists k.0 m k.1 k.2)))
    (λ i. let k : List Row × ℕ × ℕ = (er i, en i, ea i) in k)
    (put_lists s e r rows next arrivals l m long there)

-- another record for a row keeps tables the same
pub same_put : (s : Shape) (e : ℕ) (r : List Value) (t u : Table) → length t.lists ≡ length u.lists
    → has t e ≡ true → SameTable s t u → SameTable s (put s e r t) (put s e r u)
same_put s e r t u long there a =
    put_any s e r t.rows t.next t.arrivals t.lists u.lists u.rows u.next u.arrivals a.rows a.next a.arrivals long there a

-- equal lists at one place, changed alike
set_alike : (l m : List (List ℕ)) (y : ℕ) (f : List ℕ → List ℕ) → length l ≡ length m → get_or l y [] ≡ get_or m y []
    → get_or (set l y (f (get_or l y []))) y [] ≡ get_or (set m y (f (get_or m y []))) y []
set_alike l m y f long same =
    elim (cases_lt y (length l)) [
      | inl within ↦ get_or-set_same l y (f (get_or l y [])) [] within ∙ ap f same ∙ sym (get_or-set_same m y (f (get_or m y [])) [] (omega arith))
      | inr past ↦ get_or_past (set l y (f (get_or l y []))) y [] (subst (λ n. n ≤ y) (sym (length-set l y _)) past)
          ∙ sym (get_or_past (set m y (f (get_or m y []))) y [] (subst (λ n. n ≤ y) (sym (length-set m y _)) (omega arith)))
    ]

-- an index that keeps rows as they stand shows its list
shown_sequenced : (kind : IndexKind) (order : ℕ → ℕ → Ordering) (ids : List ℕ) → kind ≡ Sequenced → shown kind order ids ≡ ids
shown_sequenced Sequenced order ids is = refl
shown_sequenced Hashed order ids is = refl
shown_sequenced Ordered order ids is = absurd (cc)
shown_sequenced Ranked order ids is = absurd (cc)

same_sequenced : (kind : IndexKind) (s : Shape) (x : ℕ) (t u : Table) → kind ≡ Sequenced → SameView kind s x t u → view s t x ≡ view s u x
same_sequenced Sequenced s x t u is same = same
same_sequenced Ordered s x t u is same = same
same_sequenced Ranked s x t u is same = same
same_sequenced Hashed s x t u is same = absurd (cc)

view_sequenced : (s : Shape) (t : Table) (x : ℕ) → (index_at s x).kind ≡ Sequenced → view s t x ≡ list_of t x
view_sequenced s t x is = shown_sequenced (index_at s x).kind (compare_ids (index_at s x) t) (list_of t x) is

-- of views that are changed alike
same_along : (kind : IndexKind) (s : Shape) (x : ℕ) (rows : List Row) (next arrivals next' arrivals' : ℕ) (l m l' m' : List (List ℕ))
    → view s (with_lists rows l' next' arrivals') x ≡ view s (with_lists rows l next arrivals) x
    → view s (with_lists rows m' next' arrivals') x ≡ view s (with_lists rows m next arrivals) x
    → SameView kind s x (with_lists rows l next arrivals) (with_lists rows m next arrivals)
    → SameView kind s x (with_lists rows l' next' arrivals') (with_lists rows m' next' arrivals')
same_along Hashed s x rows next arrivals next' arrivals' l m l' m' el em same = λ key whole.
    ap (filter (λ id. is_eq (compare_to_id (index_at s x) (with_lists rows l next arrivals) key id))) el ∙ same key whole
    ∙ sym (ap (filter (λ id. is_eq (compare_to_id (index_at s x) (with_lists rows l next arrivals) key id))) em)
same_along kind s x rows next arrivals next' arrivals' l m l' m' el em same = el ∙ same ∙ sym em

relocate_lists : (s : Shape) (y e : ℕ) (b : Option ℕ) (rows : List Row) (next arrivals : ℕ) (l m : List (List ℕ))
    → length l ≡ length m → (index_at s y).kind ≡ Sequenced
    → SameTable s (with_lists rows l next arrivals) (with_lists rows m next arrivals)
    → (x : ℕ) → SameView (index_at s x).kind s x (relocate y e b (with_lists rows l next arrivals)) (relocate y e b (with_lists rows m next arrivals))
relocate_lists s y e b rows next arrivals l m long is a x =
    elim (eqb_tells x y) [
      | inr isnt ↦
          same_along (index_at s x).kind s x rows next arrivals next arrivals l m
          (set l y (relocated b e (get_or l y []))) (set m y (relocated b e (get_or m y [])))
          (ap (shown (index_at s x).kind (compare_ids (index_at s x) (with_lists rows l next arrivals))) (get_or-set_other l y x _ [] isnt.1))
          (ap (shown (index_at s x).kind (compare_ids (index_at s x) (with_lists rows m next arrivals))) (get_or-set_other m y x _ [] isnt.1))
          (a.views x)
      | inl at ↦ subst (λ n. SameView (index_at s n).kind s n (relocate y e b (with_lists rows l next arrivals))
          (relocate y e b (with_lists rows m next arrivals)))
          (sym at.1)
          (same_from_view (index_at s y).kind s y rows next arrivals (set l y (relocated b e (get_or l y []))) (set m y (relocated b e (get_or m y [])))
          (view_sequenced s (relocate y e b (with_lists rows l next arrivals)) y is
          ∙ set_alike l m y (relocated b e) long
          (sym (view_sequenced s (with_lists rows l next arrivals) y is)
          ∙ same_sequenced (index_at s y).kind s y (with_lists rows l next arrivals) (with_lists rows m next arrivals) is (a.views y)
          ∙ view_sequenced s (with_lists rows m next arrivals) y is)
          ∙ sym (view_sequenced s (relocate y e b (with_lists rows m next arrivals)) y is)))
    ]

relocate_any : (s : Shape) (y e : ℕ) (b : Option ℕ) (rows : List Row) (next arrivals : ℕ) (l m : List (List ℕ)) (rows' : List Row) (next' arrivals' : ℕ)
    → rows ≡ rows' → next ≡ next' → arrivals ≡ arrivals' → length l ≡ length m → (index_at s y).kind ≡ Sequenced
    → SameTable s (with_lists rows l next arrivals) (with_lists rows' m next' arrivals')
    → SameTable s (relocate y e b (with_lists rows l next arrivals)) (relocate y e b (with_lists rows' m next' arrivals'))
relocate_any s y e b rows next arrivals l m rows' next' arrivals' er en ea long is =
    subst (λ k. SameTable s (with_lists rows l next arrivals) (with_lists k.0 m k.1 k.2)
    → SameTable s (relocate y e b (with_lists rows l next arrivals)) (relocate y e b (with_lists k.0 m k.1 k.2)))
    (λ i. let k : List Row × ℕ × ℕ = (er i, en i, ea i) in k)
    (λ a. record { rows = refl; next = refl; arrivals = refl; views = relocate_lists s y e b rows next arrivals l m long is a })

-- another place in a sequenced index keeps tables the same
pub same_relocate : (s : Shape) (y e : ℕ) (b : Option ℕ) (t u : Table) → length t.lists ≡ length u.lists → (index_at s y).kind ≡ Sequenced
    → SameTable s t u → SameTable s (relocate y e b t) (relocate y e b u)
same_relocate s y e b t u long is a =
    relocate_any s y e b t.rows t.next t.arrivals t.lists u.lists u.rows u.next u.arrivals a.rows a.next a.arrivals long is a

insert_at_lists : (s : Shape) (y b : ℕ) (r : List Value) (rows : List Row) (next arrivals : ℕ) (l m : List (List ℕ))
    → length l ≡ length m → (index_at s y).kind ≡ Sequenced
    → SameTable s (with_lists rows l next arrivals) (with_lists rows m next arrivals)
    → SameTable s (insert None r (with_lists rows l next arrivals)) (insert None r (with_lists rows m next arrivals))
    → (x : ℕ)
    → SameView (index_at s x).kind s x (insert (Some (y, b)) r (with_lists rows l next arrivals)) (insert (Some (y, b)) r (with_lists rows m next arrivals))
insert_at_lists s y b r rows next arrivals l m long is a plain x =
    elim (eqb_tells x y) [
      | inr isnt ↦
          same_along (index_at s x).kind s x (rows ++ (next, r) ∷ []) (next + 1) (arrivals + 1) (next + 1) (arrivals + 1)
          (map (stand None next) l) (map (stand None next) m) (added (Some (y, b)) next l) (added (Some (y, b)) next m)
          (view-insert_other s y b r (with_lists rows l next arrivals) x isnt.1)
          (view-insert_other s y b r (with_lists rows m next arrivals) x isnt.1) (plain.views x)
      | inl at ↦ subst (λ n. SameView (index_at s n).kind s n (insert (Some (y, b)) r (with_lists rows l next arrivals))
          (insert (Some (y, b)) r (with_lists rows m next arrivals)))
          (sym at.1)
          (same_from_view (index_at s y).kind s y (rows ++ (next, r) ∷ []) (next + 1) (arrivals + 1) (added (Some (y, b)) next l) (added (Some (y, b)) next m)
          (view_sequenced s (insert (Some (y, b)) r (with_lists rows l next arrivals)) y is ∙ placed
          ∙ sym (view_sequenced s (insert (Some (y, b)) r (with_lists rows m next arrivals)) y is)))
    ]
  where
    lists : get_or l y [] ≡ get_or m y []
    lists = sym (view_sequenced s (with_lists rows l next arrivals) y is)
        ∙ same_sequenced (index_at s y).kind s y (with_lists rows l next arrivals) (with_lists rows m next arrivals) is (a.views y)
        ∙ view_sequenced s (with_lists rows m next arrivals) y is

    placed : get_or (added (Some (y, b)) next l) y [] ≡ get_or (added (Some (y, b)) next m) y []
    placed =
        elim (cases_lt y (length l)) [
          | inl within ↦ list-insert_before y b r (with_lists rows l next arrivals) within ∙ ap (stand_before b next) lists
              ∙ sym (list-insert_before y b r (with_lists rows m next arrivals) (omega arith))
          | inr past ↦ get_or_past (added (Some (y, b)) next l) y [] (subst (λ n. n ≤ y) (sym (length-added (Some (y, b)) next l)) past)
              ∙ sym (get_or_past (added (Some (y, b)) next m) y [] (subst (λ n. n ≤ y) (sym (length-added (Some (y, b)) next m)) (omega arith)))
        ]

insert_at_any : (s : Shape) (y b : ℕ) (r : List Value) (rows : List Row) (next arrivals : ℕ) (l m : List (List ℕ)) (rows' : List Row) (next' arrivals' : ℕ)
    → rows ≡ rows' → next ≡ next' → arrivals ≡ arrivals' → length l ≡ length m → (index_at s y).kind ≡ Sequenced
    → IsFresh (with_lists rows l next arrivals) → IsFresh (with_lists rows' m next' arrivals')
    → SameTable s (with_lists rows l next arrivals) (with_lists rows' m next' arrivals')
    → SameTable s (insert (Some (y, b)) r (with_lists rows l next arrivals)) (insert (Some (y, b)) r (with_lists rows' m next' arrivals'))
insert_at_any s y b r rows next arrivals l m rows' next' arrivals' er en ea long is =
    subst (λ k. IsFresh (with_lists rows l next arrivals) → IsFresh (with_lists k.0 m k.1 k.2)
    → SameTable s (with_lists rows l next arrivals) (with_lists k.0 m k.1 k.2)
    → SameTable s (insert (Some (y, b)) r (with_lists rows l next arrivals)) (insert (Some (y, b)) r (with_lists k.0 m k.1 k.2)))
    (λ i. let k : List Row × ℕ × ℕ = (er i, en i, ea i) in k)
    (λ fresh_l fresh_m a. record {
      rows = refl;
      next = refl;
      arrivals = refl;
      views = insert_at_lists s y b r rows next arrivals l m long is a (insert_lists s r rows next arrivals l m long fresh_l fresh_m a);
    })

-- an insert directly before a row of a sequenced index keeps tables the same
pub same_insert_before : (s : Shape) (y b : ℕ) (r : List Value) (t u : Table)
    → length t.lists ≡ length u.lists → (index_at s y).kind ≡ Sequenced → IsFresh t → IsFresh u
    → SameTable s t u → SameTable s (insert (Some (y, b)) r t) (insert (Some (y, b)) r u)
same_insert_before s y b r t u long is fresh_t fresh_u a =
    insert_at_any s y b r t.rows t.next t.arrivals t.lists u.lists u.rows u.next u.arrivals a.rows a.next a.arrivals long is fresh_t fresh_u a

same_erase_all : (s : Shape) (ids : List ℕ) (t u : Table) → SameTable s t u → SameTable s (erase_all ids t) (erase_all ids u)
same_erase_all s [] t u a = a
same_erase_all s (e ∷ ids) t u a = same_erase_all s ids (erase e t) (erase e u) (same_erase s e t u a)

-- by a whole key every index may be asked
pub asked : (kind : IndexKind) (ps : List KeyPart) (key : List Value) → IsWholeKey ps key → IsAskedBy kind ps key
asked Hashed ps key whole = whole
asked Ordered ps key whole = tt
asked Ranked ps key whole = tt
asked Sequenced ps key whole = tt

of_key_same : (kind : IndexKind) (s : Shape) (x : ℕ) (key : List Value) (t u : Table)
    → t.rows ≡ u.rows → IsAskedBy kind (index_at s x).parts key → SameView kind s x t u
    → of_key s t x key ≡ of_key s u x key
of_key_same Hashed s x key t u rows asks same = same key asks
of_key_same kind s x key t u rows asks same =
    ap (λ rs. filter (λ id. is_eq (compare_to_id (index_at s x) (with_lists rs [] 0 0) key id)) (view s t x)) rows
    ∙ ap (filter (λ id. is_eq (compare_to_id (index_at s x) u key id))) same

-- tables that are the same have the same ids of each key that the index is asked by
pub same_of_key : (s : Shape) (x : ℕ) (key : List Value) (t u : Table)
    → IsAskedBy (index_at s x).kind (index_at s x).parts key → SameTable s t u → of_key s t x key ≡ of_key s u x key
same_of_key s x key t u asks a = of_key_same (index_at s x).kind s x key t u a.rows asks (a.views x)

-- an erase by a whole key keeps tables the same
pub same_erase_key : (s : Shape) (x : ℕ) (key : List Value) (t u : Table) → IsWholeKey (index_at s x).parts key
    → SameTable s t u → SameTable s (erase_key s x key t) (erase_key s x key u)
same_erase_key s x key t u whole a =
    subst (λ ids. SameTable s (erase_key s x key t) (erase_all ids u)) (same_of_key s x key t u (asked (index_at s x).kind (index_at s x).parts key whole) a)
    (same_erase_all s (of_key s t x key) t u a)
