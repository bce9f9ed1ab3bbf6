-- What a key finds in an index.
-- Cited by `ConflictLemmas` and `KeyCallLemmas`.
use Rattle.std.proofs.Common.{Bor, ◌≡◌, ℕ, ◌+◌, ◌<◌, zero, suc, Bool, true, false, cond, not, ◌&&◌, List, []}
use Rattle.std.proofs.Common.{◌∷◌, ◌++◌, slice_get, get_or, length, refl, ap, sym, ◌∙◌, subst, arith}
use Rattle.std.specs.Prelude.{◌≢◌}
use Rattle.std.specs.List.{AllByRecursion, filter, list_all, position_or_len}
use Rattle.std.specs.Option.{option_map}
use Rattle.std.specs.Ordering.{is_lt, is_eq, is_gt, is_ge, nat_cmp, ordering_reverse}
use Rattle.std.specs.Cmp.{IsTotalOrder, tied_itself}
use Rattle.std.specs.FinMap.{FinMap, get}
use Rattle.std.proofs.lemmas.Bool.{and_parts, false≢true}
use Rattle.std.proofs.lemmas.List.Sums.{length-filter}
use Rattle.std.specs.declared.cmp.Ordering.{Ordering}
use Rattle.std.specs.declared.cmp.Ordering.TheVariants.{Less, Equal, Greater}
use Rattle.std.specs.declared.option.Option.TheVariants.{None, Some}
use Rattle.mi_value.specs.declared.value.Value.{Value}
use Rattle.mi_value.specs.declared.compare.KeyPart.{KeyPart}
use Rattle.mi_value.specs.declared.bound.Probe.TheVariants.{Key}
use Rattle.mi_value.specs.Order.{compare_key, compare_prefix}
use Rattle.mi_catalog.specs.declared.index.Index.{Index}
use Rattle.mi_catalog.specs.declared.index.IndexKind.{IndexKind}
use Rattle.mi_catalog.specs.declared.index.IndexKind.TheVariants as kind
use Rattle.mi_catalog.specs.Kinds.{has_keys, is_hashed, is_sequenced, is_ranked}
use Rattle.mi_catalog.specs.Rules.{keeps_kind, is_declared_index, are_indexes}
use Rattle.mi_catalog.proofs.KindLaws
use Rattle.mi_catalog.specs.Shape.{Shape, index_at}
use Rattle.mi_catalog.specs.Key.{compare_rows, compare_to_row, parts_or_id}
use Rattle.mi_model.specs.Table.{Table, row}
use Rattle.mi_model.specs.View.{compare_ids, compare_to_id, view}
use Rattle.mi_model.specs.LookUp as look
use Rattle.mi_model.proofs.SortLaws.{Ascends, both_ways, each}
use Rattle.mi_model.proofs.ViewLaws.{compare_ids_total}
use Rattle.mi_model.proofs.PrefixLaws.{NotBelow, key_falls}
use Rattle.mi_model.proofs.QueryLaws.{view_ascends}
use Rattle.mi_node.specs.Pool.{Pooled, value_of}
use Rattle.mi_node.specs.Refs.{Ref, first_of}
use Rattle.mi_tree.specs.Probed.{first_where, past, past_value, is_value_at, is_past_node, is_node_at}
use Rattle.mi_chain.specs.Keying.{same_nodes, same_values, has_key, passes}
use Rattle.mi_order.specs.declared.stored.Stored.{Stored}
use Rattle.mi_index.specs.declared.structure.Structure.{Structure}
use Rattle.mi_index.specs.declared.structure.Structure.TheVariants.{Sorted, Hashed, Sequenced}
use Rattle.mi_index.specs.Looks as nodes
use Rattle.mi_index.specs.Orders.{place_in, row_in, keying_of, has_one_key, is_whole, is_key_of}
use Rattle.mi_order.specs.declared.orders.ByHash.{ByHash as HashedBy}
use Rattle.mi_container.specs.Asked.{IsSorted}
use Rattle.mi_container.specs.Data.{as_table}
use Rattle.mi_ids.specs.IdMap.{live_node}
use Rattle.mi_ids.specs.declared.entry.IdEntry.{IdEntry}
use Rattle.mi_multi.specs.Multi.{id_at, ids_at, IsFor, IsMulti, plain_of}
use Rattle.mi_multi.proofs.LiveNodeLemmas.{IsLiveRef}
use Rattle.mi_multi.proofs.IndexNumberLemmas.{Numbered}
use Rattle.mi_multi.proofs.ViewLemmas.{row_at, node_of_row}
use Rattle.mi_multi.proofs.AnswerLemmas.{live_is}
use Rattle.mi_multi.proofs.NeighbourLemmas.{filter_append, filter_eq, lacks_filter}
use Rattle.mi_multi.proofs.ListLemmas.{itself, filter_ids}
use Rattle.mi_multi.proofs.FoundIdLemmas.{where_ids, count_ids, place_ids, all_before, all_behind, after_middle}
use Rattle.mi_multi.proofs.LookUpLemmas.{Among, among, ids_shown}

-- The first for which something no longer holds

none_pass : (p : ℕ → Bool) (ids : List ℕ) → AllByRecursion (λ b. p b ≡ false) ids → filter p ids ≡ []
none_pass p [] all = refl
none_pass p (a ∷ ids) all = ap (λ b. cond b (a ∷ filter p ids) (filter p ids)) all.0 ∙ none_pass p ids all.1

module _ (order : ℕ → ℕ → Ordering) (p : ℕ → Bool) (began : (a b : ℕ) → is_lt (order b a) ≡ false → p b ≡ true → p a ≡ true) where
  failed : (a b : ℕ) → p a ≡ false → is_lt (order b a) ≡ false → p b ≡ false
  failed a b fails up = both_ways (p b) (λ yes. absurd (let was : p a ≡ true = began a b up yes in cc)) (λ isnt. isnt)

  first_past : (ids : List ℕ) → Ascends order ids → slice_get (filter (λ a. not (p a)) ids) 0 ≡ slice_get ids (length (filter p ids))
  first_past [] up = refl
  first_past (a ∷ ids) up =
      both_ways (p a)
      (λ yes.
      ap (λ b. slice_get (cond (not b) (a ∷ filter (λ k. not (p k)) ids) (filter (λ k. not (p k)) ids)) 0) yes ∙ first_past ids up.1
      ∙ sym (ap (λ b. slice_get (a ∷ ids) (length (cond b (a ∷ filter p ids) (filter p ids)))) yes))
      (λ isnt.
      let none : filter p ids ≡ [] = none_pass p ids (each (λ b l. failed a b isnt l) ids up.0) in
      ap (λ b. slice_get (cond (not b) (a ∷ filter (λ k. not (p k)) ids) (filter (λ k. not (p k)) ids)) 0) isnt
      ∙ sym (ap (λ b. slice_get (a ∷ ids) (length (cond b (a ∷ filter p ids) (filter p ids)))) isnt ∙ ap (λ (k : List ℕ). slice_get (a ∷ ids) (length k)) none))

  -- it stands behind those for which it holds
  place_past : (ids : List ℕ) → Ascends order ids → position_or_len (λ a. not (p a)) ids ≡ length (filter p ids)
  place_past [] up = refl
  place_past (a ∷ ids) up =
      both_ways (p a)
      (λ yes.
      let rest : position_or_len (λ k. not (p k)) ids ≡ length (filter p ids) = place_past ids up.1 in
      let more : 1 + position_or_len (λ k. not (p k)) ids ≡ suc (length (filter p ids)) = omega arith in
      ap (λ b. cond (not (not b)) (1 + position_or_len (λ k. not (p k)) ids) 0) yes ∙ more
      ∙ sym (ap (λ b. length (cond b (a ∷ filter p ids) (filter p ids))) yes))
      (λ isnt.
      let none : filter p ids ≡ [] = none_pass p ids (each (λ b l. failed a b isnt l) ids up.0) in
      ap (λ b. cond (not (not b)) (1 + position_or_len (λ k. not (p k)) ids) 0) isnt
      ∙ sym (ap (λ b. length (cond b (a ∷ filter p ids) (filter p ids))) isnt ∙ ap (λ (k : List ℕ). length k) none))

-- Keys along an order

gt_back : (o later : Ordering) → NotBelow o later → is_gt later ≡ true → is_gt o ≡ true
gt_back o Less n h = absurd (cc)
gt_back o Equal n h = absurd (cc)
gt_back o Greater n h = ap is_gt (n.0 refl)

ge_back : (o later : Ordering) → NotBelow o later → is_ge later ≡ true → is_ge o ≡ true
ge_back Less later n h = absurd (let l : is_ge later ≡ false = ap is_ge (n.1 refl) in let bad : true ≡ false = sym h ∙ l in cc)
ge_back Equal later n h = refl
ge_back Greater later n h = refl

not_above : (o : Ordering) → is_lt o ≡ false → is_gt (ordering_reverse o) ≡ false
not_above Less h = absurd (cc)
not_above Equal h = refl
not_above Greater h = refl

falls : (i : Index) (t : Table) (key : List Value) (a b : ℕ) → is_lt (compare_ids i t b a) ≡ false
    → NotBelow (compare_to_id i t key a) (compare_to_id i t key b)
falls i t key a b up =
    let total : IsTotalOrder (compare_ids i t) = compare_ids_total i t in
    key_falls i t key a b (ap is_gt (total.antisymm a b) ∙ not_above (compare_ids i t b a) up)

-- how a key stands to the ids before the first that is past it
abbrev stands_behind : Bool → Ordering → Bool
stands_behind false = is_gt
stands_behind true = is_ge

behind_back : (is_upper : Bool) (o later : Ordering) → NotBelow o later → stands_behind is_upper later ≡ true → stands_behind is_upper o ≡ true
behind_back false = gt_back
behind_back true = ge_back

past_behind : (is_upper : Bool) (o : Ordering) → past is_upper (ordering_reverse o) ≡ not (stands_behind is_upper o)
past_behind false Less = refl
past_behind false Equal = refl
past_behind false Greater = refl
past_behind true Less = refl
past_behind true Equal = refl
past_behind true Greater = refl

eq_turned : (o : Ordering) → is_eq (ordering_reverse o) ≡ is_eq o
eq_turned Less = refl
eq_turned Equal = refl
eq_turned Greater = refl

pub no_keys : (k : IndexKind) → has_keys k ≡ true → is_sequenced k ≡ true → ⊥
no_keys k a b = false≢true (ap has_keys (sym (KindLaws.sequenced k b)) ∙ a)

-- A hashed index has parts

parts_there : (columns : ℕ) (k : IndexKind) (u : Bool) (ps : List KeyPart) → keeps_kind columns k u ps ≡ true → is_hashed k ≡ true → ps ≢ []
parts_there columns kind.Ordered u ps h hashed = absurd (cc)
parts_there columns kind.Ranked u ps h hashed = absurd (cc)
parts_there columns kind.Hashed u [] h hashed = absurd (cc)
parts_there columns kind.Hashed u (p ∷ ps) h hashed = λ same. absurd (cc)
parts_there columns kind.Sequenced u ps h hashed = absurd (cc)

ranked_hashed : (k : IndexKind) → is_ranked k ≡ true → is_hashed k ≡ true → ⊥
ranked_hashed k a b = false≢true (ap is_ranked (sym (KindLaws.hashed k b)) ∙ a)

declared_parts : (columns : ℕ) (is : List Index) (k : ℕ) (none : Index) → k < length is
    → list_all (is_declared_index columns) is ≡ true → is_hashed (get_or is k none).kind ≡ true → (get_or is k none).parts ≢ []
declared_parts columns [] k none l h hashed = absurd (omega arith)
declared_parts columns (i ∷ is) zero none l h hashed = parts_there columns i.kind i.«unique» i.parts (and_parts _ _ (and_parts _ _ h).0).1 hashed
declared_parts columns (i ∷ is) (suc k) none l h hashed = declared_parts columns is k none (omega arith) (and_parts _ _ h).1 hashed

pub hashed_parts : (columns : ℕ) (is : List Index) (k : ℕ) (none : Index) → k < length is
    → are_indexes columns is ≡ true → is_hashed (get_or is k none).kind ≡ true → (get_or is k none).parts ≢ []
hashed_parts columns [] k none l h hashed = absurd (omega arith)
hashed_parts columns (i ∷ is) zero none l h hashed = absurd
    (ranked_hashed i.kind (and_parts _ _ (and_parts _ _ (and_parts _ _ (and_parts _ _ (and_parts _ _ (and_parts _ _ h).0).0).0).0).0).1 hashed)
hashed_parts columns (i ∷ is) (suc k) none l h hashed = declared_parts columns is k none
    (omega arith) (and_parts _ _ (and_parts _ _ (and_parts _ _ h).0).0).1 hashed

module _ (s : Shape) (ids : FinMap nat_cmp IdEntry) (m : Pooled Stored) (xs : List Structure) (next arrivals : ℕ)
    (is : IsMulti s ids m xs next arrivals) (x : ℕ) (y : Structure) (n : Numbered s ids m xs x y) where
  abbrev t : Table
  t = as_table (plain_of s ids m xs next arrivals)

  abbrev i : Index
  i = index_at s x

  abbrev rs : List Ref
  rs = n.stood.rs

  pub each_of : (P : Ref → Type 0) → ((q : Ref) → IsLiveRef ids m q → P q) → (qs : List Ref) → AllByRecursion (IsLiveRef ids m) qs → AllByRecursion P qs
  each_of P f [] all = tt
  each_of P f (q ∷ qs) all = (f q all.0, each_of P f qs all.1)

  shown_ids : ids_at m rs ≡ view s t x
  shown_ids = ids_shown s ids m xs next arrivals is x y n

  -- how a node stands to a key
  place_is : (vs : List Value) (q : Ref) (v : Stored) → IsLiveRef ids m q → value_of m q.name ≡ Some v
      → compare_to_row i.parts vs (row_in v) ≡ compare_to_id i t vs (id_at m q)
  place_is vs q v live at = ap (compare_to_row i.parts vs)
      (sym (row_at s ids m xs next arrivals is q v live (node_of_row s ids m xs next arrivals is x y n q live) at))

  module _ (k : Bor (List Value)) where
    past_is : (is_upper : Bool) (w : Structure) → IsFor i w → nodes.IsSortedStructure w → (q : Ref) → IsLiveRef ids m q
        → nodes.is_past is_upper w m (Key k) q ≡ past is_upper (ordering_reverse (compare_to_id i t k.now (id_at m q)))
    unfolding is_past_node
    past_is is_upper (Sorted u) f sorted q live =
        let has = node_of_row s ids m xs next arrivals is x y n q live in
        ap (past_value is_upper (λ v. place_in u.order.parts v (Key k))) has.is
        ∙ ap (λ ps. past is_upper (ordering_reverse (compare_to_row ps k.now (row_in has.value)))) f.1
        ∙ ap (λ o. past is_upper (ordering_reverse o)) (place_is k.now q has.value live has.is)
    past_is is_upper (Hashed c) f sorted q live = absurd sorted
    past_is is_upper (Sequenced l) f sorted q live = absurd sorted

    -- the first that is past the key, and how many stand before it

    module _ (sorts : IsSorted s x) (sorted : nodes.IsSortedStructure y) (is_upper : Bool) where
      abbrev before : ℕ → Bool
      before id = stands_behind is_upper (compare_to_id i t k.now id)

      each_past : AllByRecursion (λ q. nodes.is_past is_upper y m (Key k) q ≡ not (before (id_at m q))) rs
      each_past =
          each_of (λ q. nodes.is_past is_upper y m (Key k) q ≡ not (before (id_at m q)))
          (λ q live. past_is is_upper y n.stood.for_ sorted q live ∙ past_behind is_upper (compare_to_id i t k.now (id_at m q))) rs n.stood.live.rows

      began : (a b : ℕ) → is_lt (compare_ids i t b a) ≡ false → before b ≡ true → before a ≡ true
      began a b up later = behind_back is_upper _ _ (falls i t k.now a b up) later

      seen_past : option_map (id_at m) (first_where (nodes.is_past is_upper y m (Key k)) rs) ≡ slice_get (view s t x) (length (filter before (view s t x)))
      seen_past =
          where_ids (id_at m) (nodes.is_past is_upper y m (Key k)) (λ id. not (before id)) rs each_past
          ∙ ap (λ l. slice_get (filter (λ id. not (before id)) l) 0) shown_ids
          ∙ first_past (compare_ids i t) before began (view s t x) (view_ascends s t x sorts)

      placed_past : position_or_len (nodes.is_past is_upper y m (Key k)) rs ≡ length (filter before (view s t x))
      placed_past =
          place_ids (id_at m) (nodes.is_past is_upper y m (Key k)) (λ id. not (before id)) rs each_past
          ∙ ap (λ l. position_or_len (λ id. not (before id)) l) shown_ids
          ∙ place_past (compare_ids i t) before began (view s t x) (view_ascends s t x sorts)

    pub lower_seen : IsSorted s x → nodes.IsSortedStructure y → option_map (id_at m) (first_where (nodes.is_past false y m (Key k)) rs) ≡ look.lower s t x k.now
    lower_seen sorts sorted = seen_past sorts sorted false ∙ ap (slice_get (view s t x)) (length-filter (λ id. is_gt (compare_to_id i t k.now id)) (view s t x))

    pub upper_seen : IsSorted s x → nodes.IsSortedStructure y → option_map (id_at m) (first_where (nodes.is_past true y m (Key k)) rs) ≡ look.upper s t x k.now
    upper_seen sorts sorted = seen_past sorts sorted true ∙ ap (slice_get (view s t x)) (length-filter (λ id. is_ge (compare_to_id i t k.now id)) (view s t x))

    pub lower_placed : IsSorted s x → nodes.IsSortedStructure y → position_or_len (nodes.is_past false y m (Key k)) rs ≡ look.lower_rank s t x k.now
    lower_placed sorts sorted = placed_past sorts sorted false ∙ length-filter (λ id. is_gt (compare_to_id i t k.now id)) (view s t x)

    pub upper_placed : IsSorted s x → nodes.IsSortedStructure y → position_or_len (nodes.is_past true y m (Key k)) rs ≡ look.upper_rank s t x k.now
    upper_placed sorts sorted = placed_past sorts sorted true ∙ length-filter (λ id. is_ge (compare_to_id i t k.now id)) (view s t x)

  -- Whole keys

  whole_is : (ps : List KeyPart) (vs : List Value) (v : Stored) → ps ≢ []
      → length vs ≡ length (parts_or_id ps) → is_whole ps vs v.row ≡ is_eq (compare_to_row ps vs (row_in v))
  whole_is [] vs v some long = absurd (some refl)
  whole_is (p ∷ ps) vs v some long = ap (λ b. b && is_eq (compare_prefix (p ∷ ps) vs v.row)) (itself long)

  module _ (k : Bor (List Value)) (long : is_hashed i.kind ≡ true → length k.now ≡ length (parts_or_id i.parts)) (parts : is_hashed i.kind ≡ true → i.parts ≢ []) where
    sought_is : (w : Structure) → IsFor i w → (has_keys i.kind ≡ true) → (q : Ref) → IsLiveRef ids m q
        → nodes.has_sought w m (Key k) q ≡ is_eq (compare_to_id i t k.now (id_at m q))
    unfolding is_node_at has_key
    sought_is (Sorted u) f keyed q live =
        let has = node_of_row s ids m xs next arrivals is x y n q live in
        ap (is_value_at (λ v. place_in u.order.parts v (Key k))) has.is
        ∙ ap (λ ps. is_eq (ordering_reverse (compare_to_row ps k.now (row_in has.value)))) f.1
        ∙ eq_turned (compare_to_row i.parts k.now (row_in has.value))
        ∙ ap is_eq (place_is k.now q has.value live has.is)
    sought_is (Hashed c) f keyed q live =
        let has = node_of_row s ids m xs next arrivals is x y n q live in
        ap (passes (λ v. is_key_of c.keys.parts v (Key k))) has.is
        ∙ ap (λ ps. is_whole ps k.now has.value.row) f.1
        ∙ whole_is i.parts k.now has.value (parts f.0) (long f.0)
        ∙ ap is_eq (place_is k.now q has.value live has.is)
    sought_is (Sequenced l) f keyed q live = absurd (no_keys i.kind keyed f)

    pub find_seen : has_keys i.kind ≡ true → option_map (id_at m) (first_where (nodes.has_sought y m (Key k)) rs) ≡ look.find s t x k.now
    find_seen keyed =
        where_ids (id_at m) (nodes.has_sought y m (Key k)) (λ id. is_eq (compare_to_id i t k.now id)) rs
        (each_of (λ q. nodes.has_sought y m (Key k) q ≡ is_eq (compare_to_id i t k.now (id_at m q)))
        (λ q live. sought_is y n.stood.for_ keyed q live) rs n.stood.live.rows)
        ∙ ap (λ l. slice_get (filter (λ id. is_eq (compare_to_id i t k.now id)) l) 0) shown_ids

    pub count_seen : has_keys i.kind ≡ true → length (filter (nodes.has_sought y m (Key k)) rs) ≡ look.count s t x k.now
    count_seen keyed =
        count_ids (id_at m) (nodes.has_sought y m (Key k)) (λ id. is_eq (compare_to_id i t k.now id)) rs
        (each_of (λ q. nodes.has_sought y m (Key k) q ≡ is_eq (compare_to_id i t k.now (id_at m q)))
        (λ q live. sought_is y n.stood.for_ keyed q live) rs n.stood.live.rows)
        ∙ ap (λ l. length (filter (λ id. is_eq (compare_to_id i t k.now id)) l)) shown_ids

  -- Those of one key

  rows_key : (ps : List KeyPart) (v u : Stored) → ps ≢ [] → compare_rows ps (row_in v) (row_in u) ≡ compare_key ps v.row u.row
  rows_key [] v u some = absurd (some refl)
  rows_key (p ∷ ps) v u some = refl

  module _ (e : ℕ) (r : Ref) (there : live_node ids e ≡ Some r) (parts : i.parts ≢ []) where
    abbrev a : Among ids m y rs e r
    a = among s ids m xs next arrivals is x y n e r there

    live_ref : IsLiveRef ids m r
    live_ref = ap (get ids) a.id ∙ live_is ids e r there

    key_is : (h : HashedBy) → h.parts ≡ i.parts → (q : Ref) → IsLiveRef ids m q → is_eq (compare_ids i t e (id_at m q)) ≡ same_nodes (keying_of h) m r q
    unfolding same_nodes
    key_is h same q live =
        let mine = node_of_row s ids m xs next arrivals is x y n r live_ref in
        let its = node_of_row s ids m xs next arrivals is x y n q live in
        let one = row_at s ids m xs next arrivals is r mine.value live_ref mine mine.is in
        let two = row_at s ids m xs next arrivals is q its.value live its its.is in
        ap (λ id. is_eq (compare_rows i.parts (row t id) (row t (id_at m q)))) (sym a.id)
        ∙ (λ j. is_eq (compare_rows i.parts (one j) (two j)))
        ∙ ap is_eq (rows_key i.parts mine.value its.value parts)
        ∙ ap (λ k. is_eq (compare_key k mine.value.row its.value.row)) (sym same)
        ∙ sym ((λ j. same_values (has_one_key h.parts) (mine.is j) (value_of m q.name)) ∙ (λ j. same_values (has_one_key h.parts) (Some mine.value) (its.is j)))

    pub next_of_seen : (w : Structure) → IsFor i w → nodes.IsHashedStructure w
        → option_map (id_at m) (first_of (filter (nodes.has_same_key w m r) a.ys) None) ≡ look.next_with_key s t x e
    next_of_seen (Sorted u) f hashed = absurd hashed
    next_of_seen (Sequenced l) f hashed = absurd hashed
    next_of_seen (Hashed c) f hashed =
        let g : Ref → Bool = same_nodes (keying_of c.keys) m r in
        let p : ℕ → Bool = λ id. is_eq (compare_ids i t e id) in
        let pr : Ref → Bool = λ q. p (id_at m q) in
        let live = subst (AllByRecursion (IsLiveRef ids m)) a.parts n.stood.live.rows in
        let left : filter pr a.xs ≡ filter g a.xs = filter_eq pr g a.xs
        (each_of (λ q. pr q ≡ g q) (key_is c.keys f.1) a.xs (all_before (IsLiveRef ids m) a.xs (r ∷ a.ys) live)) in
        let right : filter pr a.ys ≡ filter g a.ys = filter_eq pr g a.ys
        (each_of (λ q. pr q ≡ g q) (key_is c.keys f.1) a.ys (all_behind (IsLiveRef ids m) a.xs r a.ys live)) in
        let mine : pr r ≡ true = ap p a.id ∙ ap is_eq (tied_itself (compare_ids_total i t) e) in
        let whole : filter p (view s t x) ≡ ids_at m (filter g a.xs ++ r ∷ filter g a.ys) =
        ap (filter p) (sym shown_ids ∙ ap (ids_at m) a.parts) ∙ filter_ids (id_at m) p (a.xs ++ r ∷ a.ys)
        ∙ ap (ids_at m) (filter_append pr a.xs (r ∷ a.ys)
        ∙ ap (λ b. filter pr a.xs ++ cond b (r ∷ filter pr a.ys) (filter pr a.ys)) mine ∙ (λ j. left j ++ r ∷ right j)) in
        after_middle (id_at m) e (filter g a.xs) r (filter g a.ys) a.here (lacks_filter (id_at m) g e a.xs a.lacks)
        ∙ ap (λ l. look.after_in l e) (sym whole)
