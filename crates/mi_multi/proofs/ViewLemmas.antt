-- What an index shows: the ids of its nodes.
-- Cited by `ConflictLemmas`, `LookUpLemmas`, `ProbeLemmas` and `WalkLemmas`.
use Rattle.std.proofs.Common.{◌≡◌, ◌≢◌, ℕ, ◌+◌, ◌<◌, zero, suc, true, List, [], ◌∷◌, get_or, length, refl, ap, sym, ◌∙◌, subst, arith}
use Rattle.std.specs.Prelude.{pos}
use Rattle.std.specs.List.{AllByRecursion}
use Rattle.std.specs.Option.{unwrap_or}
use Rattle.std.specs.Ordering.{nat_cmp, int_cmp, on, ordering_then}
use Rattle.std.specs.FinMap.{FinMap}
use Rattle.std.proofs.lemmas.Bool.{false≢true}
use Rattle.std.proofs.lemmas.Bool.Decides.{nat_tests}
use Rattle.std.proofs.lemmas.Cmp.{nat_cmp_total}
use Rattle.std.specs.declared.cmp.Ordering.{Ordering}
use Rattle.std.specs.declared.cmp.Ordering.TheVariants.{Less, Equal}
use Rattle.std.specs.declared.option.Option.TheVariants.{Some}
use Rattle.mi_value.specs.declared.compare.KeyPart.{KeyPart}
use Rattle.mi_catalog.specs.declared.index.Index.{Index}
use Rattle.mi_catalog.specs.declared.index.IndexKind.{IndexKind}
use Rattle.mi_catalog.specs.declared.index.IndexKind.TheVariants as kind
use Rattle.mi_catalog.specs.Kinds.{is_hashed, is_sequenced}
use Rattle.mi_catalog.specs.Shape.{Shape, index_at}
use Rattle.mi_catalog.specs.Key.{compare_rows}
use Rattle.mi_model.specs.Table.{Table, row, list_of, ListsEach}
use Rattle.mi_model.specs.View.{compare_ids, shown, view}
use Rattle.mi_model.proofs.StampLaws.{Rises, rises_once}
use Rattle.mi_model.proofs.ViewLaws.{Lacks}
use Rattle.mi_model.proofs.PlaceLaws.{each_in_view}
use Rattle.mi_node.specs.Pool.{Pooled, value_of, link_of}
use Rattle.mi_node.specs.Refs.{Ref}
use Rattle.mi_tree.specs.Sorted.{Rising, AllAre, side, item_of, stamped, compared, by_stamp as side_by}
use Rattle.mi_chain.specs.Keying.{stamp_at}
use Rattle.mi_order.specs.declared.stored.Stored.{Stored}
use Rattle.mi_index.specs.declared.structure.Structure.{Structure}
use Rattle.mi_index.specs.declared.structure.Structure.TheVariants.{Sorted, Hashed, Sequenced}
use Rattle.mi_index.specs.Orders.{stored_order, row_in}
use Rattle.mi_index.specs.Standing.{Climb}
use Rattle.mi_container.specs.Data.{Node, Order, Data, has_stamps, stamp_of, ids_of, listed, lists_from, as_table, Climbs}
use Rattle.mi_container.specs.Data.Order.{ById}
use Rattle.mi_container.specs.Changes.{sorted_order}
use Rattle.mi_container.specs.Laws.{RiseBy, stands_before}
use Rattle.mi_container.proofs.InvariantLemmas.{each_once, rows_climb}
use Rattle.mi_container.proofs.SequenceLemmas.{Once}
use Rattle.mi_container.proofs.ViewLemmas.{sorted_is_shown, hashed_is_shown, ids_are_shown}
use Rattle.mi_ids.specs.declared.entry.IdEntry.{IdEntry}
use Rattle.mi_ids.specs.IdMap.{live_node, node_if_live}
use Rattle.mi_multi.specs.Physical.{stored_id, order_of, plan}
use Rattle.mi_multi.specs.Multi.{id_at, ids_at, own_list, HasNode, IsMulti, plain_of}
use Rattle.mi_multi.proofs.LiveNodeLemmas.{IsLiveRef}
use Rattle.mi_multi.proofs.StampLemmas.{stamp_row, rises_ids, lists_each}
use Rattle.mi_multi.proofs.EveryIndexLemmas.{own_is, sorted_parts, hashed_order, sequenced_order}
use Rattle.mi_multi.proofs.AnswerLemmas.{record_of}
use Rattle.mi_multi.proofs.IndexNumberLemmas.{Numbered}

rise_of : (order : ℕ → ℕ → Ordering) (ids : List ℕ) → Rises order ids → RiseBy order ids
rise_of order [] up = tt
rise_of order (a ∷ ids) up = (up.0, rise_of order ids up.1)

less_is : (a b : ℕ) → a < b → nat_cmp a b ≡ Less
less_is a b l = grind (arith, nat_tests)

climbs_rise : (next : ℕ) (rows : List (ℕ × Node)) → Climbs next rows → Rises nat_cmp (ids_of rows)
climbs_rise next [] up = tt
climbs_rise next (r ∷ rows) up = (above r.0 rows up.1, climbs_rise next rows up.2)
  where
    above : (a : ℕ) (others : List (ℕ × Node)) → AllByRecursion (λ (q : ℕ × Node). a < q.0) others → AllByRecursion (λ b. nat_cmp a b ≡ Less) (ids_of others)
    above a [] all = tt
    above a (q ∷ others) all = (less_is a q.0 all.0, above a others all.1)

list_from : (y x : ℕ) (rows : List (ℕ × Node)) (os : List Order) → x < length os → get_or (lists_from y rows os) x [] ≡ listed (y + x) rows (get_or os x ById)
list_from y x rows [] l = absurd (omega arith)
list_from y zero rows (o ∷ os) l = let same : y ≡ y + 0 = omega arith in ap (λ n. listed n rows o) same
list_from y (suc x) rows (o ∷ os) l =
    let next : suc y + x ≡ y + suc x = omega arith in list_from (suc y) x rows os (omega arith) ∙ ap (λ n. listed n rows (get_or os x ById)) next

shown_listed : (k : IndexKind) (order : ℕ → ℕ → Ordering) (ids : List ℕ) → is_sequenced k ≡ true → shown k order ids ≡ ids
shown_listed kind.Ordered order ids h = absurd (false≢true h)
shown_listed kind.Ranked order ids h = absurd (false≢true h)
shown_listed kind.Hashed order ids h = absurd (false≢true h)
shown_listed kind.Sequenced order ids h = refl

-- ids by their numbers
ids_less : (a b : ℕ) (o : Ordering) → a ≢ b → ordering_then (ordering_then (int_cmp (pos a) (pos b)) Equal) o ≡ Less → nat_cmp a b ≡ Less
ids_less a b o ne h = grind (arith, nat_tests)

module _ (s : Shape) (ids : FinMap nat_cmp IdEntry) (m : Pooled Stored) (xs : List Structure) (next arrivals : ℕ) (is : IsMulti s ids m xs next arrivals) where
  abbrev d : Data
  d = plain_of s ids m xs next arrivals

  abbrev t : Table
  t = as_table d

  -- the row of a live node
  pub row_at : (r : Ref) (v : Stored) → IsLiveRef ids m r → HasNode m (id_at m r) r → value_of m r.name ≡ Some v → row t (id_at m r) ≡ row_in v
  row_at r v live has is_ =
      let here : live_node ids (id_at m r) ≡ Some r = ap node_if_live live in
      let id : id_at m r ≡ v.id = ap stored_id is_ in
      let values = record_of s ids m xs next arrivals (id_at m r) r v here is_ in
      (λ j. (id j, unwrap_or (values j) []))

  module _ (x : ℕ) (y : Structure) (n : Numbered s ids m xs x y) where
    abbrev i : Index
    i = index_at s x

    abbrev rs : List Ref
    rs = n.stood.rs

    pub each_there : ListsEach t (ids_at m rs)
    each_there = lists_each ids m (plan s.indexes) s d rs refl n.stood.live

    pub node_of_row : (r : Ref) → IsLiveRef ids m r → HasNode m (id_at m r) r
    node_of_row r live = is.held (id_at m r) (record { node = r; live = true }) live

    -- By keys

    -- two nodes stand as their ids do
    side_is : (ps : List KeyPart) (a b : Ref) → i.parts ≡ ps → has_stamps (sorted_order ps) ≡ true
        → sorted_order ps ≡ order_of i.kind i.parts [] → IsLiveRef ids m a → IsLiveRef ids m b
        → side (stored_order ps) m x a b ≡ stands_before s d x (id_at m a) (id_at m b)
    unfolding side item_of
    side_is ps a b parts has same la lb =
        let p = node_of_row a la in
        let q = node_of_row b lb in
        let has_ : has_stamps (get_or (plan s.indexes) x ById) ≡ true = ap has_stamps (n.planned ∙ sym same) ∙ has in
        let sa = stamp_row ids m (plan s.indexes) x a la n.few_plan has_ in
        let sb = stamp_row ids m (plan s.indexes) x b lb n.few_plan has_ in
        let ra = row_at a p.value la p p.is in
        let rb = row_at b q.value lb q q.is in
        (λ j. compared (side_by (stored_order ps)) (stamped (p.is j) (link_of m a.name x).tag.stamp) (stamped (q.is j) (link_of m b.name x).tag.stamp))
        ∙ sym (λ j. ordering_then (compare_rows (parts j) (ra j) (rb j)) (nat_cmp (sa j) (sb j)))

    all_less : (ps : List KeyPart) → i.parts ≡ ps → has_stamps (sorted_order ps) ≡ true → sorted_order ps ≡ order_of i.kind i.parts []
        → (a : Ref) (qs : List Ref) → IsLiveRef ids m a → AllByRecursion (IsLiveRef ids m) qs
        → AllAre (side (stored_order ps) m x a) Less qs → AllByRecursion (λ b. stands_before s d x (id_at m a) b ≡ Less) (ids_at m qs)
    all_less ps parts has plan a [] la lq all = tt
    all_less ps parts has plan a (q ∷ qs) la lq all = (sym (side_is ps a q parts has plan la lq.0) ∙ all.0, all_less ps parts has plan a qs la lq.1 all.1)

    keyed_rise : (ps : List KeyPart) → i.parts ≡ ps → has_stamps (sorted_order ps) ≡ true → sorted_order ps ≡ order_of i.kind i.parts []
        → (qs : List Ref) → AllByRecursion (IsLiveRef ids m) qs → Rising (side (stored_order ps) m x) qs
        → RiseBy (stands_before s d x) (ids_at m qs)
    keyed_rise ps parts has plan [] live up = tt
    keyed_rise ps parts has plan (q ∷ qs) live up = (all_less ps parts has plan q qs live.0 live.1 up.0, keyed_rise ps parts has plan qs live.1 up.1)

    -- By ids

    id_less : (a b : Ref) → IsLiveRef ids m a → IsLiveRef ids m b → id_at m a ≢ id_at m b
        → side (stored_order []) m x a b ≡ Less → nat_cmp (id_at m a) (id_at m b) ≡ Less
    unfolding side item_of
    id_less a b la lb ne h =
        let p = node_of_row a la in
        let q = node_of_row b lb in
        let whole : ordering_then (stored_order [] p.value q.value) (nat_cmp (link_of m a.name x).tag.stamp (link_of m b.name x).tag.stamp) ≡ Less =
        sym (λ j. compared (side_by (stored_order [])) (stamped (p.is j) (link_of m a.name x).tag.stamp) (stamped (q.is j) (link_of m b.name x).tag.stamp))
        ∙ h in
        ids_less (id_at m a) (id_at m b) (nat_cmp (link_of m a.name x).tag.stamp (link_of m b.name x).tag.stamp) ne
        ((λ j. ordering_then (ordering_then (int_cmp (pos (sym p.id j)) (pos (sym q.id j))) Equal)
        (nat_cmp (link_of m a.name x).tag.stamp (link_of m b.name x).tag.stamp))
        ∙ whole)

    all_ids_less : (a : Ref) (qs : List Ref) → IsLiveRef ids m a → AllByRecursion (IsLiveRef ids m) qs → Lacks (id_at m a) (ids_at m qs)
        → AllAre (side (stored_order []) m x a) Less qs → AllByRecursion (λ b. nat_cmp (id_at m a) b ≡ Less) (ids_at m qs)
    all_ids_less a [] la lq lacks all = tt
    all_ids_less a (q ∷ qs) la lq lacks all = (id_less a q la lq.0 (λ same. lacks.0 (sym same)) all.0, all_ids_less a qs la lq.1 lacks.1 all.1)

    ids_rise : (qs : List Ref) → AllByRecursion (IsLiveRef ids m) qs → Once (ids_at m qs) → Rising (side (stored_order []) m x) qs → Rises nat_cmp (ids_at m qs)
    ids_rise [] live once up = tt
    ids_rise (q ∷ qs) live once up = (all_ids_less q qs live.0 live.1 once.0 up.0, ids_rise qs live.1 once.1 up.1)

    by_id : get_or d.orders x ById ≡ ById → Rising (side (stored_order []) m x) rs → ids_at m rs ≡ view s t x
    by_id order up =
        let shown_ : ids_of d.rows ≡ view s t x = ids_are_shown s d x is.is_data n.few_orders order in
        let all : ListsEach t (ids_of d.rows) = subst (ListsEach t) (sym shown_) (each_in_view s t x is.is_data.table n.few) in
        rises_once nat_cmp nat_cmp_total (ids_at m rs) (ids_of d.rows)
        (ids_rise rs n.stood.live.rows (each_once t (ids_at m rs) each_there) up)
        (climbs_rise d.next d.rows (rows_climb s d is.is_data)) (λ id. each_there id ∙ sym (all id))
        ∙ shown_

    by_key : (ps : List KeyPart) → i.parts ≡ ps → get_or d.orders x ById ≡ sorted_order ps
        → sorted_order ps ≡ order_of i.kind i.parts [] → Rising (side (stored_order ps) m x) rs → ids_at m rs ≡ view s t x
    by_key [] parts order plan up = by_id order up
    by_key (p ∷ ps) parts order plan up = sorted_is_shown s d x (p ∷ ps) (ids_at m rs) is.is_data
        n.few_orders order each_there (keyed_rise (p ∷ ps) parts refl plan rs n.stood.live.rows up)

    by_hash : is_hashed i.kind ≡ true → Climb (stamp_at m x) rs → ids_at m rs ≡ view s t x
    by_hash hashed up =
        hashed_is_shown s d x i.parts (ids_at m rs) is.is_data n.few_orders (n.ordered ∙ hashed_order i.kind i.parts (own_list m y) hashed) each_there
        (rise_of (on (stamp_of d.rows x) nat_cmp) (ids_at m rs)
        (rises_ids ids m (plan s.indexes) x rs n.stood.live.rows n.few_plan (ap has_stamps (n.planned ∙ hashed_order i.kind i.parts [] hashed)) up))

    by_list : is_sequenced i.kind ≡ true → ids_at m rs ≡ view s t x
    by_list seq =
        let same : 0 + x ≡ x = omega arith in
        let own : own_list m y ≡ ids_at m rs = own_is i y m rs n.stood.for_ n.stood.stands seq in
        let list : list_of t x ≡ own_list m y =
        list_from 0 x d.rows d.orders n.few_orders ∙ ap (λ k. listed k d.rows (get_or d.orders x ById)) same
        ∙ ap (listed x d.rows) (n.ordered ∙ sequenced_order i.kind i.parts (own_list m y) seq) in
        sym (shown_listed i.kind (compare_ids i t) (list_of t x) seq ∙ list ∙ own)

  -- the ids of the nodes of an index are what it shows
  pub shows : (x : ℕ) (y : Structure) (n : Numbered s ids m xs x y) → ids_at m n.stood.rs ≡ view s t x
  shows x (Sorted u) n =
      let f = n.stood.for_ in
      let up : Rising (side (stored_order u.order.parts) m u.slot) n.stood.rs = n.stood.stands.rising in
      let slot : u.slot ≡ x = n.stood.slot in
      let moved : Rising (side (stored_order (index_at s x).parts) m x) n.stood.rs =
      subst (λ k. Rising (side (stored_order (index_at s x).parts) m k) n.stood.rs) slot
      (subst (λ ps. Rising (side (stored_order ps) m u.slot) n.stood.rs) f.1 up) in
      by_key x (Sorted u) n (index_at s x).parts refl (n.ordered ∙ sorted_parts (index_at s x).kind (index_at s x).parts [] f.0)
      (sym (sorted_parts (index_at s x).kind (index_at s x).parts [] f.0)) moved
  shows x (Hashed c) n = by_hash x (Hashed c) n n.stood.for_.0 (subst (λ k. Climb (stamp_at m k) n.stood.rs) n.stood.slot n.stood.stands.1)
  shows x (Sequenced l) n = by_list x (Sequenced l) n n.stood.for_
