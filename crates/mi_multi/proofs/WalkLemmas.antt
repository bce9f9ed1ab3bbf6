-- What a walk along an index lends, by what contracts see of the container.
-- Cited by `MultiIndex::find_row`, `MultiIndex::nth_row`, `MultiIndex::walk` and `MultiIndex::walk_range`.
use Rattle.std.proofs.Common.{◌≡◌, ℕ, suc, ◌+◌, ◌*◌, ◌^◌, ◌<◌, ◌≤◌, Bool, true, false, cond, ◌&&◌, List, [], ◌∷◌, ◌++◌, map, length, take, reverse}
use Rattle.std.proofs.Common.{refl, ap, sym, ◌∙◌, subst, arith}
use Rattle.std.specs.Prelude.{slice_get, IfSome}
use Rattle.std.specs.List.{AllByRecursion, filter}
use Rattle.std.specs.Ordering.{is_le, is_lt, is_ge, is_gt}
use Rattle.std.specs.Option.{option_map}
use Rattle.std.specs.declared.option.Option.{Option}
use Rattle.std.specs.declared.option.Option.TheVariants.{None, Some}
use Rattle.std.proofs.lemmas.List.{take-map, map-append, reverse-append}
use Rattle.mi_value.specs.declared.bound.Lower.{Lower}
use Rattle.mi_value.specs.declared.bound.Lower.TheVariants as lower
use Rattle.mi_value.specs.declared.bound.Upper.{Upper}
use Rattle.mi_value.specs.declared.bound.Upper.TheVariants as upper
use Rattle.mi_catalog.specs.Key.{Row, compare_to_row}
use Rattle.mi_catalog.specs.Shape.{Shape, index_at}
use Rattle.mi_model.specs.Table.{Table, get, row, size}
use Rattle.mi_model.specs.Page as page
use Rattle.mi_model.specs.View.{view}
use Rattle.mi_model.specs.Walk.{turned, from_in, rows_from}
use Rattle.mi_model.proofs.PlaceLaws.{IsOnce, once_of_each}
use Rattle.mi_model.proofs.WalkLaws.{turned_middle}
use Rattle.mi_node.specs.Pool.{Pooled}
use Rattle.mi_node.specs.Refs.{Ref}
use Rattle.mi_tree.specs.Walking.{beyond}
use Rattle.mi_index.specs.declared.structure.Structure.{Structure}
use Rattle.mi_index.specs.declared.structure.Structure.TheVariants.{Sorted, Hashed, Sequenced}
use Rattle.mi_index.specs.declared.walk.KeyRange.{KeyRange}
use Rattle.mi_order.specs.declared.stored.Stored.{Stored}
use Rattle.mi_index.specs.Looks as nodes
use Rattle.mi_index.specs.Ranges.{parts_in, meets_lower, meets_upper, is_from, is_to, directed, rows_in}
use Rattle.mi_index.specs.Standing.{slot_in, Stands}
use Rattle.mi_index.specs.Walks.{row_if, shown_row}
use Rattle.mi_container.specs.Asked.{IsSorted}
use Rattle.mi_container.specs.Data.{as_table}
use Rattle.mi_ids.specs.IdMap.{live_node, node_if_live}
use Rattle.mi_container.proofs.PairLemmas.{none_some, some_is}
use Rattle.mi_multi.specs.Multi.{id_at, ids_at, IsFor}
use Rattle.mi_multi.specs.Physical.{stored_id}
use Rattle.mi_multi.specs.Seen.{Seen, seen_of, AreMulti}
use Rattle.mi_multi.specs.Walks.{direction_of}
use Rattle.mi_multi.specs.declared.multi.MultiIndex.TheInside.{Inside}
use Rattle.mi_multi.proofs.AnswerLemmas.{record_of}
use Rattle.mi_multi.proofs.CallLemmas.{in_order, long}
use Rattle.mi_multi.proofs.NeighbourLemmas.{ids_append}
use Rattle.mi_multi.proofs.LiveNodeLemmas.{IsLiveRef}
use Rattle.mi_multi.proofs.IndexNumberLemmas.{Numbered, numbered}
use Rattle.mi_multi.proofs.LookUpLemmas as known
use Rattle.mi_multi.proofs.ViewLemmas.{node_of_row, row_at, each_there}

-- what holds of the nodes of a list holds of those from one on

module _ (P : Ref → Type 0) where
  all_push : (us : List Ref) (r : Ref) → AllByRecursion P us → P r → AllByRecursion P (us ++ r ∷ [])
  all_push [] r all one = (one, tt)
  all_push (u ∷ us) r all one = (all.0, all_push us r all.1 one)

  all_back : (us vs : List Ref) → AllByRecursion P (us ++ vs) → AllByRecursion P (reverse us)
  all_back [] vs all = tt
  all_back (u ∷ us) vs all = subst (AllByRecursion P) (sym (reverse-append (u ∷ []) us)) (all_push (reverse us) u (all_back us vs all.1) all.0)

  all_on : (us vs : List Ref) → AllByRecursion P (us ++ vs) → AllByRecursion P vs
  all_on [] vs all = all
  all_on (u ∷ us) vs all = all_on us vs all.1

  all_beyond : (reversed : Bool) (us : List Ref) (r : Ref) (vs : List Ref)
      → AllByRecursion P (us ++ r ∷ vs) → AllByRecursion P (r ∷ beyond (direction_of reversed) us vs)
  all_beyond true us r vs all = ((all_on us (r ∷ vs) all).0, all_back us (r ∷ vs) all)
  all_beyond false us r vs all = all_on us (r ∷ vs) all

map_reverse : {X Y : Type 0} (f : X → Y) (us : List X) → map f (reverse us) ≡ reverse (map f us)
map_reverse f [] = refl
map_reverse f (u ∷ us) =
    ap (map f) (reverse-append (u ∷ []) us) ∙ map-append f (reverse us) (u ∷ [])
    ∙ ap (λ q. q ++ f u ∷ []) (map_reverse f us) ∙ sym (reverse-append (f u ∷ []) (map f us))

-- the ids of the nodes from one on

ids_beyond : (f : Ref → ℕ) (reversed : Bool) (us vs : List Ref) → map f (beyond (direction_of reversed) us vs) ≡ cond reversed (reverse (map f us)) (map f vs)
ids_beyond f true us vs = map_reverse f us
ids_beyond f false us vs = refl

-- the rows of live nodes are those of their ids
module _ (i : Inside) (is : AreMulti i) (x : ℕ) {y : Structure} (at : slice_get i.nodes.structures.items x ≡ Some y) where
  row_live : (q : Ref) → IsLiveRef i.ids.entries i.nodes.pool q → shown_row i.nodes.pool q ≡ row (as_table (seen_of i).plain) (id_at i.nodes.pool q)
  row_live q live =
      let m = i.nodes.pool in
      let n = numbered i.schema i.ids.entries m i.nodes.structures.items i.next i.arrivals is x y at in
      let has = node_of_row i.schema i.ids.entries m i.nodes.structures.items i.next i.arrivals is x y n q live in
      ap row_if has.is ∙ sym (row_at i.schema i.ids.entries m i.nodes.structures.items i.next i.arrivals is q has.value live has has.is)

  row_got : (q : Ref) → IsLiveRef i.ids.entries i.nodes.pool q
      → get (as_table (seen_of i).plain) (shown_row i.nodes.pool q).0 ≡ Some (shown_row i.nodes.pool q).1
  row_got q live =
      let m = i.nodes.pool in let t = as_table (seen_of i).plain in
      let n = numbered i.schema i.ids.entries m i.nodes.structures.items i.next i.arrivals is x y at in
      let has = node_of_row i.schema i.ids.entries m i.nodes.structures.items i.next i.arrivals is x y n q live in
      let here : live_node i.ids.entries (id_at m q) ≡ Some q = ap node_if_live live in
      let id : id_at m q ≡ has.value.id = ap stored_id has.is in
      subst (λ o. get t (row_if o).0 ≡ Some (row_if o).1) (sym has.is)
      (subst (λ e. get t e ≡ Some has.value.row) id
      (record_of i.schema i.ids.entries m i.nodes.structures.items i.next i.arrivals (id_at m q) q has.value here has.is))

  rows_live : (qs : List Ref) → AllByRecursion (IsLiveRef i.ids.entries i.nodes.pool) qs
      → map (shown_row i.nodes.pool) qs ≡ map (row (as_table (seen_of i).plain)) (ids_at i.nodes.pool qs)
  rows_live [] all = refl
  rows_live (q ∷ qs) all = (λ j. row_live q all.0 j ∷ rows_live qs all.1 j)

module _ (i : Inside) (is : AreMulti i) (w : Seen) (seen : seen_of i ≡ w) (x : ℕ) (y : Structure)
    (at : slice_get i.nodes.structures.items x ≡ Some y) (e : ℕ) (r : Ref) (there : live_node i.ids.entries e ≡ Some r) where
  abbrev pub m : Pooled Stored
  m = i.nodes.pool

  abbrev pub n : Numbered i.schema i.ids.entries m i.nodes.structures.items x y
  n = numbered i.schema i.ids.entries m i.nodes.structures.items i.next i.arrivals is x y at

  -- the nodes before it and those behind it
  abbrev pub a : known.Among i.ids.entries m y n.stood.rs e r
  a = known.among i.schema i.ids.entries m i.nodes.structures.items i.next i.arrivals is x y n e r there

  abbrev pub t : Table
  t = as_table (seen_of i).plain

  -- the ids from one on are those that the index shows
  ids_on : (reversed : Bool) → ids_at m (r ∷ beyond (direction_of reversed) a.xs a.ys) ≡ from_in (turned reversed (view i.schema t x)) e
  ids_on reversed =
      let parts : map (id_at m) a.xs ++ e ∷ map (id_at m) a.ys ≡ view i.schema t x =
      ap (λ k. map (id_at m) a.xs ++ k ∷ map (id_at m) a.ys) (sym a.id) ∙ sym (ids_append (id_at m) a.xs (r ∷ a.ys)) ∙ ap (ids_at m) (sym a.parts)
      ∙ known.ids_shown i.schema i.ids.entries m i.nodes.structures.items i.next i.arrivals is x y n in
      let once : IsOnce (map (id_at m) a.xs ++ e ∷ map (id_at m) a.ys) =
      subst IsOnce (ap (ids_at m) a.parts ∙ ids_append (id_at m) a.xs (r ∷ a.ys) ∙ ap (λ k. map (id_at m) a.xs ++ k ∷ map (id_at m) a.ys) a.id)
      (once_of_each t (ids_at m n.stood.rs) (each_there i.schema i.ids.entries m i.nodes.structures.items i.next i.arrivals is x y n)) in
      ap (λ k. k ∷ ids_at m (beyond (direction_of reversed) a.xs a.ys)) a.id
      ∙ ap (λ q. e ∷ q) (ids_beyond (id_at m) reversed a.xs a.ys)
      ∙ sym (turned_middle reversed (map (id_at m) a.xs) e (map (id_at m) a.ys) once)
      ∙ ap (λ q. from_in (turned reversed q) e) parts

  -- so are their rows
  pub rows_are : (reversed : Bool) (limit : ℕ)
      → map (shown_row m) (take limit (r ∷ beyond (direction_of reversed) a.xs a.ys)) ≡ rows_from w.shape (as_table w.plain) x reversed e limit
  rows_are reversed limit =
      let us : List Ref = r ∷ beyond (direction_of reversed) a.xs a.ys in
      let live = all_beyond (IsLiveRef i.ids.entries m) reversed a.xs r a.ys (subst (AllByRecursion (IsLiveRef i.ids.entries m)) a.parts n.stood.live.rows) in
      sym (take-map (shown_row m) limit us)
      ∙ ap (take limit) (rows_live i is x at us live ∙ ap (map (row t)) (ids_on reversed))
      ∙ take-map (row t) limit (from_in (turned reversed (view i.schema t x)) e)
      ∙ ap (λ (v : Seen). rows_from v.shape (as_table v.plain) x reversed e limit) seen

  pub slot_is : slot_in y ≡ x
  slot_is = n.stood.slot

  -- where the node stands
  pub stood : Stands y m (a.xs ++ r ∷ a.ys)
  stood = a.stands

module _ (i : Inside) (is : AreMulti i) {w : Seen} (seen : seen_of i ≡ w) (x : ℕ) {y : Structure}
    (at : slice_get i.nodes.structures.items x ≡ Some y) where
  abbrev pub of : Numbered i.schema i.ids.entries i.nodes.pool i.nodes.structures.items x y
  of = numbered i.schema i.ids.entries i.nodes.pool i.nodes.structures.items i.next i.arrivals is x y at

  -- what is lent of a node has its id and is the record of that id
  module _ {L : Type 0} (f : L → Row) where
    pub lent_id : (o : Option L) (node : Option Ref) → IfSome node (IsLiveRef i.ids.entries i.nodes.pool)
        → option_map f o ≡ option_map (shown_row i.nodes.pool) node → option_map (λ l. (f l).0) o ≡ option_map (id_at i.nodes.pool) node
    lent_id None None live same = refl
    lent_id None (Some q) live same = absurd (none_some same)
    lent_id (Some l) None live same = absurd (none_some (sym same))
    lent_id (Some l) (Some q) live same =
        let one : f l ≡ row (as_table (seen_of i).plain) (id_at i.nodes.pool q) = some_is same ∙ row_live i is x at q live in
        (λ j. Some (one j).0)

    pub lent_row : (o : Option L) (node : Option Ref) → IfSome node (IsLiveRef i.ids.entries i.nodes.pool)
        → option_map f o ≡ option_map (shown_row i.nodes.pool) node → IfSome o (λ l. get (as_table w.plain) (f l).0 ≡ Some (f l).1)
    lent_row None node live same = tt
    lent_row (Some l) None live same = absurd (none_some (sym same))
    lent_row (Some l) (Some q) live same =
        subst (λ (r : Row). get (as_table w.plain) r.0 ≡ Some r.1) (sym (some_is same))
        (subst (λ (v : Seen). get (as_table v.plain) (shown_row i.nodes.pool q).0 ≡ Some (shown_row i.nodes.pool q).1) seen (row_got i is x at q live))

  -- the rows of the nodes are those that the index shows
  pub rows_shown : map (shown_row i.nodes.pool) of.stood.rs ≡ map (row (as_table w.plain)) (view w.shape (as_table w.plain) x)
  rows_shown =
      rows_live i is x at of.stood.rs of.stood.live.rows
      ∙ ap (map (row (as_table (seen_of i).plain))) (known.ids_shown i.schema i.ids.entries i.nodes.pool i.nodes.structures.items i.next i.arrivals is x y of)
      ∙ ap (λ (v : Seen). map (row (as_table v.plain)) (view v.shape (as_table v.plain) x)) seen

  pub stands_there : Stands y i.nodes.pool of.stood.rs
  stands_there = of.stood.stands

  -- the structure goes by the parts of the index
  pub parts_are : IsSorted w.shape x → parts_in y ≡ (index_at i.schema x).parts
  parts_are sorted = by y of.stood.for_ (in_order i is seen x at sorted).2
    where
      by : (v : Structure) → IsFor (index_at i.schema x) v → nodes.IsSortedStructure v → parts_in v ≡ (index_at i.schema x).parts
      by (Sorted t) f s = f.1
      by (Hashed c) f s = absurd s
      by (Sequenced l) f s = absurd s

  -- one look-up, and a comparison for each of k rows
  pub range_look : (old k : ℕ) {new : ℕ} → ((b : ℕ) → length of.stood.rs < 2 ^ b → new ≤ old + (2 * b + k + 1))
      → (b : ℕ) → size (as_table w.plain) < 2 ^ b → new ≤ old + (2 * b + 1) + k
  range_look old k {new} h b l =
      let few : new ≤ old + (2 * b + k + 1) = h b (subst (λ n. n < 2 ^ b) (sym (long i is seen x at)) l) in omega arith

-- the rows of a range of keys are those of the ids between its bounds

filter_map : (f : ℕ → Row) (g : Row → Bool) (p : ℕ → Bool) → ((id : ℕ) → g (f id) ≡ p id) → (ids : List ℕ) → filter g (map f ids) ≡ map f (filter p ids)
filter_map f g p same [] = refl
filter_map f g p same (id ∷ ids) =
    ap (λ b. cond b (f id ∷ filter g (map f ids)) (filter g (map f ids))) (same id) ∙ ap (λ rows. cond (p id) (f id ∷ rows) rows) (filter_map f g p same ids)
    ∙ by (p id)
  where
    by : (b : Bool) → cond b (f id ∷ map f (filter p ids)) (map f (filter p ids)) ≡ map f (cond b (id ∷ filter p ids) (filter p ids))
    by true = refl
    by false = refl

module _ (s : Shape) (t : Table) (x : ℕ) (g : KeyRange) (parts : (index_at s x).parts ≡ g.parts.now) where
  from_same : (low : Lower) (id : ℕ) → meets_lower g.parts.now low (row t id) ≡ page.meets_lower (index_at s x) t low id
  from_same lower.All id = refl
  from_same (lower.From key) id = ap (λ ps. is_le (compare_to_row ps key (row t id))) (sym parts)
  from_same (lower.Beyond key) id = ap (λ ps. is_lt (compare_to_row ps key (row t id))) (sym parts)

  to_same : (high : Upper) (id : ℕ) → meets_upper g.parts.now high (row t id) ≡ page.meets_upper (index_at s x) t high id
  to_same upper.All id = refl
  to_same (upper.UpTo key) id = ap (λ ps. is_ge (compare_to_row ps key (row t id))) (sym parts)
  to_same (upper.Below key) id = ap (λ ps. is_gt (compare_to_row ps key (row t id))) (sym parts)

  pub range_rows : (reversed : Bool) (limit : ℕ) → g.direction ≡ direction_of reversed
      → take limit (rows_in g (map (row t) (view s t x))) ≡ map (row t) (page.range s t x g.lower.now g.upper.now reversed limit).ids
  range_rows reversed limit way =
      let ids = page.between s t x g.lower.now g.upper.now in
      ap (take limit)
      (ap (λ d. directed d (filter (λ r. is_from g r && is_to g r) (map (row t) (view s t x)))) way
      ∙ ap (directed (direction_of reversed))
      (filter_map (row t) (λ r. is_from g r && is_to g r)
      (λ id. page.meets_lower (index_at s x) t g.lower.now id && page.meets_upper (index_at s x) t g.upper.now id)
      (λ id i. from_same g.lower.now id i && to_same g.upper.now id i) (view s t x))
      ∙ towards reversed)
      ∙ take-map (row t) limit (turned reversed ids)
    where
      towards : (r : Bool) → directed (direction_of r) (map (row t) (page.between s t x g.lower.now g.upper.now))
          ≡ map (row t) (turned r (page.between s t x g.lower.now g.upper.now))
      towards true = sym (map_reverse (row t) (page.between s t x g.lower.now g.upper.now))
      towards false = refl

  -- as many
  pub range_long : (reversed : Bool) (limit : ℕ) → g.direction ≡ direction_of reversed → (rows : List Row) → rows ≡ map (row t) (view s t x)
      → length (take limit (rows_in g rows)) ≡ length (page.range s t x g.lower.now g.upper.now reversed limit).ids
  range_long reversed limit way rows same =
      ap length (ap (λ k. take limit (rows_in g k)) same ∙ range_rows reversed limit way) ∙ length_rows (page.range s t x g.lower.now g.upper.now reversed limit).ids
    where
      length_rows : (ids : List ℕ) → length (map (row t) ids) ≡ length ids
      length_rows [] = refl
      length_rows (id ∷ ids) = ap suc (length_rows ids)
