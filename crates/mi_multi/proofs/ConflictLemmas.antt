-- The row that a unique index finds for a record's key.
-- Cited by `MultiIndex::holder`, `MultiIndex::rival` and `MultiIndex::rival_of_put`.
use Rattle.std.proofs.Common.{Bor, ◌≡◌, ◌≢◌, ℕ, ◌<◌, zero, suc, Bool, true, false, not, List, [], ◌∷◌, slice_get, get_or, length, refl, ap, sym, ◌∙◌, subst, arith}
use Rattle.std.specs.Prelude.{IsTrue}
use Rattle.std.specs.List.{filter, list_all}
use Rattle.std.specs.Option.{option_map}
use Rattle.std.specs.Ordering.{is_eq, nat_cmp}
use Rattle.std.specs.FinMap.{FinMap}
use Rattle.std.proofs.lemmas.Bool.{and_parts, false≢true}
use Rattle.std.specs.declared.option.Option.{Option}
use Rattle.std.specs.declared.option.Option.TheVariants.{None, Some}
use Rattle.mi_value.specs.declared.value.Value.{Value}
use Rattle.mi_value.specs.declared.compare.KeyPart.{KeyPart}
use Rattle.mi_value.specs.declared.bound.Probe.TheVariants.{Of}
use Rattle.mi_value.specs.Order.{compare_key}
use Rattle.mi_catalog.specs.declared.index.Index.{Index}
use Rattle.mi_catalog.specs.declared.index.IndexKind.{IndexKind}
use Rattle.mi_catalog.specs.declared.index.IndexKind.TheVariants as kind
use Rattle.mi_catalog.specs.Kinds.{has_keys}
use Rattle.mi_catalog.specs.Rules.{keeps_kind, is_declared_index, are_indexes, is_schema}
use Rattle.mi_catalog.specs.Shape.{Shape, index_at}
use Rattle.mi_catalog.specs.Key.{Row}
use Rattle.mi_model.specs.Table.{Table, has}
use Rattle.mi_model.specs.View.{view}
use Rattle.mi_model.specs.Conflict.{rival}
use Rattle.mi_model.proofs.PlaceLaws.{each_in_view}
use Rattle.mi_node.specs.Pool.{Pooled}
use Rattle.mi_node.specs.Refs.{Ref}
use Rattle.mi_tree.specs.Probed.{first_where, is_value_at, is_node_at}
use Rattle.mi_chain.specs.Keying.{has_key, passes}
use Rattle.mi_order.specs.declared.stored.Stored.{Stored}
use Rattle.mi_index.specs.declared.structure.Structure.{Structure}
use Rattle.mi_index.specs.declared.structure.Structure.TheVariants.{Sorted, Hashed, Sequenced}
use Rattle.mi_index.specs.Looks as nodes
use Rattle.mi_index.specs.Orders.{place_in, is_key_of}
use Rattle.mi_index.specs.Standing.{Stands}
use Rattle.mi_container.specs.Data.{IsData, as_table, content_of}
use Rattle.mi_container.proofs.InvariantLemmas.{there_has}
use Rattle.mi_ids.specs.declared.entry.IdEntry.{IdEntry}
use Rattle.mi_multi.specs.Multi.{id_at, IsFor, IsMulti, plain_of}
use Rattle.mi_multi.specs.Seen.{Seen, seen_of, AreMulti}
use Rattle.mi_multi.specs.Changed.{is_changed}
use Rattle.mi_multi.specs.declared.multi.MultiIndex.TheInside.{Inside}
use Rattle.mi_multi.proofs.LiveNodeLemmas.{IsLiveRef}
use Rattle.mi_multi.proofs.IndexNumberLemmas.{Numbered, numbered, reaches}
use Rattle.mi_multi.proofs.ViewLemmas.{row_at, node_of_row, shows}
use Rattle.mi_multi.proofs.FoundIdLemmas.{where_ids}
use Rattle.mi_multi.proofs.ProbeLemmas.{each_of, no_keys}
use Rattle.mi_multi.proofs.ChangedLemmas.{not_not, values_there}
use Rattle.mi_multi.proofs.UniqueLemmas.{has_key_of, rival_is_first, no_rival, kept_row, own_row, other_row}

-- A unique index has keys

unique_kept : (columns : ℕ) (k : IndexKind) (u : Bool) (ps : List KeyPart) → keeps_kind columns k u ps ≡ true → u ≡ true → (has_keys k ≡ true) × (ps ≢ [])
unique_kept columns kind.Ordered u [] h one = absurd (cc)
unique_kept columns kind.Ordered u (p ∷ ps) h one = (refl, λ same. absurd (cc))
unique_kept columns kind.Ranked u [] h one = absurd (cc)
unique_kept columns kind.Ranked u (p ∷ ps) h one = (refl, λ same. absurd (cc))
unique_kept columns kind.Hashed u [] h one = absurd (cc)
unique_kept columns kind.Hashed u (p ∷ ps) h one = (refl, λ same. absurd (cc))
unique_kept columns kind.Sequenced u ps h one = absurd (false≢true (sym (ap not one) ∙ (and_parts (not u) _ h).0))

declared_kept : (columns : ℕ) (is : List Index) (k : ℕ) (none : Index) → k < length is
    → list_all (is_declared_index columns) is ≡ true → (get_or is k none).«unique» ≡ true
    → (has_keys (get_or is k none).kind ≡ true) × ((get_or is k none).parts ≢ [])
declared_kept columns [] k none l h one = absurd (omega arith)
declared_kept columns (i ∷ is) zero none l h one = unique_kept columns i.kind i.«unique» i.parts (and_parts _ _ (and_parts _ _ h).0).1 one
declared_kept columns (i ∷ is) (suc k) none l h one = declared_kept columns is k none (omega arith) (and_parts _ _ h).1 one

unique_keyed : (columns : ℕ) (is : List Index) (k : ℕ) (none : Index) → 0 < k → k < length is
    → are_indexes columns is ≡ true → (get_or is k none).«unique» ≡ true
    → (has_keys (get_or is k none).kind ≡ true) × ((get_or is k none).parts ≢ [])
unique_keyed columns [] k none p l h one = absurd (omega arith)
unique_keyed columns (i ∷ is) zero none p l h one = absurd (omega arith)
unique_keyed columns (i ∷ is) (suc k) none p l h one = declared_kept columns is k none (omega arith) (and_parts _ _ (and_parts _ _ (and_parts _ _ h).0).0).1 one

schema_keyed : (s : Shape) (x : ℕ) → IsTrue (is_schema s) → 0 < x → x < length s.indexes
    → (index_at s x).«unique» ≡ true → (has_keys (index_at s x).kind ≡ true) × ((index_at s x).parts ≢ [])
schema_keyed s x rules p l one = unique_keyed (length s.columns) s.indexes x _ p l (and_parts _ _ (and_parts _ _ rules).0).1 one

module _ (s : Shape) (ids : FinMap nat_cmp IdEntry) (m : Pooled Stored) (xs : List Structure) (next arrivals : ℕ)
    (is : IsMulti s ids m xs next arrivals) (x : ℕ) (y : Structure) (n : Numbered s ids m xs x y) (k : Bor (List Value)) where
  abbrev t : Table
  t = as_table (plain_of s ids m xs next arrivals)

  abbrev i : Index
  i = index_at s x

  sought_is : (w : Structure) → IsFor i w → has_keys i.kind ≡ true → (q : Ref) → IsLiveRef ids m q
      → nodes.has_sought w m (Of k) q ≡ has_key_of i.parts t k.now (id_at m q)
  unfolding is_node_at has_key
  sought_is (Sorted u) f keyed q live =
      let has = node_of_row s ids m xs next arrivals is x y n q live in
      ap (is_value_at (λ v. place_in u.order.parts v (Of k))) has.is
      ∙ ap (λ ps. is_eq (compare_key ps has.value.row k.now)) f.1
      ∙ ap (λ (w : Row). is_eq (compare_key i.parts w.1 k.now)) (sym (row_at s ids m xs next arrivals is q has.value live has has.is))
  sought_is (Hashed c) f keyed q live =
      let has = node_of_row s ids m xs next arrivals is x y n q live in
      ap (passes (λ v. is_key_of c.keys.parts v (Of k))) has.is
      ∙ ap (λ ps. is_eq (compare_key ps has.value.row k.now)) f.1
      ∙ ap (λ (w : Row). is_eq (compare_key i.parts w.1 k.now)) (sym (row_at s ids m xs next arrivals is q has.value live has has.is))
  sought_is (Sequenced l) f keyed q live = absurd (no_keys i.kind keyed f)

  holder_seen : 0 < x → i.«unique» ≡ true → has_keys i.kind ≡ true → i.parts ≢ []
      → option_map (id_at m) (first_where (nodes.has_sought y m (Of k)) n.stood.rs) ≡ rival t.rows i.parts k.now None
  holder_seen p one keyed some =
      where_ids (id_at m) (nodes.has_sought y m (Of k)) (has_key_of i.parts t k.now) n.stood.rs
      (each_of s ids m xs next arrivals is x y n (λ q. nodes.has_sought y m (Of k) q ≡ has_key_of i.parts t k.now (id_at m q))
      (λ q live. sought_is y n.stood.for_ keyed q live) n.stood.rs n.stood.live.rows)
      ∙ ap (λ l. slice_get (filter (has_key_of i.parts t k.now) l) 0) (shows s ids m xs next arrivals is x y n)
      ∙ rival_is_first s t x k.now is.is_data.table is.is_data.unique_keys p one some (view s t x) (each_in_view s t x is.is_data.table n.few)

module _ (i : Inside) (is : AreMulti i) (w : Seen) (seen : seen_of i ≡ w) (x : ℕ) (p : 0 < x) (l : x < length w.shape.indexes) where
  pub unique_reaches : x < length i.nodes.structures.items
  unique_reaches = reaches i.schema i.ids.entries i.nodes.pool i.nodes.structures.items i.next
      i.arrivals is x (subst (λ (v : Seen). x < length v.shape.indexes) (sym seen) l)

  pub holder_is : (y : Structure) (at : slice_get i.nodes.structures.items x ≡ Some y) (k : Bor (List Value)) (o : Option Ref)
      → IsTrue (is_schema i.schema) → (index_at w.shape x).«unique» ≡ true
      → ((qs : List Ref) → Stands y i.nodes.pool qs → o ≡ first_where (nodes.has_sought y i.nodes.pool (Of k)) qs)
      → option_map (id_at i.nodes.pool) o ≡ rival (as_table w.plain).rows (index_at w.shape x).parts k.now None
  holder_is y at k o rules one h =
      let n : Numbered i.schema i.ids.entries i.nodes.pool i.nodes.structures.items x y = numbered
      i.schema i.ids.entries i.nodes.pool i.nodes.structures.items i.next i.arrivals is x y at in
      let mine : (index_at i.schema x).«unique» ≡ true = subst (λ (v : Seen). (index_at v.shape x).«unique» ≡ true) (sym seen) one in
      let keyed = schema_keyed i.schema x rules p n.few mine in
      ap (option_map (id_at i.nodes.pool)) (h n.stood.rs n.stood.stands)
      ∙ holder_seen i.schema i.ids.entries i.nodes.pool i.nodes.structures.items i.next i.arrivals is x y n k p mine keyed.0 keyed.1
      ∙ ap (λ (v : Seen). rival (as_table v.plain).rows (index_at v.shape x).parts k.now None) seen

  -- the rivals but for one row, by the one that has the key

  module _ (r : List Value) (rules : IsTrue (is_schema i.schema)) (one : (index_at w.shape x).«unique» ≡ true) where
    data_is : IsData w.shape w.plain
    data_is = subst (λ (v : Seen). IsData v.shape v.plain) seen is.is_data

    some : (index_at w.shape x).parts ≢ []
    some = subst (λ (v : Seen). (index_at v.shape x).parts ≢ []) seen
        (schema_keyed i.schema x rules p (subst (λ (v : Seen). x < length v.shape.indexes) (sym seen) l)
        (subst (λ (v : Seen). (index_at v.shape x).«unique» ≡ true) (sym seen) one)).1

    pub none_is : (except : Option ℕ) → rival (as_table w.plain).rows (index_at w.shape x).parts r None ≡ None
        → rival (as_table w.plain).rows (index_at w.shape x).parts r except ≡ None
    none_is = no_rival w.shape (as_table w.plain) x r data_is.table data_is.unique_keys p one some

    pub own_is_none : (own : ℕ) → rival (as_table w.plain).rows (index_at w.shape x).parts r None ≡ Some own
        → rival (as_table w.plain).rows (index_at w.shape x).parts r (Some own) ≡ None
    own_is_none = own_row w.shape (as_table w.plain) x r data_is.table data_is.unique_keys p one some

    -- where the key of a row stays none but it has the key
    pub kept_is_none : (own : ℕ) → has (as_table w.plain) own ≡ true → false ≡ is_changed (index_at w.shape x).parts (content_of w.plain.rows own).values r
        → rival (as_table w.plain).rows (index_at w.shape x).parts r (Some own) ≡ None
    kept_is_none own there kept =
        kept_row w.shape (as_table w.plain) x r data_is.table data_is.unique_keys p one some own there
        (ap (λ vs. is_eq (compare_key (index_at w.shape x).parts vs r)) (values_there w.plain own (there_has w.plain own there))
        ∙ sym (not_not (is_eq (compare_key (index_at w.shape x).parts (content_of w.plain.rows own).values r))) ∙ ap not (sym kept))

    pub other_is : (own e : ℕ) → own ≢ e → rival (as_table w.plain).rows (index_at w.shape x).parts r None ≡ Some e
        → rival (as_table w.plain).rows (index_at w.shape x).parts r (Some own) ≡ Some e
    other_is = other_row w.shape (as_table w.plain) x r data_is.table data_is.unique_keys p one some
