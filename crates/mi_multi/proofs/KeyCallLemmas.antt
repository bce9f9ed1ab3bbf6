-- What the calls by keys ask of an index and answer, by what contracts see of the container.
-- Cited by `MultiIndex::bound`, `MultiIndex::bound_rank`, `MultiIndex::count`, `MultiIndex::find`, `MultiIndex::find_row` and 2 more.
use Rattle.std.proofs.Common.{Bor, ◌≡◌, ◌≢◌, ℕ, ◌<◌, Bool, true, false}
use Rattle.std.proofs.Common.{List, [], ◌∷◌, ◌++◌, length, slice_get, ap, sym, ◌∙◌, subst}
use Rattle.std.specs.Prelude.{IsTrue, IfSome}
use Rattle.std.specs.List.{AllByRecursion, filter, position_or_len}
use Rattle.std.specs.Option.{option_map}
use Rattle.std.proofs.lemmas.Bool.{and_parts}
use Rattle.std.specs.declared.option.Option.{Option}
use Rattle.std.specs.declared.option.Option.TheVariants.{None, Some}
use Rattle.mi_value.specs.declared.value.Value.{Value}
use Rattle.mi_value.specs.declared.bound.Probe.{Probe}
use Rattle.mi_value.specs.declared.bound.Probe.TheVariants.{Key}
use Rattle.mi_catalog.specs.Fits.{fits_key}
use Rattle.mi_catalog.specs.Key.{parts_or_id}
use Rattle.mi_catalog.specs.Kinds.{is_hashed}
use Rattle.mi_catalog.specs.Rules.{is_schema}
use Rattle.mi_catalog.specs.Shape.{index_at}
use Rattle.mi_model.specs.Table.{Table}
use Rattle.mi_model.specs.LookUp as look
use Rattle.mi_model.proofs.NextLaws.{whole_key_long}
use Rattle.mi_node.specs.Pool.{Pooled, IsHeld}
use Rattle.mi_node.specs.Refs.{Ref, first_of}
use Rattle.mi_tree.specs.Probed.{first_where}
use Rattle.mi_order.specs.declared.stored.Stored.{Stored}
use Rattle.mi_index.specs.declared.structure.Structure.{Structure}
use Rattle.mi_index.specs.declared.structure.Structure.TheVariants.{Sorted, Hashed, Sequenced}
use Rattle.mi_index.specs.Looks as nodes
use Rattle.mi_index.specs.Standing.{Stands}
use Rattle.mi_container.specs.Asked.{IsSorted, IsKeyed, IsHashed, LookUpKey}
use Rattle.mi_container.specs.Data.{as_table}
use Rattle.mi_ids.specs.IdMap.{live_node}
use Rattle.mi_multi.specs.Multi.{id_at, IsFor}
use Rattle.mi_multi.specs.Past.{rank_of_bound}
use Rattle.mi_multi.specs.Seen.{Seen, seen_of, AreMulti}
use Rattle.mi_multi.specs.declared.multi.MultiIndex.TheInside.{Inside}
use Rattle.mi_multi.proofs.IndexNumberLemmas.{Numbered, numbered, reaches}
use Rattle.mi_multi.proofs.LiveNodeLemmas.{IsLiveRef}
use Rattle.mi_multi.proofs.FoundIdLemmas.{all_where, all_first, all_filter, all_behind}
use Rattle.mi_multi.proofs.LookUpLemmas as known
use Rattle.mi_multi.proofs.ProbeLemmas as probes
use Rattle.mi_multi.proofs.CallLemmas.{id_shown, in_order, there, a as among}

module _ (i : Inside) (is : AreMulti i) {w : Seen} (seen : seen_of i ≡ w) where
  abbrev m : Pooled Stored
  m = i.nodes.pool

  abbrev items : List Structure
  items = i.nodes.structures.items

  abbrev t : Table
  t = as_table w.plain

  pub keyed_reaches : (x : ℕ) → IsKeyed w.shape x → x < length items
  keyed_reaches x h = reaches i.schema i.ids.entries m items i.next i.arrivals is x (subst (λ (v : Seen). IsKeyed v.shape x) (sym seen) h).0

  pub hashed_reaches : (x : ℕ) → IsHashed w.shape x → x < length items
  hashed_reaches x h = reaches i.schema i.ids.entries m items i.next i.arrivals is x (subst (λ (v : Seen). IsHashed v.shape x) (sym seen) h).0

  module _ (x : ℕ) {y : Structure} (at : slice_get items x ≡ Some y) where
    abbrev n : Numbered i.schema i.ids.entries m items x y
    n = numbered i.schema i.ids.entries m items i.next i.arrivals is x y at

    abbrev rs : List Ref
    rs = n.stood.rs

    alls : AllByRecursion (IsHeld m) rs
    alls = known.held i.schema i.ids.entries m items i.next i.arrivals is x y n

    found_held : (f : Ref → Bool) {o : Option Ref} → ((qs : List Ref) → Stands y m qs → o ≡ first_where f qs) → IfSome o (IsHeld m)
    found_held f h = subst (λ k. IfSome k (IsHeld m)) (sym (h rs n.stood.stands)) (all_where (IsHeld m) f rs alls)

    -- the node that a search finds is held
    pub past_held : (past : Bool) (k : Bor (List Value)) {o : Option Ref}
        → ((qs : List Ref) → Stands y m qs → o ≡ first_where (nodes.is_past past y m (Key k)) qs) → IfSome o (IsHeld m)
    past_held past k h = found_held (nodes.is_past past y m (Key k)) h

    pub sought_live : (q : Probe) {o : Option Ref} → ((qs : List Ref) → Stands y m qs → o ≡ first_where (nodes.has_sought y m q) qs)
        → IfSome o (IsLiveRef i.ids.entries m)
    sought_live q h =
        subst (λ k. IfSome k (IsLiveRef i.ids.entries m)) (sym (h rs n.stood.stands))
        (all_where (IsLiveRef i.ids.entries m) (nodes.has_sought y m q) rs n.stood.live.rows)

    pub sought_held : (q : Probe) {o : Option Ref} → ((qs : List Ref) → Stands y m qs → o ≡ first_where (nodes.has_sought y m q) qs) → IfSome o (IsHeld m)
    sought_held q h = found_held (nodes.has_sought y m q) h

    -- the first one that is past a key stands there
    pub past_is : IsSorted w.shape x → (past : Bool) (k : Bor (List Value)) {o : Option Ref}
        → ((qs : List Ref) → Stands y m qs → o ≡ first_where (nodes.is_past past y m (Key k)) qs)
        → option_map (id_at m) o ≡ look.nth w.shape t x (rank_of_bound past w.shape t x k.now)
    past_is sorted false k h =
        id_shown i is seen (λ s t. look.lower s t x k.now) (h rs n.stood.stands)
        (probes.lower_seen i.schema i.ids.entries m items i.next i.arrivals is x y n k
        (subst (λ (v : Seen). IsSorted v.shape x) (sym seen) sorted) (in_order i is seen x at sorted).2)
    past_is sorted true k h =
        id_shown i is seen (λ s t. look.upper s t x k.now) (h rs n.stood.stands)
        (probes.upper_seen i.schema i.ids.entries m items i.next i.arrivals is x y n k
        (subst (λ (v : Seen). IsSorted v.shape x) (sym seen) sorted) (in_order i is seen x at sorted).2)

    -- as many stand in front of it
    pub place_is : IsSorted w.shape x → (past : Bool) (k : Bor (List Value))
        → position_or_len (nodes.is_past past y m (Key k)) rs ≡ rank_of_bound past w.shape t x k.now
    place_is sorted false k =
        probes.lower_placed i.schema i.ids.entries m items i.next i.arrivals is x y n k
        (subst (λ (v : Seen). IsSorted v.shape x) (sym seen) sorted) (in_order i is seen x at sorted).2
        ∙ ap (λ (v : Seen). look.lower_rank v.shape (as_table v.plain) x k.now) seen
    place_is sorted true k =
        probes.upper_placed i.schema i.ids.entries m items i.next i.arrivals is x y n k
        (subst (λ (v : Seen). IsSorted v.shape x) (sym seen) sorted) (in_order i is seen x at sorted).2
        ∙ ap (λ (v : Seen). look.upper_rank v.shape (as_table v.plain) x k.now) seen

    pub bound_rank : IsSorted w.shape x → (past : Bool) (k : Bor (List Value)) {j : ℕ}
        → ((qs : List Ref) → Stands y m qs → j ≡ position_or_len (nodes.is_past past y m (Key k)) qs) → j ≡ rank_of_bound past w.shape t x k.now
    bound_rank sorted past k h = h rs n.stood.stands ∙ place_is sorted past k

    -- keys as look-ups are asked by

    parts_kept : IsTrue (is_schema i.schema) → is_hashed (index_at i.schema x).kind ≡ true → (index_at i.schema x).parts ≢ []
    parts_kept rules hashed = probes.hashed_parts (length i.schema.columns) i.schema.indexes x _ n.few (and_parts _ _ (and_parts _ _ rules).0).1 hashed

    pub in_some : (qs : List Ref) × Stands y m qs
    in_some = (rs, n.stood.stands)

    -- a key of a hashed index is whole
    long_if_hashed : (k : Bor (List Value)) → LookUpKey w.shape x k.now
        → is_hashed (index_at i.schema x).kind ≡ true → length k.now ≡ length (parts_or_id (index_at i.schema x).parts)
    long_if_hashed k asked hashed =
        whole_key_long i.schema.columns (index_at i.schema x).parts k.now
        (subst (λ b. IsTrue (fits_key i.schema.columns (index_at i.schema x).parts b k.now)) hashed
        (subst (λ (v : Seen). LookUpKey v.shape x k.now) (sym seen) asked))

    pub find_is : (k : Bor (List Value)) {o : Option Ref} → IsTrue (is_schema i.schema) → IsKeyed w.shape x
        → LookUpKey w.shape x k.now → ((qs : List Ref) → Stands y m qs → o ≡ first_where (nodes.has_sought y m (Key k)) qs)
        → option_map (id_at m) o ≡ look.find w.shape t x k.now
    find_is k rules keyed asked h =
        id_shown i is seen (λ s t. look.find s t x k.now) (h rs n.stood.stands)
        (probes.find_seen i.schema i.ids.entries m items i.next i.arrivals is x y n k
        (long_if_hashed k asked)
        (parts_kept rules) (subst (λ (v : Seen). IsKeyed v.shape x) (sym seen) keyed).1)

    pub count_is : (k : Bor (List Value)) {j : ℕ} → IsTrue (is_schema i.schema) → IsKeyed w.shape x
        → LookUpKey w.shape x k.now → ((qs : List Ref) → Stands y m qs → j ≡ length (filter (nodes.has_sought y m (Key k)) qs))
        → j ≡ look.count w.shape t x k.now
    count_is k rules keyed asked h =
        h rs n.stood.stands
        ∙ probes.count_seen i.schema i.ids.entries m items i.next i.arrivals is x y n k
        (long_if_hashed k asked)
        (parts_kept rules) (subst (λ (v : Seen). IsKeyed v.shape x) (sym seen) keyed).1
        ∙ ap (λ (v : Seen). look.count v.shape (as_table v.plain) x k.now) seen

    -- the next of a key

    is_chains : (v : Structure) → IsFor (index_at i.schema x) v → is_hashed (index_at i.schema x).kind ≡ true → nodes.IsHashedStructure v
    is_chains (Sorted u) f h = absurd (known.sorted_hashed (index_at i.schema x).kind f.0 h)
    is_chains (Hashed c) f h = tt
    is_chains (Sequenced l) f h = absurd (Rattle.mi_multi.proofs.EveryIndexLemmas.hashed_not_sequenced (index_at i.schema x).kind h f)

    hashed_kind : IsHashed w.shape x → is_hashed (index_at i.schema x).kind ≡ true
    hashed_kind h = ap is_hashed (subst (λ (v : Seen). IsHashed v.shape x) (sym seen) h).1

    chains : IsHashed w.shape x → nodes.IsHashedStructure y
    chains h = is_chains y n.stood.for_ (hashed_kind h)

    module _ (e : ℕ) {node : Option Ref} (live : node ≡ live_node i.ids.entries e) {r : Ref} (found : node ≡ Some r) where
      abbrev a : known.Among i.ids.entries m y rs e r
      a = among i is seen x at e live found

      pub in_chains : IsHashed w.shape x → (xs : List Ref) × (ys : List Ref) × Stands y m (xs ++ r ∷ ys) × nodes.IsHashedStructure y
      in_chains h = (a.xs, a.ys, a.stands, chains h)

      pub next_of_held : {o : Option Ref}
          → ((xs ys : List Ref) → Stands y m (xs ++ r ∷ ys) → o ≡ first_of (filter (nodes.has_same_key y m r) ys) None) → IfSome o (IsHeld m)
      next_of_held h =
          subst (λ k. IfSome k (IsHeld m)) (sym (h a.xs a.ys a.stands))
          (all_first (IsHeld m) (filter (nodes.has_same_key y m r) a.ys)
          (all_filter (IsHeld m) (nodes.has_same_key y m r) a.ys (all_behind (IsHeld m) a.xs r a.ys (subst (AllByRecursion (IsHeld m)) a.parts alls))))

      pub next_of_is : {o : Option Ref} → IsTrue (is_schema i.schema) → IsHashed w.shape x
          → ((xs ys : List Ref) → Stands y m (xs ++ r ∷ ys) → o ≡ first_of (filter (nodes.has_same_key y m r) ys) None)
          → option_map (id_at m) o ≡ look.next_with_key w.shape t x e
      next_of_is rules hashed h =
          id_shown i is seen (λ s t. look.next_with_key s t x e) (h a.xs a.ys a.stands)
          (probes.next_of_seen i.schema i.ids.entries m items i.next i.arrivals is x y n e r
          (there i is seen x at e live found) (parts_kept rules (hashed_kind hashed)) y n.stood.for_ (chains hashed))
