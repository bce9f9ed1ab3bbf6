-- What the calls that read ask of an index and answer, by what contracts see of the container.
-- Cited by `MultiIndex::after`, `MultiIndex::before`, `MultiIndex::bound`, `MultiIndex::bound_rank`, `MultiIndex::count` and 16 more.
use Rattle.std.proofs.Common.{◌≡◌, ℕ, ◌+◌, ◌*◌, ◌^◌, ◌<◌, ◌≤◌, Bool, true, false, ◌&&◌, get_or, List}
use Rattle.std.proofs.Common.{[], ◌∷◌, ◌++◌, length, slice_get, refl, ap, sym, ◌∙◌, subst, arith}
use Rattle.std.specs.Prelude.{IsTrue, IfSome}
use Rattle.std.specs.List.{AllByRecursion}
use Rattle.std.specs.Option.{option_map, is_some}
use Rattle.std.proofs.lemmas.Bool.{false≢true}
use Rattle.std.specs.declared.option.Option.{Option}
use Rattle.std.specs.declared.option.Option.TheVariants.{None, Some}
use Rattle.mi_catalog.specs.declared.index.Index.{Index}
use Rattle.mi_catalog.specs.declared.index.IndexKind.{IndexKind}
use Rattle.mi_catalog.specs.declared.index.IndexKind.TheVariants as kinds
use Rattle.mi_catalog.specs.Kinds.{is_sorted, is_ranked, shows_one_list}
use Rattle.mi_catalog.specs.Rules.{is_schema, are_indexes}
use Rattle.mi_catalog.specs.Shape.{Shape, index_at}
use Rattle.mi_model.specs.Table.{Table, has, size}
use Rattle.mi_model.specs.LookUp as look
use Rattle.mi_model.proofs.PlaceLaws.{listed_within, sorted_listed, length-view}
use Rattle.mi_node.specs.Pool.{Pooled, IsHeld}
use Rattle.mi_node.specs.Refs.{Ref, first_of, last_of}
use Rattle.mi_tree.specs.BinaryTree.{nth_of}
use Rattle.mi_order.specs.declared.stored.Stored.{Stored}
use Rattle.mi_index.specs.declared.structure.Structure.{Structure}
use Rattle.mi_index.specs.declared.structure.Structure.TheVariants.{Sorted, Hashed, Sequenced}
use Rattle.mi_index.specs.Looks as nodes
use Rattle.mi_index.specs.Standing.{Stands}
use Rattle.mi_container.specs.Asked.{ShowsOneList, IsSorted, IsSequenced}
use Rattle.mi_container.specs.Data.{as_table}
use Rattle.mi_ids.specs.IdMap.{live_node}
use Rattle.mi_multi.specs.Multi.{id_at}
use Rattle.mi_multi.specs.Seen.{Seen, seen_of, AreMulti}
use Rattle.mi_multi.specs.declared.multi.MultiIndex.TheInside.{Inside}
use Rattle.mi_multi.proofs.AnswerLemmas.{live_is, none_has, record_of}
use Rattle.mi_multi.proofs.IndexNumberLemmas.{Numbered, numbered, reaches}
use Rattle.mi_multi.proofs.FoundIdLemmas.{all_first, all_last, all_nth, all_before, all_behind, none_past, length_ids}
use Rattle.mi_multi.proofs.LiveNodeLemmas.{IsLiveRef}
use Rattle.mi_multi.proofs.LookUpLemmas as known

right : (a b : Bool) → (a && b) ≡ true → b ≡ true
right true b h = h
right false b h = absurd (cc)

left : (a b : Bool) → (a && b) ≡ true → a ≡ true
left true b h = refl
left false b h = absurd (cc)

indexes_kept : (s : Shape) → is_schema s ≡ true → are_indexes (length s.columns) s.indexes ≡ true
indexes_kept s h = right _ _ (left _ _ h)

ranked_sorted : (k : IndexKind) → is_ranked k ≡ true → is_sorted k ≡ true
ranked_sorted kinds.Ordered h = refl
ranked_sorted kinds.Ranked h = refl
ranked_sorted kinds.Hashed h = absurd (cc)
ranked_sorted kinds.Sequenced h = absurd (cc)

first_sorted : (columns : ℕ) (is : List Index) (none : Index) → are_indexes columns is ≡ true → is_sorted (get_or is 0 none).kind ≡ true
first_sorted columns [] none h = absurd (cc)
first_sorted columns (i ∷ is) none h = ranked_sorted i.kind (right _ _ (left _ _ (left _ _ (left _ _ (left _ _ (left _ _ h))))))

module _ (i : Inside) (is : AreMulti i) {w : Seen} (seen : seen_of i ≡ w) where
  abbrev m : Pooled Stored
  m = i.nodes.pool

  abbrev items : List Structure
  items = i.nodes.structures.items

  lists_shape : (x : ℕ) → ShowsOneList w.shape x → ShowsOneList i.schema x
  lists_shape x h = subst (λ (v : Seen). ShowsOneList v.shape x) (sym seen) h

  sorts_shape : (x : ℕ) → IsSorted w.shape x → IsSorted i.schema x
  sorts_shape x h = subst (λ (v : Seen). IsSorted v.shape x) (sym seen) h

  pub listed_reaches : (x : ℕ) → ShowsOneList w.shape x → x < length items
  listed_reaches x h = reaches i.schema i.ids.entries m items i.next i.arrivals is x (listed_within i.schema x (lists_shape x h))

  -- a sequenced index shows one list
  pub sequenced_lists : (x : ℕ) → IsSequenced w.shape x → ShowsOneList w.shape x
  sequenced_lists x h = ap shows_one_list h

  pub sorted_reaches : (x : ℕ) → IsSorted w.shape x → x < length items
  sorted_reaches x h = reaches i.schema i.ids.entries m items i.next i.arrivals is x
      (listed_within i.schema x (sorted_listed (index_at i.schema x).kind (sorts_shape x h)))

  -- an id without a node isn't there
  pub absent : (e : ℕ) {o : Option Ref} → o ≡ live_node i.ids.entries e → o ≡ None → IsTrue (has (as_table w.plain) e) → ⊥
  absent e live none h = false≢true (sym (none_has i.schema i.ids.entries m items i.next i.arrivals e (sym live ∙ none))
      ∙ subst (λ (v : Seen). IsTrue (has (as_table v.plain) e)) (sym seen) h)

  pub isnt_there : (e : ℕ) {o : Option Ref} → o ≡ live_node i.ids.entries e → o ≡ None → has (as_table w.plain) e ≡ false
  isnt_there e live none =
      ap (λ (v : Seen). has (as_table v.plain) e) (sym seen) ∙ none_has i.schema i.ids.entries m items i.next i.arrivals e (sym live ∙ none)

  -- an id with one is
  pub is_there : (e : ℕ) {o : Option Ref} → o ≡ live_node i.ids.entries e → {r : Ref} → o ≡ Some r → has (as_table w.plain) e ≡ true
  is_there e live {r} found =
      let here = sym live ∙ found in
      let node = is.held e (record { node = r; live = true }) (live_is i.ids.entries e r here) in
      ap (λ (v : Seen). has (as_table v.plain) e) (sym seen)
      ∙ ap is_some (record_of i.schema i.ids.entries m items i.next i.arrivals e r node.value here node.is)

  -- the index of the ids is sorted
  pub id_sorted : IsTrue (is_schema i.schema) → IsSorted w.shape 0
  id_sorted rules = subst (λ (v : Seen). IsSorted v.shape 0) seen (first_sorted (length i.schema.columns) i.schema.indexes _ (indexes_kept i.schema rules))

  -- what the nodes answer, the container does, of the table that contracts see
  pub id_shown : (f : Shape → Table → Option ℕ) {o p : Option Ref} → o ≡ p → option_map (id_at m) p ≡ f i.schema (as_table (seen_of i).plain)
      → option_map (id_at m) o ≡ f w.shape (as_table w.plain)
  id_shown f same known_ = ap (option_map (id_at m)) same ∙ known_ ∙ ap (λ (v : Seen). f v.shape (as_table v.plain)) seen

  module _ (x : ℕ) {y : Structure} (at : slice_get items x ≡ Some y) where
    abbrev n : Numbered i.schema i.ids.entries m items x y
    n = numbered i.schema i.ids.entries m items i.next i.arrivals is x y at

    abbrev rs : List Ref
    rs = n.stood.rs

    pub in_list : ShowsOneList w.shape x → (qs : List Ref) × Stands y m qs × nodes.HasOneList y
    in_list h = (rs, n.stood.stands, known.lists i.schema i.ids.entries m items i.next i.arrivals is x y n (lists_shape x h))

    pub in_order : IsSorted w.shape x → (qs : List Ref) × Stands y m qs × nodes.IsSortedStructure y
    in_order h = (rs, n.stood.stands, known.sorts i.schema i.ids.entries m items i.next i.arrivals is x y n (sorts_shape x h))

    -- how many nodes there are
    pub long : length rs ≡ size (as_table w.plain)
    long =
        sym (length_ids (id_at m) rs) ∙ ap length (known.ids_shown i.schema i.ids.entries m items i.next i.arrivals is x y n)
        ∙ length-view i.schema (as_table (seen_of i).plain) x is.is_data.table n.few ∙ ap (λ (v : Seen). size (as_table v.plain)) seen

    pub count_is : {k : ℕ} → ((qs : List Ref) → Stands y m qs → k ≡ length qs) → k ≡ size (as_table w.plain)
    count_is h = h rs n.stood.stands ∙ long

    fits : (v : Structure) → nodes.IsSortedStructure v → Stands v m rs → length rs < 2 ^ 32
    fits (Sorted t) sorted stands = stands.fits
    fits (Hashed c) sorted stands = absurd sorted
    fits (Sequenced l) sorted stands = absurd sorted

    -- none is so far behind
    pub nth_past : (k : ℕ) → IsSorted w.shape x → 2 ^ 32 ≤ k → None ≡ look.nth w.shape (as_table w.plain) x k
    nth_past k h l =
        let few : length rs < 2 ^ 32 = fits y (known.sorts i.schema i.ids.entries m items i.next i.arrivals is x y n (sorts_shape x h)) n.stood.stands in
        subst (λ (v : Seen). None ≡ look.nth v.shape (as_table v.plain) x k) seen
        (sym (ap (λ ids. slice_get ids k) (sym (known.ids_shown i.schema i.ids.entries m items i.next i.arrivals is x y n))
        ∙ none_past (id_at m) rs k (omega arith)))

    alls : AllByRecursion (IsHeld m) rs
    alls = known.held i.schema i.ids.entries m items i.next i.arrivals is x y n

    -- the first and the last node, and that of a place

    pub first_held : {o : Option Ref} → ((qs : List Ref) → Stands y m qs → o ≡ first_of qs None) → IfSome o (IsHeld m)
    first_held h = subst (λ k. IfSome k (IsHeld m)) (sym (h rs n.stood.stands)) (all_first (IsHeld m) rs alls)

    pub first_is : {o : Option Ref} → ((qs : List Ref) → Stands y m qs → o ≡ first_of qs None)
        → option_map (id_at m) o ≡ look.first w.shape (as_table w.plain) x
    first_is h = id_shown (λ s t. look.first s t x) (h rs n.stood.stands) (known.first_seen i.schema i.ids.entries m items i.next i.arrivals is x y n)

    pub last_held : {o : Option Ref} → ((qs : List Ref) → Stands y m qs → o ≡ last_of None qs) → IfSome o (IsHeld m)
    last_held h = subst (λ k. IfSome k (IsHeld m)) (sym (h rs n.stood.stands)) (all_last (IsHeld m) rs alls)

    pub last_is : {o : Option Ref} → ((qs : List Ref) → Stands y m qs → o ≡ last_of None qs) → option_map (id_at m) o ≡ look.last w.shape (as_table w.plain) x
    last_is h = id_shown (λ s t. look.last s t x) (h rs n.stood.stands) (known.last_seen i.schema i.ids.entries m items i.next i.arrivals is x y n)

    pub nth_held : (k : ℕ) {o : Option Ref} → ((qs : List Ref) → Stands y m qs → o ≡ nth_of qs k) → IfSome o (IsHeld m)
    nth_held k h = subst (λ q. IfSome q (IsHeld m)) (sym (h rs n.stood.stands)) (all_nth (IsHeld m) rs k alls)

    pub nth_live : (k : ℕ) {o : Option Ref} → ((qs : List Ref) → Stands y m qs → o ≡ nth_of qs k) → IfSome o (IsLiveRef i.ids.entries m)
    nth_live k h = subst (λ q. IfSome q (IsLiveRef i.ids.entries m)) (sym (h rs n.stood.stands)) (all_nth (IsLiveRef i.ids.entries m) rs k n.stood.live.rows)

    pub nth_is : (k : ℕ) {o : Option Ref} → ((qs : List Ref) → Stands y m qs → o ≡ nth_of qs k)
        → option_map (id_at m) o ≡ look.nth w.shape (as_table w.plain) x k
    nth_is k h = id_shown (λ s t. look.nth s t x k) (h rs n.stood.stands) (known.nth_seen i.schema i.ids.entries m items i.next i.arrivals is x y n k)

    -- those beside a node

    module _ (e : ℕ) {node : Option Ref} (live : node ≡ live_node i.ids.entries e) {r : Ref} (found : node ≡ Some r) where
      -- the row is live, in this node
      pub there : live_node i.ids.entries e ≡ Some r
      there = sym live ∙ found

      -- where it stands in the list
      abbrev pub a : known.Among i.ids.entries m y rs e r
      a = known.among i.schema i.ids.entries m items i.next i.arrivals is x y n e r there

      pub between : ShowsOneList w.shape x → (xs : List Ref) × (ys : List Ref) × Stands y m (xs ++ r ∷ ys) × nodes.HasOneList y
      between h = (a.xs, a.ys, a.stands, (in_list h).2)

      pub between_listed : IsSequenced w.shape x → (xs : List Ref) × (ys : List Ref) × Stands y m (xs ++ r ∷ ys) × nodes.IsListStructure y
      between_listed h = (
        a.xs,
        a.ys,
        a.stands,
        known.listing i.schema i.ids.entries m items i.next i.arrivals is x y n
            (subst (λ (v : Seen). IsSequenced v.shape x) (sym seen) h),
      )

      pub ranked : IsSorted w.shape x → (xs : List Ref) × (ys : List Ref) × Stands y m (xs ++ r ∷ ys) × nodes.IsSortedStructure y
      ranked h = (a.xs, a.ys, a.stands, (in_order h).2)

      both : AllByRecursion (IsHeld m) (a.xs ++ r ∷ a.ys)
      both = subst (AllByRecursion (IsHeld m)) a.parts alls

      pub after_held : {o : Option Ref} → ((xs ys : List Ref) → Stands y m (xs ++ r ∷ ys) → o ≡ first_of ys None) → IfSome o (IsHeld m)
      after_held h = subst (λ k. IfSome k (IsHeld m)) (sym (h a.xs a.ys a.stands)) (all_first (IsHeld m) a.ys (all_behind (IsHeld m) a.xs r a.ys both))

      pub after_is : {o : Option Ref} → ((xs ys : List Ref) → Stands y m (xs ++ r ∷ ys) → o ≡ first_of ys None)
          → option_map (id_at m) o ≡ look.after w.shape (as_table w.plain) x e
      after_is h = id_shown (λ s t. look.after s t x e) (h a.xs a.ys a.stands)
          (known.after_seen i.schema i.ids.entries m items i.next i.arrivals is x y n e r there)

      pub before_held : {o : Option Ref} → ((xs ys : List Ref) → Stands y m (xs ++ r ∷ ys) → o ≡ last_of None xs) → IfSome o (IsHeld m)
      before_held h = subst (λ k. IfSome k (IsHeld m)) (sym (h a.xs a.ys a.stands)) (all_last (IsHeld m) a.xs (all_before (IsHeld m) a.xs (r ∷ a.ys) both))

      pub before_is : {o : Option Ref} → ((xs ys : List Ref) → Stands y m (xs ++ r ∷ ys) → o ≡ last_of None xs)
          → option_map (id_at m) o ≡ look.before w.shape (as_table w.plain) x e
      before_is h = id_shown (λ s t. look.before s t x e) (h a.xs a.ys a.stands)
          (known.before_seen i.schema i.ids.entries m items i.next i.arrivals is x y n e r there)

      pub rank_is : {k : ℕ} → ((xs ys : List Ref) → Stands y m (xs ++ r ∷ ys) → k ≡ length xs) → k ≡ look.rank w.shape (as_table w.plain) x e
      rank_is h =
          h a.xs a.ys a.stands
          ∙ known.rank_seen i.schema i.ids.entries m items i.next i.arrivals is x y n e r there
          ∙ ap (λ (v : Seen). look.rank v.shape (as_table v.plain) x e) seen

    -- one look-up, and what the contracts of calls with one or two allow

    pub few_steps : (most : ℕ → ℕ) (old : ℕ) {new : ℕ} → ((qs : List Ref) → Stands y m qs → (b : ℕ) → length qs < 2 ^ b → new ≤ old + most b)
        → (b : ℕ) → size (as_table w.plain) < 2 ^ b → new ≤ old + most b
    few_steps most old h b l = h rs n.stood.stands b (subst (λ k. k < 2 ^ b) (sym long) l)

    pub one_look : (old : ℕ) {new : ℕ} → ((qs : List Ref) → Stands y m qs → (b : ℕ) → length qs < 2 ^ b → new ≤ old + 2 * b)
        → (b : ℕ) → size (as_table w.plain) < 2 ^ b → new ≤ old + (2 * b + 1)
    one_look old {new} h b l = let few : new ≤ old + 2 * b = few_steps (λ k. 2 * k) old h b l in omega arith

    pub two_looks : (old : ℕ) {new : ℕ} → ((qs : List Ref) → Stands y m qs → (b : ℕ) → length qs < 2 ^ b → new ≤ old + 4 * b)
        → (b : ℕ) → size (as_table w.plain) < 2 ^ b → new ≤ old + 2 * (2 * b + 1)
    two_looks old {new} h b l = let few : new ≤ old + 4 * b = few_steps (λ k. 4 * k) old h b l in omega arith
