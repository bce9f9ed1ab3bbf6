-- A row moves in a sequenced index: what the call says of tables, and what takes it back.
-- Cited by `MultiIndex::move_row`, `MultiIndex::relocate`, `MultiIndex::row_behind` and `PutCallLemmas`.
use Rattle.std.proofs.Common.{◌≡◌, ℕ, zero, suc, Bool, true, false, cond, ◌&&◌, List, [], ◌∷◌, ◌++◌, get_or, slice_get, refl, ap, sym, ◌∙◌, subst}
use Rattle.std.specs.List.{AllByRecursion}
use Rattle.std.specs.Option.{option_map}
use Rattle.std.specs.Ordering.{nat_cmp}
use Rattle.std.specs.FinMap.{FinMap}
use Rattle.std.proofs.lemmas.Bool.{false≢true}
use Rattle.std.specs.declared.option.Option.{Option}
use Rattle.std.specs.declared.option.Option.TheVariants.{None, Some}
use Rattle.std.specs.declared.result.Result.TheVariants.{Ok, Err}
use Rattle.mi_value.specs.declared.refusal.Refusal.TheVariants.{NoId}
use Rattle.mi_catalog.specs.declared.index.Index.{Index}
use Rattle.mi_catalog.specs.Kinds.{is_sequenced, shows_one_list}
use Rattle.mi_catalog.specs.Shape.{Shape, index_at}
use Rattle.mi_model.specs.Table.{has}
use Rattle.mi_model.specs.Change.{stand, without, relocated, relocate}
use Rattle.mi_model.specs.Verdict.{Outcome, has_place, relocate_outcome}
use Rattle.mi_node.specs.Pool.{Pooled}
use Rattle.mi_node.specs.Refs.{Ref, first_of}
use Rattle.mi_order.specs.declared.stored.Stored.{Stored}
use Rattle.mi_index.specs.declared.structure.Structure.{Structure}
use Rattle.mi_index.specs.Standing.{Stands}
use Rattle.mi_container.specs.Asked.{IsSequenced, ShowsOneList}
use Rattle.mi_container.specs.Data.{Order, Data, as_table, KindFits, KindsFit, IsData}
use Rattle.mi_container.specs.Data.Order.{ById, ByKey, ByHash, Listed}
use Rattle.mi_container.specs.Changes.{moved_order, relocated_in}
use Rattle.mi_container.specs.Inverse.{RowRef, Inverse, at_in, row_ref, next_in_order, moved_back, relocate_inverse, taken_back}
use Rattle.mi_container.specs.Inverse.Inverse.{Relocated, Nothing}
use Rattle.mi_container.specs.declared.inverse.RowRef.{RowRef as Row}
use Rattle.mi_container.specs.Backs.{row_seen}
use Rattle.mi_container.specs.Fits.{IsThere, IsLive, IsOther, HasOwnList, Ready}
use Rattle.mi_container.specs.Run.Change.{Relocate}
use Rattle.mi_container.specs.Makes.{Makes}
use Rattle.mi_container.proofs.PairLemmas.{is_itself, is_other}
use Rattle.mi_container.proofs.SequenceLemmas.{OfList, moved_same}
use Rattle.mi_container.proofs.InvariantLemmas.{has_there}
use Rattle.mi_container.proofs.LawLemmas.{change_is_tables}
use Rattle.mi_ids.specs.declared.entry.IdEntry.{IdEntry}
use Rattle.mi_ids.specs.IdMap.{live_node, node_if_live}
use Rattle.mi_multi.specs.Physical.{plan}
use Rattle.mi_multi.specs.Multi.{id_at, ids_at, own_list, IsMulti, plain_of}
use Rattle.mi_multi.specs.RowAt.{row_ref_at}
use Rattle.mi_multi.specs.Seen.{Seen, seen_of, AreMulti}
use Rattle.mi_multi.specs.declared.multi.MultiIndex.TheInside.{Inside}
use Rattle.mi_multi.proofs.ListLemmas.{next_middle, head_ids}
use Rattle.mi_multi.proofs.EveryIndexLemmas.{sorted_not_sequenced, hashed_not_sequenced, sequenced_order, own_is}
use Rattle.mi_multi.proofs.LiveNodeLemmas.{IsLiveRef, node_live, all_right}
use Rattle.mi_multi.proofs.IndexNumberLemmas.{Numbered, numbered}
use Rattle.mi_multi.proofs.AnswerLemmas.{row_is}
use Rattle.mi_multi.proofs.TakeBackInsertLemmas.{live_there}
use Rattle.mi_multi.proofs.LookUpLemmas as known

pub shows : (s : Shape) (x : ℕ) → IsSequenced s x → ShowsOneList s x
shows s x seq = ap shows_one_list seq

-- The row of an id, and the one behind it in a list

module _ (s : Shape) (ids : FinMap nat_cmp IdEntry) (m : Pooled Stored) (xs : List Structure) (next arrivals : ℕ) where
  abbrev d : Data
  d = plain_of s ids m xs next arrivals

  pub live_row_is : (e : ℕ) (r : Ref) → live_node ids e ≡ Some r → IsLive d.rows (record { id = e; at = r })
  live_row_is e r there = (_, row_is s ids m xs next arrivals e r there, refl)

  rows_named : (qs : List Ref) → AllByRecursion (IsLiveRef ids m) qs
      → option_map (row_ref_at m) (first_of qs None) ≡ option_map (row_ref d.rows) (option_map (id_at m) (first_of qs None))
  rows_named [] all = refl
  rows_named (q ∷ qs) all = ap (λ o. Some (record { id = id_at m q; at = at_in o })) (sym (node_live ids m (plan s.indexes) q all.0))

  module _ (is : IsMulti s ids m xs next arrivals) (x : ℕ) (y : Structure) (n : Numbered s ids m xs x y)
      (seq : IsSequenced s x) (e : ℕ) (r : Ref) (there : live_node ids e ≡ Some r) where
    abbrev a : known.Among ids m y n.stood.rs e r
    a = known.among s ids m xs next arrivals is x y n e r there

    list_is : get_or d.orders x ById ≡ Listed (ids_at m (a.xs ++ r ∷ a.ys))
    list_is =
        n.ordered ∙ sequenced_order (index_at s x).kind (index_at s x).parts (own_list m y) (ap is_sequenced seq)
        ∙ ap Listed (own_is (index_at s x) y m n.stood.rs n.stood.for_ n.stood.stands (ap is_sequenced seq) ∙ ap (ids_at m) a.parts)

    behind : AllByRecursion (IsLiveRef ids m) a.ys
    behind =
        let rest : AllByRecursion (IsLiveRef ids m) (r ∷ a.ys) = all_right (IsLiveRef ids m) a.xs
        (r ∷ a.ys) (subst (AllByRecursion (IsLiveRef ids m)) a.parts n.stood.live.rows) in
        rest.1

    behind_is : option_map (row_ref_at m) (first_of a.ys None) ≡ option_map (row_ref d.rows) (next_in_order e (get_or d.orders x ById))
    behind_is =
        rows_named a.ys behind
        ∙ ap (option_map (row_ref d.rows)) (sym (ap (next_in_order e) list_is ∙ next_middle (id_at m) e a.xs r a.ys a.here a.lacks ∙ head_ids (id_at m) a.ys))

module _ (i : Inside) (w : Seen) (seen : seen_of i ≡ w) where
  -- the node of a live row
  pub live_named : (r : RowRef) → IsLive w.plain.rows r → live_node i.ids.entries r.id ≡ Some r.at
  live_named r live = ap node_if_live (live_there i w seen r live)

module _ (i : Inside) (is : AreMulti i) (w : Seen) (seen : seen_of i ≡ w) (x : ℕ) (y : Structure)
    (at : slice_get i.nodes.structures.items x ≡ Some y) (seq : IsSequenced w.shape x) where
  pub row_behind_is : (r : RowRef) → IsLive w.plain.rows r → (o : Option Ref)
      → ((xs ys : List Ref) → Stands y i.nodes.pool (xs ++ r.at ∷ ys) → o ≡ first_of ys None)
      → option_map (row_ref_at i.nodes.pool) o ≡ option_map (row_ref w.plain.rows) (next_in_order r.id (get_or w.plain.orders x ById))
  row_behind_is r live o next_is =
      let n = numbered i.schema i.ids.entries i.nodes.pool i.nodes.structures.items i.next i.arrivals is x y at in
      let there = live_named i w seen r live in
      let a = known.among i.schema i.ids.entries i.nodes.pool i.nodes.structures.items i.next i.arrivals is x y n r.id r.at there in
      ap (option_map (row_ref_at i.nodes.pool)) (next_is a.xs a.ys a.stands)
      ∙ behind_is i.schema i.ids.entries i.nodes.pool i.nodes.structures.items i.next i.arrivals
      is x y n (subst (λ (v : Seen). IsSequenced v.shape x) (sym seen) seq) r.id r.at there
      ∙ ap (λ (v : Seen). option_map (row_ref v.plain.rows) (next_in_order r.id (get_or v.plain.orders x ById))) seen

-- An index with a list of its own

kind_listed : (i : Index) (o : Order) → KindFits i o → is_sequenced i.kind ≡ true → HasOwnList o
kind_listed i ById f seq = sorted_not_sequenced i.kind f.0 seq
kind_listed i (ByKey ps) f seq = sorted_not_sequenced i.kind f.0 seq
kind_listed i (ByHash ps) f seq = hashed_not_sequenced i.kind f.0 seq
kind_listed i (Listed l) f seq = tt

kinds_listed : (is : List Index) (os : List Order) (x : ℕ) (none : Index) → is_sequenced none.kind ≡ false
    → KindsFit is os → is_sequenced (get_or is x none).kind ≡ true → HasOwnList (get_or os x ById)
kinds_listed [] os x none no_ f seq = absurd (false≢true (sym no_ ∙ seq))
kinds_listed (i ∷ is) [] x none no_ f seq = absurd f
kinds_listed (i ∷ is) (o ∷ os) zero none no_ f seq = kind_listed i o f.0 seq
kinds_listed (i ∷ is) (o ∷ os) (suc x) none no_ f seq = kinds_listed is os x none no_ f.1 seq

module _ (s : Shape) (d : Data) (is : IsData s d) (x : ℕ) (seq : IsSequenced s x) where
  has_list : HasOwnList (get_or d.orders x ById)
  has_list = kinds_listed s.indexes d.orders x _ refl is.kinds (ap is_sequenced seq)

  -- A row goes before another one, or last

  module _ (r : RowRef) (live : IsLive d.rows r) (b : Option RowRef) (other : IsOther d.rows r.id b) where
    abbrev named : Option RowRef → Option ℕ
    named o = option_map (λ (q : RowRef). q.id) o

    there : IsThere d.rows r.id
    there = (live.0, live.1)

    pub move_ready : Ready (Relocated x r b) d
    move_ready = (live, other, has_list)

    one_move : (o : Option RowRef) → IsOther d.rows r.id o → (λ (ids : List ℕ). stand (named o) r.id (without r.id ids)) ≡ relocated (named o) r.id
    one_move None o = refl
    one_move (Some q) o = (λ i ids. cond (sym (is_other q.id r.id o.1) i) ids (stand (Some q.id) r.id (without r.id ids)))

    -- it is what taking a move back does
    same_move : taken_back (Relocated x r b) d ≡ relocated_in x r.id (named b) d
    same_move = ap (λ f. record d { orders = moved_order x f d.orders }) (one_move b other)

    pub move_kept : IsData s (taken_back (Relocated x r b) d)
    move_kept = subst (IsData s) (sym same_move) (change_is_tables s (Relocate x r.id (named b)) d is (there, has_list)).0

    row_is_ref : r ≡ row_ref d.rows r.id
    row_is_ref = (λ i. record { id = r.id; at = (sym live.2 ∙ sym (ap at_in live.1)) i })

    one_inverse : (o : Option RowRef) → IsOther d.rows r.id o → moved_back x r.id d ≡ relocate_inverse x r.id (named o) d
    one_inverse None o = refl
    one_inverse (Some q) o = ap (λ t. cond t Nothing (moved_back x r.id d)) (sym (is_other q.id r.id o.1))

    pub move_made : (following : Option RowRef) (i : Inverse) (new : Data)
        → following ≡ option_map (row_ref d.rows) (next_in_order r.id (get_or d.orders x ById))
        → i ≡ Relocated x r following → new ≡ taken_back (Relocated x r b) d
        → Makes s (Relocate x r.id (named b)) d i new
    move_made following i new following_is i_is new_is = record {
      allowed = (there, has_list);
      changed_data = new_is ∙ same_move;
      inverse = i_is ∙ (λ j. Relocated x (row_is_ref j) (following_is j)) ∙ one_inverse b other;
    }

  -- The call

  abbrev answer : ℕ → Option ℕ → Bool → Outcome (Unit {0})
  answer e b t = cond t (Ok tt, relocate x e b (as_table d)) (Err NoId, as_table d)

  relocate_meets : (e : ℕ) (b : Option ℕ) (i : Inverse) (new : Data) → has_place (as_table d) b ≡ true → Makes s (Relocate x e b) d i new
      → ((relocate_outcome x e b (as_table d)).0 ≡ Ok tt) × (as_table new ≡ (relocate_outcome x e b (as_table d)).1)
  relocate_meets e b i new h made =
      let both : (has (as_table d) e && has_place (as_table d) b) ≡ true = (λ j. has_there d e made.allowed.0 j && h j) in (
        ap (λ t. (answer e b t).0) both,
        ap as_table made.changed_data ∙ (change_is_tables s (Relocate x e b) d is made.allowed).1 ∙ sym (ap (λ t. (answer e b t).1) both),
      )

  pub relocate_answers : (e f : ℕ) (b c : Option ℕ) (i : Inverse) (new : Data) → e ≡ f → b ≡ c
      → has_place (as_table d) b ≡ true → Makes s (Relocate x e b) d i new
      → ((relocate_outcome x f c (as_table d)).0 ≡ Ok tt) × (as_table new ≡ (relocate_outcome x f c (as_table d)).1)
  relocate_answers e f b c i new same same' h made =
      subst (λ q. ((relocate_outcome x f q (as_table d)).0 ≡ Ok tt) × (as_table new ≡ (relocate_outcome x f q (as_table d)).1)) same'
      (subst (λ a. ((relocate_outcome x a b (as_table d)).0 ≡ Ok tt) × (as_table new ≡ (relocate_outcome x a b (as_table d)).1))
      same (relocate_meets e b i new h made))

  -- where both are one row nothing changes
  same_order : (e : ℕ) (o : Order) → OfList (λ ids. relocated (Some e) e ids ≡ ids) o
  same_order e ById = tt
  same_order e (ByKey ps) = tt
  same_order e (ByHash ps) = tt
  same_order e (Listed ids) = ap (λ t. cond t ids (stand (Some e) e (without e ids))) (is_itself e)

  pub stays_made : (e b : ℕ) (i : Inverse) → IsThere d.rows e → b ≡ e → i ≡ Nothing → Makes s (Relocate x e (Some b)) d i d
  stays_made e b i here same i_is =
      subst (λ q. Makes s (Relocate x e (Some q)) d i d) (sym same)
      (record {
        allowed = (here, has_list);
        changed_data = ap (λ os. record d { orders = os }) (sym (moved_same (relocated (Some e) e) d.orders x (same_order e (get_or d.orders x ById))));
        inverse = i_is ∙ ap (λ t. cond t Nothing (moved_back x e d)) (sym (is_itself e));
      })

-- ids of rows that are named
pub names_same : (b : Option Row) → option_map (λ (q : RowRef). q.id) (option_map row_seen b) ≡ option_map (λ (q : Row). q.id) b
names_same None = refl
names_same (Some q) = refl

-- the row that a place names is there
pub place_there : (d : Data) (e : ℕ) (at : Ref) → IsLive d.rows (record { id = e; at = at }) → has_place (as_table d) (Some e) ≡ true
place_there d e at live = has_there d e (live.0, live.1)
