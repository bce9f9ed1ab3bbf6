-- A container opens with the data of an empty table, and with its secret in each hashed index.
-- Cited by `MultiIndex::new`.
use Rattle.std.proofs.Common.{◌≡◌, ℕ, ◌+◌, true, cond, inl, inr, List, [], ◌∷◌, map, length, refl, ap, sym, ◌∙◌, subst, arith}
use Rattle.std.specs.List.{AllByRecursion}
use Rattle.std.specs.Option.{option_and_then}
use Rattle.std.specs.Ordering.{nat_cmp}
use Rattle.std.specs.FinMap.{FinMap, get, empty, entries, len, get-empty, len-empty}
use Rattle.std.specs.declared.option.Option.{Option}
use Rattle.std.specs.declared.option.Option.TheVariants.{None, Some}
use Rattle.mi_value.specs.declared.compare.KeyPart.{KeyPart}
use Rattle.mi_catalog.specs.declared.index.Column.{Column}
use Rattle.mi_catalog.specs.declared.index.Index.{Index}
use Rattle.mi_catalog.specs.declared.index.IndexKind.{IndexKind}
use Rattle.mi_catalog.specs.declared.index.IndexKind.TheVariants as kinds
use Rattle.mi_catalog.specs.Kinds.{is_sorted, is_hashed, is_sequenced}
use Rattle.mi_catalog.specs.Rules.{is_schema}
use Rattle.mi_catalog.specs.Shape.{Shape}
use Rattle.mi_catalog.proofs.RuleLaws.{in_limits}
use Rattle.mi_node.specs.Pool.{Pooled, no_nodes, ref_of}
use Rattle.mi_node.proofs.EntryLemmas.{ref-no_nodes}
use Rattle.mi_order.specs.declared.stored.Stored.{Stored}
use Rattle.mi_index.specs.declared.structure.Structure.{Structure}
use Rattle.mi_index.specs.declared.structure.Structure.TheVariants.{Sorted, Hashed, Sequenced}
use Rattle.mi_index.specs.Pass.{AllStand}
use Rattle.mi_index.specs.Opened.{IsOpenedFor as Opens, AllOpenedFor as AllOpen, empties, IsOpened}
use Rattle.mi_container.specs.Data.{IsData}
use Rattle.mi_container.specs.Data.Order.{Listed}
use Rattle.mi_container.specs.Changes.{order_for, opened_data}
use Rattle.mi_container.specs.Secrets.{secret_for, opened_secrets}
use Rattle.mi_container.proofs.PairLemmas.{none_some}
use Rattle.mi_container.proofs.LawLemmas.{opens_empty}
use Rattle.mi_ids.specs.declared.entry.IdEntry.{IdEntry}
use Rattle.mi_multi.specs.Physical.{order_of, orders_of, plan, live_in, kept_in, picked}
use Rattle.mi_multi.specs.Seen.{secret_in}
use Rattle.mi_multi.specs.Multi.{own_list, own_lists, IsFor, AllFor, is_live, AreLive, IsMulti, plain_of}
use Rattle.mi_multi.proofs.PickLemmas.{same_pairs, up_picked, up_entries, get_picked}
use Rattle.mi_multi.proofs.EveryIndexLemmas.{own_is}

module _ (secret : ℕ) where
  is_for : (columns : List Column) (i : Index) (s : ℕ) (x : Structure) → Opens secret columns i s x → IsFor i x
  is_for columns i s (Sorted t) f = (elim f.0 [ inl k ↦ ap is_sorted k | inr k ↦ ap is_sorted k ], f.1)
  is_for columns i s (Hashed c) f = (ap is_hashed f.0, f.1)
  is_for columns i s (Sequenced l) f = ap is_sequenced f.0

  all_for : (columns : List Column) (is : List Index) (s : ℕ) (xs : List Structure) → AllOpen secret columns is s xs → AllFor is xs
  all_for columns [] s [] f = tt
  all_for columns [] s (x ∷ xs) f = absurd f
  all_for columns (i ∷ is) s [] f = absurd f
  all_for columns (i ∷ is) s (x ∷ xs) f = (is_for columns i s x f.0, all_for columns is (s + 1) xs f.1)

  one_secret : (columns : List Column) (i : Index) (s : ℕ) (x : Structure) → Opens secret columns i s x → secret_in x ≡ secret_for secret i.kind
  one_secret columns i s (Sorted t) f = elim f.0 [ inl k ↦ ap (secret_for secret) (sym k) | inr k ↦ ap (secret_for secret) (sym k) ]
  one_secret columns i s (Hashed c) f = ap Some f.3 ∙ ap (secret_for secret) (sym f.0)
  one_secret columns i s (Sequenced l) f = ap (secret_for secret) (sym f.0)

  all_secrets : (columns : List Column) (is : List Index) (s : ℕ) (xs : List Structure) → AllOpen secret columns is s xs
      → map secret_in xs ≡ map (λ (i : Index). secret_for secret i.kind) is
  all_secrets columns [] s [] f = refl
  all_secrets columns [] s (x ∷ xs) f = absurd f
  all_secrets columns (i ∷ is) s [] f = absurd f
  all_secrets columns (i ∷ is) s (x ∷ xs) f = (λ j. one_secret columns i s x f.0 j ∷ all_secrets columns is (s + 1) xs f.1 j)

one_order : (k : IndexKind) (ps : List KeyPart) (l : List ℕ) → (is_sequenced k ≡ true → l ≡ []) → order_of k ps l ≡ order_for k ps
one_order kinds.Ordered ps l none_ = refl
one_order kinds.Ranked ps l none_ = refl
one_order kinds.Hashed ps l none_ = refl
one_order kinds.Sequenced ps l none_ = ap Listed (none_ refl)

all_orders : (is : List Index) (s : ℕ) (m : Pooled Stored) (xs : List Structure) → AllFor is xs
    → AllStand xs s m (empties xs) → orders_of is (own_lists m xs) ≡ map (λ (i : Index). order_for i.kind i.parts) is
all_orders [] s m [] f a = refl
all_orders [] s m (x ∷ xs) f a = absurd f
all_orders (i ∷ is) s m [] f a = absurd f
all_orders (i ∷ is) s m (x ∷ xs) f a = (λ j. one_order i.kind i.parts (own_list m x) (own_is i x m [] f.0 a.1) j ∷ all_orders is (s + 1) m xs f.1 a.2 j)

none_there : (e : ℕ) (a : IdEntry) (ids : FinMap nat_cmp IdEntry) → ids ≡ empty → get ids e ≡ Some a → ⊥
none_there e a ids same h = none_some (sym (ap (λ q. get q e) same ∙ get-empty nat_cmp e) ∙ h)

nothing_picked : {B : Type 0} (f : IdEntry → Option B) (ids : FinMap nat_cmp IdEntry) → ids ≡ empty → picked f (entries ids) ≡ []
nothing_picked f ids same =
    same_pairs (picked f (entries ids)) [] (up_picked f (entries ids) (up_entries ids)) tt
    (λ e. get_picked f ids e ∙ ap (option_and_then f) (ap (λ q. get q e) same ∙ get-empty nat_cmp e))

all_live : (ids : FinMap nat_cmp IdEntry) (m : Pooled Stored) (xs : List Structure) → ids ≡ empty → AllByRecursion (AreLive ids m) (empties xs)
all_live ids m [] same = tt
all_live ids m (x ∷ xs) same =
    (record { rows = tt; each = λ e. sym (ap (λ o. cond {A = ℕ} (is_live o) 1 0) (ap (λ q. get q e) same ∙ get-empty nat_cmp e)) }, all_live ids m xs same)

no_refs : (n k : ℕ) → ref_of {T = Stored} (no_nodes n) k ≡ None
no_refs n k = ref-no_nodes Stored n k

pub opened_keys : (secret : ℕ) (s : Shape) (m : Pooled Stored) (xs : List Structure) → IsOpened secret s m xs → map secret_in xs ≡ opened_secrets secret s
opened_keys secret s m xs opened = all_secrets secret s.columns s.indexes 0 xs opened.kinds

module _ (secret : ℕ) (s : Shape) (ids : FinMap nat_cmp IdEntry) (m : Pooled Stored) (xs : List Structure)
    (kept : is_schema s ≡ true) (none_ : ids ≡ empty) (opened : IsOpened secret s m xs) where
  pub opened_seen : plain_of s ids m xs s.first_id s.first_arrival ≡ opened_data s
  opened_seen =
      let orders = all_orders s.indexes 0 m xs (all_for secret s.columns s.indexes 0 xs opened.kinds) opened.stand in
      (λ i. record {
        rows = nothing_picked (live_in m (plan s.indexes)) ids none_ i;
        orders = orders i;
        next = s.first_id;
        arrivals = s.first_arrival;
        kept = nothing_picked (kept_in m (plan s.indexes)) ids none_ i;
      })

  pub opened_multi : IsMulti s ids m xs s.first_id s.first_arrival
  opened_multi = record {
    rss = empties xs;
    stand = opened.stand;
    kinds = all_for secret s.columns s.indexes 0 xs opened.kinds;
    live = all_live ids m xs none_;
    held = λ e a h. absurd (none_there e a ids none_ h);
    owned = λ r h. absurd (none_some (sym (ap (λ (q : Pooled Stored). ref_of q r.name) opened.pool ∙ no_refs (length s.indexes) r.name) ∙ h));
    is_data = subst (IsData s) (sym opened_seen) (opens_empty s kept).0;
    next_fits = (in_limits s kept).first_id;
    arrivals_fit = (in_limits s kept).first_arrival;
    few = let zeroed : len ids ≡ 0 = ap (λ (q : FinMap nat_cmp IdEntry). len q) none_ ∙ len-empty nat_cmp IdEntry in omega arith;
  }
