-- What is known of the index of a number.
-- Cited by `MultiIndex::stamp`, `CallLemmas`, `ConflictLemmas`, `ImagingLemmas`, `KeyCallLemmas` and 7 more.
use Rattle.std.proofs.Common.{◌≡◌, ℕ, ◌+◌, ◌<◌, zero, suc, List, [], ◌∷◌, slice_get, get_or, length, refl, ap, subst, arith}
use Rattle.std.specs.List.{AllByRecursion}
use Rattle.std.specs.Ordering.{nat_cmp}
use Rattle.std.specs.FinMap.{FinMap}
use Rattle.std.specs.declared.option.Option.TheVariants.{Some}
use Rattle.mi_catalog.specs.declared.index.Index.{Index}
use Rattle.mi_catalog.specs.Shape.{Shape, index_at}
use Rattle.mi_node.specs.Pool.{Pooled}
use Rattle.mi_node.specs.Refs.{Ref}
use Rattle.mi_order.specs.declared.stored.Stored.{Stored}
use Rattle.mi_index.specs.declared.structure.Structure.{Structure}
use Rattle.mi_index.specs.Standing.{slot_in, Stands}
use Rattle.mi_index.specs.Pass.{AllStand}
use Rattle.mi_container.specs.Data.Order.{ById}
use Rattle.mi_container.proofs.PairLemmas.{none_some, some_is}
use Rattle.mi_ids.specs.declared.entry.IdEntry.{IdEntry}
use Rattle.mi_multi.specs.Physical.{order_of, orders_of, plan}
use Rattle.mi_multi.specs.Multi.{own_list, own_lists, IsFor, AllFor, AreLive, IsMulti}
use Rattle.mi_multi.proofs.EveryIndexLemmas.{length_orders}

pub record Stood (ids : FinMap nat_cmp IdEntry) (m : Pooled Stored) (s : ℕ) (i : Index) (y : Structure) : Type 0 where
  pub rs : List Ref
  pub slot : slot_in y ≡ s
  pub for_ : IsFor i y
  pub stands : Stands y m rs
  pub live : AreLive ids m rs

stood : (ids : FinMap nat_cmp IdEntry) (m : Pooled Stored) (s : ℕ) (is : List Index) (xs : List Structure) (rss : List (List Ref))
    → AllFor is xs → AllStand xs s m rss → AllByRecursion (AreLive ids m) rss
    → (k : ℕ) (none : Index) (y : Structure) → slice_get xs k ≡ Some y → Stood ids m (s + k) (get_or is k none) y
stood ids m s [] [] rss f a v k none y at = absurd (none_some at)
stood ids m s [] (x ∷ xs) rss f a v k none y at = absurd f
stood ids m s (i ∷ is) [] rss f a v k none y at = absurd f
stood ids m s (i ∷ is) (x ∷ xs) [] f a v k none y at = absurd a
stood ids m s (i ∷ is) (x ∷ xs) (rs ∷ rss) f a v zero none y at =
    let same : x ≡ y = some_is at in
    let here : s ≡ s + 0 = omega arith in
    subst (λ w. Stood ids m (s + 0) i w) same (subst (λ w. Stood ids m w i x) here (record { rs = rs; slot = a.0; for_ = f.0; stands = a.1; live = v.0 }))
stood ids m s (i ∷ is) (x ∷ xs) (rs ∷ rss) f a v (suc k) none y at =
    let next : (s + 1) + k ≡ s + suc k = omega arith in
    subst (λ w. Stood ids m w (get_or is k none) y) next (stood ids m (s + 1) is xs rss f.1 a.2 v.1 k none y at)

order_is : (m : Pooled Stored) (is : List Index) (xs : List Structure) → AllFor is xs → (k : ℕ) (none : Index) (y : Structure) → slice_get xs k ≡ Some y
    → get_or (orders_of is (own_lists m xs)) k ById ≡ order_of (get_or is k none).kind (get_or is k none).parts (own_list m y)
order_is m [] [] f k none y at = absurd (none_some at)
order_is m [] (x ∷ xs) f k none y at = absurd f
order_is m (i ∷ is) [] f k none y at = absurd f
order_is m (i ∷ is) (x ∷ xs) f zero none y at = let same : x ≡ y = some_is at in ap (λ w. order_of i.kind i.parts (own_list m w)) same
order_is m (i ∷ is) (x ∷ xs) f (suc k) none y at = order_is m is xs f.1 k none y at

plan_is : (is : List Index) (k : ℕ) (none : Index) → k < length is → get_or (plan is) k ById ≡ order_of (get_or is k none).kind (get_or is k none).parts []
plan_is [] k none l = absurd (omega arith)
plan_is (i ∷ is) zero none l = refl
plan_is (i ∷ is) (suc k) none l = plan_is is k none (omega arith)

length_for : (is : List Index) (xs : List Structure) → AllFor is xs → length is ≡ length xs
length_for [] [] f = refl
length_for [] (x ∷ xs) f = absurd f
length_for (i ∷ is) [] f = absurd f
length_for (i ∷ is) (x ∷ xs) f = ap suc (length_for is xs f.1)

within : (xs : List Structure) (k : ℕ) (y : Structure) → slice_get xs k ≡ Some y → k < length xs
within [] k y at = absurd (none_some at)
within (x ∷ xs) zero y at = omega arith
within (x ∷ xs) (suc k) y at = let l : k < length xs = within xs k y at in omega arith

pub record Numbered (s : Shape) (ids : FinMap nat_cmp IdEntry) (m : Pooled Stored) (xs : List Structure) (k : ℕ) (y : Structure) : Type 0 where
  pub stood : Stood ids m k (index_at s k) y
  pub ordered : get_or (orders_of s.indexes (own_lists m xs)) k ById ≡ order_of (index_at s k).kind (index_at s k).parts (own_list m y)
  pub planned : get_or (plan s.indexes) k ById ≡ order_of (index_at s k).kind (index_at s k).parts []
  pub few : k < length s.indexes
  pub few_orders : k < length (orders_of s.indexes (own_lists m xs))
  pub few_plan : k < length (plan s.indexes)

module _ (s : Shape) (ids : FinMap nat_cmp IdEntry) (m : Pooled Stored) (xs : List Structure) (next arrivals : ℕ) (is : IsMulti s ids m xs next arrivals) where
  pub numbered : (k : ℕ) (y : Structure) → slice_get xs k ≡ Some y → Numbered s ids m xs k y
  numbered k y at =
      let same : 0 + k ≡ k = omega arith in
      let l : length s.indexes ≡ length xs = length_for s.indexes xs is.kinds in
      let w : k < length xs = within xs k y at in
      let few : k < length s.indexes = omega arith in
      let o : length (orders_of s.indexes (own_lists m xs)) ≡ length s.indexes = length_orders s.indexes (own_lists m xs) in
      let p : length (plan s.indexes) ≡ length s.indexes = length_orders s.indexes [] in
      record {
        stood = subst (λ q. Stood ids m q (index_at s k) y) same (stood ids m 0 s.indexes xs is.rss is.kinds is.stand is.live k _ y at);
        ordered = order_is m s.indexes xs is.kinds k _ y at;
        planned = plan_is s.indexes k _ few;
        few = few;
        few_orders = omega arith;
        few_plan = omega arith;
      }

  pub reaches : (k : ℕ) → k < length s.indexes → k < length xs
  reaches k l = let e : length s.indexes ≡ length xs = length_for s.indexes xs is.kinds in omega arith
