-- Chains that grew: the same data, and all stands.
-- Cited by `MultiIndex::insert_accepted`.
use Rattle.std.proofs.Common.{◌≡◌, ℕ, ◌+◌, List, [], ◌∷◌, refl, ap, sym, ◌∙◌, subst, arith}
use Rattle.std.specs.List.{AllByRecursion}
use Rattle.std.specs.Option.{option_and_then}
use Rattle.std.specs.Ordering.{nat_cmp}
use Rattle.std.specs.FinMap.{FinMap, get, entries}
use Rattle.std.specs.declared.option.Option.TheVariants.{None}
use Rattle.mi_catalog.specs.Shape.{Shape}
use Rattle.mi_node.specs.Pool.{Pooled}
use Rattle.mi_node.specs.Refs.{Ref}
use Rattle.mi_order.specs.declared.stored.Stored.{Stored}
use Rattle.mi_index.specs.declared.structure.Structure.{Structure}
use Rattle.mi_index.specs.Pass.{AllCan, AllLike, AreChanged, IsPass}
use Rattle.mi_index.specs.Passes.{nothing_asked, grown}
use Rattle.mi_container.specs.Data.{Data, Order, IsData}
use Rattle.mi_container.proofs.PairLemmas.{is_other}
use Rattle.mi_ids.specs.declared.entry.IdEntry.{IdEntry}
use Rattle.mi_multi.specs.Physical.{orders_of, plan, live_in, picked}
use Rattle.mi_multi.specs.Alike.{SaysSame, IsAltered}
use Rattle.mi_multi.specs.Multi.{ids_at, own_lists, AreLive, IsMulti, plain_of}
use Rattle.mi_multi.proofs.MarkedIdLemmas.{same_ids_multi, same_live}
use Rattle.mi_multi.proofs.RowLemmas.{picked_still}
use Rattle.mi_multi.proofs.SameNodeLemmas.{live_alike, kept_still}
use Rattle.mi_multi.proofs.EveryIndexLemmas.{Turned, Every, every, all_after, all_for, seq_by}
use Rattle.mi_multi.proofs.LiveNodeLemmas.{out_of_all, ids_same}
use Rattle.mi_multi.proofs.LinkLemmas.{says_by_tags}
use Rattle.mi_multi.proofs.SettleLemmas.{orders_still}
use Rattle.mi_multi.proofs.InsertLemmas.{fresh}

all_nothing : (xs : List Structure) (s : ℕ) (m : Pooled Stored) (rss : List (List Ref)) → AllCan nothing_asked xs s m rss
all_nothing [] s m rss = tt
all_nothing (x ∷ xs) s m [] = tt
all_nothing (x ∷ xs) s m (rs ∷ rss) = (tt, all_nothing xs (s + 1) m rss)

-- a reference of another name
abbrev other : ℕ → Ref
other k = record { name = k + 1; generation = 0 }

module _ (s : Shape) (ids : FinMap nat_cmp IdEntry) (m n : Pooled Stored) (xs ys : List Structure)
    (next arrivals : ℕ) (is : IsMulti s ids m xs next arrivals) (like : AllLike xs ys)
    (pass : (r : Ref) → IsPass nothing_asked grown r 0 xs ys m n) where
  abbrev os : List Order
  os = plan s.indexes

  abbrev d : Data
  d = plain_of s ids m xs next arrivals

  grew : (k : ℕ) → AreChanged grown (other k) 0 xs ys m n is.rss
  grew k = pass (other k) is.rss is.stand (all_nothing xs 0 m is.rss)

  changed : AreChanged grown (other 0) 0 xs ys m n is.rss
  changed = grew 0

  turns : Every (Turned grown ids m n) 0 s.indexes xs ys is.rss changed.uss
  turns = every grown ids m n 0 s.indexes xs ys is.rss changed.uss is.kinds like is.stand changed.stand changed.done is.live

  says : (k : ℕ) → SaysSame os m n k
  says k = says_by_tags grown ids m n (λ x a rs us done. done.tags) turns k (changed.keeps.values k)

  altered : IsAltered os ids m n next
  altered = record {
    says = λ q a ne here. says a.node.name;
    kept = λ q a ne here dead t.
        (grew a.node.name).keeps.other_nodes a.node.name t
        (is_other a.node.name (a.node.name + 1) (λ same. let bad : a.node.name ≡ a.node.name + 1 = same in absurd (omega arith)))
        (out_of_all ids m q a is.rss here dead (is.held q a here) is.live);
  }

  was : get ids next ≡ None
  was = fresh s ids m xs next arrivals is

  rows_still : picked (live_in n os) (entries ids) ≡ d.rows
  rows_still =
      picked_still (live_in m os) (live_in n os) ids ids next (λ q ne. refl) (live_alike os ids m n next altered)
      (ap (option_and_then (live_in n os)) was ∙ sym (ap (option_and_then (live_in m os)) was))

  orders_same : orders_of s.indexes (own_lists n ys) ≡ d.orders
  orders_same =
      orders_still (λ _ l. l) s.indexes (own_lists m xs) (own_lists n ys) (λ k l. refl)
      (seq_by grown ids m n (λ _ l. l) turns (λ k i x y rs us seq t. ids_same m n us changed.keeps.values ∙ ap (ids_at m) t.done.list))

  -- the data stay
  pub grown_seen : plain_of s ids n ys next arrivals ≡ d
  grown_seen =
      let kept = kept_still os ids m n next was refl altered in
      (λ i. record { rows = rows_still i; orders = orders_same i; next = next; arrivals = arrivals; kept = kept i })

  all_live : AllByRecursion (AreLive ids n) changed.uss
  all_live = all_after (Turned grown ids m n) (AreLive ids n) (λ k i x y rs us t. same_live ids m n changed.keeps.values rs us t.live t.done.list) turns

  -- all stands
  pub grown_multi : IsMulti s ids n ys next arrivals
  grown_multi = same_ids_multi s ids m n xs ys next arrivals is changed.keeps.refs changed.keeps.values changed.uss
      changed.stand (all_for s.indexes xs ys like is.kinds) all_live (subst (IsData s) (sym grown_seen) is.is_data)
