-- Which nodes a pool says the same of, before and after a change of one row.
--     SaysSame      a node's value and its stamps
--     IsAltered      so of every node but that of e, and of those that are only kept every link too
--     SeqBy      the lists of the sequenced indexes, each changed by the function of its number
use Rattle.std.specs.Prelude.{◌≡◌, ◌≢◌, ℕ, true, false, List, [], ◌∷◌, suc}
use Rattle.std.specs.Ordering.{nat_cmp}
use Rattle.std.specs.FinMap.{FinMap, get}
use Rattle.std.specs.declared.option.Option.TheVariants.{Some}
use Rattle.mi_catalog.specs.declared.index.Index.{Index}
use Rattle.mi_catalog.specs.Kinds.{is_sequenced}
use Rattle.mi_node.specs.Pool.{Pooled, value_of, link_of}
use Rattle.mi_order.specs.declared.stored.Stored.{Stored}
use Rattle.mi_container.specs.Data.{Order, order_at, has_stamps}
use Rattle.mi_ids.specs.declared.entry.IdEntry.{IdEntry}

pub record SaysSame (os : List Order) (m n : Pooled Stored) (k : ℕ) : Type 0 where
  pub value : value_of n k ≡ value_of m k
  pub stamps : (x : ℕ) → has_stamps (order_at os x) ≡ true → (link_of n k x).tag.stamp ≡ (link_of m k x).tag.stamp

pub record IsAltered (os : List Order) (ids : FinMap nat_cmp IdEntry) (m n : Pooled Stored) (e : ℕ) : Type 0 where
  pub says : (q : ℕ) (a : IdEntry) → q ≢ e → get ids q ≡ Some a → SaysSame os m n a.node.name
  pub kept : (q : ℕ) (a : IdEntry) → q ≢ e → get ids q ≡ Some a → a.live ≡ false → (t : ℕ) → link_of n a.node.name t ≡ link_of m a.node.name t

abbrev pub SeqBy : (ℕ → List ℕ → List ℕ) → List Index → List (List ℕ) → List (List ℕ) → Type 0
SeqBy f [] ls us = Unit {0}
SeqBy f (i ∷ is) [] us = ⊥
SeqBy f (i ∷ is) (l ∷ ls) [] = ⊥
SeqBy f (i ∷ is) (l ∷ ls) (u ∷ us) = (is_sequenced i.kind ≡ true → u ≡ f 0 l) × SeqBy (λ k. f (suc k)) is ls us
