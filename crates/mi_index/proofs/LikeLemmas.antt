-- Structures that are alike: of one kind, slot and key.
--     by_kind      what holds of two that are alike for each kind holds of any two that are alike
-- Cited by `InsertLemmas`, `KeepingLemmas`, `PassLemmas`, `RekeyLemmas` and `mi_multi`.
use Rattle.std.proofs.Common.{◌≡◌}
use Rattle.mi_list.specs.declared.list.List.{List as Listing}
use Rattle.mi_tree.specs.declared.tree.Tree.{Tree}
use Rattle.mi_chain.specs.declared.chains.Chains.{Chains}
use Rattle.mi_order.specs.declared.orders.ByKey.{ByKey}
use Rattle.mi_order.specs.declared.orders.ByHash.{ByHash}
use Rattle.mi_index.specs.Standing.{slot_in, IsLike}
use Rattle.mi_index.specs.declared.structure.Structure.{Structure}
use Rattle.mi_index.specs.declared.structure.Structure.TheVariants.{Sorted, Hashed, Sequenced}

pub by_kind : (P : Structure → Structure → Type 0) → ((a c : Tree ByKey) → IsLike (Sorted a) (Sorted c) → P (Sorted a) (Sorted c))
    → ((a c : Chains ByHash) → IsLike (Hashed a) (Hashed c) → P (Hashed a) (Hashed c))
    → ((a c : Listing) → IsLike (Sequenced a) (Sequenced c) → P (Sequenced a) (Sequenced c))
    → (x y : Structure) → IsLike x y → P x y
by_kind P trees chains lists (Sorted a) (Sorted c) g = trees a c g
by_kind P trees chains lists (Sorted a) (Hashed c) g = absurd g
by_kind P trees chains lists (Sorted a) (Sequenced c) g = absurd g
by_kind P trees chains lists (Hashed a) (Sorted c) g = absurd g
by_kind P trees chains lists (Hashed a) (Hashed c) g = chains a c g
by_kind P trees chains lists (Hashed a) (Sequenced c) g = absurd g
by_kind P trees chains lists (Sequenced a) (Sorted c) g = absurd g
by_kind P trees chains lists (Sequenced a) (Hashed c) g = absurd g
by_kind P trees chains lists (Sequenced a) (Sequenced c) g = lists a c g

pub like_slot : (x y : Structure) → IsLike x y → slot_in y ≡ slot_in x
like_slot x y = by_kind (λ x y. slot_in y ≡ slot_in x) (λ a c g. g.0) (λ a c g. g.0) (λ a c g. g) x y
