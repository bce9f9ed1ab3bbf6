-- To follow the links of a list gives the names of its nodes, in order.
-- Cited by `mi_multi`.
use Rattle.std.proofs.Common.{◌≡◌, ℕ, zero, suc, ◌≤◌, List as Seq, [], ◌∷◌, length, Option, Some, None, refl, ap, ◌∙◌, arith}
use Rattle.mi_node.specs.Pool.{Pooled, node_count}
use Rattle.mi_node.specs.Refs.{Ref, names, first_of}
use Rattle.mi_node.proofs.KeepingLemmas.{node_count-least}
use Rattle.mi_node.specs.Neighbours.{IsLinked}
use Rattle.mi_list.specs.Listed.{IsListed}
use Rattle.mi_list.specs.Order.{follow, order}
use Rattle.mi_list.specs.declared.list.List.{List}
use Rattle.mi_list.proofs.FrameLemmas.{listed_held}

module _ {T : Type 0} where
  followed : (m : Pooled T) (s n : ℕ) (b : Option Ref) (rs : Seq Ref) → length rs ≤ n → IsLinked m s b rs None → follow m s n (first_of rs None) ≡ names rs
  followed m s zero b [] le h = refl
  followed m s (suc n) b [] le h = refl
  followed m s zero b (r ∷ rs) le h = absurd (omega arith)
  followed m s (suc n) b (r ∷ rs) le h = ap (λ l. r.name ∷ l) (ap (follow m s n) h.2 ∙ followed m s n (Some r) rs (omega arith) h.3)

  pub order-listed : (l : List) (m : Pooled T) (rs : Seq Ref) → IsListed l m rs → order l m ≡ names rs
  unfolding order
  order-listed l m rs h = ap (follow m l.slot (node_count m)) h.first_is
      ∙ followed m l.slot (node_count m) None rs (node_count-least m rs h.apart (listed_held l m rs h)) h.linked
