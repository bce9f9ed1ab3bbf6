-- The structure of an index stands wherever its nodes are alike to it.
--     stands_alike      nodes have the same reference and the same link in its slot, and values that compare Equal
--     Agree, stands_same      all references, all values and all links of its slot are the same
-- Cited by `laws::structures_stand_where_alike`, `OtherNodeLemmas`, `PassLemmas`, `RekeyLemmas`, `StayLemmas` and `mi_multi`.
use Rattle.std.proofs.Common.{◌≡◌, ℕ, ◌<◌, List, [], ◌∷◌, Option, Some, None, refl, sym, ap, ◌∙◌, subst, arith}
use Rattle.std.specs.declared.cmp.Ordering.{Ordering}
use Rattle.std.specs.declared.cmp.Ordering.TheVariants.{Equal}
use Rattle.std.specs.Ordering.{is_eq}
use Rattle.std.proofs.lemmas.Cmp.{tied_itself}
use Rattle.mi_value.specs.declared.compare.KeyPart.{KeyPart}
use Rattle.mi_value.specs.Order.{compare_key}
use Rattle.mi_value.proofs.OrderLaws.{compare_key_total}
use Rattle.mi_node.specs.Pool.{Pooled, ref_of, value_of, link_of, IsHeld}
use Rattle.mi_node.specs.Refs.{Ref}
use Rattle.mi_node.specs.Neighbours.{AreHeld}
use Rattle.mi_node.specs.declared.link.Link.{Link}
use Rattle.mi_node.proofs.EntryLemmas.{held_has}
use Rattle.mi_node.proofs.KeepingLemmas.{SameLinks}
use Rattle.mi_list.specs.Listed.{slot_of}
use Rattle.mi_list.proofs.FrameLemmas.{listed_same}
use Rattle.mi_tree.specs.Sorted.{compared}
use Rattle.mi_tree.specs.Frame.{IsAlike, AreAlike}
use Rattle.mi_tree.proofs.FrameLemmas.{tree_where}
use Rattle.mi_chain.specs.Keying.{stamp_at}
use Rattle.mi_chain.proofs.FrameLemmas.{AllOf, IsSame, chained_elsewhere}
use Rattle.mi_order.specs.Orders.{stored_order, stored_tag, keying_of}
use Rattle.mi_order.specs.OrderLaws.{stored_total, is_tagged}
use Rattle.mi_order.specs.HashLaws.{keyings_are_lawful}
use Rattle.mi_index.specs.Standing.{slot_in, swap_order, AllAbove, Climb, Stands}
use Rattle.mi_order.specs.declared.stored.Stored.{Stored}
use Rattle.mi_order.specs.declared.orders.ByHash.{ByHash}
use Rattle.mi_index.specs.declared.structure.Structure.{Structure}
use Rattle.mi_index.specs.declared.structure.Structure.TheVariants.{Sorted, Hashed, Sequenced}

-- a list needs nothing of values
alike_links : (x : Structure) (m n : Pooled Stored) (s : ℕ) (rs : List Ref) → AreAlike (swap_order x) m n s rs → SameLinks m n s rs
alike_links x m n s [] h = tt
alike_links x m n s (r ∷ rs) h = (h.0.ref, h.0.link, alike_links x m n s rs h.1)

-- chains need the key
module _ (h : ByHash) (m n : Pooled Stored) (s : ℕ) where
  abbrev ps : List KeyPart
  ps = h.parts

  alike_same : (r : Ref) → IsHeld m r → IsAlike (λ v w. compare_key ps v.row w.row) m n s r → IsSame (keying_of h) m n s r
  alike_same r there y =
      let v = held_has m r there in
      let held : IsHeld n r = y.ref ∙ there in
      let w = held_has n r held in
      let e : compare_key ps v.0.row w.0.row ≡ Equal = (λ i. compared (λ (a b : Stored). compare_key ps a.row b.row) (sym v.1 i) (sym w.1 i)) ∙ y.value in
      record { held = held; link = y.link; old = v.0; new = w.0; was = v.1; is = w.1; one_key = ap is_eq e }

  all_same : (rs : List Ref) → AreHeld m rs → AreAlike (λ v w. compare_key ps v.row w.row) m n s rs → AllOf (IsSame (keying_of h) m n s) rs
  all_same [] there y = tt
  all_same (r ∷ rs) there y = (alike_same r there.0 y.0, all_same rs there.1 y.1)

same_stamp : (order : Stored → Stored → Ordering) (m n : Pooled Stored) (s : ℕ) (r : Ref) → IsAlike order m n s r → stamp_at n s r ≡ stamp_at m s r
same_stamp order m n s r y = ap (λ (l : Link). l.tag.stamp) y.link

above_on : (order : Stored → Stored → Ordering) (m n : Pooled Stored) (s : ℕ) (r : Ref) (rs : List Ref) → IsAlike order m n s r → AreAlike order m n s rs
    → AllAbove (stamp_at m s) (stamp_at m s r) rs → AllAbove (stamp_at n s) (stamp_at n s r) rs
above_on order m n s r [] p all h = tt
above_on order m n s r (q ∷ rs) p all h = (
  (let a = h.0 in let b = same_stamp order m n s r p in let c = same_stamp order m n s q all.0 in omega arith),
  above_on order m n s r rs p all.1 h.1,
)

climb_on : (order : Stored → Stored → Ordering) (m n : Pooled Stored) (s : ℕ) (rs : List Ref)
    → AreAlike order m n s rs → Climb (stamp_at m s) rs → Climb (stamp_at n s) rs
climb_on order m n s [] all h = tt
climb_on order m n s (r ∷ rs) all h = (above_on order m n s r rs all.0 all.1 h.0, climb_on order m n s rs all.1 h.1)

pub stands_alike : (x : Structure) (m n : Pooled Stored) (rs : List Ref) → n.slots ≡ m.slots
    → AreAlike (swap_order x) m n (slot_in x) rs → Stands x m rs → Stands x n rs
stands_alike (Sorted t) m n rs slots y h =
    tree_where (stored_order t.order.parts) (stored_tag t.order.types t.order.parts) (stored_total t.order.parts)
    (is_tagged t.order.types t.order.parts).tag_below t m n rs h y (subst (λ k. t.slot < k) (sym slots) h.has_slot)
stands_alike (Hashed c) m n rs slots y h = (
  chained_elsewhere c (keying_of c.keys) (keyings_are_lawful c.keys) m n rs slots (all_same c.keys m n c.slot rs h.0.buckets.held y) h.0,
  climb_on (swap_order (Hashed c)) m n c.slot rs y h.1,
)
stands_alike (Sequenced l) m n rs slots y h = listed_same l m n rs slots (alike_links (Sequenced l) m n (slot_of l) rs y) h

-- the same values compare Equal
pub itself : (x : Structure) (o : Option Stored) → compared (swap_order x) o o ≡ Equal
itself x None = refl
itself (Sorted t) (Some v) = tied_itself (stored_total t.order.parts) v
itself (Hashed c) (Some v) = tied_itself (compare_key_total c.keys.parts) v.row
itself (Sequenced l) (Some v) = refl

-- two pools with the same references, the same values, and the same links of a slot
pub record Agree (s : ℕ) (m n : Pooled Stored) : Type 0 where
  pub refs : (k : ℕ) → ref_of n k ≡ ref_of m k
  pub values : (k : ℕ) → value_of n k ≡ value_of m k
  pub slots : n.slots ≡ m.slots
  pub links : (k : ℕ) → link_of n k s ≡ link_of m k s

are_alike : (x : Structure) (m n : Pooled Stored) (rs : List Ref) → Agree (slot_in x) m n → AreAlike (swap_order x) m n (slot_in x) rs
are_alike x m n [] a = tt
are_alike x m n (r ∷ rs) a = (
  record {
    ref = a.refs r.name;
    link = a.links r.name;
    value = ap (compared (swap_order x) (value_of m r.name)) (a.values r.name) ∙ itself x (value_of m r.name);
  },
  are_alike x m n rs a,
)

pub stands_same : (x : Structure) (m n : Pooled Stored) (rs : List Ref) → Agree (slot_in x) m n → Stands x m rs → Stands x n rs
stands_same x m n rs a h = stands_alike x m n rs a.slots (are_alike x m n rs a) h
