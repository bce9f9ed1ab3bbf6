-- How the structure of an index stands in the pool.
--     slot_in, swap_order      the slot of its links, and which values may stand for one another in it
--     Stands x m rs      it stands in the pool m with the nodes rs: by key and stamp, by stamp, or in an order of its own
--     IsLike      of one kind, slot and key
use Rattle.std.specs.Prelude.{◌≡◌, ℕ, ◌<◌, ◌≤◌, List, [], ◌∷◌, vec_len}
use Rattle.std.specs.declared.cmp.Ordering.{Ordering}
use Rattle.std.specs.declared.cmp.Ordering.TheVariants.{Equal}
use Rattle.std.specs.Ordering.{on}
use Rattle.mi_value.specs.Order.{compare_key}
use Rattle.mi_node.specs.Pool.{Pooled}
use Rattle.mi_node.specs.Refs.{Ref}
use Rattle.mi_list.specs.Listed.{slot_of, IsListed}
use Rattle.mi_tree.specs.Standing.{IsTree}
use Rattle.mi_tree.specs.Frame.{AreAlike}
use Rattle.mi_chain.specs.Keying.{stamp_at}
use Rattle.mi_chain.specs.Chained.{AreChained}
use Rattle.mi_order.specs.Orders.{stored_order, stored_tag, keying_of}
use Rattle.mi_order.specs.declared.stored.Stored.{Stored}
use Rattle.mi_index.specs.declared.structure.Structure.{Structure}
use Rattle.mi_index.specs.declared.structure.Structure.TheVariants.{Sorted, Hashed, Sequenced}

abbrev pub slot_in : Structure → ℕ
slot_in (Sorted t) = t.slot
slot_in (Hashed c) = c.slot
slot_in (Sequenced l) = slot_of l

-- values that compare Equal may stand for one another in the index: they have one key, and in a list all do
abbrev pub swap_order : Structure → Stored → Stored → Ordering
swap_order (Sorted t) = stored_order t.order.parts
swap_order (Hashed c) = on (λ v. v.row) (compare_key c.keys.parts)
swap_order (Sequenced l) = λ x y. Equal

abbrev pub AllAbove : (Ref → ℕ) → ℕ → List Ref → Type 0
AllAbove f n [] = Unit {0}
AllAbove f n (r ∷ rs) = (n < f r) × AllAbove f n rs

abbrev pub AllBelow : (Ref → ℕ) → ℕ → List Ref → Type 0
AllBelow f n [] = Unit {0}
AllBelow f n (r ∷ rs) = (f r < n) × AllBelow f n rs

-- the stamps rise
abbrev pub Climb : (Ref → ℕ) → List Ref → Type 0
Climb f [] = Unit {0}
Climb f (r ∷ rs) = AllAbove f (f r) rs × Climb f rs

-- the list of a hashed index is that of all its nodes by their stamps, so each key has its nodes in the order of it
abbrev pub Stands : Structure → Pooled Stored → List Ref → Type 0
Stands (Sorted t) m rs = IsTree t m (stored_order t.order.parts) (stored_tag t.order.types t.order.parts) rs
Stands (Hashed c) m rs = AreChained c (keying_of c.keys) m rs × Climb (stamp_at m c.slot) rs
Stands (Sequenced l) m rs = IsListed l m rs

abbrev pub IsLike : Structure → Structure → Type 0
IsLike (Sorted t) (Sorted u) = (u.slot ≡ t.slot) × (u.order ≡ t.order)
IsLike (Sorted t) (Hashed d) = ⊥
IsLike (Sorted t) (Sequenced k) = ⊥
IsLike (Hashed c) (Sorted u) = ⊥
IsLike (Hashed c) (Hashed d) = (d.slot ≡ c.slot) × (d.keys ≡ c.keys) × (vec_len c.buckets ≤ vec_len d.buckets)
IsLike (Hashed c) (Sequenced k) = ⊥
IsLike (Sequenced l) (Sorted u) = ⊥
IsLike (Sequenced l) (Hashed d) = ⊥
IsLike (Sequenced l) (Sequenced k) = slot_of k ≡ slot_of l

-- chains have a bucket for each of n keys; other structures need no room
abbrev pub IsRoomy : Structure → ℕ → Type 0
IsRoomy (Sorted t) n = Unit {0}
IsRoomy (Hashed c) n = n ≤ vec_len c.buckets
IsRoomy (Sequenced l) n = Unit {0}

-- a structure stands wherever each of its nodes has the same reference, the same link of its slot, and a value of the same key
abbrev pub StandWhereAlike : Type 0
StandWhereAlike = (x : Structure) (m n : Pooled Stored) (rs : List Ref) → n.slots ≡ m.slots
    → AreAlike (swap_order x) m n (slot_in x) rs → Stands x m rs → Stands x n rs
