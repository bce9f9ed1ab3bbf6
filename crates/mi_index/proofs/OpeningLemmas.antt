-- The structures of a schema, without nodes.
--     some_index, few_indexes      a schema has 1 to 16 indexes
--     is_opened      empty structures stand in an empty pool
-- Cited by `Nodes::new` and `nodes::at_most_sixteen`.
use Rattle.std.proofs.Common.{refl, ◌≡◌, ℕ, ◌+◌, ◌<◌, ◌≤◌, true, false, List, [], ◌∷◌, length, sym, ap, ◌∙◌, subst, arith}
use Rattle.std.proofs.lemmas.Bool.{and_parts, leb-true}
use Rattle.mi_value.specs.declared.limits.TheConstants.{MAX_INDEXES}
use Rattle.mi_catalog.specs.declared.index.Column.{Column}
use Rattle.mi_catalog.specs.declared.index.Index.{Index}
use Rattle.mi_catalog.specs.Shape.{Shape}
use Rattle.mi_catalog.specs.Rules.{is_schema, are_indexes}
use Rattle.mi_catalog.proofs.RuleLaws.{has_indexes}
use Rattle.mi_node.specs.Pool.{Pooled, no_nodes}
use Rattle.mi_node.proofs.EntryLemmas.{slots-no_nodes}
use Rattle.mi_list.specs.Listed.{slot_of}
use Rattle.mi_list.proofs.FrameLemmas.{listed_new}
use Rattle.mi_tree.proofs.FrameLemmas.{tree_empty}
use Rattle.mi_chain.proofs.CallLemmas.{new_chains}
use Rattle.mi_order.specs.Orders.{stored_order, stored_tag, keying_of}
use Rattle.mi_index.specs.Standing.{slot_in, Stands}
use Rattle.mi_index.specs.Pass.{AllStand, AllCan, AreReady}
use Rattle.mi_index.specs.Inserting.{coming_in}
use Rattle.mi_index.specs.Rekeying.{HasPlaceFor}
use Rattle.std.specs.declared.option.Option.TheVariants.{None}
use Rattle.mi_index.specs.Opened.{IsOpenedFor, AllOpenedFor, IsEmpty, AllEmpty, empties, IsOpened}
use Rattle.mi_order.specs.declared.stored.Stored.{Stored}
use Rattle.mi_index.specs.declared.structure.Structure.{Structure}
use Rattle.mi_index.specs.declared.structure.Structure.TheVariants.{Sorted, Hashed, Sequenced}

pub some_index : (s : Shape) → is_schema s ≡ true → 1 ≤ length s.indexes
some_index s h = let l = has_indexes s h in omega (arith, l)

few_of : (n : ℕ) (is : List Index) → are_indexes n is ≡ true → length is ≤ 16
few_of n [] h = absurd (let e : false ≡ true = h in cc)
few_of n (i ∷ is) h = let few : length is ≤ MAX_INDEXES = leb-true (length is) MAX_INDEXES (and_parts _ _ (and_parts _ _ h).0).1 in omega (arith, few)

pub few_indexes : (s : Shape) → is_schema s ≡ true → length s.indexes ≤ 16
few_indexes s h = few_of (length s.columns) s.indexes (and_parts _ _ (and_parts _ _ h).0).1

stands_empty : (secret : ℕ) (cs : List Column) (i : Index) (s : ℕ) (x : Structure) (m : Pooled Stored)
    → IsOpenedFor secret cs i s x → IsEmpty x → s < m.slots → (slot_in x ≡ s) × Stands x m []
stands_empty secret cs i s (Sorted t) m f e l = (
  f.3,
  tree_empty t m (stored_order t.order.parts) (stored_tag t.order.types t.order.parts) e (subst (λ k. k < m.slots) (sym f.3) l),
)
stands_empty secret cs i s (Hashed c) m f e l = (f.2, (new_chains c c.slot c.keys (keying_of c.keys) m e (subst (λ k. k < m.slots) (sym f.2) l), tt))
stands_empty secret cs i s (Sequenced q) m f e l = (f.1, listed_new q (slot_of q) m e (subst (λ k. k < m.slots) (sym f.1) l))

all_empty : (secret : ℕ) (cs : List Column) (is : List Index) (s : ℕ) (xs : List Structure) (m : Pooled Stored)
    → AllOpenedFor secret cs is s xs → AllEmpty xs → s + length is ≤ m.slots → AllStand xs s m (empties xs)
all_empty secret cs [] s [] m f e l = tt
all_empty secret cs [] s (x ∷ xs) m f e l = absurd f
all_empty secret cs (i ∷ is) s [] m f e l = absurd f
all_empty secret cs (i ∷ is) s (x ∷ xs) m f e l =
    let h = stands_empty secret cs i s x m f.0 e.0 (omega (arith, l)) in (h.0, h.1, all_empty secret cs is (s + 1) xs m f.1 e.1 (omega (arith, l)))

pub is_opened : (secret : ℕ) (s : Shape) (xs : List Structure) (m : Pooled Stored) → m ≡ no_nodes (length s.indexes)
    → AllOpenedFor secret s.columns s.indexes 0 xs → AllEmpty xs → IsOpened secret s m xs
is_opened secret s xs m is f e =
    let slots : m.slots ≡ length s.indexes = ap (λ (n : Pooled Stored). n.slots) is ∙ slots-no_nodes Stored (length s.indexes) in
    record { pool = is; kinds = f; stand = all_empty secret s.columns s.indexes 0 xs m f e (omega (arith, slots)) }

-- any value may be the first
room_all : (xs : List Structure) (s : ℕ) (m : Pooled Stored) (v : Stored) (t : ℕ) → AllCan (coming_in v t None) xs s m (empties xs)
room_all [] s m v t = tt
room_all (x ∷ xs) s m v t = (record { few = omega arith; place = room_one x }, room_all xs (s + 1) m v t)
  where
    room_one : (x : Structure) → HasPlaceFor x m v t None []
    room_one (Sorted u) = tt
    room_one (Hashed c) = tt
    room_one (Sequenced l) = ([], [], refl, refl)

pub first_fits : (secret : ℕ) (s : Shape) (m : Pooled Stored) (xs : List Structure) (v : Stored) (t : ℕ) → IsOpened secret s m xs → AreReady (coming_in v t None) 0 xs m
first_fits secret s m xs v t o = record { rss = empties xs; stand = o.stand; can = room_all xs 0 m v t }
