-- Where a tree stands, for callers.
--     tree_empty      a new tree
--     tree_where      a tree in another pool, or in its own after other calls, where its nodes are alike to it
--     tree_swapped      a tree after a value was exchanged for one of an equal key
--     tree_listed      the list that a tree is, by its links
-- Cited by `laws::new_trees_are_empty`, `laws::trees_are_listed`, `laws::trees_stand_where_alike`, 1 more, `mi_index` and `test_storage`.
use Rattle.std.proofs.Common.{◌≡◌, ◌==◌, true, false, ℕ, zero, suc, ◌<◌, ◌≤◌, inl, inr, cond}
use Rattle.std.proofs.Common.{option_map, List, [], ◌∷◌, ◌++◌, Some, refl, sym, ap, ◌∙◌, subst, arith}
use Rattle.std.specs.declared.cmp.Ordering.{Ordering}
use Rattle.std.specs.declared.cmp.Ordering.TheVariants.{Less, Equal}
use Rattle.std.specs.Cmp.{IsTotalOrder}
use Rattle.std.specs.Ordering.{nat_cmp, ordering_then}
use Rattle.std.proofs.lemmas.Cmp.{tied_itself, tied_back, alike_right, nat_cmp_total}
use Rattle.mi_node.specs.Neighbours.{AreHeld}
use Rattle.mi_node.specs.Pool.{Pooled, value_of, link_of, with_value, IsHeld, Keeps}
use Rattle.mi_node.specs.Refs.{Ref}
use Rattle.mi_node.specs.declared.link.Link.{Link}
use Rattle.mi_node.proofs.EntryLemmas.{held_has, same_name, value-with_value, value_there, ref-with_value, link-with_value, slots-with_value}
use Rattle.mi_tree.specs.Order.{IsTagBelow}
use Rattle.mi_tree.specs.BinaryTree.{BinaryTree, Tip, Fork, nodes, top, height, fork_link, Stands}
use Rattle.mi_tree.specs.Sorted.{AllAre, Rising, IsTagOf, HasTag, AreTagged, by_stamp, stamped, compared, item_of, side}
use Rattle.mi_tree.specs.Standing.{IsTree}
use Rattle.mi_tree.specs.declared.tree.Tree.{Tree}
use Rattle.mi_tree.specs.Frame.{IsAlike, AreAlike, listed_in, listed, StandsWhereAlike, StandsWhereSwapped, ListsNodes, StandsEmpty}
use Rattle.mi_tree.proofs.BinaryTreeLemmas.{height-root, all_held}
use Rattle.mi_tree.proofs.SortedLemmas.{by_stamp_total}
use Rattle.mi_tree.proofs.JoinLemmas.{link_kept}
use Rattle.mi_tree.proofs.HeightLemmas.{at_most_or_more}

module _ {T : Type 0} (order : T → T → Ordering) (tag : T → ℕ) (total : IsTotalOrder order) (below : IsTagBelow order tag) where
  less_tied : Less ≡ Equal → ⊥
  less_tied e = cc

  -- equal keys have one tag
  same_tag : (x y : T) → order x y ≡ Equal → tag x ≡ tag y
  same_tag x y e = elim (at_most_or_more (tag x) (tag y)) [
    | inl h ↦ elim (at_most_or_more (tag y) (tag x)) [
      | inl k ↦ omega arith
      | inr k ↦ absurd (less_tied (sym (below x y (omega arith)) ∙ e))
    ]
    | inr h ↦ absurd (less_tied (sym (below y x (omega arith)) ∙ tied_back total x y e))
  ]

  side_at : (m : Pooled T) (s : ℕ) (a b : Ref) (x y : T) → value_of m a.name ≡ Some x → value_of m b.name ≡ Some y
      → side order m s a b ≡ by_stamp order (x, (link_of m a.name s).tag.stamp) (y, (link_of m b.name s).tag.stamp)
  unfolding side item_of
  side_at m s a b x y e f = λ i. compared (by_stamp order) (stamped (e i) (link_of m a.name s).tag.stamp) (stamped (f i) (link_of m b.name s).tag.stamp)

  tied_item : (x y : T) (i j : ℕ) → order x y ≡ Equal → j ≡ i → by_stamp order (x, i) (y, j) ≡ Equal
  tied_item x y i j e f = ap (λ z. ordering_then z (nat_cmp i j)) e ∙ ap (nat_cmp i) f ∙ tied_itself nat_cmp_total i

  module _ (m n : Pooled T) (s : ℕ) where
    alike_side : (a b : Ref) → IsAlike order m n s a → IsAlike order m n s b → IsHeld m a → IsHeld m b → side order n s a b ≡ side order m s a b
    alike_side a b ya yb ha hb =
        let va = held_has m a ha in let vb = held_has m b hb in let wa = held_has n a (ya.ref ∙ ha) in let wb = held_has n b (yb.ref ∙ hb) in
        let ea : order va.0 wa.0 ≡ Equal = (λ i. compared order (sym va.1 i) (sym wa.1 i)) ∙ ya.value in
        let eb : order vb.0 wb.0 ≡ Equal = (λ i. compared order (sym vb.1 i) (sym wb.1 i)) ∙ yb.value in
        let ia = (link_of m a.name s).tag.stamp in let ib = (link_of m b.name s).tag.stamp in let ja = (link_of n a.name s).tag.stamp in
        let jb = (link_of n b.name s).tag.stamp in
        let fa = tied_item va.0 wa.0 ia ja ea (ap (λ (y : Link). y.tag.stamp) ya.link) in
        let fb = tied_item vb.0 wb.0 ib jb eb (ap (λ (y : Link). y.tag.stamp) yb.link) in
        let whole = by_stamp_total order total in
        side_at n s a b wa.0 wb.0 wa.1 wb.1 ∙ sym (alike_right whole (vb.0, ib) (wb.0, jb) (wa.0, ja) fb)
        ∙ sym (whole.congr (va.0, ia) (wa.0, ja) (vb.0, ib) fa) ∙ sym (side_at m s a b va.0 vb.0 va.1 vb.1)

    alike_all : (r : Ref) (rs : List Ref) → IsAlike order m n s r → IsHeld m r → AreAlike order m n s rs
        → AreHeld m rs → AllAre (side order m s r) Less rs → AllAre (side order n s r) Less rs
    alike_all r [] y h ys hs a = tt
    alike_all r (q ∷ rs) y h ys hs a = (alike_side r q y ys.0 h hs.0 ∙ a.0, alike_all r rs y h ys.1 hs.1 a.1)

    alike_rising : (rs : List Ref) → AreAlike order m n s rs → AreHeld m rs → Rising (side order m s) rs → Rising (side order n s) rs
    alike_rising [] ys hs h = tt
    alike_rising (r ∷ rs) ys hs h = (alike_all r rs ys.0 hs.0 ys.1 hs.1 h.0, alike_rising rs ys.1 hs.1 h.1)

    alike_tag : (r : Ref) → IsAlike order m n s r → IsHeld m r → HasTag tag m s r → HasTag tag n s r
    alike_tag r y h t =
        let v = held_has m r h in let w = held_has n r (y.ref ∙ h) in let e : order v.0 w.0 ≡ Equal = (λ i. compared order (sym v.1 i) (sym w.1 i)) ∙ y.value in
        let was : (link_of m r.name s).tag.key ≡ tag v.0 = subst (λ z. IsTagOf tag z (link_of m r.name s).tag.key) v.1 t in
        subst (λ z. IsTagOf tag z (link_of n r.name s).tag.key) (sym w.1) (ap (λ (z : Link). z.tag.key) y.link ∙ was ∙ same_tag v.0 w.0 e)

    alike_tagged : (rs : List Ref) → AreAlike order m n s rs → AreHeld m rs → AreTagged tag m s rs → AreTagged tag n s rs
    alike_tagged [] ys hs h = tt
    alike_tagged (r ∷ rs) ys hs h = (alike_tag r ys.0 hs.0 h.0, alike_tagged rs ys.1 hs.1 h.1)

module _ {T : Type 0} (order : T → T → Ordering) (m n : Pooled T) (s : ℕ) where
  alike_left : (xs ys : List Ref) → AreAlike order m n s (xs ++ ys) → AreAlike order m n s xs
  alike_left [] ys h = tt
  alike_left (x ∷ xs) ys h = (h.0, alike_left xs ys h.1)

  alike_rest : (xs ys : List Ref) → AreAlike order m n s (xs ++ ys) → AreAlike order m n s ys
  alike_rest [] ys h = h
  alike_rest (x ∷ xs) ys h = alike_rest xs ys h.1

  alike_stands : (t : BinaryTree) → AreAlike order m n s (nodes t) → Stands m s t → Stands n s t
  alike_stands Tip y h = tt
  alike_stands (Fork l r q) y h =
      let right = alike_rest (nodes l) (r ∷ nodes q) y in (
        right.0.ref ∙ h.0,
        link_kept m n s r (fork_link l q) right.0.link h.1,
        alike_stands l (alike_left (nodes l) (r ∷ nodes q) y) h.2,
        alike_stands q right.1 h.3,
      )

module _ {T : Type 0} (m : Pooled T) (s : ℕ) where
  listed_nodes : (t : BinaryTree) (levels : ℕ) → height t ≤ levels → Stands m s t → listed_in m s levels (top t) ≡ nodes t
  listed_nodes Tip zero h w = refl
  listed_nodes Tip (suc k) h w = refl
  listed_nodes (Fork l r q) zero h w = absurd (omega arith)
  listed_nodes (Fork l r q) (suc k) h w =
      let back : (link_of m r.name s).back ≡ top l = ap (λ (y : Link). y.back) w.1 in
      let forth : (link_of m r.name s).forth ≡ top q = ap (λ (y : Link). y.forth) w.1 in
      let left = ap (listed_in m s k) back ∙ listed_nodes l k (omega arith) w.2 in
      let right = ap (listed_in m s k) forth ∙ listed_nodes q k (omega arith) w.3 in
      λ i. left i ++ r ∷ right i

module _ {T : Type 0} where
  alike_kept : (order : T → T → Ordering) → IsTotalOrder order → (m n : Pooled T) (s k : ℕ) (us rs : List Ref)
      → Keeps m n s us → (s == k) ≡ false → AreHeld m rs → AreAlike order m n k rs
  alike_kept order total m n s k us [] g e h = tt
  alike_kept order total m n s k us (r ∷ rs) g e h =
      let v = held_has m r h.0 in (
        record {
          ref = g.refs r.name;
          link = g.other_slots r.name k e;
          value = (λ i. compared order (v.1 i) ((g.values r.name ∙ v.1) i)) ∙ tied_itself total v.0;
        },
        alike_kept order total m n s k us rs g e h.1,
      )

module _ {T : Type 0} where
  value_now : (m : Pooled T) (k : ℕ) (v : T) (q : ℕ) (old : T) → (k == q) ≡ true → value_of m q ≡ Some old → value_of (with_value m k v) q ≡ Some v
  value_now m k v q old is e = value-with_value m k v q ∙ (λ i. cond (is i) (option_map (λ (_ : T). v) (e i)) (e i))

  -- a value exchanged for one of an equal key
  value_swapped : (order : T → T → Ordering) → IsTotalOrder order → (m : Pooled T) (k q : ℕ) (old new v : T)
      → value_of m k ≡ Some old → order old new ≡ Equal → value_of m q ≡ Some v
      → compared order (value_of m q) (value_of (with_value m k new) q) ≡ Equal
  value_swapped order total m k q old new v e f g = (elim (k == q)
      as (λ b. (k == q) ≡ b → compared order (value_of m q) (value_of (with_value m k new) q) ≡ Equal) [
        | true ↦ λ is.
            let at = same_name k q is in
            (λ i. compared order ((ap (value_of m) (sym at) ∙ e) i) ((value_now m k new q old is (ap (value_of m) (sym at) ∙ e)) i)) ∙ f
        | false ↦ λ is. (λ i. compared order (g i) ((value_there m k new q is ∙ g) i)) ∙ tied_itself total v
      ]) refl

  alike_swapped : (order : T → T → Ordering) → IsTotalOrder order → (m : Pooled T) (k : ℕ) (old new : T) (s : ℕ) (rs : List Ref)
      → value_of m k ≡ Some old → order old new ≡ Equal → AreHeld m rs
      → AreAlike order m (with_value m k new) s rs
  alike_swapped order total m k old new s [] e f h = tt
  alike_swapped order total m k old new s (r ∷ rs) e f h = let v = held_has m r h.0 in (
    record { ref = ref-with_value m k new r.name; link = link-with_value m k new r.name s; value = value_swapped order total m k r.name old new v.0 e f v.1 },
    alike_swapped order total m k old new s rs e f h.1,
  )

module _ {T O : Type 0} where
  pub tree_empty : StandsEmpty T O
  tree_empty l m order tag e f = record {
    shape = Tip;
    rooted = record { root = e; stands = tt };
    even = tt;
    nodes_are = refl;
    apart = tt;
    rising = tt;
    tagged = tt;
    fits = omega arith;
    has_slot = f;
  }

  tree_held : (l : Tree O) (m : Pooled T) (order : T → T → Ordering) (tag : T → ℕ) (rs : List Ref) → IsTree l m order tag rs → AreHeld m rs
  tree_held l m order tag rs h = subst (AreHeld m) h.nodes_are (all_held m l.slot h.shape h.rooted.stands)

  pub tree_where : (order : T → T → Ordering) (tag : T → ℕ) → IsTotalOrder order → IsTagBelow order tag → StandsWhereAlike T O order tag
  tree_where order tag total below l m n rs h y f = let same = sym h.nodes_are in let held = tree_held l m order tag rs h in record {
    shape = h.shape;
    rooted = record { root = h.rooted.root; stands = alike_stands order m n l.slot h.shape (subst (AreAlike order m n l.slot) same y) h.rooted.stands };
    even = h.even;
    nodes_are = h.nodes_are;
    apart = h.apart;
    rising = alike_rising order tag total below m n l.slot rs y held h.rising;
    tagged = alike_tagged order tag total below m n l.slot rs y held h.tagged;
    fits = h.fits;
    has_slot = f;
  }

  pub tree_swapped : (order : T → T → Ordering) (tag : T → ℕ) → IsTotalOrder order → IsTagBelow order tag → StandsWhereSwapped T O order tag
  tree_swapped order tag total below l m rs x old new h e f =
      tree_where order tag total below l m (with_value m x.name new) rs h
      (alike_swapped order total m x.name old new l.slot rs e f (tree_held l m order tag rs h))
      (subst (λ k. l.slot < k) (sym (slots-with_value m x.name new)) h.has_slot)

  pub tree_listed : ListsNodes T O
  unfolding listed
  tree_listed l m order tag rs h =
      let e = height-root m l.slot l.root h.shape h.rooted in
      (λ i. listed_in m l.slot (e i) (h.rooted.root i)) ∙ listed_nodes m l.slot h.shape (height h.shape) (omega arith) h.rooted.stands ∙ h.nodes_are
