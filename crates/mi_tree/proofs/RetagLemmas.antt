-- A tree in which a node got another value and another tag, with which it keeps its place.
-- Cited by `laws::trees_stand_where_kept` and `mi_index`.
use Rattle.std.proofs.Common.{◌≡◌, ◌==◌, ℕ, ◌<◌, true, false, List, [], ◌∷◌, ◌++◌, Option, Some, refl, sym, ap, ◌∙◌, subst}
use Rattle.std.specs.declared.cmp.Ordering.{Ordering}
use Rattle.std.specs.declared.cmp.Ordering.TheVariants.{Less, Greater}
use Rattle.std.specs.Cmp.{IsTotalOrder}
use Rattle.mi_node.specs.Pool.{Pooled, link_of}
use Rattle.mi_node.specs.Refs.{Ref, IsOut}
use Rattle.mi_node.specs.declared.link.Link.{Link}
use Rattle.mi_node.proofs.EntryLemmas.{same_name}
use Rattle.mi_node.proofs.RefLemmas.{out_left, out_right, apart_remove}
use Rattle.mi_tree.specs.BinaryTree.{BinaryTree, Tip, Fork, Stands}
use Rattle.mi_tree.specs.Keeping.{retagged, side_of_item, IsRevalued, StandsWhereKept}
use Rattle.mi_tree.specs.Sorted.{AllAre, Rising, IsTagOf, HasTag, AreTagged, by_stamp, stamped, compared, item_of, side}
use Rattle.mi_tree.proofs.SortedLemmas.{side_order, side_kept, item_kept, has_tag_kept, tagged_left, tagged_right, tagged_both, rising_both}
use Rattle.mi_tree.proofs.StandingLemmas.{rising_less}

module _ {T : Type 0} (order : T → T → Ordering) (tag : T → ℕ) (m n : Pooled T) (s : ℕ) (x : Ref) (v : T) (stamp : ℕ)
    (k : IsRevalued tag m n s x v stamp) where
  -- no link differs but in its tag
  link_like : (r : Ref) → link_of n r.name s ≡ retagged (link_of n r.name s).tag (link_of m r.name s)
  link_like r = (elim (x.name == r.name)
      as (λ b. (x.name == r.name) ≡ b → link_of n r.name s ≡ retagged (link_of n r.name s).tag (link_of m r.name s)) [
        | true ↦ λ e. subst (λ q. link_of n q s ≡ retagged (link_of n q s).tag (link_of m q s)) (same_name x.name r.name e)
            (k.link ∙ ap (λ (z : Link). retagged z.tag (link_of m x.name s)) (sym k.link))
        | false ↦ λ e. k.links r.name e ∙ ap (λ (z : Link). retagged z.tag (link_of m r.name s)) (sym (k.links r.name e))
      ]) refl

  still : (t : BinaryTree) → Stands m s t → Stands n s t
  still Tip h = tt
  still (Fork l r q) h = (k.refs r.name ∙ h.0, link_like r ∙ ap (retagged (link_of n r.name s).tag) h.1, still l h.2, still q h.3)

  other_tag : (r : Ref) → (x.name == r.name) ≡ false → (link_of n r.name s).tag ≡ (link_of m r.name s).tag
  other_tag r e = ap (λ (z : Link). z.tag) (k.links r.name e)

  other_item : (r : Ref) → (x.name == r.name) ≡ false → item_of n s r.name ≡ item_of m s r.name
  other_item r e = item_kept m n s r.name (k.values r.name e) (other_tag r e)

  other_all : (r : Ref) (rs : List Ref) → (x.name == r.name) ≡ false → IsOut x.name rs → AllAre (side order m s r) Less rs → AllAre (side order n s r) Less rs
  other_all r [] e o h = tt
  other_all r (a ∷ rs) e o h = (side_kept order m n s r a (other_item r e) (other_item a o.0) ∙ h.0, other_all r rs e o.1 h.1)

  other_rising : (rs : List Ref) → IsOut x.name rs → Rising (side order m s) rs → Rising (side order n s) rs
  other_rising [] o h = tt
  other_rising (r ∷ rs) o h = (other_all r rs o.0 o.1 h.0, other_rising rs o.1 h.1)

  other_tagged : (rs : List Ref) → IsOut x.name rs → AreTagged tag m s rs → AreTagged tag n s rs
  other_tagged [] o h = tt
  other_tagged (r ∷ rs) o h = (has_tag_kept tag m n s r (k.values r.name o.0) (other_tag r o.0) h.0, other_tagged rs o.1 h.1)

  own_tag : HasTag tag n s x
  own_tag = subst (λ (z : Option T × Link). IsTagOf tag z.0 z.1.tag.key) (λ i. (sym k.value i, sym k.link i)) refl

  own_item : item_of n s x.name ≡ Some (v, stamp)
  unfolding item_of
  own_item = λ i. stamped (k.value i) (k.link i).tag.stamp

  own_side : (r : Ref) → (x.name == r.name) ≡ false → side order n s x r ≡ side_of_item order m s v stamp r
  unfolding side
  own_side r e = λ i. compared (by_stamp order) (own_item i) (other_item r e i)

  own_all : (o : Ordering) (rs : List Ref) → IsOut x.name rs → AllAre (side_of_item order m s v stamp) o rs → AllAre (side order n s x) o rs
  own_all o [] out h = tt
  own_all o (r ∷ rs) out h = (own_side r out.0 ∙ h.0, own_all o rs out.1 h.1)

pub tree_kept : {T O : Type 0} (order : T → T → Ordering) (tag : T → ℕ) → IsTotalOrder order → StandsWhereKept T O order tag
tree_kept order tag total l m n xs x ys v stamp h p k =
    let s = l.slot in
    let out = (apart_remove xs x ys h.apart).1 in
    let front = out_left x.name xs ys out in let back = out_right x.name xs ys out in
    record {
      shape = h.shape;
      rooted = record { root = h.rooted.root; stands = still order tag m n s x v stamp k h.shape h.rooted.stands };
      even = h.even;
      nodes_are = h.nodes_are;
      apart = h.apart;
      rising = rising_both (side order n s) (side_order order n s total) xs ys x
          (other_rising order tag m n s x v stamp k (xs ++ ys) out (rising_less (side order m s) xs x ys h.rising))
          (own_all order tag m n s x v stamp k Greater xs front p.below) (own_all order tag m n s x v stamp k Less ys back p.above);
      tagged = tagged_both tag n s xs (x ∷ ys)
          (other_tagged order tag m n s x v stamp k xs front (tagged_left tag m s xs (x ∷ ys) h.tagged))
          (own_tag order tag m n s x v stamp k, other_tagged order tag m n s x v stamp k ys back (tagged_right tag m s xs (x ∷ ys) h.tagged).1);
      fits = h.fits;
      has_slot = subst (λ z. s < z) (sym k.slots) h.has_slot;
    }
