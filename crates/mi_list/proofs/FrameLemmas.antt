-- What it depends on whether a list stands: that the pool has its slot, and the references
-- and links of that slot of its own nodes. No value, no other slot, no other node.
--     listed_new      a new list stands in any pool that has its slot, without nodes
--     listed_same     a list stands in each pool where its nodes have the same links
--     listed_with_value      and after `swap_value` of any node
--     fits_again      a node that fitted between its neighbours fits again once the list is as it was
--     listed_held     its nodes are held
-- Cited by `laws::lists_stand_where_swapped`, `OrderLemmas`, `mi_index` and `test_storage`.
use Rattle.std.proofs.Common.{◌≡◌, ℕ, ◌<◌, List as Seq, [], ◌++◌, None, sym, ap, ◌∙◌, subst}
use Rattle.mi_node.specs.Pool.{Pooled, link_of, Keeps, with_value}
use Rattle.mi_node.specs.Refs.{Ref, IsOut}
use Rattle.mi_node.specs.declared.link.Link.{Link}
use Rattle.mi_node.proofs.EntryLemmas.{slots-with_value}
use Rattle.mi_node.proofs.KeepingLemmas.{SameLinks, same_with_value}
use Rattle.mi_node.specs.Neighbours.{AreHeld}
use Rattle.mi_node.proofs.NeighbourLemmas.{linked_held, linked_same}
use Rattle.mi_list.specs.Listed.{IsNew, IsListed, FitsBetween}
use Rattle.mi_list.specs.declared.list.List.{List}

module _ {T : Type 0} where
  pub listed_new : (l : List) (s : ℕ) (m : Pooled T) → IsNew l s → s < m.slots → IsListed l m []
  listed_new l s m new fits = record {
    slot_fits = subst (λ k. k < m.slots) (sym new.slot_is) fits;
    linked = tt;
    apart = tt;
    first_is = new.first_is;
    last_is = new.last_is;
  }

  pub listed_same : (l : List) (m n : Pooled T) (rs : Seq Ref) → n.slots ≡ m.slots → SameLinks m n l.slot rs → IsListed l m rs → IsListed l n rs
  listed_same l m n rs slots same h = record {
    slot_fits = subst (λ k. l.slot < k) (sym slots) h.slot_fits;
    linked = linked_same l.slot m n None rs None same h.linked;
    apart = h.apart;
    first_is = h.first_is;
    last_is = h.last_is;
  }

  pub listed_held : (l : List) (m : Pooled T) (rs : Seq Ref) → IsListed l m rs → AreHeld m rs
  listed_held l m rs h = linked_held l.slot m None rs None h.linked

  pub listed_with_value : (l : List) (m : Pooled T) (k : ℕ) (v : T) (rs : Seq Ref) → IsListed l m rs → IsListed l (with_value m k v) rs
  listed_with_value l m k v rs h = listed_same l m (with_value m k v) rs (slots-with_value m k v) (same_with_value m k v l.slot rs) h

  -- a node that left its place fits there again, once the list is as it was
  pub fits_again : (l k : List) (m n : Pooled T) (us : Seq Ref) (x : Ref) (xs ys : Seq Ref)
      → FitsBetween l m x xs ys → Keeps m n l.slot us → IsOut x.name us → k.slot ≡ l.slot → IsListed k n (xs ++ ys)
      → FitsBetween k n x xs ys
  fits_again l k m n us x xs ys h g out slot listed =
      let same : link_of n x.name k.slot ≡ link_of m x.name l.slot = ap (link_of n x.name) slot ∙ g.other_nodes x.name l.slot out in record {
        listed = listed;
        held = g.refs x.name ∙ h.held;
        out = h.out;
        back_is = ap (λ (y : Link). y.back) same ∙ h.back_is;
        forth_is = ap (λ (y : Link). y.forth) same ∙ h.forth_is;
      }
