-- Pools that differ in one node alone.
--     AgreeBut      references, values and links of all other names are the same
--     stands_but, all_but      structures without that node stand
--     place_seen, gap_seen      where the node may come in, seen by a value
-- Cited by `Nodes::free`, `Nodes::rekey`, `Nodes::rekey_back`, `Nodes::restamp`, `InsertLemmas` and 4 more.
use Rattle.std.proofs.Common.{◌≡◌, ℕ, ◌+◌, ◌<◌, ◌==◌, Bool, false, cond, List, [], ◌∷◌, Option, Some, None, refl, sym, ap, ◌∙◌, subst}
use Rattle.std.specs.List.{filter}
use Rattle.std.specs.declared.cmp.Ordering.{Ordering}
use Rattle.std.specs.declared.cmp.Ordering.TheVariants.{Equal}
use Rattle.mi_node.specs.Pool.{Pooled, ref_of, value_of, link_of, no_link, taken, without, with_value}
use Rattle.mi_node.specs.Refs.{Ref, first_of, last_of, IsOut, IsApart}
use Rattle.mi_node.specs.Neighbours.{AreHeld}
use Rattle.mi_node.specs.declared.link.Tag.{Tag}
use Rattle.mi_node.proofs.RefLemmas.{out_left, out_right}
use Rattle.mi_node.proofs.EntryLemmas.{slots-taken, ref-taken, value-taken, link-taken, slots-without, ref-without, value-without}
use Rattle.mi_node.proofs.EntryLemmas.{link-without, slots-with_value, ref-with_value, value_there, link-with_value}
use Rattle.mi_node.proofs.KeepingLemmas.{absent_out}
use Rattle.mi_list.proofs.FrameLemmas.{listed_held}
use Rattle.mi_tree.specs.Sorted.{NoneAre, compared, by_stamp, stamped, item_of, side_of_new}
use Rattle.mi_tree.specs.Frame.{AreAlike}
use Rattle.mi_tree.proofs.BinaryTreeLemmas.{all_held}
use Rattle.mi_chain.specs.Keying.{stamp_at, same_nodes, same_values}
use Rattle.mi_chain.specs.declared.chains.Chains.{Chains}
use Rattle.mi_order.specs.Orders.{stored_order, keying_of, has_one_key}
use Rattle.mi_index.specs.Standing.{slot_in, swap_order, AllAbove, AllBelow, Stands}
use Rattle.mi_index.specs.Places.{NoneHas, HasPlace, HasOldPlace}
use Rattle.mi_index.specs.Pass.{AllStand, IsOutOfAll}
use Rattle.mi_index.specs.Rekeying.{side_of_value, has_key_of, HasPlaceFor, HasOldPlaceFor}
use Rattle.mi_order.specs.declared.stored.Stored.{Stored}
use Rattle.mi_order.specs.declared.orders.ByHash.{ByHash}
use Rattle.mi_node.specs.declared.old_place.OldPlace.{OldPlace}
use Rattle.mi_index.specs.declared.structure.Structure.{Structure}
use Rattle.mi_index.specs.declared.structure.Structure.TheVariants.{Sorted, Hashed, Sequenced}
use Rattle.mi_index.proofs.FrameLemmas.{stands_alike, itself}

pub record AgreeBut (k : ℕ) (m n : Pooled Stored) : Type 0 where
  pub refs : (q : ℕ) → (k == q) ≡ false → ref_of n q ≡ ref_of m q
  pub values : (q : ℕ) → (k == q) ≡ false → value_of n q ≡ value_of m q
  pub links : (q t : ℕ) → (k == q) ≡ false → link_of n q t ≡ link_of m q t
  pub slots : n.slots ≡ m.slots

pub but_taken : (m : Pooled Stored) (r : Ref) (v : Stored) → AgreeBut r.name m (taken m r v)
but_taken m r v = record {
  refs = λ q e. ref-taken m r v q ∙ ap (λ b. cond b (Some r) (ref_of m q)) e;
  values = λ q e. value-taken m r v q ∙ ap (λ b. cond b (Some v) (value_of m q)) e;
  links = λ q t e. link-taken m r v q t ∙ ap (λ b. cond b no_link (link_of m q t)) e;
  slots = slots-taken m r v;
}

pub but_without : (m : Pooled Stored) (k : ℕ) → AgreeBut k m (without m k)
but_without m k = record {
  refs = λ q e. ref-without m k q ∙ ap (λ b. cond b None (ref_of m q)) e;
  values = λ q e. value-without m k q ∙ ap (λ b. cond b None (value_of m q)) e;
  links = λ q t e. link-without m k q t ∙ ap (λ b. cond b no_link (link_of m q t)) e;
  slots = slots-without m k;
}

pub but_value : (m : Pooled Stored) (k : ℕ) (v : Stored) → AgreeBut k m (with_value m k v)
but_value m k v = record {
  refs = λ q e. ref-with_value m k v q;
  values = λ q e. value_there m k v q e;
  links = λ q t e. link-with_value m k v q t;
  slots = slots-with_value m k v;
}

-- o is n with another value of the node r, and maybe other links of it
pub record IsExchanged (r : Ref) (v : Stored) (n o : Pooled Stored) : Type 0 where
  pub refs : (k : ℕ) → ref_of o k ≡ ref_of n k
  pub own : value_of o r.name ≡ Some v
  pub but : AgreeBut r.name n o

alike_but : (x : Structure) (k : ℕ) (m n : Pooled Stored) (rs : List Ref) → AgreeBut k m n → IsOut k rs → AreAlike (swap_order x) m n (slot_in x) rs
alike_but x k m n [] a o = tt
alike_but x k m n (q ∷ rs) a o = (
  record {
    ref = a.refs q.name o.0;
    link = a.links q.name (slot_in x) o.0;
    value = ap (compared (swap_order x) (value_of m q.name)) (a.values q.name o.0) ∙ itself x (value_of m q.name);
  },
  alike_but x k m n rs a o.1,
)

pub stands_but : (x : Structure) (k : ℕ) (m n : Pooled Stored) (rs : List Ref) → AgreeBut k m n → IsOut k rs → Stands x m rs → Stands x n rs
stands_but x k m n rs a o h = stands_alike x m n rs a.slots (alike_but x k m n rs a o) h

pub all_but : (xs : List Structure) (s k : ℕ) (m n : Pooled Stored) (rss : List (List Ref))
    → AgreeBut k m n → IsOutOfAll k rss → AllStand xs s m rss → AllStand xs s n rss
all_but [] s k m n [] a o h = tt
all_but [] s k m n (rs ∷ rss) a o h = absurd h
all_but (x ∷ xs) s k m n [] a o h = absurd h
all_but (x ∷ xs) s k m n (rs ∷ rss) a o h = (h.0, stands_but x k m n rs a o.0 h.1, all_but xs (s + 1) k m n rss a o.1 h.2)

-- nodes of structures are held, each once

pub nodes_held : (x : Structure) (m : Pooled Stored) (rs : List Ref) → Stands x m rs → AreHeld m rs
nodes_held (Sorted t) m rs h = subst (AreHeld m) h.nodes_are (all_held m t.slot h.shape h.rooted.stands)
nodes_held (Hashed c) m rs h = h.0.buckets.held
nodes_held (Sequenced l) m rs h = listed_held l m rs h

pub nodes_apart : (x : Structure) (m : Pooled Stored) (rs : List Ref) → Stands x m rs → IsApart rs
nodes_apart (Sorted t) m rs h = h.apart
nodes_apart (Hashed c) m rs h = h.0.buckets.apart
nodes_apart (Sequenced l) m rs h = h.apart

pub out_of_one : (x : Structure) (m : Pooled Stored) (k : ℕ) (rs : List Ref) → ref_of m k ≡ None → Stands x m rs → IsOut k rs
out_of_one x m k rs none h = absent_out m k rs none (nodes_held x m rs h)

pub out_of_all : (xs : List Structure) (s : ℕ) (m : Pooled Stored) (k : ℕ) (rss : List (List Ref)) → ref_of m k ≡ None → AllStand xs s m rss → IsOutOfAll k rss
out_of_all [] s m k [] none h = tt
out_of_all [] s m k (rs ∷ rss) none h = absurd h
out_of_all (x ∷ xs) s m k [] none h = absurd h
out_of_all (x ∷ xs) s m k (rs ∷ rss) none h = (out_of_one x m k rs none h.1, out_of_all xs (s + 1) m k rss none h.2)

-- the tags of all other nodes are the same; lists have none
abbrev pub OtherTags : Structure → ℕ → Pooled Stored → Pooled Stored → Type 0
OtherTags (Sorted t) k m n = (q : ℕ) → (k == q) ≡ false → (link_of n q t.slot).tag ≡ (link_of m q t.slot).tag
OtherTags (Hashed c) k m n = (q : ℕ) → (k == q) ≡ false → (link_of n q c.slot).tag ≡ (link_of m q c.slot).tag
OtherTags (Sequenced l) k m n = Unit {0}

-- what holds of functions that are alike for all other nodes
module _ (k : ℕ) where
  none_on : (f g : Ref → Ordering) (o : Ordering) (rs : List Ref)
      → ((q : Ref) → (k == q.name) ≡ false → g q ≡ f q) → IsOut k rs → NoneAre f o rs → NoneAre g o rs
  none_on f g o [] same out h = tt
  none_on f g o (q ∷ rs) same out h = ((λ e. h.0 (sym (same q out.0) ∙ e)), none_on f g o rs same out.1 h.1)

  has_on : (f g : Ref → ℕ) (t : ℕ) (rs : List Ref) → ((q : Ref) → (k == q.name) ≡ false → g q ≡ f q) → IsOut k rs → NoneHas f t rs → NoneHas g t rs
  has_on f g t [] same out h = tt
  has_on f g t (q ∷ rs) same out h = ((λ e. h.0 (e ∙ same q out.0)), has_on f g t rs same out.1 h.1)

  below_on : (f g : Ref → ℕ) (t : ℕ) (rs : List Ref) → ((q : Ref) → (k == q.name) ≡ false → g q ≡ f q) → IsOut k rs → AllBelow f t rs → AllBelow g t rs
  below_on f g t [] same out h = tt
  below_on f g t (q ∷ rs) same out h = (subst (λ z. z < t) (sym (same q out.0)) h.0, below_on f g t rs same out.1 h.1)

  above_on : (f g : Ref → ℕ) (t : ℕ) (rs : List Ref) → ((q : Ref) → (k == q.name) ≡ false → g q ≡ f q) → IsOut k rs → AllAbove f t rs → AllAbove g t rs
  above_on f g t [] same out h = tt
  above_on f g t (q ∷ rs) same out h = (subst (λ z. t < z) (sym (same q out.0)) h.0, above_on f g t rs same out.1 h.1)

  filter_on : (f g : Ref → Bool) (rs : List Ref) → ((q : Ref) → (k == q.name) ≡ false → g q ≡ f q) → IsOut k rs → filter g rs ≡ filter f rs
  filter_on f g [] same out = refl
  filter_on f g (q ∷ rs) same out = λ i. cond (same q out.0 i) (q ∷ filter_on f g rs same out.1 i) (filter_on f g rs same out.1 i)

-- the node r has the value v in n, and all other nodes have there the values that they have in m
module _ (m n : Pooled Stored) (r : Ref) (v : Stored) (own : value_of n r.name ≡ Some v)
    (values : (q : ℕ) → (r.name == q) ≡ false → value_of n q ≡ value_of m q) where
  side_seen : (order : Stored → Stored → Ordering) (s t : ℕ)
      → ((q : ℕ) → (r.name == q) ≡ false → (link_of n q s).tag ≡ (link_of m q s).tag) → (q : Ref) → (r.name == q.name) ≡ false
      → side_of_new order n s r t q ≡ side_of_value order m s v t q
  unfolding side_of_new item_of
  side_seen order s t tags q e = λ i. compared (by_stamp order) (stamped (own i) t) (stamped (values q.name e i) (tags q.name e i).stamp)

  pub place_seen : (x : Structure) (t : ℕ) (b : Option Ref) (rs : List Ref)
      → OtherTags x r.name m n → IsOut r.name rs → HasPlaceFor x m v t b rs → HasPlace x n r t b rs
  place_seen (Sorted u) t b rs tags out h = none_on r.name (side_of_value (stored_order u.order.parts) m u.slot v t)
      (side_of_new (stored_order u.order.parts) n u.slot r t) Equal rs (side_seen (stored_order u.order.parts) u.slot t tags) out h
  place_seen (Hashed c) t b rs tags out h = has_on r.name (stamp_at m c.slot) (stamp_at n c.slot) t rs (λ q e. ap (λ (z : Tag). z.stamp) (tags q.name e)) out h
  place_seen (Sequenced l) t b rs tags out h = h

  key_seen : (c : Chains ByHash) (q : Ref) → (r.name == q.name) ≡ false → same_nodes (keying_of c.keys) n r q ≡ has_key_of c m v q
  unfolding same_nodes
  key_seen c q e = λ i. same_values (has_one_key c.keys.parts) (own i) (values q.name e i)

  pub old_place_seen : (x : Structure) (p : OldPlace) (rs : List Ref) → OtherTags x r.name m n
      → IsOut r.name rs → HasOldPlaceFor x m v p rs → HasOldPlace x n r p rs
  old_place_seen (Sorted u) p rs tags out h =
      none_on r.name (side_of_value (stored_order u.order.parts) m u.slot v p.stamp) (side_of_new (stored_order u.order.parts) n u.slot r p.stamp)
      Equal rs (side_seen (stored_order u.order.parts) u.slot p.stamp tags) out h
  old_place_seen (Hashed c) p rs tags out h =
      let o = subst (IsOut r.name) h.parts out in
      let left = out_left r.name h.xs h.ys o in let right = out_right r.name h.xs h.ys o in
      let stamps : (q : Ref) → (r.name == q.name) ≡ false → stamp_at n c.slot q ≡ stamp_at m c.slot q = λ q e. ap (λ (z : Tag). z.stamp) (tags q.name e) in
      record {
        xs = h.xs;
        ys = h.ys;
        parts = h.parts;
        below = below_on r.name (stamp_at m c.slot) (stamp_at n c.slot) p.stamp h.xs stamps left h.below;
        above = above_on r.name (stamp_at m c.slot) (stamp_at n c.slot) p.stamp h.ys stamps right h.above;
        beside = (
          h.back_is ∙ ap (last_of None) (sym (filter_on r.name (has_key_of c m v) (same_nodes (keying_of c.keys) n r) h.xs (key_seen c) left)),
          h.forth_is ∙ ap (λ l. first_of l None) (sym (filter_on r.name (has_key_of c m v) (same_nodes (keying_of c.keys) n r) h.ys (key_seen c) right)),
        );
      }
  old_place_seen (Sequenced l) p rs tags out h = absurd h
