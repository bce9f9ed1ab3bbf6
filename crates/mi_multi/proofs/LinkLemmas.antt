-- What a node that left remembers in each index, and which tags stay in a pass.
-- Cited by `EraseLemmas` and `RoomLemmas`.
use Rattle.std.proofs.Common.{◌≡◌, ℕ, ◌+◌, suc, true, List, [], ◌∷◌, ◌++◌, get_or, refl, ap, sym, ◌∙◌, subst, arith}
use Rattle.std.specs.List.{filter}
use Rattle.std.specs.Ordering.{nat_cmp}
use Rattle.std.specs.FinMap.{FinMap, get}
use Rattle.std.proofs.lemmas.Bool.{false≢true}
use Rattle.std.specs.declared.option.Option.{Option}
use Rattle.std.specs.declared.option.Option.TheVariants.{None, Some}
use Rattle.mi_value.specs.declared.compare.KeyPart.{KeyPart}
use Rattle.mi_catalog.specs.declared.index.Index.{Index}
use Rattle.mi_catalog.specs.Kinds.{is_hashed, is_sequenced}
use Rattle.mi_catalog.specs.Shape.{Shape}
use Rattle.mi_node.specs.Pool.{Pooled, value_of, link_of}
use Rattle.mi_node.specs.Refs.{Ref, first_of, last_of}
use Rattle.mi_node.specs.declared.link.Tag.{Tag}
use Rattle.mi_chain.specs.Keying.{same_nodes, stamp_at}
use Rattle.mi_order.specs.declared.stored.Stored.{Stored}
use Rattle.mi_index.specs.declared.structure.Structure.{Structure}
use Rattle.mi_index.specs.declared.structure.Structure.TheVariants.{Sorted, Hashed, Sequenced}
use Rattle.mi_index.specs.declared.moved_indexes.MovedIndexes.TheVariants.{All}
use Rattle.mi_index.specs.Orders.{keying_of}
use Rattle.mi_order.specs.declared.orders.ByHash.{ByHash as HashedBy}
use Rattle.mi_index.specs.Standing.{slot_in, Climb}
use Rattle.mi_index.specs.Places.{KeepsTags}
use Rattle.mi_index.specs.Pass.{Gives}
use Rattle.mi_index.specs.Passes.{left}
use Rattle.mi_container.specs.Data.{Node, Link, Order, has_stamps, ids_by_stamp, content_of, IsData}
use Rattle.mi_container.specs.Data.Order.{ById, ByHash, Listed}
use Rattle.mi_container.specs.Changes.{sorted_order, link_in, links_from, link_of_id as link_at, group}
use Rattle.mi_ids.specs.declared.entry.IdEntry.{IdEntry}
use Rattle.mi_multi.specs.Physical.{order_of, orders_of, plan, neighbours_in, all_neighbours}
use Rattle.mi_multi.specs.Alike.{SaysSame}
use Rattle.mi_multi.specs.Multi.{ids_at, own_list, own_lists, IsFor, AreLive, HasNode, plain_of}
use Rattle.mi_multi.proofs.EveryIndexLemmas.{Turned, Every, one, none, At, at, at_stamps, Numbered, Known, sorted_parts, hashed_order, sequenced_order, own_is}
use Rattle.mi_multi.proofs.StampLemmas.{rows, by_stamp_is}
use Rattle.mi_multi.proofs.NeighbourLemmas.{link_listed, link_hashed}

-- Tags

pub tags_at : (i : Index) (x : Structure) (m n : Pooled Stored) (l : List ℕ) → IsFor i x → KeepsTags x m n
    → has_stamps (order_of i.kind i.parts l) ≡ true → (k : ℕ) → (link_of n k (slot_in x)).tag ≡ (link_of m k (slot_in x)).tag
tags_at i (Sorted t) m n l f tags has k = tags k
tags_at i (Hashed c) m n l f tags has k = tags k
tags_at i (Sequenced q) m n l f tags has k = absurd (false≢true (sym (ap has_stamps (sequenced_order i.kind i.parts l f)) ∙ has))

-- a pass that keeps the tags of every index keeps what a node says
module _ (Q : Gives) (ids : FinMap nat_cmp IdEntry) (m n : Pooled Stored)
    (tags : (s : ℕ) (x : Structure) (rs us : List Ref) → Q s x m n rs us → KeepsTags x m n) where
  stamp_by_tag : (x : ℕ) (o : Order) → At (Turned Q ids m n) x o → has_stamps o ≡ true → (k : ℕ) → (link_of n k x).tag.stamp ≡ (link_of m k x).tag.stamp
  stamp_by_tag x o (at i a b rs us l t is_order) has k =
      let same = tags_at i a m n l t.for_ (tags x a rs us t.done) (sym (ap has_stamps is_order) ∙ has) k in
      ap (λ (w : Tag). w.stamp) (subst (λ w. (link_of n k w).tag ≡ (link_of m k w).tag) t.slot same)

  pub says_by_tags : {is : List Index} {xs ys : List Structure} {rss uss : List (List Ref)} → Every (Turned Q ids m n) 0 is xs ys rss uss
      → (k : ℕ) → value_of n k ≡ value_of m k → SaysSame (plan is) m n k
  says_by_tags {is = is} turns k value = record {
    value = value;
    stamps = λ x has. stamp_by_tag x (get_or (plan is) x ById) (at_stamps (Turned Q ids m n) turns x has) has k;
  }

-- Neighbours

no_neighbours : (x : ℕ) (rws : List (ℕ × Node)) (e : ℕ) (n : Pooled Stored) (k : ℕ) (ps : List KeyPart)
    → link_in x rws e (sorted_order ps) ≡ neighbours_in n k x (sorted_order ps)
no_neighbours x rws e n k [] = refl
no_neighbours x rws e n k (p ∷ ps) = refl

-- the sides of a link
sides : (n : Pooled Stored) (k a b : ℕ) (back forth : Option Ref) → a ≡ b → (link_of n k a).back ≡ back → (link_of n k a).forth ≡ forth
    → ◌≡◌ {A = Link} (record { back = back; forth = forth }) (record { back = (link_of n k b).back; forth = (link_of n k b).forth })
sides n k a b back forth same p q =
    let p' : (link_of n k b).back ≡ back = ap (λ w. (link_of n k w).back) (sym same) ∙ p in
    let q' : (link_of n k b).forth ≡ forth = ap (λ w. (link_of n k w).forth) (sym same) ∙ q in
    (λ i. record { back = sym p' i; forth = sym q' i })

module _ (s : Shape) (ids : FinMap nat_cmp IdEntry) (m n : Pooled Stored) (xs : List Structure)
    (next arrivals : ℕ) (is_data : IsData s (plain_of s ids m xs next arrivals))
    (held : (e : ℕ) (a : IdEntry) → get ids e ≡ Some a → HasNode m e a.node) (values : (k : ℕ) → value_of n k ≡ value_of m k)
    (e : ℕ) (r : Ref) (there : get ids e ≡ Some (record { node = r; live = true })) where
  abbrev rws : List (ℕ × Node)
  rws = rows ids m (plan s.indexes)

  abbrev Has : ℕ → Index → Structure → Structure → List Ref → List Ref → Type 0
  Has = Known (left All r) ids m n (plan s.indexes) (orders_of s.indexes (own_lists m xs))

  in_chains : (k : ℕ) (i : Index) (x y : Structure) (rs us : List Ref) (h : HashedBy) → is_hashed i.kind ≡ true → h.parts ≡ i.parts
      → Climb (stamp_at m k) rs → AreLive ids m rs → Numbered (plan s.indexes) (orders_of s.indexes (own_lists m xs)) m k i x
      → (as_ bs : List Ref) → rs ≡ as_ ++ r ∷ bs → (link_of n r.name k).back ≡ last_of None (filter (same_nodes (keying_of h) n r) as_)
      → (link_of n r.name k).forth ≡ first_of (filter (same_nodes (keying_of h) n r) bs) None
      → link_in k rws e (order_of i.kind i.parts (own_list m x)) ≡ neighbours_in n r.name k (order_of i.kind i.parts [])
  in_chains k i x y rs us h hashed same climb live num as_ bs parts back forth =
      let by : ids_by_stamp k rws ≡ ids_at m rs =
      by_stamp_is s (plain_of s ids m xs next arrivals) ids m (plan s.indexes) k i.parts rs is_data refl num.fewer num.few
      (num.order_is ∙ hashed_order i.kind i.parts (own_list m x) hashed) (num.plan_is ∙ hashed_order i.kind i.parts [] hashed) live climb in
      let here : link_at rws e (group h.parts k rws (content_of rws e).values)
      ≡ record { back = last_of None (filter (same_nodes (keying_of h) n r) as_); forth = first_of (filter (same_nodes (keying_of h) n r) bs) None } =
      link_hashed ids m n (plan s.indexes) held values e r there as_ bs (subst (AreLive ids m) parts live) h k (by ∙ ap (ids_at m) parts) in
      ap (link_in k rws e) (hashed_order i.kind i.parts (own_list m x) hashed ∙ ap ByHash (sym same)) ∙ here
      ∙ sides n r.name k k _ _ refl back forth
      ∙ ap (neighbours_in n r.name k) (sym (hashed_order i.kind i.parts [] hashed ∙ ap ByHash (sym same)))

  in_list : (k : ℕ) (i : Index) (x : Structure) (rs : List Ref) → is_sequenced i.kind ≡ true
      → own_list m x ≡ ids_at m rs → AreLive ids m rs → (as_ bs : List Ref) → rs ≡ as_ ++ r ∷ bs
      → (link_of n r.name k).back ≡ last_of None as_ → (link_of n r.name k).forth ≡ first_of bs None
      → link_in k rws e (order_of i.kind i.parts (own_list m x)) ≡ neighbours_in n r.name k (order_of i.kind i.parts [])
  in_list k i x rs seq own live as_ bs parts back forth =
      ap (link_in k rws e) (sequenced_order i.kind i.parts (own_list m x) seq ∙ ap Listed (own ∙ ap (ids_at m) parts))
      ∙ link_listed ids m n (plan s.indexes) held values e r there as_ bs (subst (AreLive ids m) parts live)
      ∙ sides n r.name k k _ _ refl back forth
      ∙ ap (neighbours_in n r.name k) (sym (sequenced_order i.kind i.parts [] seq))

  one_link : (k : ℕ) (i : Index) (x y : Structure) (rs us : List Ref) → Has k i x y rs us
      → link_in k rws e (order_of i.kind i.parts (own_list m x)) ≡ neighbours_in n r.name k (order_of i.kind i.parts [])
  one_link k i (Sorted t) y rs us h =
      ap (link_in k rws e) (sorted_parts i.kind i.parts [] h.0.for_.0) ∙ no_neighbours k rws e n r.name i.parts
      ∙ ap (neighbours_in n r.name k) (sym (sorted_parts i.kind i.parts [] h.0.for_.0))
  one_link k i (Hashed c) y rs us h =
      let d = h.0.done in
      let slot : c.slot ≡ k = h.0.slot in
      in_chains k i (Hashed c) y rs us c.keys h.0.for_.0 h.0.for_.1
      (subst (λ w. Climb (stamp_at m w) rs) slot h.0.was.1) h.0.live h.1 d.left.xs d.left.ys d.left.now
      (subst (λ w. (link_of n r.name w).back ≡ last_of None (filter (same_nodes (keying_of c.keys) n r) d.left.xs)) slot d.remembers.0)
      (subst (λ w. (link_of n r.name w).forth ≡ first_of (filter (same_nodes (keying_of c.keys) n r) d.left.ys) None) slot d.remembers.1)
  one_link k i (Sequenced l) y rs us h =
      let d = h.0.done in
      let slot : slot_in (Sequenced l) ≡ k = h.0.slot in
      in_list k i (Sequenced l) rs h.0.for_ (own_is i (Sequenced l) m rs h.0.for_ h.0.was h.0.for_) h.0.live d.left.xs d.left.ys d.left.now
      (subst (λ w. (link_of n r.name w).back ≡ last_of None d.left.xs) slot d.remembers.0)
      (subst (λ w. (link_of n r.name w).forth ≡ first_of d.left.ys None) slot d.remembers.1)

  pub links_seen : {k : ℕ} {is : List Index} {as_ bs : List Structure} {rss uss : List (List Ref)}
      → Every Has k is as_ bs rss uss → links_from k rws e (orders_of is (own_lists m as_)) ≡ all_neighbours n r.name k (plan is)
  links_seen none = refl
  links_seen (one {s = k} {i = i} {x = x} {y = y} {rs = rs} {us = us} {is = is} {xs = as_} h rest) =
      let next : k + 1 ≡ suc k = omega arith in
      let tail : links_from (suc k) rws e (orders_of is (own_lists m as_)) ≡ all_neighbours n r.name (suc k) (plan is) =
      subst (λ w. links_from w rws e (orders_of is (own_lists m as_)) ≡ all_neighbours n r.name w (plan is)) next (links_seen rest) in
      (λ j. one_link k i x y rs us h j ∷ tail j)
