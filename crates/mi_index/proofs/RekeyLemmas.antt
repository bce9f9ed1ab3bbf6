-- A node gets another value: it leaves the structures in which its key changes, and comes into them again, or back to an old place.
-- Where it keeps its place it stays, and gets a tag.
--     cut_once      a list without doubles is cut at a node in one way
--     can_again, is_again      out and in again, by what is asked of each
--     are_there, are_asked, can_leave, can_come, is_rekeyed      with a new stamp
--     are_back_there, are_asked_back, can_go_leave, can_go_come, is_given_back      to the places that are given
--     exchanged, retagged_from      what the node's value and its links are in between
-- Cited by `Nodes::rekey`, `Nodes::rekey_back` and `Nodes::restamp`.
use Rattle.std.proofs.Common.{◌≡◌, ℕ, ◌+◌, ◌<◌, ◌^◌, ◌==◌, Bool, true, false, cond, List, [], ◌∷◌, ◌++◌}
use Rattle.std.proofs.Common.{length, Option, Some, None, option_map, refl, sym, ap, ◌∙◌, subst, arith}
use Rattle.std.specs.declared.cmp.Ordering.TheVariants.{Equal}
use Rattle.mi_node.specs.Pool.{Pooled, ref_of, value_of, link_of, IsHeld, with_value}
use Rattle.mi_node.specs.Refs.{Ref, first_of, last_of, IsOut, IsApart}
use Rattle.mi_node.proofs.EntryLemmas.{same_name, same_refl, flip, slots-with_value, ref-with_value, value_here, link-with_value}
use Rattle.mi_node.proofs.RefLemmas.{apart_remove, out_right}
use Rattle.mi_tree.specs.Sorted.{compared}
use Rattle.mi_tree.specs.Frame.{IsAlike, AreAlike}
use Rattle.mi_index.specs.Standing.{slot_in, swap_order, AllAbove, AllBelow, Stands, IsLike}
use Rattle.mi_index.specs.Places.{is_given, mark_at, IsWith, IsBeside, IsLeft}
use Rattle.mi_index.specs.Keeping.{KeepsIts, KeepsFor, flagged, retags, own_link, KeepsButLinks, AreRetagged, ArePlaced}
use Rattle.mi_index.specs.Pass.{Asks, Gives, AllStand, AllCan, AllGiven, AllLike, AreReady, AreChanged, IsPass, IsOutOfAll}
use Rattle.mi_index.specs.Passes.{IsSame, CanJoinIf, IsJoinedIf, HasNodeIf, IsLeftIf, CanReturnTo, IsBackAt}
use Rattle.mi_index.specs.Rekeying.{side_of_value, HasPlaceFor, HasOldPlaceFor, KeepsKey, CanMoveIf, HasMovedIf, CanMoveBackTo, HasMovedBackTo, IsRekeyed}
use Rattle.std.specs.List.{filter}
use Rattle.mi_list.proofs.ChangeLemmas.{out_among}
use Rattle.mi_tree.specs.Sorted.{NoneAre}
use Rattle.mi_chain.specs.Keying.{stamp_at, same_nodes, same_values}
use Rattle.mi_order.specs.Orders.{stored_order, keying_of, has_one_key}
use Rattle.mi_order.specs.declared.stored.Stored.{Stored}
use Rattle.mi_order.specs.declared.orders.ByKey.{ByKey}
use Rattle.mi_order.specs.declared.orders.ByHash.{ByHash}
use Rattle.mi_node.specs.declared.old_place.OldPlace.{OldPlace}
use Rattle.mi_index.specs.declared.structure.Structure.{Structure}
use Rattle.mi_index.specs.declared.structure.Structure.TheVariants.{Sorted, Hashed, Sequenced}
use Rattle.mi_index.proofs.FrameLemmas.{stands_alike, itself}
use Rattle.mi_index.proofs.LikeLemmas.{like_slot}
use Rattle.mi_index.proofs.JoinLemmas.{long_with}
use Rattle.mi_index.proofs.OtherNodeLemmas.{IsExchanged, but_value, stands_but, nodes_apart, OtherTags, place_seen, old_place_seen}
use Rattle.mi_index.proofs.KeepingLemmas.{kept_stands, kept_stamped}
use Rattle.mi_index.proofs.LoopLemmas.{slot_there}
use Rattle.mi_index.proofs.InsertLemmas.{place_like, tags_like, tags_but, stamp_over}

-- Cuts

not_out : (r : Ref) (xs ys : List Ref) → IsOut r.name (xs ++ r ∷ ys) → ⊥
not_out r xs ys o = let e : true ≡ false = sym (same_refl r.name) ∙ (out_right r.name xs (r ∷ ys) o).0 in absurd (cc)

head_of : {a b : Ref} {xs ys : List Ref} → (a ∷ xs) ≡ (b ∷ ys) → a ≡ b
head_of e = cc

tail_of : {a b : Ref} {xs ys : List Ref} → (a ∷ xs) ≡ (b ∷ ys) → xs ≡ ys
tail_of e = cc

cut_once : (r : Ref) (xs ys us vs : List Ref) → IsApart (xs ++ r ∷ ys) → xs ++ r ∷ ys ≡ us ++ r ∷ vs → (xs ++ ys) ≡ (us ++ vs)
cut_once r [] ys [] vs a e = tail_of e
cut_once r [] ys (u ∷ us) vs a e = absurd (not_out r us vs (subst (IsOut r.name) (tail_of e) a.0))
cut_once r (x ∷ xs) ys [] vs a e = absurd (not_out r xs ys (subst (λ (z : Ref). IsOut z.name (xs ++ r ∷ ys)) (head_of e) a.0))
cut_once r (x ∷ xs) ys (u ∷ us) vs a e = λ i. head_of e i ∷ cut_once r xs ys us vs a.1 (tail_of e) i

-- Values

order_like : (x y : Structure) → IsLike x y → swap_order y ≡ swap_order x
order_like (Sorted a) (Sorted c) g = ap (λ (o : ByKey). swap_order (Sorted (record { slot = c.slot; order = o; root = c.root }))) g.1
order_like (Sorted a) (Hashed c) g = absurd g
order_like (Sorted a) (Sequenced c) g = absurd g
order_like (Hashed a) (Sorted c) g = absurd g
order_like (Hashed a) (Hashed c) g = ap (λ (k : ByHash). swap_order (Hashed (record { slot = c.slot; keys = k; buckets = c.buckets; groups = c.groups }))) g.1
order_like (Hashed a) (Sequenced c) g = absurd g
order_like (Sequenced a) (Sorted c) g = absurd g
order_like (Sequenced a) (Hashed c) g = absurd g
order_like (Sequenced a) (Sequenced c) g = refl

-- the node's own value may be exchanged for one that compares Equal, where its link stays
module _ (m n : Pooled Stored) (r : Ref) (v : Stored) (ex : IsExchanged r v m n) where
  alike_own : (x : Structure) (q : Ref) → ((old : Stored) → value_of m r.name ≡ Some old → swap_order x old v ≡ Equal)
      → link_of n r.name (slot_in x) ≡ link_of m r.name (slot_in x) → IsAlike (swap_order x) m n (slot_in x) q
  alike_own x q e own = record {
    ref = ex.refs q.name;
    link = (elim (r.name == q.name) as (λ b. (r.name == q.name) ≡ b → link_of n q.name (slot_in x) ≡ link_of m q.name (slot_in x)) [
      | true ↦ λ t. subst (λ k. link_of n k (slot_in x) ≡ link_of m k (slot_in x)) (same_name r.name q.name t) own
      | false ↦ λ t. ex.but.links q.name (slot_in x) t
    ]) refl;
    value = (elim (r.name == q.name) as (λ b. (r.name == q.name) ≡ b → compared (swap_order x) (value_of m q.name) (value_of n q.name) ≡ Equal) [
      | true ↦ λ t. subst (λ k. compared (swap_order x) (value_of m k) (value_of n k) ≡ Equal) (same_name r.name q.name t) (here (value_of m r.name) refl)
      | false ↦ λ t. ap (compared (swap_order x) (value_of m q.name)) (ex.but.values q.name t) ∙ itself x (value_of m q.name)
    ]) refl;
  }
    where
      here : (w : Option Stored) → value_of m r.name ≡ w → compared (swap_order x) (value_of m r.name) (value_of n r.name) ≡ Equal
      here None is = ap (λ z. compared (swap_order x) z (value_of n r.name)) is
      here (Some old) is = (λ i. compared (swap_order x) (is i) (ex.own i)) ∙ e old is

  alike_all : (x : Structure) (us : List Ref) → ((old : Stored) → value_of m r.name ≡ Some old → swap_order x old v ≡ Equal)
      → link_of n r.name (slot_in x) ≡ link_of m r.name (slot_in x) → AreAlike (swap_order x) m n (slot_in x) us
  alike_all x [] e own = tt
  alike_all x (q ∷ us) e own = (alike_own x q e own, alike_all x us e own)

  stands_own : (x : Structure) (us : List Ref) → ((old : Stored) → value_of m r.name ≡ Some old → swap_order x old v ≡ Equal)
      → link_of n r.name (slot_in x) ≡ link_of m r.name (slot_in x) → Stands x m us → Stands x n us
  stands_own x us e own h = stands_alike x m n us ex.but.slots (alike_all x us e own) h

-- Places in a structure of one kind

old_place_like : (x y : Structure) (m : Pooled Stored) (v : Stored) (p : OldPlace) (rs : List Ref)
    → IsLike x y → HasOldPlaceFor x m v p rs → HasOldPlaceFor y m v p rs
old_place_like (Sorted a) (Sorted c) m v p rs g h =
    subst (λ s. NoneAre (side_of_value (stored_order c.order.parts) m s v p.stamp) Equal rs) (sym g.0)
    (subst (λ (o : ByKey). NoneAre (side_of_value (stored_order o.parts) m a.slot v p.stamp) Equal rs) (sym g.1) h)
old_place_like (Sorted a) (Hashed c) m v p rs g h = absurd g
old_place_like (Sorted a) (Sequenced c) m v p rs g h = absurd g
old_place_like (Hashed a) (Sorted c) m v p rs g h = absurd g
old_place_like (Hashed a) (Hashed c) m v p rs g h = record {
  xs = h.xs;
  ys = h.ys;
  parts = h.parts;
  below = subst (λ s. AllBelow (stamp_at m s) p.stamp h.xs) (sym g.0) h.below;
  above = subst (λ s. AllAbove (stamp_at m s) p.stamp h.ys) (sym g.0) h.above;
  back_is = h.back_is ∙ (λ i. last_of None (filter (key_of (sym g.1 i)) h.xs));
  forth_is = h.forth_is ∙ (λ i. first_of (filter (key_of (sym g.1 i)) h.ys) None);
}
  where
    key_of : ByHash → Ref → Bool
    key_of k q = same_values (has_one_key k.parts) (Some v) (value_of m q.name)
old_place_like (Hashed a) (Sequenced c) m v p rs g h = absurd g
old_place_like (Sequenced a) (Sorted c) m v p rs g h = absurd g
old_place_like (Sequenced a) (Hashed c) m v p rs g h = absurd g
old_place_like (Sequenced a) (Sequenced c) m v p rs g h = h

beside_over : (x y : Structure) (o p : Pooled Stored) (r : Ref) (b f : Option Ref) (xs ys : List Ref)
    → IsLike x y → ((k : ℕ) → value_of p k ≡ value_of o k) → IsBeside y o r b f xs ys → IsBeside x p r b f xs ys
unfolding same_nodes
beside_over (Sorted a) y o p r b f xs ys g values h = tt
beside_over (Hashed a) (Sorted c) o p r b f xs ys g values h = absurd g
beside_over (Hashed a) (Hashed c) o p r b f xs ys g values h =
    let e : same_nodes (keying_of c.keys) o r ≡ same_nodes (keying_of a.keys) p r = same_over g.1 in
    (h.0 ∙ (λ i. last_of None (filter (e i) xs)), h.1 ∙ (λ i. first_of (filter (e i) ys) None))
  where
    same_over : c.keys ≡ a.keys → same_nodes (keying_of c.keys) o r ≡ same_nodes (keying_of a.keys) p r
    same_over w = λ i q. same_values (has_one_key (w i).parts) (sym (values r.name) i) (sym (values q.name) i)
beside_over (Hashed a) (Sequenced c) o p r b f xs ys g values h = absurd g
beside_over (Sequenced a) (Sorted c) o p r b f xs ys g values h = absurd g
beside_over (Sequenced a) (Hashed c) o p r b f xs ys g values h = absurd g
beside_over (Sequenced a) (Sequenced c) o p r b f xs ys g values h = h

leave_one : (b : Bool) (x : Structure) (m : Pooled Stored) (r : Ref) (v : Stored) (t : ℕ) (rs : List Ref) → CanMoveIf b x m r v t rs → HasNodeIf b r rs
leave_one true x m r v t rs c = record { xs = c.xs; ys = c.ys; parts = c.parts }
leave_one false x m r v t rs c = tt

leave_for : (g : Option OldPlace) (x : Structure) (m : Pooled Stored) (r : Ref) (v : Stored) (rs : List Ref)
    → CanMoveBackTo g x m r v rs → HasNodeIf (is_given g) r rs
leave_for (Some w) x m r v rs c = record { xs = c.xs; ys = c.ys; parts = c.parts }
leave_for None x m r v rs c = tt

-- what a node is asked beside, where it keeps its place
abbrev pub KeepsIf : Bool → Option ℕ → Structure → Pooled Stored → Ref → Stored → List Ref → Type 0
KeepsIf true g x m r v rs = KeepsFor g x m r v rs
KeepsIf false g x m r v rs = Unit {0}

-- One structure: x has become y as the node left it, or kept its place, from pool m to n, and then the node got the value v

module _ (m n o : Pooled Stored) (r : Ref) (v : Stored) (refs : (k : ℕ) → ref_of n k ≡ ref_of m k)
    (values : (k : ℕ) → value_of n k ≡ value_of m k) (held : IsHeld m r) (ex : IsExchanged r v n o) where
  others : (q : ℕ) → (r.name == q) ≡ false → value_of o q ≡ value_of m q
  others q e = ex.but.values q e ∙ values q

  held_still : IsHeld o r
  held_still = ex.refs r.name ∙ refs r.name ∙ held

  left_out : (x : Structure) (rs us : List Ref) → Stands x m rs → IsLeft x m n r rs us → IsOut r.name us
  left_out x rs us h d = subst (IsOut r.name) (sym d.left.was) (apart_remove d.left.xs r d.left.ys (subst IsApart d.left.now (nodes_apart x m rs h))).1

  left_few : (x : Structure) (rs us : List Ref) → length rs < 2 ^ 32 → IsLeft x m n r rs us → length us + 1 < 2 ^ 32
  left_few x rs us few d =
      let e = long_with d.left.xs d.left.ys r in let f = ap length d.left.now in let g = ap length d.left.was in omega (arith, e, f, g, few)

  left_same : (x : Structure) (rs us xs ys : List Ref) → Stands x m rs → IsLeft x m n r rs us → rs ≡ xs ++ r ∷ ys → xs ++ ys ≡ us
  left_same x rs us xs ys h d parts =
      cut_once r xs ys d.left.xs d.left.ys (subst IsApart parts (nodes_apart x m rs h)) (sym parts ∙ d.left.now) ∙ sym d.left.was

  left_tags : (x y : Structure) (rs us : List Ref) → IsLike x y → IsLeft x m n r rs us → OtherTags y r.name m o
  left_tags x y rs us like d = tags_like x y r.name m o like (tags_but x r.name m n o d.tags ex.but)

  stays_own : (x y : Structure) → IsLike x y → KeepsKey x m r v → (old : Stored) → value_of n r.name ≡ Some old → swap_order y old v ≡ Equal
  stays_own x y like k old is = subst (λ f. f old v ≡ Equal) (sym (order_like x y like)) (k old (sym (values r.name) ∙ is))

  -- the node's link in the slot of a structure: k says whether it keeps its place, and by which stamp
  abbrev Has : Bool → Option ℕ → ℕ → Structure → Type 0
  Has k g s y = link_of o r.name s ≡ own_link (cond k g None) y v (link_of n r.name s)

  same_own : (x y : Structure) (s : ℕ) (g : Option ℕ) → IsLike x y → slot_in x ≡ s → Has false g s y → link_of o r.name (slot_in y) ≡ link_of n r.name (slot_in y)
  same_own x y s g like slot own = subst (λ z. link_of o r.name z ≡ link_of n r.name z) (sym slot ∙ sym (like_slot x y like)) own

  same_over : (x y : Structure) (p : Pooled Stored) (s : ℕ) (g : Option ℕ) (rs us ws : List Ref) → IsLike x y → slot_in x ≡ s → Has false g s y
      → IsSame x m n rs us → IsSame y o p us ws → IsSame x m p rs ws
  same_over x y p s g rs us ws like at own d e =
      let slot = like_slot x y like in
      record {
        list = e.list ∙ d.list;
        links = λ k. subst (λ s. link_of p k s ≡ link_of o k s) slot (e.links k) ∙ still k ∙ d.links k;
      }
    where
      still : (k : ℕ) → link_of o k (slot_in x) ≡ link_of n k (slot_in x)
      still k = (elim (r.name == k) as (λ b. (r.name == k) ≡ b → link_of o k (slot_in x) ≡ link_of n k (slot_in x)) [
        | true ↦ λ t. subst (λ q. link_of o q (slot_in x) ≡ link_of n q (slot_in x)) (same_name r.name k t)
            (subst (λ z. link_of o r.name z ≡ link_of n r.name z) (sym at) own)
        | false ↦ λ t. ex.but.links k (slot_in x) t
      ]) refl

  -- by a new stamp
  module _ (t : ℕ) where
    abbrev new : Bool → Option ℕ
    new b = cond b (Some t) None

    stand_one : (b k : Bool) (x y : Structure) (s : ℕ) (rs us : List Ref) → IsLike x y → slot_in x ≡ s → Has k (new b) s y → Stands x m rs
        → Stands y n us → CanMoveIf b x m r v t rs × KeepsIf k (new b) x m r v rs → IsLeftIf (cond k false b) x m n r rs us → Stands y o us
    stand_one true true x y s rs us like at own g h c d = kept_stands m n o r v values ex t x y s rs us like at own h c.1 d
    stand_one false true x y s rs us like at own g h c d = absurd c.1
    stand_one true false x y s rs us like at own g h c d = stands_but y r.name n o us ex.but (left_out x rs us g d) h
    stand_one false false x y s rs us like at own g h c d = stands_own n o r v ex y us (stays_own x y like c.0) (same_own x y s None like at own) h

    rejoin_one : (b k : Bool) (x y : Structure) (rs us : List Ref) → IsLike x y → Stands x m rs
        → CanMoveIf b x m r v t rs × KeepsIf k (new b) x m r v rs → IsLeftIf (cond k false b) x m n r rs us → CanJoinIf (cond k false b) y o r t None us
    rejoin_one true true x y rs us like g c d = tt
    rejoin_one false true x y rs us like g c d = tt
    rejoin_one true false x y rs us like g c d =
        let out = left_out x rs us g d in
        let place = subst (HasPlaceFor x m v t None) (left_same x rs us c.0.xs c.0.ys g d c.0.parts) c.0.place in
        record {
          held = held_still;
          out = out;
          few = left_few x rs us c.0.few d;
          place = place_seen m o r v ex.own others y t None us (left_tags x y rs us like d) out (place_like x y m v t None us like place);
        }
    rejoin_one false false x y rs us like g c d = tt

    moved_one : (b k : Bool) (x y : Structure) (p : Pooled Stored) (s : ℕ) (rs us ws : List Ref) → IsLike x y → slot_in x ≡ s → Has k (new b) s y
        → Stands x m rs → CanMoveIf b x m r v t rs × KeepsIf k (new b) x m r v rs
        → IsLeftIf (cond k false b) x m n r rs us → IsJoinedIf (cond k false b) y o p r t None us ws → HasMovedIf b x m p r t rs ws
    moved_one true true x y p s rs us ws like at own g c d e = record {
      xs = c.1.xs;
      ys = c.1.ys;
      parts = c.1.parts;
      moved = record { xs = c.1.xs; ys = c.1.ys; was = refl; now = e.list ∙ d.list ∙ c.1.parts };
      stamped = kept_stamped m n o r v values ex t p x y s rs us ws like at own c.1 d e;
    }
    moved_one false true x y p s rs us ws like at own g c d e = absurd c.1
    moved_one true false x y p s rs us ws like at own g c d e = record {
      xs = d.left.xs;
      ys = d.left.ys;
      parts = d.left.now;
      moved = subst (λ l. IsWith r l ws) d.left.was e.joined;
      stamped = stamp_over x y m o p r t like (tags_but x r.name m n o d.tags ex.but) e.stamped;
    }
    moved_one false false x y p s rs us ws like at own g c d e = same_over x y p s None rs us ws like at own d e

  -- to the place that is given
  abbrev old : Option OldPlace → Option ℕ
  old g = option_map (λ (w : OldPlace). w.stamp) g

  stand_for : (g : Option OldPlace) (k : Bool) (x y : Structure) (s : ℕ) (rs us : List Ref) → IsLike x y → slot_in x ≡ s → Has k (old g) s y → Stands x m rs
      → Stands y n us → CanMoveBackTo g x m r v rs × KeepsIf k (old g) x m r v rs → IsLeftIf (is_given (cond k None g)) x m n r rs us → Stands y o us
  stand_for (Some w) true x y s rs us like at own a h c d = kept_stands m n o r v values ex w.stamp x y s rs us like at own h c.1 d
  stand_for None true x y s rs us like at own a h c d = absurd c.1
  stand_for (Some w) false x y s rs us like at own a h c d = stands_but y r.name n o us ex.but (left_out x rs us a d) h
  stand_for None false x y s rs us like at own a h c d = stands_own n o r v ex y us (stays_own x y like c.0) (same_own x y s None like at own) h

  return_one : (g : Option OldPlace) (k : Bool) (x y : Structure) (rs us : List Ref) → IsLike x y → Stands x m rs
      → CanMoveBackTo g x m r v rs × KeepsIf k (old g) x m r v rs → IsLeftIf (is_given (cond k None g)) x m n r rs us → CanReturnTo (cond k None g) y o r us
  return_one (Some w) true x y rs us like a c d = tt
  return_one None true x y rs us like a c d = tt
  return_one (Some w) false x y rs us like a c d =
      let out = left_out x rs us a d in
      let place = subst (HasOldPlaceFor x m v w) (left_same x rs us c.0.xs c.0.ys a d c.0.parts) c.0.place in
      record {
        held = held_still;
        out = out;
        few = left_few x rs us c.0.few d;
        place = old_place_seen m o r v ex.own others y w us (left_tags x y rs us like d) out (old_place_like x y m v w us like place);
      }
  return_one None false x y rs us like a c d = tt

  -- only a tree keeps a place, and it keeps no neighbours
  kept_beside : (x : Structure) (p : Pooled Stored) (b f : Option Ref) (t : ℕ) (rs xs ys : List Ref) → KeepsIts x m r v t rs → IsBeside x p r b f xs ys
  kept_beside (Sorted a) p b f t rs xs ys k = tt
  kept_beside (Hashed a) p b f t rs xs ys k = absurd k.keeps
  kept_beside (Sequenced a) p b f t rs xs ys k = absurd k.keeps

  back_one : (g : Option OldPlace) (k : Bool) (x y : Structure) (p : Pooled Stored) (s : ℕ) (rs us ws : List Ref) → ((k : ℕ) → value_of p k ≡ value_of o k)
      → IsLike x y → slot_in x ≡ s → Has k (old g) s y → CanMoveBackTo g x m r v rs × KeepsIf k (old g) x m r v rs
      → IsLeftIf (is_given (cond k None g)) x m n r rs us → IsBackAt (cond k None g) y o p r us ws → HasMovedBackTo g x m p r rs ws
  back_one (Some w) true x y p s rs us ws kept like at own c d e = record {
    xs = c.1.xs;
    ys = c.1.ys;
    parts = c.1.parts;
    moved = record { xs = c.1.xs; ys = c.1.ys; was = refl; now = e.list ∙ d.list ∙ c.1.parts };
    beside = kept_beside x p w.back w.forth w.stamp rs c.1.xs c.1.ys c.1;
    stamped = kept_stamped m n o r v values ex w.stamp p x y s rs us ws like at own c.1 d e;
  }
  back_one None true x y p s rs us ws kept like at own c d e = absurd c.1
  back_one (Some w) false x y p s rs us ws kept like at own c d e =
      record {
        xs = d.left.xs;
        ys = d.left.ys;
        parts = d.left.now;
        moved = record { xs = e.back.xs; ys = e.back.ys; was = sym d.left.was ∙ e.back.was; now = e.back.now };
        beside = beside_over x y o p r w.back w.forth e.back.xs e.back.ys like kept e.beside;
        stamped = stamp_over x y m o p r w.stamp like (tags_but x r.name m n o d.tags ex.but) e.stamped;
      }
  back_one None false x y p s rs us ws kept like at own c d e = same_over x y p s None rs us ws like at own d e

-- All structures: a pass D that asks L, another value, and a pass E that asks J are Q, which asks P

module _ (P L J : Asks) (D E Q : Gives) (stamps : ℕ → Option ℕ) (r : Ref) (v : Stored) (m n o : Pooled Stored) where
  -- the node's link in the slot of a structure
  abbrev Owned : ℕ → Structure → Type 0
  Owned s y = link_of o r.name s ≡ own_link (stamps s) y v (link_of n r.name s)

  module _ (leave : (s : ℕ) (x : Structure) (rs : List Ref) → P s x m rs → L s x m rs) where
    all_leave : (xs : List Structure) (s : ℕ) (rss : List (List Ref)) → AllCan P xs s m rss → AllCan L xs s m rss
    all_leave [] s rss c = tt
    all_leave (x ∷ xs) s [] c = tt
    all_leave (x ∷ xs) s (rs ∷ rss) c = (leave s x rs c.0, all_leave xs (s + 1) rss c.1)

    can_out : (xs : List Structure) → AreReady P 0 xs m → AreReady L 0 xs m
    can_out xs q = record { rss = q.rss; stand = q.stand; can = all_leave xs 0 q.rss q.can }

  module _ (stand : (s : ℕ) (x y : Structure) (rs us : List Ref) → IsLike x y → slot_in x ≡ s → Owned s y → Stands x m rs → Stands y n us
      → P s x m rs → D s x m n rs us → Stands y o us)
      (rejoin : (s : ℕ) (x y : Structure) (rs us : List Ref) → IsLike x y → Stands x m rs → P s x m rs → D s x m n rs us → J s y o us) where
    all_ready : (xs ys : List Structure) (s : ℕ) (rss uss : List (List Ref)) → AllLike xs ys → AreRetagged stamps r v ys s n o → AllStand xs s m rss
        → AllStand ys s n uss → AllCan P xs s m rss → AllGiven D xs s m n rss uss → AllStand ys s o uss × AllCan J ys s o uss
    all_ready [] [] s rss [] like w a h c d = (tt, tt)
    all_ready [] [] s rss (us ∷ uss) like w a h c d = absurd h
    all_ready [] (y ∷ ys) s rss uss like w a h c d = absurd like
    all_ready (x ∷ xs) [] s rss uss like w a h c d = absurd like
    all_ready (x ∷ xs) (y ∷ ys) s rss [] like w a h c d = absurd h
    all_ready (x ∷ xs) (y ∷ ys) s [] (us ∷ uss) like w a h c d = absurd a
    all_ready (x ∷ xs) (y ∷ ys) s (rs ∷ rss) (us ∷ uss) like w a h c d =
        let rest = all_ready xs ys (s + 1) rss uss like.1 w.1 a.2 h.2 c.1 d.1 in
        ((h.0, stand s x y rs us like.0 a.0 w.0 a.1 h.1 c.0 d.0, rest.0), (rejoin s x y rs us like.0 a.1 c.0 d.0, rest.1))

  module _ (p : Pooled Stored) (combine : (s : ℕ) (x y : Structure) (rs us ws : List Ref) → IsLike x y → slot_in x ≡ s → Owned s y
      → Stands x m rs → P s x m rs → D s x m n rs us → E s y o p us ws → Q s x m p rs ws) where
    all_over : (xs ys : List Structure) (s : ℕ) (rss uss wss : List (List Ref)) → AllLike xs ys → AreRetagged stamps r v ys s n o → AllStand xs s m rss
        → AllCan P xs s m rss → AllGiven D xs s m n rss uss → AllGiven E ys s o p uss wss → AllGiven Q xs s m p rss wss
    all_over [] [] s [] [] [] like w a c d e = tt
    all_over [] [] s [] [] (ws ∷ wss) like w a c d e = absurd e
    all_over [] [] s [] (us ∷ uss) wss like w a c d e = absurd d
    all_over [] [] s (rs ∷ rss) uss wss like w a c d e = absurd a
    all_over [] (y ∷ ys) s rss uss wss like w a c d e = absurd like
    all_over (x ∷ xs) [] s rss uss wss like w a c d e = absurd like
    all_over (x ∷ xs) (y ∷ ys) s [] uss wss like w a c d e = absurd a
    all_over (x ∷ xs) (y ∷ ys) s (rs ∷ rss) [] wss like w a c d e = absurd d
    all_over (x ∷ xs) (y ∷ ys) s (rs ∷ rss) (us ∷ uss) [] like w a c d e = absurd e
    all_over (x ∷ xs) (y ∷ ys) s (rs ∷ rss) (us ∷ uss) (ws ∷ wss) like w a c d e = (
      combine s x y rs us ws like.0 a.0 w.0 a.1 c.0 d.0 e.0,
      all_over xs ys (s + 1) rss uss wss like.1 w.1 a.2 c.1 d.1 e.1,
    )

  module _ (k : ℕ) (outs : (s : ℕ) (x : Structure) (rs us : List Ref) → D s x m n rs us → IsOut k rs → IsOut k us) where
    all_outs : (xs : List Structure) (s : ℕ) (rss uss : List (List Ref)) → AllGiven D xs s m n rss uss → IsOutOfAll k rss → IsOutOfAll k uss
    all_outs [] s [] [] d h = tt
    all_outs [] s [] (us ∷ uss) d h = absurd d
    all_outs [] s (rs ∷ rss) uss d h = absurd d
    all_outs (x ∷ xs) s [] uss d h = absurd d
    all_outs (x ∷ xs) s (rs ∷ rss) [] d h = absurd d
    all_outs (x ∷ xs) s (rs ∷ rss) (us ∷ uss) d h = (outs s x rs us d.0 h.0, all_outs xs (s + 1) rss uss d.1 h.1)

-- who stood in no list stands in none with a node less
left_outs : (b : Bool) (x : Structure) (m n : Pooled Stored) (r : Ref) (k : ℕ) (rs us : List Ref) → IsLeftIf b x m n r rs us → IsOut k rs → IsOut k us
left_outs true x m n r k rs us d h = subst (IsOut k) (sym d.left.was) (out_among k d.left.xs r d.left.ys (subst (IsOut k) d.left.now h)).1
left_outs false x m n r k rs us d h = subst (IsOut k) (sym d.list) h

-- the values once the node has the other one
values_with : (m n o : Pooled Stored) (r : Ref) (v : Stored) → ((k : ℕ) → value_of n k ≡ value_of m k) → IsExchanged r v n o → (k : ℕ)
    → value_of o k ≡ cond (r.name == k) (Some v) (value_of m k)
values_with m n o r v values ex k = (elim (r.name == k) as (λ b. (r.name == k) ≡ b → value_of o k ≡ cond b (Some v) (value_of m k)) [
  | true ↦ λ e. subst (λ z. value_of o z ≡ Some v) (same_name r.name k e) ex.own
  | false ↦ λ e. ex.but.values k e ∙ values k
]) refl

-- a pass D takes the node out where it doesn't keep its place, it gets its value and its tags, and a pass E lets it in again

module _ (P L J : Asks) (D E Q : Gives) (stamps : ℕ → Option ℕ) (r : Ref) (v : Stored) (xs ys : List Structure) (m n o : Pooled Stored)
    (ex : IsExchanged r v n o) (own : AreRetagged stamps r v ys 0 n o)
    (like : AllLike xs ys) (out : IsPass L D r 0 xs ys m n) (leave : (s : ℕ) (x : Structure) (rs : List Ref) → P s x m rs → L s x m rs) where
  abbrev Kept : Type 0
  Kept = ((k : ℕ) → ref_of n k ≡ ref_of m k) × ((k : ℕ) → value_of n k ≡ value_of m k)

  gone : (rss : List (List Ref)) → AllStand xs 0 m rss → AllCan P xs 0 m rss → AreChanged D r 0 xs ys m n rss
  gone rss a c = out rss a (all_leave P L J D E Q stamps r v m n o leave xs 0 rss c)

  module _ (stand : Kept → (s : ℕ) (x y : Structure) (rs us : List Ref) → IsLike x y → slot_in x ≡ s → Owned P L J D E Q stamps r v m n o s y
      → Stands x m rs → Stands y n us → P s x m rs → D s x m n rs us → Stands y o us)
      (rejoin : Kept → (s : ℕ) (x y : Structure) (rs us : List Ref) → IsLike x y → Stands x m rs → P s x m rs → D s x m n rs us → J s y o us) where
    ready : (rss : List (List Ref)) (a : AllStand xs 0 m rss) (c : AllCan P xs 0 m rss)
        → AllStand ys 0 o (gone rss a c).uss × AllCan J ys 0 o (gone rss a c).uss
    ready rss a c =
        let g = gone rss a c in let kept : Kept = (g.keeps.refs, g.keeps.values) in
        all_ready P L J D E Q stamps r v m n o (stand kept) (rejoin kept) xs ys 0 rss g.uss like own a g.stand c g.done

    can_again : AreReady P 0 xs m → AreReady J 0 ys o
    can_again q = let both = ready q.rss q.stand q.can in record { rss = (gone q.rss q.stand q.can).uss; stand = both.0; can = both.1 }

    is_again : (zs : List Structure) (p : Pooled Stored) → IsPass J E r 0 ys zs o p
        → ((k s : ℕ) (x : Structure) (rs us : List Ref) → D s x m n rs us → IsOut k rs → IsOut k us)
        → (Kept → ((k : ℕ) → value_of p k ≡ value_of o k) → (s : ℕ) (x y : Structure) (rs us ws : List Ref)
        → IsLike x y → slot_in x ≡ s → Owned P L J D E Q stamps r v m n o s y
        → Stands x m rs → P s x m rs → D s x m n rs us → E s y o p us ws → Q s x m p rs ws)
        → (rss : List (List Ref)) → AllStand xs 0 m rss → AllCan P xs 0 m rss → IsRekeyed Q r v xs zs m p rss
    is_again zs p back outs over rss a c =
        let g = gone rss a c in let refs = g.keeps.refs in let values = g.keeps.values in
        let both = ready rss a c in
        let b = back g.uss both.0 both.1 in
        record {
          uss = b.uss;
          done = all_over P L J D E Q stamps r v m n o p (over (refs, values) b.keeps.values) xs ys 0 rss g.uss b.uss like own a c g.done b.done;
          stand = b.stand;
          refs = λ k. b.keeps.refs k ∙ ex.refs k ∙ refs k;
          values = λ k. b.keeps.values k ∙ values_with m n o r v values ex k;
          slots = b.keeps.slots ∙ ex.but.slots ∙ g.keeps.slots;
          other_nodes = λ k t d h.
              b.keeps.other_nodes k t d (all_outs P L J D E Q stamps r v m n o k (outs k) xs 0 rss g.uss g.done h)
              ∙ ex.but.links k t (flip r.name k ∙ d) ∙ g.keeps.other_nodes k t d h;
        }

-- what a pass keeps, where it can run
pub kept_refs : {L : Asks} {D : Gives} {r : Ref} {s : ℕ} {xs ys : List Structure} {m n : Pooled Stored}
    → AreReady L s xs m → IsPass L D r s xs ys m n → (k : ℕ) → ref_of n k ≡ ref_of m k
kept_refs q pass = (pass q.rss q.stand q.can).keeps.refs

pub kept_values : {L : Asks} {D : Gives} {r : Ref} {s : ℕ} {xs ys : List Structure} {m n : Pooled Stored}
    → AreReady L s xs m → IsPass L D r s xs ys m n → (k : ℕ) → value_of n k ≡ value_of m k
kept_values q pass = (pass q.rss q.stand q.can).keeps.values

-- and that each structure has its slot afterwards
placed_all : (xs : List Structure) (s : ℕ) (m n : Pooled Stored) (rss : List (List Ref)) → n.slots ≡ m.slots → AllStand xs s m rss → ArePlaced xs s n
placed_all [] s m n rss e h = tt
placed_all (x ∷ xs) s m n [] e h = absurd h
placed_all (x ∷ xs) s m n (rs ∷ rss) e h = (
  h.0,
  subst (λ (z : ℕ × ℕ). z.0 < z.1) (λ i. (h.0 i, sym e i)) (slot_there x m rs h.1),
  placed_all xs (s + 1) m n rss e h.2,
)

pub kept_placed : {L : Asks} {D : Gives} {r : Ref} {xs ys : List Structure} {m n : Pooled Stored} (o : Pooled Stored)
    → AreReady L 0 xs m → IsPass L D r 0 xs ys m n → o.slots ≡ n.slots → ArePlaced ys 0 o
kept_placed {ys = ys} {n = n} o q pass e = let g = pass q.rss q.stand q.can in placed_all ys 0 n o g.uss e g.stand

-- another value, and then other links of the node

pub exchanged : (n o : Pooled Stored) (r : Ref) (v : Stored) → IsHeld n r → KeepsButLinks (with_value n r.name v) o r → IsExchanged r v n o
exchanged n o r v held b = record {
  refs = λ k. b.refs k ∙ ref-with_value n r.name v k;
  own = b.values r.name ∙ value_here n r v held;
  but = record {
    refs = λ q e. b.refs q ∙ ref-with_value n r.name v q;
    values = λ q e. b.values q ∙ (but_value n r.name v).values q e;
    links = λ q t e. b.links q t e ∙ link-with_value n r.name v q t;
    slots = b.slots ∙ slots-with_value n r.name v;
  };
}

pub exchanged_none : (n : Pooled Stored) (r : Ref) (v : Stored) → value_of n r.name ≡ Some v → IsExchanged r v n n
exchanged_none n r v is = record {
  refs = λ k. refl;
  own = is;
  but = record { refs = λ q e. refl; values = λ q e. refl; links = λ q t e. refl; slots = refl };
}

-- the same value, and maybe other links of the node
pub retagged_alone : (n o : Pooled Stored) (r : Ref) (v : Stored) → value_of n r.name ≡ Some v → KeepsButLinks n o r → IsExchanged r v n o
retagged_alone n o r v is b = record {
  refs = b.refs;
  own = b.values r.name ∙ is;
  but = record { refs = λ q e. b.refs q; values = λ q e. b.values q; links = λ q t e. b.links q t e; slots = b.slots };
}

pub retagged_none : (r : Ref) (v : Stored) (ys : List Structure) (s : ℕ) (n : Pooled Stored) → AreRetagged (λ _. None) r v ys s n n
retagged_none r v [] s n = tt
retagged_none r v (y ∷ ys) s n = (refl, retagged_none r v ys (s + 1) n)

-- what is asked, with what the flags say

never_flagged : (s : ℕ) → mark_at [] s ≡ true → ⊥
never_flagged s e = cc

pub flags_none : (stamps : ℕ → Option ℕ) (r : Ref) (v : Stored) (xs : List Structure) (s : ℕ) (m : Pooled Stored) (rss : List (List Ref))
    → AllCan (flagged [] stamps r v) xs s m rss
flags_none stamps r v [] s m rss = tt
flags_none stamps r v (x ∷ xs) s m [] = tt
flags_none stamps r v (x ∷ xs) s m (rs ∷ rss) =
    (record { sound = λ e. absurd (never_flagged s e); full = λ h k. absurd (omega arith) }, flags_none stamps r v xs (s + 1) m rss)

keeps_if : (k : Bool) (g : Option ℕ) (x : Structure) (m : Pooled Stored) (r : Ref) (v : Stored) (rs : List Ref)
    → (k ≡ true → KeepsFor g x m r v rs) → KeepsIf k g x m r v rs
keeps_if true g x m r v rs h = h refl
keeps_if false g x m r v rs h = tt

module _ (A : Asks) (kept : List Bool) (stamps : ℕ → Option ℕ) (r : Ref) (v : Stored) where
  abbrev pub keeping : Asks
  keeping s x m rs = A s x m rs × KeepsIf (mark_at kept s) (stamps s) x m r v rs

  all_keep : (xs : List Structure) (s : ℕ) (m : Pooled Stored) (rss : List (List Ref))
      → AllCan A xs s m rss → AllCan (flagged kept stamps r v) xs s m rss → AllCan keeping xs s m rss
  all_keep [] s m rss c f = tt
  all_keep (x ∷ xs) s m [] c f = tt
  all_keep (x ∷ xs) s m (rs ∷ rss) c f =
      ((c.0, keeps_if (mark_at kept s) (stamps s) x m r v rs f.0.sound), all_keep xs (s + 1) m rss c.1 f.1)

-- by a new stamp, where the flag of a slot is set

module _ (flag : ℕ → Bool) (kept : List Bool) (r : Ref) (v : Stored) (t : ℕ) where
  abbrev asks : Asks
  asks s x m rs = CanMoveIf (flag s) x m r v t rs

  abbrev gives : Gives
  gives s x m n rs us = HasMovedIf (flag s) x m n r t rs us

  abbrev pub stamps : ℕ → Option ℕ
  stamps s = cond (flag s) (Some t) None

  abbrev stands_there : Asks
  stands_there s x m rs = HasNodeIf (flag s) r rs

  abbrev moving : ℕ → Bool
  moving s = cond (mark_at kept s) false (flag s)

  abbrev pub leaves : Asks
  leaves s x m rs = HasNodeIf (moving s) r rs

  abbrev is_left : Gives
  is_left s x m n rs us = IsLeftIf (moving s) x m n r rs us

  abbrev comes : Asks
  comes s x m rs = CanJoinIf (moving s) x m r t None rs

  abbrev has_come : Gives
  has_come s x m n rs us = IsJoinedIf (moving s) x m n r t None rs us

  abbrev pub asked : Asks
  asked = keeping asks kept stamps r v

  leaves_if : (k b : Bool) (x : Structure) (m : Pooled Stored) (rs : List Ref) → CanMoveIf b x m r v t rs → HasNodeIf (cond k false b) r rs
  leaves_if true b x m rs c = tt
  leaves_if false b x m rs c = leave_one b x m r v t rs c

  leaves_one : (m : Pooled Stored) (s : ℕ) (x : Structure) (rs : List Ref) → asked s x m rs → leaves s x m rs
  leaves_one m s x rs c = leaves_if (mark_at kept s) (flag s) x m rs c.0

  all_there : (xs : List Structure) (s : ℕ) (m : Pooled Stored) (rss : List (List Ref)) → AllCan asks xs s m rss → AllCan stands_there xs s m rss
  all_there [] s m rss c = tt
  all_there (x ∷ xs) s m [] c = tt
  all_there (x ∷ xs) s m (rs ∷ rss) c = (leave_one (flag s) x m r v t rs c.0, all_there xs (s + 1) m rss c.1)

  pub are_there : (xs : List Structure) (m : Pooled Stored) → AreReady asks 0 xs m → AreReady stands_there 0 xs m
  are_there xs m q = record { rss = q.rss; stand = q.stand; can = all_there xs 0 m q.rss q.can }

  module _ (xs : List Structure) (m : Pooled Stored)
      (flags : (rss : List (List Ref)) → AllStand xs 0 m rss → AllCan stands_there xs 0 m rss → AllCan (flagged kept stamps r v) xs 0 m rss) where
    pub can_keep : (rss : List (List Ref)) → AllStand xs 0 m rss → AllCan asks xs 0 m rss → AllCan asked xs 0 m rss
    can_keep rss a c = all_keep asks kept stamps r v xs 0 m rss c (flags rss a (all_there xs 0 m rss c))

    pub are_asked : AreReady asks 0 xs m → AreReady asked 0 xs m
    are_asked q = record { rss = q.rss; stand = q.stand; can = can_keep q.rss q.stand q.can }

  pub can_leave : (xs : List Structure) (m : Pooled Stored) → AreReady asked 0 xs m → AreReady leaves 0 xs m
  can_leave xs m q = can_out asked leaves comes is_left has_come gives (retags kept stamps) r v m m m (leaves_one m) xs q

  module _ (xs ys : List Structure) (m n o : Pooled Stored) (held : IsHeld m r) (ex : IsExchanged r v n o)
      (own : AreRetagged (retags kept stamps) r v ys 0 n o) (like : AllLike xs ys) (out : IsPass leaves is_left r 0 xs ys m n) where
    pub can_come : AreReady asked 0 xs m → AreReady comes 0 ys o
    can_come = can_again asked leaves comes is_left has_come gives (retags kept stamps) r v xs ys m n o ex own like out (leaves_one m)
        (λ q s x y rs us w at a g h c d. stand_one m n o r v q.0 q.1 held ex t (flag s) (mark_at kept s) x y s rs us w at a g h c d)
        (λ q s x y rs us w g c d. rejoin_one m n o r v q.0 q.1 held ex t (flag s) (mark_at kept s) x y rs us w g c d)

    pub is_rekeyed : (zs : List Structure) (p : Pooled Stored) → IsPass comes has_come r 0 ys zs o p
        → (rss : List (List Ref)) → AllStand xs 0 m rss → AllCan asked xs 0 m rss → IsRekeyed gives r v xs zs m p rss
    is_rekeyed zs p back =
        is_again asked leaves comes is_left has_come gives (retags kept stamps) r v xs ys m n o ex own like out (leaves_one m)
        (λ q s x y rs us w at a g h c d. stand_one m n o r v q.0 q.1 held ex t (flag s) (mark_at kept s) x y s rs us w at a g h c d)
        (λ q s x y rs us w g c d. rejoin_one m n o r v q.0 q.1 held ex t (flag s) (mark_at kept s) x y rs us w g c d)
        zs p back (λ k s x rs us d h. left_outs (moving s) x m n r k rs us d h)
        (λ q values s x y rs us ws w at a g c d e. moved_one m n o r v q.0 q.1 held ex t (flag s) (mark_at kept s) x y p s rs us ws w at a g c d e)

-- back to the places that are given

module _ (given : ℕ → Option OldPlace) (kept : List Bool) (r : Ref) (v : Stored) where
  abbrev back_asks : Asks
  back_asks s x m rs = CanMoveBackTo (given s) x m r v rs

  abbrev back_gives : Gives
  back_gives s x m n rs us = HasMovedBackTo (given s) x m n r rs us

  abbrev pub back_stamps : ℕ → Option ℕ
  back_stamps s = option_map (λ (w : OldPlace). w.stamp) (given s)

  abbrev back_there : Asks
  back_there s x m rs = HasNodeIf (is_given (given s)) r rs

  abbrev going : ℕ → Option OldPlace
  going s = cond (mark_at kept s) None (given s)

  abbrev pub back_leaves : Asks
  back_leaves s x m rs = HasNodeIf (is_given (going s)) r rs

  abbrev back_is_left : Gives
  back_is_left s x m n rs us = IsLeftIf (is_given (going s)) x m n r rs us

  abbrev back_comes : Asks
  back_comes s x m rs = CanReturnTo (going s) x m r rs

  abbrev back_has_come : Gives
  back_has_come s x m n rs us = IsBackAt (going s) x m n r rs us

  abbrev pub back_asked : Asks
  back_asked = keeping back_asks kept back_stamps r v

  goes_if : (k : Bool) (g : Option OldPlace) (x : Structure) (m : Pooled Stored) (rs : List Ref) → CanMoveBackTo g x m r v rs → HasNodeIf (is_given (cond k None g)) r rs
  goes_if true g x m rs c = tt
  goes_if false g x m rs c = leave_for g x m r v rs c

  goes_one : (m : Pooled Stored) (s : ℕ) (x : Structure) (rs : List Ref) → back_asked s x m rs → back_leaves s x m rs
  goes_one m s x rs c = goes_if (mark_at kept s) (given s) x m rs c.0

  all_back_there : (xs : List Structure) (s : ℕ) (m : Pooled Stored) (rss : List (List Ref)) → AllCan back_asks xs s m rss → AllCan back_there xs s m rss
  all_back_there [] s m rss c = tt
  all_back_there (x ∷ xs) s m [] c = tt
  all_back_there (x ∷ xs) s m (rs ∷ rss) c = (leave_for (given s) x m r v rs c.0, all_back_there xs (s + 1) m rss c.1)

  pub are_back_there : (xs : List Structure) (m : Pooled Stored) → AreReady back_asks 0 xs m → AreReady back_there 0 xs m
  are_back_there xs m q = record { rss = q.rss; stand = q.stand; can = all_back_there xs 0 m q.rss q.can }

  module _ (xs : List Structure) (m : Pooled Stored)
      (flags : (rss : List (List Ref)) → AllStand xs 0 m rss → AllCan back_there xs 0 m rss → AllCan (flagged kept back_stamps r v) xs 0 m rss) where
    pub can_keep_back : (rss : List (List Ref)) → AllStand xs 0 m rss → AllCan back_asks xs 0 m rss → AllCan back_asked xs 0 m rss
    can_keep_back rss a c = all_keep back_asks kept back_stamps r v xs 0 m rss c (flags rss a (all_back_there xs 0 m rss c))

    pub are_asked_back : AreReady back_asks 0 xs m → AreReady back_asked 0 xs m
    are_asked_back q = record { rss = q.rss; stand = q.stand; can = can_keep_back q.rss q.stand q.can }

  pub can_go_leave : (xs : List Structure) (m : Pooled Stored) → AreReady back_asked 0 xs m → AreReady back_leaves 0 xs m
  can_go_leave xs m q = can_out back_asked back_leaves back_comes back_is_left back_has_come back_gives (retags kept back_stamps) r v m m m (goes_one m) xs q

  module _ (xs ys : List Structure) (m n o : Pooled Stored) (held : IsHeld m r) (ex : IsExchanged r v n o)
      (own : AreRetagged (retags kept back_stamps) r v ys 0 n o) (like : AllLike xs ys) (out : IsPass back_leaves back_is_left r 0 xs ys m n) where
    pub can_go_come : AreReady back_asked 0 xs m → AreReady back_comes 0 ys o
    can_go_come = can_again back_asked back_leaves back_comes back_is_left back_has_come back_gives (retags kept back_stamps) r v xs ys m n o ex own like out (goes_one m)
        (λ q s x y rs us w at a g h c d. stand_for m n o r v q.0 q.1 held ex (given s) (mark_at kept s) x y s rs us w at a g h c d)
        (λ q s x y rs us w g c d. return_one m n o r v q.0 q.1 held ex (given s) (mark_at kept s) x y rs us w g c d)

    pub is_given_back : (zs : List Structure) (p : Pooled Stored) → IsPass back_comes back_has_come r 0 ys zs o p
        → (rss : List (List Ref)) → AllStand xs 0 m rss → AllCan back_asked xs 0 m rss → IsRekeyed back_gives r v xs zs m p rss
    is_given_back zs p back =
        is_again back_asked back_leaves back_comes back_is_left back_has_come back_gives (retags kept back_stamps) r v xs ys m n o ex own like out (goes_one m)
        (λ q s x y rs us w at a g h c d. stand_for m n o r v q.0 q.1 held ex (given s) (mark_at kept s) x y s rs us w at a g h c d)
        (λ q s x y rs us w g c d. return_one m n o r v q.0 q.1 held ex (given s) (mark_at kept s) x y rs us w g c d)
        zs p back (λ k s x rs us d h. left_outs (is_given (going s)) x m n r k rs us d h)
        (λ q values s x y rs us ws w at a g c d e. back_one m n o r v q.0 q.1 held ex (given s) (mark_at kept s) x y p s rs us ws values w at a c d e)
