-- A new node comes into every index.
--     like_both      what is like a like one is like it
--     can_insert, is_inserted      from chains that have grown and a node that was taken
-- Cited by `Nodes::link_in`, `Nodes::rekey`, `Nodes::rekey_back`, `Nodes::restamp`, `Structures::grow` and 5 more.
use Rattle.std.proofs.Common.{◌≡◌, ℕ, ◌+◌, ◌==◌, false, cond, List, [], ◌∷◌, length, Option, Some, None, Vec, Global, refl, sym, ap, ◌∙◌, subst, arith}
use Rattle.std.specs.Vec.{with_items}
use Rattle.std.proofs.lemmas.List.{with_items_is}
use Rattle.mi_node.specs.Pool.{Pooled, ref_of, value_of, link_of, taken}
use Rattle.mi_node.specs.Refs.{Ref}
use Rattle.mi_node.specs.declared.link.Link.{Link}
use Rattle.mi_node.proofs.EntryLemmas.{flip, held_taken, same_refl, ref-taken, value-taken}
use Rattle.mi_tree.specs.Sorted.{NoneAre}
use Rattle.mi_chain.specs.Keying.{stamp_at}
use Rattle.mi_order.specs.Orders.{stored_order}
use Rattle.mi_index.specs.Standing.{IsLike, IsRoomy}
use Rattle.mi_index.specs.Places.{before_at, NoneHas, IsPut, HasStamp, IsJoined, KeepsTags}
use Rattle.mi_index.specs.Pass.{AllStand, AllCan, AllGiven, AllLike, AreReady, IsPass, AllRoomy}
use Rattle.mi_index.specs.Passes.{joining, joined, nothing_asked, grown}
use Rattle.std.specs.declared.cmp.Ordering.TheVariants.{Equal}
use Rattle.mi_index.specs.Rekeying.{side_of_value, HasPlaceFor}
use Rattle.mi_index.specs.Inserting.{coming_in, come_in, IsInserted}
use Rattle.mi_order.specs.declared.stored.Stored.{Stored}
use Rattle.mi_order.specs.declared.orders.ByKey.{ByKey}
use Rattle.mi_index.specs.declared.moved_indexes.MovedIndexes.TheVariants.{All}
use Rattle.mi_index.specs.declared.structure.Structure.{Structure}
use Rattle.mi_index.specs.declared.structure.Structure.TheVariants.{Sorted, Hashed, Sequenced}
use Rattle.mi_index.proofs.LikeLemmas.{by_kind}
use Rattle.mi_index.proofs.OtherNodeLemmas.{AgreeBut, but_taken, all_but, out_of_one, out_of_all, OtherTags, place_seen}

-- Structures of one kind

like_one : (x y z : Structure) → IsLike x y → IsLike y z → IsLike x z
like_one (Sorted a) (Sorted b) (Sorted c) g h = (h.0 ∙ g.0, h.1 ∙ g.1)
like_one (Sorted a) (Sorted b) (Hashed c) g h = absurd h
like_one (Sorted a) (Sorted b) (Sequenced c) g h = absurd h
like_one (Sorted a) (Hashed b) z g h = absurd g
like_one (Sorted a) (Sequenced b) z g h = absurd g
like_one (Hashed a) (Sorted b) z g h = absurd g
like_one (Hashed a) (Hashed b) (Sorted c) g h = absurd h
like_one (Hashed a) (Hashed b) (Hashed c) g h = let f = g.2 in let k = h.2 in (h.0 ∙ g.0, h.1 ∙ g.1, omega (arith, f, k))
like_one (Hashed a) (Hashed b) (Sequenced c) g h = absurd h
like_one (Hashed a) (Sequenced b) z g h = absurd g
like_one (Sequenced a) (Sorted b) z g h = absurd g
like_one (Sequenced a) (Hashed b) z g h = absurd g
like_one (Sequenced a) (Sequenced b) (Sorted c) g h = absurd h
like_one (Sequenced a) (Sequenced b) (Hashed c) g h = absurd h
like_one (Sequenced a) (Sequenced b) (Sequenced c) g h = h ∙ g

pub like_both : (xs ys zs : List Structure) → AllLike xs ys → AllLike ys zs → AllLike xs zs
like_both [] [] zs g h = h
like_both [] (y ∷ ys) zs g h = absurd g
like_both (x ∷ xs) [] zs g h = absurd g
like_both (x ∷ xs) (y ∷ ys) [] g h = absurd h
like_both (x ∷ xs) (y ∷ ys) (z ∷ zs) g h = (like_one x y z g.0 h.0, like_both xs ys zs g.1 h.1)

-- room stays

roomy_one : (x y : Structure) (n : ℕ) → IsLike x y → IsRoomy x n → IsRoomy y n
roomy_one x y n = by_kind (λ x y. IsRoomy x n → IsRoomy y n) (λ a c g h. tt) (λ a c g h. let f = g.2 in omega (arith, f, h)) (λ a c g h. tt) x y

pub roomy_all : (xs ys : List Structure) (n : ℕ) → AllLike xs ys → AllRoomy xs n → AllRoomy ys n
roomy_all [] [] n g h = tt
roomy_all [] (y ∷ ys) n g h = absurd g
roomy_all (x ∷ xs) [] n g h = absurd g
roomy_all (x ∷ xs) (y ∷ ys) n g h = (roomy_one x y n g.0 h.0, roomy_all xs ys n g.1 h.1)

-- in a vector whose structures were lent, and are others like them
pub roomy_lent : (v : Vec Structure Global) (was new : List Structure) (n : ℕ) → length new ≡ v.len → was ≡ v.items
    → AllLike was new → AllRoomy v.items n → AllRoomy (with_items v new).items n
roomy_lent v was new n long is like h =
    subst (λ zs. AllRoomy zs n) (sym (with_items_is v new long)) (roomy_all v.items new n (subst (λ zs. AllLike zs new) is like) h)

-- a place in one is a place in the other
pub place_like : (x y : Structure) (m : Pooled Stored) (v : Stored) (t : ℕ) (b : Option Ref) (rs : List Ref)
    → IsLike x y → HasPlaceFor x m v t b rs → HasPlaceFor y m v t b rs
place_like x y m v t b rs = by_kind (λ x y. HasPlaceFor x m v t b rs → HasPlaceFor y m v t b rs)
    (λ a c g h. subst (λ s. NoneAre (side_of_value (stored_order c.order.parts) m s v t) Equal rs) (sym g.0)
    (subst (λ (o : ByKey). NoneAre (side_of_value (stored_order o.parts) m a.slot v t) Equal rs) (sym g.1) h))
    (λ a c g h. subst (λ s. NoneHas (stamp_at m s) t rs) (sym g.0) h) (λ a c g h. h) x y

-- tags of other nodes

-- in one slot
abbrev SameTags : ℕ → ℕ → Pooled Stored → Pooled Stored → Type 0
SameTags s k m n = (q : ℕ) → (k == q) ≡ false → (link_of n q s).tag ≡ (link_of m q s).tag

pub tags_like : (x y : Structure) (k : ℕ) (m n : Pooled Stored) → IsLike x y → OtherTags x k m n → OtherTags y k m n
tags_like x y k m n = by_kind (λ x y. OtherTags x k m n → OtherTags y k m n) (λ a c g h. subst (λ s. SameTags s k m n) (sym g.0) h)
    (λ a c g h. subst (λ s. SameTags s k m n) (sym g.0) h) (λ a c g h. tt) x y

pub tags_but : (x : Structure) (k : ℕ) (m n o : Pooled Stored) → KeepsTags x m n → AgreeBut k n o → OtherTags x k m o
tags_but (Sorted a) k m n o h g = λ q e. ap (λ (l : Link). l.tag) (g.links q a.slot e) ∙ h q
tags_but (Hashed a) k m n o h g = λ q e. ap (λ (l : Link). l.tag) (g.links q a.slot e) ∙ h q
tags_but (Sequenced a) k m n o h g = tt

-- a node that got its stamp after other changes
stamped_over : (s u : ℕ) (m n o : Pooled Stored) (r : Ref) (t : ℕ) → u ≡ s → SameTags s r.name m n
    → (stamp_at o u r ≡ t) × SameTags u r.name n o → (stamp_at o s r ≡ t) × SameTags s r.name m o
stamped_over s u m n o r t e tags h =
    let others = subst (λ s. SameTags s r.name n o) e h.1 in (subst (λ s. stamp_at o s r ≡ t) e h.0, λ q d. others q d ∙ tags q d)

pub stamp_over : (x y : Structure) (m n o : Pooled Stored) (r : Ref) (t : ℕ) → IsLike x y → OtherTags x r.name m n → HasStamp y n o r t → HasStamp x m o r t
stamp_over x y m n o r t = by_kind (λ x y. OtherTags x r.name m n → HasStamp y n o r t → HasStamp x m o r t)
    (λ a c g. stamped_over a.slot c.slot m n o r t g.0) (λ a c g. stamped_over a.slot c.slot m n o r t g.0) (λ a c g tags h. tt) x y

put_like : (x y : Structure) (b : Option Ref) (ys : List Ref) → IsLike x y → IsPut y b ys → IsPut x b ys
put_like x y b ys = by_kind (λ x y. IsPut y b ys → IsPut x b ys) (λ a c g h. tt) (λ a c g h. tt) (λ a c g h. h) x y

joined_over : (x y : Structure) (m n o : Pooled Stored) (r : Ref) (t : ℕ) (b : Option Ref) (rs us : List Ref)
    → IsLike x y → OtherTags x r.name m n → IsJoined y n o r t b rs us → IsJoined x m o r t b rs us
joined_over x y m n o r t b rs us g tags h = record {
  joined = h.joined;
  put = put_like x y b h.joined.ys g h.put;
  stamped = stamp_over x y m n o r t g tags h.stamped;
}

-- All structures

pub nothing_all : (xs : List Structure) (s : ℕ) (m : Pooled Stored) (rss : List (List Ref)) → AllCan nothing_asked xs s m rss
nothing_all [] s m rss = tt
nothing_all (x ∷ xs) s m [] = tt
nothing_all (x ∷ xs) s m (rs ∷ rss) = (tt, nothing_all xs (s + 1) m rss)

grown_same : (xs : List Structure) (s : ℕ) (m n : Pooled Stored) (rss uss : List (List Ref)) → AllGiven grown xs s m n rss uss → uss ≡ rss
grown_same [] s m n [] [] d = refl
grown_same [] s m n [] (us ∷ uss) d = absurd d
grown_same [] s m n (rs ∷ rss) uss d = absurd d
grown_same (x ∷ xs) s m n [] uss d = absurd d
grown_same (x ∷ xs) s m n (rs ∷ rss) [] d = absurd d
grown_same (x ∷ xs) s m n (rs ∷ rss) (us ∷ uss) d = λ i. d.0.list i ∷ grown_same xs (s + 1) m n rss uss d.1 i

-- chains have grown from m to n, and then a node was taken
module _ (m n : Pooled Stored) (r : Ref) (v : Stored) (values : (k : ℕ) → value_of n k ≡ value_of m k) (free : ref_of n r.name ≡ None) where
  abbrev o : Pooled Stored
  o = taken n r v

  own : value_of o r.name ≡ Some v
  own = value-taken n r v r.name ∙ ap (λ b. cond b (Some v) (value_of n r.name)) (same_refl r.name)

  others : (q : ℕ) → (r.name == q) ≡ false → value_of o q ≡ value_of m q
  others q e = (but_taken n r v).values q e ∙ values q

  can_all : (t : ℕ) (b : Option (ℕ × Ref)) (xs ys : List Structure) (s : ℕ) (rss uss : List (List Ref))
      → AllLike xs ys → AllGiven grown xs s m n rss uss → AllStand ys s n rss → AllCan (coming_in v t b) xs s m rss
      → AllCan (joining All r t b) ys s o rss
  can_all t b [] [] s rss uss like d h c = tt
  can_all t b [] (y ∷ ys) s rss uss like d h c = absurd like
  can_all t b (x ∷ xs) [] s rss uss like d h c = absurd like
  can_all t b (x ∷ xs) (y ∷ ys) s [] uss like d h c = tt
  can_all t b (x ∷ xs) (y ∷ ys) s (rs ∷ rss) [] like d h c = absurd d
  can_all t b (x ∷ xs) (y ∷ ys) s (rs ∷ rss) (us ∷ uss) like d h c =
      let out = out_of_one y n r.name rs free h.1 in
      let tags = tags_like x y r.name m o like.0 (tags_but x r.name m n o d.0.tags (but_taken n r v)) in (
        record {
          held = held_taken n r v;
          out = out;
          few = c.0.few;
          place = place_seen m o r v own others y t (before_at s b) rs tags out (place_like x y m v t (before_at s b) rs like.0 c.0.place);
        },
        can_all t b xs ys (s + 1) rss uss like.1 d.1 h.2 c.1,
      )

  done_all : (t : ℕ) (b : Option (ℕ × Ref)) (xs ys : List Structure) (s : ℕ) (p : Pooled Stored) (rss uss wss : List (List Ref))
      → AllLike xs ys → AllGiven grown xs s m n rss uss → AllGiven (joined All r t b) ys s o p rss wss
      → AllGiven (come_in r t b) xs s m p rss wss
  done_all t b [] [] s p rss uss wss like d j = nothing_done rss wss j
    where
      nothing_done : (rss wss : List (List Ref)) → AllGiven (joined All r t b) [] s o p rss wss → AllGiven (come_in r t b) [] s m p rss wss
      nothing_done [] [] j = tt
      nothing_done [] (ws ∷ wss) j = absurd j
      nothing_done (rs ∷ rss) wss j = absurd j
  done_all t b [] (y ∷ ys) s p rss uss wss like d j = absurd like
  done_all t b (x ∷ xs) [] s p rss uss wss like d j = absurd like
  done_all t b (x ∷ xs) (y ∷ ys) s p [] uss wss like d j = absurd j
  done_all t b (x ∷ xs) (y ∷ ys) s p (rs ∷ rss) [] wss like d j = absurd d
  done_all t b (x ∷ xs) (y ∷ ys) s p (rs ∷ rss) (us ∷ uss) [] like d j = absurd j
  done_all t b (x ∷ xs) (y ∷ ys) s p (rs ∷ rss) (us ∷ uss) (ws ∷ wss) like d j = (
    joined_over x y m o p r t (before_at s b) rs ws like.0 (tags_but x r.name m n o d.0.tags (but_taken n r v)) j.0,
    done_all t b xs ys (s + 1) p rss uss wss like.1 d.1 j.1,
  )

module _ (m n : Pooled Stored) (r : Ref) (v : Stored) (t : ℕ) (b : Option (ℕ × Ref)) (xs ys : List Structure)
    (like : AllLike xs ys) (grow : (q : Ref) → IsPass nothing_asked grown q 0 xs ys m n) (free : ref_of n r.name ≡ None) where
  pub can_insert : AreReady (coming_in v t b) 0 xs m → AreReady (joining All r t b) 0 ys (taken n r v)
  can_insert q =
      let g = grow r q.rss q.stand (nothing_all xs 0 m q.rss) in
      let h = subst (AllStand ys 0 n) (grown_same xs 0 m n q.rss g.uss g.done) g.stand in
      record {
        rss = q.rss;
        stand = all_but ys 0 r.name n (taken n r v) q.rss (but_taken n r v) (out_of_all ys 0 n r.name q.rss free h) h;
        can = can_all m n r v g.keeps.values free t b xs ys 0 q.rss g.uss like g.done h q.can;
      }

  pub is_inserted : (zs : List Structure) (p : Pooled Stored) → IsPass (joining All r t b) (joined All r t b) r 0 ys zs (taken n r v) p
      → (rss : List (List Ref)) → AllStand xs 0 m rss → AllCan (coming_in v t b) xs 0 m rss
      → IsInserted r v t b xs zs m p rss
  is_inserted zs p pass rss stand can =
      let g = grow r rss stand (nothing_all xs 0 m rss) in
      let h = subst (AllStand ys 0 n) (grown_same xs 0 m n rss g.uss g.done) g.stand in
      let a = pass rss (all_but ys 0 r.name n (taken n r v) rss (but_taken n r v) (out_of_all ys 0 n r.name rss free h) h)
      (can_all m n r v g.keeps.values free t b xs ys 0 rss g.uss like g.done h can) in
      let k = a.keeps in
      record {
        uss = a.uss;
        done = done_all m n r v g.keeps.values free t b xs ys 0 p rss g.uss a.uss like g.done a.done;
        stand = a.stand;
        free = sym (g.keeps.refs r.name) ∙ free;
        refs = λ q. k.refs q ∙ ref-taken n r v q ∙ ap (cond (r.name == q) (Some r)) (g.keeps.refs q);
        values = λ q. k.values q ∙ value-taken n r v q ∙ ap (cond (r.name == q) (Some v)) (g.keeps.values q);
        slots = k.slots ∙ (but_taken n r v).slots ∙ g.keeps.slots;
        other_nodes = λ q s e out. k.other_nodes q s e out ∙ (but_taken n r v).links q s (flip r.name q ∙ e) ∙ g.keeps.other_nodes q s e out;
      }
