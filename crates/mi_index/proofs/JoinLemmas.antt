-- A node that joins the structure of an index, leaves it, or comes back to it.
--     cut_at      a list of rising stamps, cut at one that isn't there
--     tree_with      a tree in which a node was put
--     chain_placed, fits_again      where a node may join chains, and where it may come back to
--     chains_stand      chains after a change
-- Cited by `structure::link_chains`, `structure::link_tree`, `structure::move_in_list`, `structure::relink_chains`, 6 more and `mi_multi`.
use Rattle.std.proofs.Common.{◌≡◌, ℕ, ◌<◌, ◌≤◌, ◌+◌, ◌^◌, ◌==◌, nat_lt, ◌⊎◌, inl, inr, Bool, true, false}
use Rattle.std.proofs.Common.{cond, List, [], ◌∷◌, ◌++◌, length, refl, sym, ap, ◌∙◌, subst, arith}
use Rattle.std.proofs.lemmas.Bool.{ltb-true, ltb-false}
use Rattle.mi_node.specs.Pool.{Pooled, link_of, IsHeld, Keeps}
use Rattle.mi_node.specs.Refs.{Ref, IsOut}
use Rattle.mi_node.specs.declared.link.Tag.{Tag}
use Rattle.mi_node.proofs.EntryLemmas.{flip, same_refl}
use Rattle.mi_node.proofs.RefLemmas.{out_left, out_right}
use Rattle.mi_node.proofs.KeepingLemmas.{keeps_more}
use Rattle.mi_list.proofs.ChangeLemmas.{out_among}
use Rattle.mi_tree.specs.Sorted.{side_of_new, IsPutIn}
use Rattle.mi_tree.specs.Standing.{IsTree}
use Rattle.mi_tree.specs.declared.tree.Tree.{Tree}
use Rattle.mi_chain.specs.Keying.{Keying, same_nodes, stamp_at}
use Rattle.mi_chain.specs.Chained.{AreAfter, AreBefore, IsPlaced, AreChained}
use Rattle.mi_chain.specs.declared.chains.Chains.{Chains}
use Rattle.mi_order.specs.Orders.{stored_order, stored_tag, keying_of}
use Rattle.mi_index.specs.Standing.{AllAbove, AllBelow, Climb, Stands}
use Rattle.mi_index.specs.Places.{IsWith, NoneHas, HasStamp}
use Rattle.mi_order.specs.declared.stored.Stored.{Stored}
use Rattle.mi_order.specs.declared.orders.ByKey.{ByKey}
use Rattle.mi_order.specs.declared.orders.ByHash.{ByHash}
use Rattle.mi_index.specs.declared.structure.Structure.TheVariants.{Sorted, Hashed}

-- a list of rising stamps, cut at a stamp that isn't there
pub record IsCut (f : Ref → ℕ) (n : ℕ) (rs : List Ref) : Type 0 where
  pub xs : List Ref
  pub ys : List Ref
  pub parts : rs ≡ xs ++ ys
  pub below : AllBelow f n xs
  pub above : AllAbove f n ys

all_more : (f : Ref → ℕ) (n k : ℕ) (rs : List Ref) → n < k → AllAbove f k rs → AllAbove f n rs
all_more f n k [] l h = tt
all_more f n k (r ∷ rs) l h = (let a = h.0 in omega arith, all_more f n k rs l h.1)

less_or_more : (a b : ℕ) → (a ≡ b → ⊥) → (a < b) ⊎ (b < a)
less_or_more a b d = elim (nat_lt a b) as (λ t. nat_lt a b ≡ t → (a < b) ⊎ (b < a)) [
  | true ↦ λ e. inl (ltb-true a b e)
  | false ↦ λ e. inr (let l : b ≤ a = ltb-false a b e in omega arith)
] refl

pub cut_at : (f : Ref → ℕ) (n : ℕ) (rs : List Ref) → Climb f rs → NoneHas f n rs → IsCut f n rs
cut_at f n [] h d = record { xs = []; ys = []; parts = refl; below = tt; above = tt }
cut_at f n (r ∷ rs) h d =
    elim (less_or_more n (f r) d.0) [
      | inl l ↦ record { xs = []; ys = r ∷ rs; parts = refl; below = tt; above = (l, all_more f n (f r) rs l h.0) }
      | inr g ↦ (let c = cut_at f n rs h.1 d.1 in record { xs = r ∷ c.xs; ys = c.ys; parts = ap (λ l. r ∷ l) c.parts; below = (g, c.below); above = c.above })
    ]

-- rising stamps with one more
above_both : (f : Ref → ℕ) (n : ℕ) (xs ys : List Ref) → AllAbove f n xs → AllAbove f n ys → AllAbove f n (xs ++ ys)
above_both f n [] ys g h = h
above_both f n (x ∷ xs) ys g h = (g.0, above_both f n xs ys g.1 h)

above_left : (f : Ref → ℕ) (n : ℕ) (xs ys : List Ref) → AllAbove f n (xs ++ ys) → AllAbove f n xs
above_left f n [] ys h = tt
above_left f n (x ∷ xs) ys h = (h.0, above_left f n xs ys h.1)

above_right : (f : Ref → ℕ) (n : ℕ) (xs ys : List Ref) → AllAbove f n (xs ++ ys) → AllAbove f n ys
above_right f n [] ys h = h
above_right f n (x ∷ xs) ys h = above_right f n xs ys h.1

climb_with : (f : Ref → ℕ) (r : Ref) (xs ys : List Ref) → Climb f (xs ++ ys) → AllBelow f (f r) xs → AllAbove f (f r) ys → Climb f (xs ++ r ∷ ys)
climb_with f r [] ys h b a = (a, h)
climb_with f r (x ∷ xs) ys h b a = (
  above_both f (f x) xs (r ∷ ys) (above_left f (f x) xs ys h.0) (b.0, above_right f (f x) xs ys h.0),
  climb_with f r xs ys h.1 b.1 a,
)

pub climb_without : (f : Ref → ℕ) (r : Ref) (xs ys : List Ref) → Climb f (xs ++ r ∷ ys) → Climb f (xs ++ ys)
climb_without f r [] ys h = h.1
climb_without f r (x ∷ xs) ys h =
    (above_both f (f x) xs ys (above_left f (f x) xs (r ∷ ys) h.0) (above_right f (f x) xs (r ∷ ys) h.0).1, climb_without f r xs ys h.1)

-- stamps that nodes of other names keep
module _ (f g : Ref → ℕ) (k : ℕ) (same : (q : Ref) → (k == q.name) ≡ false → g q ≡ f q) where
  below_on : (n i : ℕ) (rs : List Ref) → IsOut k rs → i ≡ n → AllBelow f n rs → AllBelow g i rs
  below_on n i [] o e h = tt
  below_on n i (q ∷ rs) o e h = ((let a = h.0 in let b = same q o.0 in omega arith), below_on n i rs o.1 e h.1)

  above_on : (n i : ℕ) (rs : List Ref) → IsOut k rs → i ≡ n → AllAbove f n rs → AllAbove g i rs
  above_on n i [] o e h = tt
  above_on n i (q ∷ rs) o e h = ((let a = h.0 in let b = same q o.0 in omega arith), above_on n i rs o.1 e h.1)

  climb_on : (rs : List Ref) → IsOut k rs → Climb f rs → Climb g rs
  climb_on [] o h = tt
  climb_on (q ∷ rs) o h = (above_on (f q) (g q) rs o.1 (same q o.0) h.0, climb_on rs o.1 h.1)

  climb_in : (r : Ref) (stamp : ℕ) (xs ys : List Ref) → IsOut k (xs ++ ys) → g r ≡ stamp
      → Climb f (xs ++ ys) → AllBelow f stamp xs → AllAbove f stamp ys → Climb g (xs ++ r ∷ ys)
  climb_in r stamp xs ys o e h b a = climb_with g r xs ys (climb_on (xs ++ ys) o h)
      (below_on stamp (g r) xs (out_left k xs ys o) e b) (above_on stamp (g r) ys (out_right k xs ys o) e a)

-- A tree

-- in which a node was put
pub record IsGrownBy (t u : Tree ByKey) (m n : Pooled Stored) (r : Ref) (stamp : ℕ) (rs : List Ref) : Type 0 where
  pub us : List Ref
  pub with_it : IsWith r rs us
  pub stamped : HasStamp (Sorted t) m n r stamp
  pub stands : Stands (Sorted u) n us

pub tree_with : (t u : Tree ByKey) (m n : Pooled Stored) (r : Ref) (stamp : ℕ) (rs : List Ref) → u.order ≡ t.order
    → (us : List Ref) × IsPutIn (side_of_new (stored_order t.order.parts) m t.slot r stamp) r rs us
    × IsTree u n (stored_order t.order.parts) (stored_tag t.order.types t.order.parts) us
    → (link_of n r.name t.slot).tag.stamp ≡ stamp
    → ((k : ℕ) → (k == r.name) ≡ false → (link_of n k t.slot).tag ≡ (link_of m k t.slot).tag) → IsGrownBy t u m n r stamp rs
tree_with t u m n r stamp rs order put stamped tags = record {
  us = put.0;
  with_it = record { xs = put.1.xs; ys = put.1.ys; was = put.1.was; now = put.1.now };
  stamped = (stamped, λ k d. tags k (flip k r.name ∙ d));
  stands = subst (λ (o : ByKey). IsTree u n (stored_order o.parts) (stored_tag o.types o.parts) put.0) (sym order) put.2;
}

-- Chains

are_before : (R : Ref → Ref → Bool) (f : Ref → ℕ) (r : Ref) (n : ℕ) (xs : List Ref) → AllBelow f n xs → AreBefore R f r n xs
are_before R f r n [] h = tt
are_before R f r n (x ∷ xs) h = (λ t. h.0, are_before R f r n xs h.1)

are_after : (R : Ref → Ref → Bool) (f : Ref → ℕ) (r : Ref) (n : ℕ) (xs : List Ref) → AllAbove f n xs → AreAfter R f r n xs
are_after R f r n [] h = tt
are_after R f r n (x ∷ xs) h = (λ t. h.0, are_after R f r n xs h.1)

pub long_with : (xs ys : List Ref) (r : Ref) → length (xs ++ r ∷ ys) ≡ length (xs ++ ys) + 1
long_with [] ys r = omega arith
long_with (x ∷ xs) ys r = let e = long_with xs ys r in omega (arith, e)

pub chain_placed : (k : Keying Stored) (m : Pooled Stored) (s : ℕ) (r : Ref) (stamp : ℕ) (rs xs ys : List Ref)
    → IsHeld m r → IsOut r.name rs → length rs + 1 < 2 ^ 32 → rs ≡ xs ++ ys
    → AllBelow (stamp_at m s) stamp xs → AllAbove (stamp_at m s) stamp ys → IsPlaced k m s r stamp xs ys
chain_placed k m s r stamp rs xs ys held out few parts below above = record {
  held = held;
  out = subst (IsOut r.name) parts out;
  before = are_before (same_nodes k m) (stamp_at m s) r stamp xs below;
  after = are_after (same_nodes k m) (stamp_at m s) r stamp ys above;
  few = let e = long_with xs ys r in let f = ap length parts in omega (arith, e, f, few);
}

-- chains that have become others, of the same slot and keys
chains_same : (c d : Chains ByHash) (n : Pooled Stored) (us : List Ref) → d.slot ≡ c.slot → d.keys ≡ c.keys
    → AreChained d (keying_of c.keys) n us → Climb (stamp_at n c.slot) us → Stands (Hashed d) n us
chains_same c d n us slot keys h w = (subst (λ (k : ByHash). AreChained d (keying_of k) n us) (sym keys) h, subst (λ s. Climb (stamp_at n s) us) (sym slot) w)

-- a node that has a tag of its own has its stamp, and the others have theirs
pub chains_stamped : (c : Chains ByHash) (m n : Pooled Stored) (r : Ref) (tag : Tag)
    → ((k : ℕ) → (link_of n k c.slot).tag ≡ cond (r.name == k) tag (link_of m k c.slot).tag) → HasStamp (Hashed c) m n r tag.stamp
chains_stamped c m n r tag tags = (
  ap (λ (t : Tag). t.stamp) (tags r.name ∙ ap (λ b. cond b tag (link_of m r.name c.slot).tag) (same_refl r.name)),
  λ k other. tags k ∙ ap (λ b. cond b tag (link_of m k c.slot).tag) other,
)

-- after a change that keeps all tags
pub chains_kept : (c d : Chains ByHash) (m n : Pooled Stored) (us : List Ref) → d.slot ≡ c.slot
    → d.keys ≡ c.keys → ((k : ℕ) → (link_of n k c.slot).tag ≡ (link_of m k c.slot).tag)
    → AreChained d (keying_of c.keys) n us → Climb (stamp_at m c.slot) us → Stands (Hashed d) n us
chains_kept c d m n us slot keys tags h w = chains_same c d n us slot keys h (subst (λ f. Climb f us) (λ i q. (sym (tags q.name) i).stamp) w)

-- with a node of another stamp
pub chains_with : (c d : Chains ByHash) (m n : Pooled Stored) (r : Ref) (tag : Tag) (rs xs ys : List Ref) → d.slot ≡ c.slot → d.keys ≡ c.keys
    → ((k : ℕ) → (link_of n k c.slot).tag ≡ cond (r.name == k) tag (link_of m k c.slot).tag)
    → (r.name == r.name) ≡ true → IsOut r.name rs → rs ≡ xs ++ ys → Climb (stamp_at m c.slot) rs
    → AllBelow (stamp_at m c.slot) tag.stamp xs → AllAbove (stamp_at m c.slot) tag.stamp ys
    → AreChained d (keying_of c.keys) n (xs ++ r ∷ ys) → Stands (Hashed d) n (xs ++ r ∷ ys)
chains_with c d m n r tag rs xs ys slot keys tags itself out parts climb below above h =
    let other : (q : Ref) → (r.name == q.name) ≡ false → stamp_at n c.slot q ≡ stamp_at m c.slot q = λ q e.
    ap (λ (t : Tag). t.stamp) (tags q.name ∙ ap (λ b. cond b tag (link_of m q.name c.slot).tag) e) in
    let own : stamp_at n c.slot r ≡ tag.stamp = ap (λ (t : Tag). t.stamp) (tags r.name ∙ ap (λ b. cond b tag (link_of m r.name c.slot).tag) itself) in
    chains_same c d n (xs ++ r ∷ ys) slot keys h
    (climb_in (stamp_at m c.slot) (stamp_at n c.slot) r.name other r tag.stamp xs ys
    (subst (IsOut r.name) parts out) own (subst (Climb (stamp_at m c.slot)) parts climb) below above)

-- what a call keeps of the nodes that stay, it keeps of them and the node
pub keeps_with : (s : ℕ) (m n : Pooled Stored) (r : Ref) (rs xs ys : List Ref) → rs ≡ xs ++ r ∷ ys → Keeps m n s (xs ++ ys) → Keeps m n s (r ∷ rs)
keeps_with s m n r rs xs ys parts g = keeps_more s m n (xs ++ ys) (r ∷ rs) g (λ k o. (out_among k xs r ys (subst (IsOut k) parts o.1)).1)

pub keeps_all : (s : ℕ) (m n : Pooled Stored) (r : Ref) (rs us : List Ref) → rs ≡ us → Keeps m n s us → Keeps m n s (r ∷ rs)
keeps_all s m n r rs us same g = keeps_more s m n us (r ∷ rs) g (λ k o. subst (IsOut k) same o.1)
