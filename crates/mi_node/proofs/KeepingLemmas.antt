-- What a change of one structure keeps, for the proofs of every structure.
--     keeps_..        `Keeps` of no change, of one call of `set_link`, of one change after another
--     SameLinks, same_..      that nodes have the same links of a slot after a change of other nodes, or after `take`, `give` and `swap_value`
--     absent_out, node_count-least      lists of held nodes
-- Cited by `NeighbourLemmas`, `mi_chain`, `mi_index`, `mi_list`, `mi_tree` and `test_storage`.
use Rattle.std.proofs.Common.{◌≡◌, ℕ, ◌≤◌, ◌==◌, Bool, true, false, cond, List, [], ◌∷◌, ◌++◌, length, Some, None, refl, sym, ap, ◌∙◌, arith}
use Rattle.mi_node.specs.Pool.{Pooled, ref_of, link_of, no_link, node_count, IsHeld, Keeps, taken, without, with_link, with_value}
use Rattle.mi_node.specs.Neighbours.{AreHeld}
use Rattle.mi_node.specs.Refs.{Ref, IsOut, IsApart, AreOut}
use Rattle.mi_node.specs.declared.link.Link.{Link}
use Rattle.mi_node.proofs.EntryLemmas.{flip, same_name, none_some, fewer, ref-taken, link-taken, ref-without, link-without, ref-with_value}
use Rattle.mi_node.proofs.EntryLemmas.{link-with_value, slots-with_link, ref-with_link, value-with_link, link_there, link_beside}

module _ {T : Type 0} where
  -- a change that changes nothing
  pub keeps_none : (s : ℕ) (m : Pooled T) (rs : List Ref) → Keeps m m s rs
  keeps_none s m rs = record { refs = λ k. refl; values = λ k. refl; slots = refl; other_slots = λ k t e. refl; other_nodes = λ k t o. refl }

  -- one link is set
  pub keeps_link : (s : ℕ) (m : Pooled T) (x : Ref) (l : Link) → Keeps m (with_link m x.name s l) s (x ∷ [])
  keeps_link s m x l = record {
    refs = ref-with_link m x.name s l;
    values = value-with_link m x.name s l;
    slots = slots-with_link m x.name s l;
    other_slots = λ k t e. link_beside m x.name s l k t e;
    other_nodes = λ k t o. link_there m x.name s l k t (flip x.name k ∙ o.0);
  }

  -- one change after another, of nodes among ws
  pub keeps_then : (s : ℕ) (m n o : Pooled T) (us vs ws : List Ref) → Keeps m n s us
      → Keeps n o s vs → ((k : ℕ) → IsOut k ws → IsOut k us × IsOut k vs) → Keeps m o s ws
  keeps_then s m n o us vs ws g h among = record {
    refs = λ k. h.refs k ∙ g.refs k;
    values = λ k. h.values k ∙ g.values k;
    slots = h.slots ∙ g.slots;
    other_slots = λ k t e. h.other_slots k t e ∙ g.other_slots k t e;
    other_nodes = λ k t out. let on = among k out in h.other_nodes k t on.1 ∙ g.other_nodes k t on.0;
  }

  pub keeps_more : (s : ℕ) (m n : Pooled T) (us ws : List Ref) → Keeps m n s us → ((k : ℕ) → IsOut k ws → IsOut k us) → Keeps m n s ws
  keeps_more s m n us ws g among = keeps_then s m n n us us ws g (keeps_none s n us) (λ k o. let on = among k o in (on, on))

  -- held nodes stay held
  pub held_kept : (s : ℕ) (m n : Pooled T) (us : List Ref) (r : Ref) → Keeps m n s us → IsHeld m r → IsHeld n r
  held_kept s m n us r g h = g.refs r.name ∙ h

-- the nodes rs have the same reference, and the same link of slot s, in both pools
abbrev pub SameLinks : {T : Type 0} → Pooled T → Pooled T → ℕ → List Ref → Type 0
SameLinks m n s [] = Unit {0}
SameLinks m n s (r ∷ rs) = (ref_of n r.name ≡ ref_of m r.name) × (link_of n r.name s ≡ link_of m r.name s) × SameLinks m n s rs

module _ {T : Type 0} where
  same_where : (m n : Pooled T) (s : ℕ) (rs : List Ref) → ((k : ℕ) → ref_of n k ≡ ref_of m k)
      → ((k : ℕ) → link_of n k s ≡ link_of m k s) → SameLinks m n s rs
  same_where m n s [] refs links = tt
  same_where m n s (r ∷ rs) refs links = (refs r.name, links r.name, same_where m n s rs refs links)

  same_append : (m n : Pooled T) (s : ℕ) (xs ys : List Ref) → SameLinks m n s xs → SameLinks m n s ys → SameLinks m n s (xs ++ ys)
  same_append m n s [] ys g h = h
  same_append m n s (x ∷ xs) ys g h = (g.0, g.1, same_append m n s xs ys g.2 h)

  -- after a change of other nodes
  pub same_other_nodes : (s t : ℕ) (m n : Pooled T) (us rs : List Ref) → Keeps m n s us → AreOut rs us → SameLinks m n t rs
  same_other_nodes s t m n us [] g a = tt
  same_other_nodes s t m n us (r ∷ rs) g a = (g.refs r.name, g.other_nodes r.name t a.0, same_other_nodes s t m n us rs g a.1)

  -- after `swap_value`
  pub same_with_value : (m : Pooled T) (k : ℕ) (v : T) (s : ℕ) (rs : List Ref) → SameLinks m (with_value m k v) s rs
  same_with_value m k v s rs = same_where m (with_value m k v) s rs (ref-with_value m k v) (λ q. link-with_value m k v q s)

  -- after `take`
  pub same_taken : (m : Pooled T) (r : Ref) (v : T) (s : ℕ) (rs : List Ref) → IsOut r.name rs → SameLinks m (taken m r v) s rs
  same_taken m r v s [] o = tt
  same_taken m r v s (x ∷ rs) o = (
    ref-taken m r v x.name ∙ ap (λ b. cond b (Some r) (ref_of m x.name)) o.0,
    link-taken m r v x.name s ∙ ap (λ b. cond b no_link (link_of m x.name s)) o.0,
    same_taken m r v s rs o.1,
  )

  -- after `give`
  pub same_without : (m : Pooled T) (k s : ℕ) (rs : List Ref) → IsOut k rs → SameLinks m (without m k) s rs
  same_without m k s [] o = tt
  same_without m k s (x ∷ rs) o = (
    ref-without m k x.name ∙ ap (λ b. cond b None (ref_of m x.name)) o.0,
    link-without m k x.name s ∙ ap (λ b. cond b no_link (link_of m x.name s)) o.0,
    same_without m k s rs o.1,
  )

  -- a name of no node is out of any list of held nodes
  pub absent_out : (m : Pooled T) (k : ℕ) (rs : List Ref) → ref_of m k ≡ None → AreHeld m rs → IsOut k rs
  absent_out m k [] none held = tt
  absent_out m k (r ∷ rs) none held = (differs (k == r.name) refl, absent_out m k rs none held.1)
    where
      differs : (b : Bool) → (k == r.name) ≡ b → (k == r.name) ≡ false
      differs true e = absurd (none_some r (sym none ∙ ap (ref_of m) (same_name k r.name e) ∙ held.0))
      differs false e = e

  -- a list of held nodes, none of which stands twice, is no longer than the pool has nodes
  held_without : (m : Pooled T) (k : ℕ) (rs : List Ref) → IsOut k rs → AreHeld m rs → AreHeld (without m k) rs
  held_without m k [] o h = tt
  held_without m k (r ∷ rs) o h = (ref-without m k r.name ∙ ap (λ b. cond b None (ref_of m r.name)) o.0 ∙ h.0, held_without m k rs o.1 h.1)

  pub node_count-least : (m : Pooled T) (rs : List Ref) → IsApart rs → AreHeld m rs → length rs ≤ node_count m
  node_count-least m [] a h = omega arith
  node_count-least m (r ∷ rs) a h =
      let less = fewer m r h.0 in let rest = node_count-least (without m r.name) rs a.1 (held_without m r.name rs a.0 h.1) in omega arith
