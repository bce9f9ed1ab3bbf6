-- Chains whose groups move from old buckets to new ones.
--     AreParted, AreMoving      the nodes that pass a test stand in new buckets, and the rest still in old ones
--     AreBetween      the same, whichever have moved
--     hops      how many steps lead to the end
use Rattle.std.specs.Prelude.{◌≡◌, ℕ, zero, suc, ◌<◌, ◌^◌, Bool, true, false, cond, List as Seq, length, Option, Some, None, slice_index_or, vec_len}
use Rattle.std.specs.List.{filter}
use Rattle.std.specs.Int.{IsPowerOfTwo}
use Rattle.mi_node.specs.Pool.{Pooled}
use Rattle.mi_node.specs.Neighbours.{AreHeld}
use Rattle.mi_node.specs.Refs.{Ref, IsApart}
use Rattle.mi_chain.specs.Keying.{Keying, same_nodes, hash_node, stamp_at}
use Rattle.mi_chain.specs.Groups.{key_count}
use Rattle.mi_chain.specs.Places.{forth_of, back_of}
use Rattle.mi_chain.specs.Chained.{IsRising, in_bucket, IsBucket, AreTagged}
use Rattle.mi_chain.specs.declared.chains.Chains.{Chains}

abbrev pub hops : (Ref → Option Ref) → ℕ → Option Ref → ℕ
hops next zero o = 0
hops next (suc k) None = 0
hops next (suc k) (Some r) = suc (hops next k (next r))

-- the first node of the next group
abbrev pub next_group : {T : Type 0} → Pooled T → ℕ → Ref → Option Ref
next_group m s r = forth_of m s (back_of m s r)

-- whether a node has moved and belongs into bucket i of n, and whether it has not and does
abbrev pub in_new : (Ref → ℕ) → ℕ → ℕ → (Ref → Bool) → Ref → Bool
in_new hash n i moved q = cond (moved q) (in_bucket hash n i q) false

abbrev pub in_old : (Ref → ℕ) → ℕ → ℕ → (Ref → Bool) → Ref → Bool
in_old hash n i moved q = cond (moved q) false (in_bucket hash n i q)

-- of the nodes rs, those that have moved are linked in new buckets, and the others in old ones
pub record AreParted {T : Type 0} (R : Ref → Ref → Bool) (stamp hash : Ref → ℕ) (m : Pooled T) (s : ℕ)
    (news : Seq (Option Ref)) (j : ℕ) (olds : Seq (Option Ref)) (n : ℕ) (rs : Seq Ref) (moved : Ref → Bool) : Type 0 where
  pub slot : s < m.slots
  pub many : 0 < j
  pub some : 0 < n
  pub held : AreHeld m rs
  pub apart : IsApart rs
  pub rising : IsRising R stamp rs
  pub by_key : (a b : Ref) → R a b ≡ true → moved a ≡ moved b
  pub now : (i : ℕ) → i < j → IsBucket R m s (slice_index_or news i None) (filter (in_new hash j i moved) rs)
  pub left : (i : ℕ) → i < n → IsBucket R m s (slice_index_or olds i None) (filter (in_old hash n i moved) rs)

module _ {T H : Type 0} where
  -- the same by keys: the moved ones stand in the chains, the others in n old buckets with these heads
  pub record AreMoving (c : Chains H) (heads : Seq (Option Ref)) (n : ℕ) (k : Keying T) (m : Pooled T) (rs : Seq Ref) (moved : Ref → Bool) : Type 0 where
    pub parted : AreParted (same_nodes k m) (stamp_at m c.slot) (hash_node k m) m c.slot c.buckets.items (vec_len c.buckets) heads n rs moved
    pub tagged : AreTagged (hash_node k m) m c.slot rs
    pub power : IsPowerOfTwo (vec_len c.buckets)
    pub counted : c.groups ≡ key_count (same_nodes k m) rs
    pub few : length rs < 2 ^ 32

  abbrev pub AreBetween : Chains H → Seq (Option Ref) → ℕ → Keying T → Pooled T → Seq Ref → Type 0
  AreBetween c heads n k m rs = (moved : Ref → Bool) × AreMoving c heads n k m rs moved
