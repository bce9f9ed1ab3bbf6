-- Chains as a relation of their buckets, a pool and the list of their nodes.
--     AreChained      they stand in the pool, with the nodes of a list; the list of a key is what the list has of it, in its order
--     IsPlaced      a node may stand between two lists with a stamp
--     FitsBetween      a link says between which nodes of its key a node may stand, with the stamp in its tag
--     AreNew      chains of no node
use Rattle.std.specs.Prelude.{◌≡◌, ℕ, ◌==◌, ◌%◌, ◌^◌, ◌<◌, Bool, true, List as Seq, [], ◌∷◌, ◌++◌, length, Option, None, slice_index_or, vec_len}
use Rattle.std.specs.List.{filter}
use Rattle.std.specs.Int.{IsPowerOfTwo}
use Rattle.mi_node.specs.Pool.{Pooled, IsHeld, link_of}
use Rattle.mi_node.specs.Neighbours.{AreHeld}
use Rattle.mi_node.specs.Refs.{Ref, first_of, last_of, IsOut, IsApart}
use Rattle.mi_node.specs.declared.link.Link.{Link}
use Rattle.mi_chain.specs.Keying.{Keying, same_nodes, hash_node, stamp_at}
use Rattle.mi_chain.specs.Groups.{first_in, IsGrouped, IsChained, key_count}
use Rattle.mi_chain.specs.declared.chains.Chains.{Chains}

-- those of rs that are like r have stamps greater than t
abbrev pub AreAfter : (Ref → Ref → Bool) → (Ref → ℕ) → Ref → ℕ → Seq Ref → Type 0
AreAfter R stamp r t [] = Unit {0}
AreAfter R stamp r t (q ∷ qs) = (R r q ≡ true → t < stamp q) × AreAfter R stamp r t qs

-- those of rs that are like r have stamps lower than t
abbrev pub AreBefore : (Ref → Ref → Bool) → (Ref → ℕ) → Ref → ℕ → Seq Ref → Type 0
AreBefore R stamp r t [] = Unit {0}
AreBefore R stamp r t (q ∷ qs) = (R r q ≡ true → stamp q < t) × AreBefore R stamp r t qs

-- the stamps of each key rise
abbrev pub IsRising : (Ref → Ref → Bool) → (Ref → ℕ) → Seq Ref → Type 0
IsRising R stamp [] = Unit {0}
IsRising R stamp (r ∷ rs) = AreAfter R stamp r (stamp r) rs × IsRising R stamp rs

-- whether the node belongs into bucket i of n
unfoldable pub in_bucket : (Ref → ℕ) → ℕ → ℕ → Ref → Bool
in_bucket hash n i r = (hash r % n) == i

module _ {T : Type 0} where
  -- the nodes rs of a bucket in groups, whose links begin at its head
  pub record IsBucket (R : Ref → Ref → Bool) (m : Pooled T) (s : ℕ) (head : Option Ref) (rs : Seq Ref) : Type 0 where
    pub groups : Seq (Seq Ref)
    pub first_is : head ≡ first_in groups None
    pub chained : IsChained m s groups None
    pub grouped : IsGrouped R groups rs

  -- each node of rs is linked in the bucket of its hash, with those of its key by rising stamp
  pub record AreBuckets (R : Ref → Ref → Bool) (stamp hash : Ref → ℕ) (m : Pooled T) (s : ℕ) (heads : Seq (Option Ref)) (n : ℕ) (rs : Seq Ref) : Type 0 where
    pub slot : s < m.slots
    pub some : 0 < n
    pub held : AreHeld m rs
    pub apart : IsApart rs
    pub rising : IsRising R stamp rs
    pub each : (i : ℕ) → i < n → IsBucket R m s (slice_index_or heads i None) (filter (in_bucket hash n i) rs)

  -- each node's tag has its hash
  abbrev pub AreTagged : (Ref → ℕ) → Pooled T → ℕ → Seq Ref → Type 0
  AreTagged hash m s [] = Unit {0}
  AreTagged hash m s (r ∷ rs) = ((link_of m r.name s).tag.key ≡ hash r) × AreTagged hash m s rs

  -- the node r, with the stamp t, may stand after xs and before ys
  pub record IsPlaced (k : Keying T) (m : Pooled T) (s : ℕ) (r : Ref) (t : ℕ) (xs ys : Seq Ref) : Type 0 where
    pub held : IsHeld m r
    pub out : IsOut r.name (xs ++ ys)
    pub before : AreBefore (same_nodes k m) (stamp_at m s) r t xs
    pub after : AreAfter (same_nodes k m) (stamp_at m s) r t ys
    pub few : length (xs ++ r ∷ ys) < 2 ^ 32

  -- it may, with the tag of a link, and the link names those of its key that stand next to it, or none at an end
  pub record FitsBetween (k : Keying T) (m : Pooled T) (s : ℕ) (r : Ref) (l : Link) (xs ys : Seq Ref) : Type 0 where
    pub placed : IsPlaced k m s r l.tag.stamp xs ys
    pub hash_is : l.tag.key ≡ hash_node k m r
    pub back_is : l.back ≡ last_of None (filter (same_nodes k m r) xs)
    pub forth_is : l.forth ≡ first_of (filter (same_nodes k m r) ys) None

pub record AreChained {T H : Type 0} (c : Chains H) (k : Keying T) (m : Pooled T) (rs : Seq Ref) : Type 0 where
  pub buckets : AreBuckets (same_nodes k m) (stamp_at m c.slot) (hash_node k m) m c.slot c.buckets.items (vec_len c.buckets) rs
  pub tagged : AreTagged (hash_node k m) m c.slot rs
  pub power : IsPowerOfTwo (vec_len c.buckets)
  pub counted : c.groups ≡ key_count (same_nodes k m) rs
  pub few : length rs < 2 ^ 32

pub record AreNew {H : Type 0} (c : Chains H) (s : ℕ) (keys : H) : Type 0 where
  pub slot : c.slot ≡ s
  pub keys_are : c.keys ≡ keys
  pub some : 0 < vec_len c.buckets
  pub power : IsPowerOfTwo (vec_len c.buckets)
  pub empty : (i : ℕ) → i < vec_len c.buckets → slice_index_or c.buckets.items i None ≡ None
  pub none : c.groups ≡ 0
