-- What chains see of values, and of nodes by their values and by their links.
--     Keying      hash and equality of keys, of values and of probes
--     IsLawful      equality of keys is an equivalence, and hashes and probes agree with it
--     same_nodes, hash_node, has_key      these of nodes in a pool
--     stamp_at      the stamp in a node's link
use Rattle.std.specs.Prelude.{◌≡◌, ℕ, Bool, true, false, Option, Some, None}
use Rattle.mi_node.specs.Pool.{Pooled, value_of, link_of}
use Rattle.mi_node.specs.Refs.{Ref}
use Rattle.mi_value.specs.declared.bound.Probe.{Probe}

pub record Keying (T : Type 0) : Type 0 where
  pub hash : T → ℕ
  pub hash_key : Probe → ℕ
  pub same : T → T → Bool
  pub same_key : T → Probe → Bool

pub record IsLawful {T : Type 0} (k : Keying T) : Type 0 where
  pub reflexive : (x : T) → k.same x x ≡ true
  pub symmetric : (x y : T) → k.same x y ≡ true → k.same y x ≡ true
  pub transitive : (x y z : T) → k.same x y ≡ true → k.same y z ≡ true → k.same x z ≡ true
  pub one_hash : (x y : T) → k.same x y ≡ true → k.hash x ≡ k.hash y
  -- a probe is of all values of one key or of none, and of one key alone
  pub agrees : (x y : T) (p : Probe) → k.same x y ≡ true → k.same_key x p ≡ true → k.same_key y p ≡ true
  pub one_key : (x y : T) (p : Probe) → k.same_key x p ≡ true → k.same_key y p ≡ true → k.same x y ≡ true
  pub probe_hash : (x : T) (p : Probe) → k.same_key x p ≡ true → k.hash x ≡ k.hash_key p

module _ {T : Type 0} where
  -- nodes without a value are alike, and unlike those that have one
  abbrev pub same_values : (T → T → Bool) → Option T → Option T → Bool
  same_values f None None = true
  same_values f None (Some y) = false
  same_values f (Some x) None = false
  same_values f (Some x) (Some y) = f x y

  abbrev pub number_or_zero : (T → ℕ) → Option T → ℕ
  number_or_zero f None = 0
  number_or_zero f (Some x) = f x

  abbrev pub passes : (T → Bool) → Option T → Bool
  passes f None = false
  passes f (Some x) = f x

  -- whether two nodes have one key
  unfoldable pub same_nodes : Keying T → Pooled T → Ref → Ref → Bool
  same_nodes k m a b = same_values k.same (value_of m a.name) (value_of m b.name)

  unfoldable pub hash_node : Keying T → Pooled T → Ref → ℕ
  hash_node k m a = number_or_zero k.hash (value_of m a.name)

  unfoldable pub has_key : Keying T → Pooled T → Probe → Ref → Bool
  has_key k m p a = passes (λ x. k.same_key x p) (value_of m a.name)

  abbrev pub stamp_at : Pooled T → ℕ → Ref → ℕ
  stamp_at m s a = (link_of m a.name s).tag.stamp
