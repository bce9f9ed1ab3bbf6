-- Nodes by their values: equality of keys is an equivalence, hashes and probes agree with it, and all of them depend on the values alone.
-- Cited by `Chains::count`, `Chains::first_of`, `Chains::hash_of`, `Chains::insert`, `look::is_like`, 4 more and `test_storage`.
use Rattle.std.proofs.Common.{◌≡◌, ℕ, true, Option, Some, None, refl, ap}
use Rattle.mi_node.specs.Pool.{Pooled, value_of}
use Rattle.mi_node.specs.Refs.{Ref}
use Rattle.mi_value.specs.declared.bound.Probe.{Probe}
use Rattle.mi_chain.specs.Keying.{Keying, IsLawful, same_values, number_or_zero, passes, same_nodes, hash_node, has_key}
use Rattle.mi_chain.proofs.GroupLemmas.{IsAlike, IsOfKey}

module _ {T : Type 0} (k : Keying T) (m : Pooled T) where
  pub same_nodes_is : (a b : Ref) (x y : T) → value_of m a.name ≡ Some x → value_of m b.name ≡ Some y → same_nodes k m a b ≡ k.same x y
  unfolding same_nodes
  same_nodes_is a b x y e f = λ i. same_values k.same (e i) (f i)

  pub has_key_is : (p : Probe) (a : Ref) (x : T) → value_of m a.name ≡ Some x → has_key k m p a ≡ k.same_key x p
  unfolding has_key
  has_key_is p a x e = ap (passes (λ y. k.same_key y p)) e

  pub hash_is : (a : Ref) (x : T) → value_of m a.name ≡ Some x → hash_node k m a ≡ k.hash x
  unfolding hash_node
  hash_is a x e = ap (number_or_zero k.hash) e

  module _ (w : IsLawful k) where
    reflexive : (o : Option T) → same_values k.same o o ≡ true
    reflexive None = refl
    reflexive (Some x) = w.reflexive x

    symmetric : (o p : Option T) → same_values k.same o p ≡ true → same_values k.same p o ≡ true
    symmetric None None h = refl
    symmetric None (Some y) h = absurd (cc)
    symmetric (Some x) None h = absurd (cc)
    symmetric (Some x) (Some y) h = w.symmetric x y h

    transitive : (o p q : Option T) → same_values k.same o p ≡ true → same_values k.same p q ≡ true → same_values k.same o q ≡ true
    transitive None None None g h = refl
    transitive None None (Some z) g h = h
    transitive None (Some y) q g h = absurd (cc)
    transitive (Some x) None q g h = absurd (cc)
    transitive (Some x) (Some y) None g h = h
    transitive (Some x) (Some y) (Some z) g h = w.transitive x y z g h

    one_hash : (o p : Option T) → same_values k.same o p ≡ true → number_or_zero k.hash o ≡ number_or_zero k.hash p
    one_hash None None h = refl
    one_hash None (Some y) h = absurd (cc)
    one_hash (Some x) None h = absurd (cc)
    one_hash (Some x) (Some y) h = w.one_hash x y h

    agrees : (p : Probe) (o q : Option T) → same_values k.same o q ≡ true → passes (λ y. k.same_key y p) o ≡ true → passes (λ y. k.same_key y p) q ≡ true
    agrees p None q h t = absurd (cc)
    agrees p (Some x) None h t = absurd (cc)
    agrees p (Some x) (Some y) h t = w.agrees x y p h t

    one_key : (p : Probe) (o q : Option T) → passes (λ y. k.same_key y p) o ≡ true → passes (λ y. k.same_key y p) q ≡ true → same_values k.same o q ≡ true
    one_key p None q g h = absurd (cc)
    one_key p (Some x) None g h = absurd (cc)
    one_key p (Some x) (Some y) g h = w.one_key x y p g h

    probe_hash : (p : Probe) (o : Option T) → passes (λ y. k.same_key y p) o ≡ true → number_or_zero k.hash o ≡ k.hash_key p
    probe_hash p None h = absurd (cc)
    probe_hash p (Some x) h = w.probe_hash x p h

    pub alike : IsAlike (same_nodes k m)
    unfolding same_nodes
    alike = record {
      reflexive = λ a. reflexive (value_of m a.name);
      symmetric = λ a b h. symmetric (value_of m a.name) (value_of m b.name) h;
      transitive = λ a b c g h. transitive (value_of m a.name) (value_of m b.name) (value_of m c.name) g h;
    }

    pub same_hash : (a b : Ref) → same_nodes k m a b ≡ true → hash_node k m a ≡ hash_node k m b
    unfolding same_nodes hash_node
    same_hash a b h = one_hash (value_of m a.name) (value_of m b.name) h

    pub of_probe : (p : Probe) → IsOfKey (same_nodes k m) alike (has_key k m p)
    unfolding same_nodes has_key
    of_probe p = record {
      agrees = λ a b h t. agrees p (value_of m a.name) (value_of m b.name) h t;
      one_key = λ a b g h. one_key p (value_of m a.name) (value_of m b.name) g h;
    }

    pub hash_of_probe : (p : Probe) (a : Ref) → has_key k m p a ≡ true → hash_node k m a ≡ k.hash_key p
    unfolding has_key hash_node
    hash_of_probe p a h = probe_hash p (value_of m a.name) h

-- in another pool with the same values
module _ {T : Type 0} (k : Keying T) (m n : Pooled T) (e : (q : ℕ) → value_of n q ≡ value_of m q) where
  pub same_kept : same_nodes k n ≡ same_nodes k m
  unfolding same_nodes
  same_kept = λ i a b. same_values k.same (e a.name i) (e b.name i)

  pub hash_kept : hash_node k n ≡ hash_node k m
  unfolding hash_node
  hash_kept = λ i a. number_or_zero k.hash (e a.name i)
