-- Keys for tests: a value is a number, which is its key, and numbers that differ in their sign alone have one hash.
use Rattle.std.proofs.Common.{◌≡◌, ℕ, ℤ, Bool, true, false, ◌<◌, List, [], ◌∷◌, ◌++◌, length, Option, Some, None, sym, ap, ◌∙◌}
use Rattle.std.specs.Prelude.{unsigned_abs}
use Rattle.std.specs.Ordering.{int_eq}
use Rattle.std.proofs.lemmas.Cmp.{int_eq_equiv}
use Rattle.std.proofs.lemmas.Bool.Decides.{Decides-int_eq}
use Rattle.mi_value.specs.declared.value.Value.{Value}
use Rattle.mi_value.specs.declared.value.Value.TheVariants.{Int, Text, Flag}
use Rattle.mi_value.specs.declared.bound.Probe.{Probe}
use Rattle.mi_value.specs.declared.bound.Probe.TheVariants.{Key, Of}
use Rattle.mi_node.specs.Pool.{Pooled, ref_of, value_of, link_of}
use Rattle.mi_node.specs.Refs.{Ref}
use Rattle.mi_node.specs.declared.link.Link.{Link}
use Rattle.mi_chain.specs.Keying.{Keying, IsLawful, stamp_at}
use Rattle.mi_chain.specs.Chained.{AreChained, FitsBetween}
use Rattle.mi_chain.specs.declared.chains.Chains.{Chains}

-- the number that a key begins with
abbrev pub number_in : List Value → Option ℤ
number_in [] = None
number_in (Int k ∷ vs) = Some k
number_in (Text t ∷ vs) = None
number_in (Flag b ∷ vs) = None

-- a record is no key here
abbrev pub number_at : Probe → Option ℤ
number_at (Key vs) = number_in vs.now
number_at (Of r) = None

abbrev pub is_number : ℤ → Option ℤ → Bool
is_number n None = false
is_number n (Some k) = int_eq n k

abbrev pub hash_if : Option ℤ → ℕ
hash_if None = 0
hash_if (Some k) = unsigned_abs k

abbrev pub number_keying : Keying ℤ
number_keying = record {
  hash = λ x. unsigned_abs x;
  hash_key = λ p. hash_if (number_at p);
  same = λ x y. int_eq x y;
  same_key = λ x p. is_number x (number_at p);
}

-- one of the nodes rs, if one is named
abbrev pub IsAmong : Option Ref → List Ref → Type 0
IsAmong None rs = Unit {0}
IsAmong (Some r) rs = (xs : List Ref) × (ys : List Ref) × (rs ≡ xs ++ r ∷ ys)

-- each of the nodes has a stamp below n
abbrev pub AreBelow : (Ref → ℕ) → ℕ → List Ref → Type 0
AreBelow stamp n [] = Unit {0}
AreBelow stamp n (r ∷ rs) = (stamp r < n) × AreBelow stamp n rs

-- n nodes, with stamps below n
pub record AreNumbered {H : Type 0} (c : Chains H) (m : Pooled ℤ) (rs : List Ref) (n : ℕ) : Type 0 where
  pub chained : AreChained c number_keying m rs
  pub below : AreBelow (stamp_at m c.slot) n rs
  pub count : length rs ≡ n

-- of the nodes rs this one has left with this link, or none has
abbrev pub IsPulled : {H : Type 0} → Chains H → Pooled ℤ → List Ref → Option (Ref × Link) → Type 0
IsPulled c m rs None = AreChained c number_keying m rs
IsPulled c m rs (Some x) =
    (xs : List Ref) × (ys : List Ref) × (rs ≡ xs ++ x.0 ∷ ys) × AreChained c number_keying m (xs ++ ys)
    × FitsBetween number_keying m c.slot x.0 x.1 xs ys × (x.1 ≡ link_of m x.0.name c.slot)

-- the same references, values and tags of a slot
pub record AreSeenAlike (m n : Pooled ℤ) (s : ℕ) : Type 0 where
  pub refs : (q : ℕ) → ref_of n q ≡ ref_of m q
  pub values : (q : ℕ) → value_of n q ≡ value_of m q
  pub tags : (q : ℕ) → (link_of n q s).tag ≡ (link_of m q s).tag

number_agrees : (a b : ℤ) (o : Option ℤ) → int_eq a b ≡ true → is_number a o ≡ true → is_number b o ≡ true
number_agrees a b None e h = h
number_agrees a b (Some k) e h = sym (int_eq_equiv.congr a b k e) ∙ h

number_alone : (a b : ℤ) (o : Option ℤ) → is_number a o ≡ true → is_number b o ≡ true → int_eq a b ≡ true
number_alone a b None g h = absurd cc
number_alone a b (Some k) g h = int_eq_equiv.congr a k b g ∙ int_eq_equiv.symm k b ∙ h

number_hash : (a : ℤ) (o : Option ℤ) → is_number a o ≡ true → unsigned_abs a ≡ hash_if o
number_hash a None h = absurd cc
number_hash a (Some k) h = let d = Decides-int_eq a k in ap unsigned_abs (d.0 h)

pub numbers_lawful : IsLawful number_keying
numbers_lawful = record {
  reflexive = λ x. int_eq_equiv.refl x;
  symmetric = λ x y e. int_eq_equiv.symm y x ∙ e;
  transitive = λ x y z e f. int_eq_equiv.congr x y z e ∙ f;
  one_hash = λ x y e. let d = Decides-int_eq x y in ap unsigned_abs (d.0 e);
  agrees = λ x y p e h. number_agrees x y (number_at p) e h;
  one_key = λ x y p g h. number_alone x y (number_at p) g h;
  probe_hash = λ x p h. number_hash x (number_at p) h;
}
