-- The nodes of a key, one after another, which are counted.
-- Cited by `Chains::count`.
use Rattle.std.proofs.Common.{◌≡◌, ℕ, ◌+◌, ◌≤◌, Bool, true, false, cond, List, [], ◌∷◌, ◌++◌, length, Option, Some, None}
use Rattle.std.proofs.Common.{refl, sym, ap, ◌∙◌, append_assoc, arith}
use Rattle.std.specs.List.{filter}
use Rattle.mi_node.specs.Refs.{Ref, first_of}
use Rattle.mi_chain.proofs.GroupLemmas.{IsAlike, IsOfKey, filter_same, not_both, no_is_false}

-- so many of the nodes that K is so of were counted, and the next one is the first of the rest
pub record Follows (K : Ref → Bool) (rs : List Ref) (next : Option Ref) (count : ℕ) : Type 0 where
  pub xs : List Ref
  pub ys : List Ref
  pub parts : rs ≡ xs ++ ys
  pub next_is : next ≡ first_of (filter K ys) None
  pub all : count + length (filter K ys) ≡ length (filter K rs)

pub follow_start : (K : Ref → Bool) (rs : List Ref) (next : Option Ref) → next ≡ first_of (filter K rs) None → Follows K rs next 0
follow_start K rs next e = record { xs = []; ys = rs; parts = refl; next_is = e; all = omega arith }

-- the first of those that K is so of
record Split (K : Ref → Bool) (ys : List Ref) (r : Ref) : Type 0 where
  us : List Ref
  vs : List Ref
  parts : ys ≡ us ++ r ∷ vs
  is : K r ≡ true
  more : length (filter K ys) ≡ 1 + length (filter K vs)

one_is : (x y : Ref) → Some x ≡ Some y → x ≡ y
one_is x y e = cc

none_is : (y : Ref) → None ≡ Some y → ⊥
none_is y e = cc

split : (K : Ref → Bool) (ys : List Ref) (r : Ref) → first_of (filter K ys) None ≡ Some r → Split K ys r
split K [] r e = absurd (none_is r e)
split K (y ∷ ys) r e = (elim (K y) as (λ b. K y ≡ b → first_of (cond b (y ∷ filter K ys) (filter K ys)) None ≡ Some r → Split K (y ∷ ys) r) [
  | true ↦ λ i f.
      let same = one_is y r f in
      record { us = []; vs = ys; parts = ap (λ z. z ∷ ys) same; is = ap K (sym same) ∙ i; more = ap (λ b. length (cond b (y ∷ filter K ys) (filter K ys))) i ∙ omega arith }
  | false ↦ λ i f.
      let on = split K ys r f in record {
        us = y ∷ on.us;
        vs = on.vs;
        parts = ap (λ z. y ∷ z) on.parts;
        is = on.is;
        more = ap (λ b. length (cond b (y ∷ filter K ys) (filter K ys))) i ∙ on.more;
      }
]) refl e

-- where it goes on from a node
pub record Following (K : Ref → Bool) (rs : List Ref) (r : Ref) (count : ℕ) : Type 0 where
  pub us : List Ref
  pub vs : List Ref
  pub parts : rs ≡ us ++ r ∷ vs
  pub is : K r ≡ true
  pub all : count + 1 + length (filter K vs) ≡ length (filter K rs)

pub following : (K : Ref → Bool) (rs : List Ref) (next : Option Ref) (count : ℕ) (r : Ref) → Follows K rs next count → next ≡ Some r → Following K rs r count
following K rs next count r h e =
    let o = split K h.ys r (sym h.next_is ∙ e) in let all = h.all in let more = o.more in record {
      us = h.xs ++ o.us;
      vs = o.vs;
      parts = h.parts ∙ ap (λ z. h.xs ++ z) o.parts ∙ sym (append_assoc h.xs o.us (r ∷ o.vs));
      is = o.is;
      all = omega arith;
    }

module _ (R : Ref → Ref → Bool) (A : IsAlike R) (K : Ref → Bool) (of : IsOfKey R A K) where
  like_key : (r : Ref) → K r ≡ true → (q : Ref) → R r q ≡ K q
  like_key r is q = (elim (K q) as (λ b. K q ≡ b → R r q ≡ b) [
    | true ↦ λ e. of.one_key r q is e
    | false ↦ λ e. no_is_false (R r q) (λ t. not_both (K q) (of.agrees r q t is) e)
  ]) refl

  pub follow_on : (rs : List Ref) (r : Ref) (count : ℕ) (h : Following K rs r count) (next : Option Ref) → next ≡ first_of (filter (R r) h.vs) None
      → Follows K rs next (count + 1)
  follow_on rs r count h next e = record {
    xs = h.us ++ r ∷ [];
    ys = h.vs;
    parts = h.parts ∙ sym (append_assoc h.us (r ∷ []) h.vs);
    next_is = e ∙ ap (λ z. first_of z None) (filter_same (R r) K (like_key r h.is) h.vs);
    all = h.all;
  }

pub follow_end : (K : Ref → Bool) (rs : List Ref) (next : Option Ref) (count : ℕ) → Follows K rs next count → next ≡ None → count ≡ length (filter K rs)
follow_end K rs next count h e =
    let none = nothing (filter K h.ys) (sym h.next_is ∙ e) in let all = h.all in let n = ap length none in omega arith
  where
    nothing : (zs : List Ref) → first_of zs None ≡ None → zs ≡ []
    nothing [] f = refl
    nothing (z ∷ zs) f = absurd (none_is z (sym f))

-- no more of them are counted than there are nodes
pub follow_few : (K : Ref → Bool) (rs : List Ref) (r : Ref) (count : ℕ) → Following K rs r count → count + 1 ≤ length rs
follow_few K rs r count h = let all = h.all in let few = fewer rs in omega arith
  where
    fewer : (zs : List Ref) → length (filter K zs) ≤ length zs
    fewer [] = omega arith
    fewer (z ∷ zs) =
        let few = fewer zs in
        elim (K z) as (λ b. length (cond b (z ∷ filter K zs) (filter K zs)) ≤ length (z ∷ zs)) [ true ↦ omega arith | false ↦ omega arith ]
