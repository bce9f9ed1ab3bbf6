-- Nodes for tests: what the calls need and what they leave.
-- Cited by `chains::fill`, `chains::leave_and_return`, `rooms::pull`, `three::first_leaves`, `three::names_of_key` and 3 more.
use Rattle.std.proofs.Common.{◌≡◌, ◌==◌, ℕ, ℤ, Bool, true, false, cond, List, [], ◌∷◌, ◌++◌, Option, Some, None, sym, ap, ◌∙◌, subst, append_assoc, arith}
use Rattle.std.specs.List.{filter}
use Rattle.mi_node.specs.Pool.{Pooled, link_of, IsHeld}
use Rattle.mi_node.specs.Refs.{Ref, first_of}
use Rattle.mi_node.specs.declared.link.Link.{Link}
use Rattle.mi_node.specs.declared.link.Tag.{Tag}
use Rattle.mi_node.proofs.RefLemmas.{first_split}
use Rattle.mi_chain.specs.Keying.{Keying, same_nodes, stamp_at}
use Rattle.mi_chain.specs.Chained.{AreAfter, AreBefore, AreChained, IsPlaced, FitsBetween}
use Rattle.mi_chain.specs.declared.chains.Chains.{Chains}
use Rattle.test_storage.specs.Numbered.{number_keying, IsAmong, AreSeenAlike}
use Rattle.mi_chain.proofs.KeyingLemmas.{same_kept}

none_first : (r : Ref) (vs : List Ref) → [] ≡ r ∷ vs → ⊥
none_first r vs e = cc

filter_first : (f : Ref → Bool) (rs : List Ref) (r : Ref) (vs : List Ref) → filter f rs ≡ r ∷ vs → (xs : List Ref) × (ys : List Ref) × (rs ≡ xs ++ r ∷ ys)
filter_first f [] r vs e = absurd (none_first r vs e)
filter_first f (q ∷ rs) r vs e = (elim (f q)
    as (λ b. cond b (q ∷ filter f rs) (filter f rs) ≡ r ∷ vs → (xs : List Ref) × (ys : List Ref) × (q ∷ rs ≡ xs ++ r ∷ ys)) [
      | true ↦ λ e'. let here : q ≡ r = cc in ([], rs, ap (λ z. z ∷ rs) here)
      | false ↦ λ e'. let on = filter_first f rs r vs e' in (q ∷ on.0, on.1, ap (λ z. q ∷ z) on.2)
    ]) e

-- the first of the nodes that pass a test is one of them
pub among_filter : (f : Ref → Bool) (rs : List Ref) (o : Option Ref) → o ≡ first_of (filter f rs) None → IsAmong o rs
among_filter f rs None e = tt
among_filter f rs (Some r) e = let w = first_split (filter f rs) r (sym e) in filter_first f rs r w.0 w.1

among_right : (xs : List Ref) (r : Ref) (ys : List Ref) (o : Option Ref) → IsAmong o ys → IsAmong o (xs ++ r ∷ ys)
among_right xs r ys None h = tt
among_right xs r ys (Some q) h = (xs ++ r ∷ h.0, h.1, ap (λ z. xs ++ r ∷ z) h.2 ∙ sym (append_assoc xs (r ∷ h.0) (q ∷ h.1)))

pub among_after : (f : Ref → Bool) (rs xs : List Ref) (r : Ref) (ys : List Ref) (o : Option Ref)
    → rs ≡ xs ++ r ∷ ys → o ≡ first_of (filter f ys) None → IsAmong o rs
among_after f rs xs r ys o e h = subst (IsAmong o) (sym e) (among_right xs r ys o (among_filter f ys o h))

-- where the first of the nodes that pass a test stands
pub split_found : {T H : Type 0} {c : Chains H} {k : Keying T} {m : Pooled T} {rs : List Ref} {o : Option Ref} {r : Ref} (f : Ref → Bool) → AreChained c k m rs
    → o ≡ first_of (filter f rs) None → o ≡ Some r → (xs : List Ref) × (ys : List Ref) × AreChained c k m (xs ++ r ∷ ys) × (rs ≡ xs ++ r ∷ ys)
split_found {T} {H} {c} {k} {m} {rs} {o} {r} f h is some =
    let i = subst (λ z. IsAmong z rs) some (among_filter f rs o is) in (i.0, i.1, subst (AreChained c k m) i.2 h, i.2)

-- a node may stand alone
pub placed_alone : {T : Type 0} {k : Keying T} {m : Pooled T} {s t : ℕ} {r : Ref} → IsHeld m r → IsPlaced k m s r t [] []
placed_alone held = record { held = held; out = tt; before = tt; after = tt; few = omega arith }

-- where a node fits by the link that it keeps, it fits by that link as it was read
module _ {T : Type 0} {k : Keying T} {m : Pooled T} {s w : ℕ} {r : Ref} {l : Link} {xs ys : List Ref} where
  pub fits_read : w ≡ s → s ≡ 1 → l ≡ link_of m r.name 1 → FitsBetween k m s r (link_of m r.name s) xs ys → FitsBetween k m w r l xs ys
  fits_read slot is read fits =
      let same : link_of m r.name s ≡ l = ap (link_of m r.name) is ∙ sym read in
      subst (λ (z : ℕ × Link). FitsBetween k m z.0 r z.1 xs ys) (λ i. (sym slot i, same i)) fits

-- the stamps after `insert`
pub stamp_set : {T : Type 0} (m n : Pooled T) (s w : ℕ) (r q : Ref) (t : Tag) (b : Bool) → w ≡ s
    → (link_of n q.name s).tag ≡ cond (r.name == q.name) t (link_of m q.name s).tag → (r.name == q.name) ≡ b → stamp_at n w q ≡ cond b t.stamp (stamp_at m s q)
stamp_set m n s w r q t true e is b = ap (λ z. stamp_at n z q) e ∙ ap (λ (z : Tag). z.stamp) (is ∙ ap (λ z. cond z t (link_of m q.name s).tag) b)
stamp_set m n s w r q t false e is b = ap (λ z. stamp_at n z q) e ∙ ap (λ (z : Tag). z.stamp) (is ∙ ap (λ z. cond z t (link_of m q.name s).tag) b)

-- where a node may stand, it may in a pool that is seen alike
module _ {m n : Pooled ℤ} {s w : ℕ} {r : Ref} {t : ℕ} {xs ys : List Ref} where
  pub placed_alike : w ≡ s → AreSeenAlike m n s → IsPlaced number_keying m s r t xs ys → IsPlaced number_keying n w r t xs ys
  placed_alike e a p =
      let same : same_nodes number_keying m ≡ same_nodes number_keying n = sym (same_kept number_keying m n a.values) in
      let stamps : stamp_at m s ≡ stamp_at n s = λ i q. sym (ap (λ (z : Tag). z.stamp) (a.tags q.name)) i in
      subst (λ z. IsPlaced number_keying n z r t xs ys) (sym e) (record {
        held = a.refs r.name ∙ p.held;
        out = p.out;
        before = subst (λ z. AreBefore z (stamp_at n s) r t xs) same (subst (λ z. AreBefore (same_nodes number_keying m) z r t xs) stamps p.before);
        after = subst (λ z. AreAfter z (stamp_at n s) r t ys) same (subst (λ z. AreAfter (same_nodes number_keying m) z r t ys) stamps p.after);
        few = p.few;
      })
