-- A pass in a loop: what those structures owe that are still to come, and what the whole pass is once they have paid.
--     begun, stepped, finished      before the first step, after each, and after the last
--     left_alone      where the loop stops and those to come stay as they are
-- Cited by `all::link_all`, `all::make_room_all`, `all::relink_all`, `all::relocate_all`, `all::unlink_all` and 1 more.
use Rattle.std.proofs.Common.{◌≡◌, ℕ, ◌+◌, ◌<◌, ◌≤◌, List, [], ◌∷◌, ◌++◌, length, take, drop, set, get_or, refl, sym, ap, ◌∙◌, subst, arith}
use Rattle.std.proofs.lemmas.List.{length-set, drop_more, append_assoc, append-nil, take_more_set, drop-set-lt, take_all, drop_all, take-append-drop}
use Rattle.mi_node.specs.Pool.{Pooled, ref_of}
use Rattle.mi_node.specs.Refs.{Ref}
use Rattle.mi_index.specs.Standing.{slot_in, Stands, IsLike}
use Rattle.mi_index.specs.Pass.{Asks, Gives, AllStand, AllCan, IsReady, IsStep, AreReady, IsPass, AllLike}
use Rattle.mi_order.specs.declared.stored.Stored.{Stored}
use Rattle.mi_index.specs.declared.structure.Structure.{Structure}
use Rattle.mi_index.specs.declared.structure.Structure.TheVariants.{Sorted, Hashed, Sequenced}
use Rattle.mi_index.proofs.StayLemmas.{IsLocal}
use Rattle.mi_index.proofs.PassLemmas.{tail_ready, tail_passed, none_left}

-- xs are the structures now, of which those before i have been changed
pub record Passing (P : Asks) (Q : Gives) (r : Ref) (all : List Structure) (m : Pooled Stored) (i : ℕ) (xs : List Structure) (n : Pooled Stored) : Type 0 where
  pub long : length xs ≡ length all
  pub ready : AreReady P i (drop i xs) n
  pub closes : (ys : List Structure) (o : Pooled Stored) → AllLike (drop i xs) ys → IsPass P Q r i (drop i xs) ys n o
      → AllLike all (take i xs ++ ys) × IsPass P Q r 0 all (take i xs ++ ys) m o

pub begun : (P : Asks) (Q : Gives) (r : Ref) (xs : List Structure) (m : Pooled Stored) → AreReady P 0 xs m → Passing P Q r xs m 0 xs m
begun P Q r xs m q = record { long = refl; ready = q; closes = λ ys o like pass. (like, pass) }

pub first_ready : (P : Asks) (s : ℕ) (x : Structure) (xs : List Structure) (m : Pooled Stored) → AreReady P s (x ∷ xs) m → IsReady P s x m
first_ready P s x xs m q = of_first q.rss q.stand q.can
  where
    of_first : (rss : List (List Ref)) → AllStand (x ∷ xs) s m rss → AllCan P (x ∷ xs) s m rss → IsReady P s x m
    of_first [] h c = absurd h
    of_first (rs ∷ rss) h c = record { rs = rs; stands = h.1; can = c.0 }

pub slot_there : (x : Structure) (m : Pooled Stored) (rs : List Ref) → Stands x m rs → slot_in x < m.slots
slot_there (Sorted t) m rs h = h.has_slot
slot_there (Hashed c) m rs h = let b = h.0.buckets in b.slot
slot_there (Sequenced l) m rs h = h.slot_fits

first_slot : (P : Asks) (s : ℕ) (x : Structure) (xs : List Structure) (m : Pooled Stored) → AreReady P s (x ∷ xs) m → s < m.slots
first_slot P s x xs m q = of_first q.rss q.stand
  where
    of_first : (rss : List (List Ref)) → AllStand (x ∷ xs) s m rss → s < m.slots
    of_first [] h = absurd h
    of_first (rs ∷ rss) h = subst (λ k. k < m.slots) h.0 (slot_there x m rs h.1)

module _ {P : Asks} {Q : Gives} {r : Ref} {all : List Structure} {m : Pooled Stored} {i : ℕ} {xs : List Structure} {n : Pooled Stored}
    (p : Passing P Q r all m i xs n) where
  pub within : i < length all → i < length xs
  within l = subst (λ k. i < k) (sym p.long) l

  -- the next structure is ready
  pub next_ready : (d : Structure) → i < length all → IsReady P i (get_or xs i d) n
  next_ready d l = first_ready P i (get_or xs i d) (drop (i + 1) xs) n (subst (λ zs. AreReady P i zs n) (drop_more xs i d (within l)) p.ready)

  -- its slot is one of the pool's
  pub next_slot : (d : Structure) → i < length all → i < n.slots
  next_slot d l = first_slot P i (get_or xs i d) (drop (i + 1) xs) n (subst (λ zs. AreReady P i zs n) (drop_more xs i d (within l)) p.ready)

  -- no reference changes in its step
  pub same_refs : (d : Structure) {y : Structure} {o : Pooled Stored} → i < length all
      → IsStep P Q r i (get_or xs i d) y n o → (k : ℕ) → ref_of o k ≡ ref_of n k
  same_refs d l step = let q = next_ready d l in (step q.rs q.stands q.can).keeps.refs

  pub stepped : (d : Structure) {y : Structure} {o : Pooled Stored} → IsLocal P Q → i < length all
      → IsStep P Q r i (get_or xs i d) y n o → IsLike (get_or xs i d) y → Passing P Q r all m (i + 1) (set xs i y) o
  stepped d {y} {o} local l step like = record {
    long = length-set xs i y ∙ p.long;
    ready = subst (λ zs. AreReady P (i + 1) zs o) (sym rest)
        (tail_ready P Q local r (get_or xs i d) (drop (i + 1) xs) i n y o step (subst (λ zs. AreReady P i zs n) here p.ready));
    closes = λ ys q likes pass.
        let t = tail_passed P Q local r (get_or xs i d) (drop (i + 1) xs) i n y o step ys q like (subst (λ zs. IsPass P Q r (i + 1) zs ys o q) rest pass) in
        let c = p.closes (y ∷ ys) q (subst (λ zs. AllLike zs (y ∷ ys)) (sym here) (like, subst (λ zs. AllLike zs ys) rest likes))
        (subst (λ zs. IsPass P Q r i zs (y ∷ ys) n q) (sym here) t) in
        subst (λ zs. AllLike all zs × IsPass P Q r 0 all zs m q) (joins ys) c;
  }
    where
      here : drop i xs ≡ get_or xs i d ∷ drop (i + 1) xs
      here = drop_more xs i d (within l)

      rest : drop (i + 1) (set xs i y) ≡ drop (i + 1) xs
      rest = drop-set-lt (i + 1) xs i y (omega arith)

      joins : (ys : List Structure) → take i xs ++ y ∷ ys ≡ take (i + 1) (set xs i y) ++ ys
      joins ys = sym (ap (λ zs. zs ++ ys) (take_more_set xs i y (within l)) ∙ append_assoc (take i xs) (y ∷ []) ys)

  pub finished : IsLocal P Q → length all ≤ i → AllLike all xs × IsPass P Q r 0 all xs m n
  finished local l =
      let long : length xs ≤ i = subst (λ k. k ≤ i) (sym p.long) l in
      let none : drop i xs ≡ [] = drop_all i xs long in
      subst (λ zs. AllLike all zs × IsPass P Q r 0 all zs m n) (append-nil (take i xs) ∙ take_all i xs long)
      (p.closes [] n (subst (λ zs. AllLike zs []) (sym none) tt)
      (subst (λ zs. IsPass P Q r i zs [] n n) (sym none) (none_left P Q local r [] i n refl)))

  -- the pass, where those to come stay as they are
  pub left_alone : AllLike (drop i xs) (drop i xs) → IsPass P Q r i (drop i xs) (drop i xs) n n → AllLike all xs × IsPass P Q r 0 all xs m n
  left_alone like same = subst (λ zs. AllLike all zs × IsPass P Q r 0 all zs m n) (take-append-drop i xs) (p.closes (drop i xs) n like same)
