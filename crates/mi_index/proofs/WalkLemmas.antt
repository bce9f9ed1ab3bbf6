-- A walk along nodes, one after another.
-- Cited by `Structure::walk`, `walk::rows_ahead`, `walk::rows_along` and `RangeLemmas`.
use Rattle.std.proofs.Common.{◌≡◌, ℕ, ◌+◌, ◌≤◌, zero, suc, ◌⊎◌, inl, inr, List, [], ◌∷◌, ◌++◌, map, length, take}
use Rattle.std.proofs.Common.{drop, reverse, Option, Some, None, refl, ap, sym, ◌∙◌, subst, append_assoc, arith}
use Rattle.std.proofs.lemmas.List.{take_all, take-append-drop, map-append, reverse-append, reverse-reverse}
use Rattle.mi_node.specs.Pool.{Pooled, value_of, link_of, IsHeld}
use Rattle.mi_node.specs.Refs.{Ref, first_of, last_of}
use Rattle.mi_node.specs.Neighbours.{AreHeld, IsLinked}
use Rattle.mi_node.proofs.NeighbourLemmas.{linked_right}
use Rattle.mi_list.specs.Listed.{IsListed}
use Rattle.mi_list.specs.declared.list.List.{List as Listing}
use Rattle.mi_list.proofs.ChangeLemmas.{knows}
use Rattle.mi_tree.specs.Walking.{beyond, beyond_place, far_of}
use Rattle.mi_tree.specs.declared.walk.Direction.{Direction}
use Rattle.mi_tree.specs.declared.walk.Direction.TheVariants.{Ascending, Descending}
use Rattle.mi_order.specs.declared.stored.Stored.{Stored}
use Rattle.mi_index.specs.Walks.{row_if, shown_row, Follow}

-- the next node of a list of which some were taken

taken_next : (us : List Ref) (k : ℕ) (r : Ref) → first_of (drop k us) None ≡ Some r → take (suc k) us ≡ take k us ++ r ∷ []
taken_next [] zero r e = absurd (cc)
taken_next [] (suc k) r e = absurd (cc)
taken_next (u ∷ us) zero r e = let same : u ≡ r = cc in ap (λ q. q ∷ []) same
taken_next (u ∷ us) (suc k) r e = ap (λ q. u ∷ q) (taken_next us k r e)

past_end : (us : List Ref) (k : ℕ) → first_of (drop k us) None ≡ None → length us ≤ k
past_end [] k e = omega arith
past_end (u ∷ us) zero e = absurd (cc)
past_end (u ∷ us) (suc k) e = let rest : length us ≤ k = past_end us k e in omega arith

drop_next : (us : List Ref) (k : ℕ) → drop 1 (drop k us) ≡ drop (suc k) us
drop_next [] zero = refl
drop_next [] (suc k) = refl
drop_next (u ∷ us) zero = refl
drop_next (u ∷ us) (suc k) = drop_next us k

pub dropped : (us : List Ref) (k n : ℕ) → n ≡ k + 1 → drop 1 (drop k us) ≡ drop n us
dropped us k n e = drop_next us k ∙ ap (λ i. drop i us) (let s : suc k ≡ n = omega arith in s)

pub held_next : (m : Pooled Stored) (us : List Ref) (k : ℕ) (r : Ref) → AreHeld m us → first_of (drop k us) None ≡ Some r → IsHeld m r
held_next m [] zero r h e = absurd (cc)
held_next m [] (suc k) r h e = absurd (cc)
held_next m (u ∷ us) zero r h e = let same : u ≡ r = cc in subst (IsHeld m) same h.0
held_next m (u ∷ us) (suc k) r h e = held_next m us k r h.1 e

-- its row is the next
pub row_next : (m : Pooled Stored) (us : List Ref) (k n : ℕ) (r : Ref) (v : Stored) → n ≡ k + 1
    → first_of (drop k us) None ≡ Some r → value_of m r.name ≡ Some v
    → map (shown_row m) (take n us) ≡ map (shown_row m) (take k us) ++ (v.id, v.row) ∷ []
row_next m us k n r v e is has =
    ap (λ i. map (shown_row m) (take i us)) (let s : n ≡ suc k = omega arith in s)
    ∙ ap (map (shown_row m)) (taken_next us k r is)
    ∙ map-append (shown_row m) (take k us) (r ∷ [])
    ∙ ap (λ o. map (shown_row m) (take k us) ++ row_if o ∷ []) has

-- the walk ends at its limit, or where no more stand
pub all_taken : (us : List Ref) (k limit : ℕ) → k ≤ limit → (limit ≤ k) ⊎ (first_of (drop k us) None ≡ None) → take k us ≡ take limit us
all_taken us k limit le (inl full) = ap (λ n. take n us) (let e : k ≡ limit = omega arith in e)
all_taken us k limit le (inr none) = let past : length us ≤ k = past_end us k none in take_all k us past ∙ sym (take_all limit us (omega arith))

-- the nodes of a list follow one another in either direction

linked_follow : (m : Pooled Stored) (s : ℕ) (b : Option Ref) (rs : List Ref) → IsLinked m s b rs None → Follow m s Ascending rs
linked_follow m s b [] h = tt
linked_follow m s b (r ∷ rs) h = (h.0, h.2, linked_follow m s (Some r) rs h.3)

last_push : (b : Option Ref) (us : List Ref) (z : Ref) → last_of b (us ++ z ∷ []) ≡ Some z
last_push b [] z = refl
last_push b (u ∷ us) z = last_push (Some u) us z

follow_back : (l : Listing) (m : Pooled Stored) (zs : List Ref) (r : Ref) (ys : List Ref)
    → IsListed l m (reverse zs ++ r ∷ ys) → Follow m l.slot Descending (r ∷ zs)
follow_back l m [] r ys h = let k = knows l m [] r ys h in (k.held, k.back_is, tt)
follow_back l m (z ∷ zs) r ys h =
    let parts : reverse (z ∷ zs) ≡ reverse zs ++ z ∷ [] = reverse-append (z ∷ []) zs in
    let k = knows l m (reverse (z ∷ zs)) r ys h in
    let rest : IsListed l m (reverse zs ++ z ∷ (r ∷ ys)) = subst (IsListed l m) (ap (λ q. q ++ r ∷ ys) parts ∙ append_assoc (reverse zs) (z ∷ []) (r ∷ ys)) h in
    (k.held, k.back_is ∙ ap (last_of None) parts ∙ last_push None (reverse zs) z, follow_back l m zs z (r ∷ ys) rest)

pub list_follows : (l : Listing) (m : Pooled Stored) (d : Direction) (xs : List Ref) (r : Ref) (ys : List Ref)
    → IsListed l m (xs ++ r ∷ ys) → Follow m l.slot d (r ∷ beyond d xs ys)
list_follows l m Ascending xs r ys h = linked_follow m l.slot (last_of None xs) (r ∷ ys) (linked_right l.slot m None xs (r ∷ ys) None h.linked)
list_follows l m Descending xs r ys h = follow_back l m (reverse xs) r ys (subst (λ q. IsListed l m (q ++ r ∷ ys)) (sym (reverse-reverse xs)) h)

pub follow_held : (m : Pooled Stored) (s : ℕ) (d : Direction) (rs : List Ref) → Follow m s d rs → AreHeld m rs
follow_held m s d [] h = tt
follow_held m s d (r ∷ rs) h = (h.0, follow_held m s d rs h.2)

-- the next node is held in a pool that is the same
pub held_read : (m z : Pooled Stored) (s : ℕ) (d : Direction) (us : List Ref) (k : ℕ) (r : Ref) → z ≡ m → Follow m s d us
    → (next : Option Ref) → next ≡ first_of (drop k us) None → next ≡ Some r → IsHeld z r
held_read m z s d us k r same h next is some = subst (λ o. IsHeld o r) (sym same) (held_next m us k r (follow_held m s d us h) (sym is ∙ some))

-- the link of the next node names the one after it
pub follow_next : (m : Pooled Stored) (s : ℕ) (d : Direction) (us : List Ref) (k n : ℕ) (r : Ref)
    → n ≡ k + 1 → Follow m s d us → first_of (drop k us) None ≡ Some r
    → far_of d (link_of m r.name s) ≡ first_of (drop n us) None
follow_next m s d us k n r e h is = next us k h is ∙ ap (λ i. first_of (drop i us) None) (let q : suc k ≡ n = omega arith in q)
  where
    next : (us : List Ref) (k : ℕ) → Follow m s d us → first_of (drop k us) None ≡ Some r → far_of d (link_of m r.name s) ≡ first_of (drop (suc k) us) None
    next [] zero h is = absurd (cc)
    next [] (suc k) h is = absurd (cc)
    next (u ∷ us) zero h is = let same : u ≡ r = cc in subst (λ (q : Ref). far_of d (link_of m q.name s) ≡ first_of us None) same h.1
    next (u ∷ us) (suc k) h is = next us k h.2 is

-- nodes of a list are held from a place on
pub held_place : (m : Pooled Stored) (d : Direction) (n : ℕ) (rs : List Ref) → AreHeld m rs → AreHeld m (beyond_place d n rs)
held_place m d n rs h = on d (subst (AreHeld m) (sym (take-append-drop n rs)) h)
  where
    behind : (us ys : List Ref) → AreHeld m (us ++ ys) → AreHeld m ys
    behind [] ys h = h
    behind (u ∷ us) ys h = behind us ys h.1

    push : (us : List Ref) (x : Ref) → AreHeld m us → IsHeld m x → AreHeld m (us ++ x ∷ [])
    push [] x h k = (k, tt)
    push (u ∷ us) x h k = (h.0, push us x h.1 k)

    back : (us ys : List Ref) → AreHeld m (us ++ ys) → AreHeld m (reverse us)
    back [] ys h = tt
    back (u ∷ us) ys h = subst (AreHeld m) (sym (reverse-append (u ∷ []) us)) (push (reverse us) u (back us ys h.1) h.0)

    on : (e : Direction) → AreHeld m (take n rs ++ drop n rs) → AreHeld m (beyond_place e n rs)
    on Ascending h = behind (take n rs) (drop n rs) h
    on Descending h = back (take n rs) (drop n rs) h
