-- What the calls of a list do to the list of its nodes.
-- Cited by `List::back_at`, `List::insert_before`, `List::move_before`, `List::next`, `List::prev`, 3 more and `mi_index`.
use Rattle.std.proofs.Common.{◌≡◌, ℕ, ◌<◌, List as Seq, [], ◌∷◌, ◌++◌, Option, Some, None, refl, sym, ap, ◌∙◌, subst, arith}
use Rattle.mi_node.specs.Pool.{Pooled, ref_of, link_of, IsHeld, IsHeldIf, Keeps, with_link}
use Rattle.mi_node.specs.Refs.{Ref, first_of, last_of, IsOut}
use Rattle.mi_node.specs.declared.link.Link.{Link}
use Rattle.mi_node.proofs.EntryLemmas.{slots-with_link, ref-with_link, link_here}
use Rattle.mi_node.proofs.KeepingLemmas.{keeps_link, keeps_then}
use Rattle.mi_node.proofs.RefLemmas.{out_left, out_right, out_both, apart_insert, apart_remove}
use Rattle.mi_node.specs.Neighbours.{IsLinked, kept_if, joined}
use Rattle.mi_list.specs.Named.{IsNamed}
use Rattle.mi_list.specs.Listed.{IsListed, FitsBetween}
use Rattle.mi_list.specs.declared.list.List.{List}
use Rattle.mi_node.proofs.NeighbourLemmas.{last_differs, first_differs, linked_left, linked_right, frame, unlinks, relinks, held_last}
use Rattle.mi_node.proofs.NeighbourLemmas.{held_first, slots-joined, keeps_joined, joined_there, ref-joined, linked_unique}
use Rattle.mi_list.proofs.EndLemmas.{first_kept, last_unlinked, last_relinked}

pub nothing_after : (rs : Seq Ref) → rs ++ [] ≡ rs
nothing_after [] = refl
nothing_after (r ∷ rs) = ap (λ l. r ∷ l) (nothing_after rs)

module _ {T : Type 0} where
  -- what a node in the list knows
  pub record Knows (l : List) (m : Pooled T) (xs : Seq Ref) (x : Ref) (ys : Seq Ref) : Type 0 where
    pub held : IsHeld m x
    pub back_is : (link_of m x.name l.slot).back ≡ last_of None xs
    pub forth_is : (link_of m x.name l.slot).forth ≡ first_of ys None
    pub back_held : IsHeldIf m (link_of m x.name l.slot).back
    pub forth_held : IsHeldIf m (link_of m x.name l.slot).forth

  pub knows : (l : List) (m : Pooled T) (xs : Seq Ref) (x : Ref) (ys : Seq Ref) → IsListed l m (xs ++ x ∷ ys) → Knows l m xs x ys
  knows l m xs x ys h = let at = linked_right l.slot m None xs (x ∷ ys) None h.linked in record {
    held = at.0;
    back_is = at.1;
    forth_is = at.2;
    back_held = subst (IsHeldIf m) (sym at.1) (held_last l.slot m None xs (Some x) tt (linked_left l.slot m None xs (x ∷ ys) None h.linked));
    forth_held = subst (IsHeldIf m) (sym at.2) (held_first l.slot m (Some x) ys at.3);
  }

  pub ends_held : (l : List) (m : Pooled T) (xs ys : Seq Ref) → IsListed l m (xs ++ ys) → IsHeldIf m (last_of None xs) × IsHeldIf m (first_of ys None)
  ends_held l m xs ys h = (
    held_last l.slot m None xs (first_of ys None) tt (linked_left l.slot m None xs ys None h.linked),
    held_first l.slot m (last_of None xs) ys (linked_right l.slot m None xs ys None h.linked),
  )

  -- the node before a place
  pub back_some : (l : List) (m : Pooled T) (xs ys : Seq Ref) (q : Ref) → IsListed l m (xs ++ ys)
      → first_of ys None ≡ Some q → IsHeld m q × ((link_of m q.name l.slot).back ≡ last_of None xs)
  back_some l m xs [] q h e = absurd cc
  back_some l m xs (y ∷ ys) q h e =
      let same : y ≡ q = cc in let on = knows l m xs y ys h in
      subst (λ (z : Ref). IsHeld m z × ((link_of m z.name l.slot).back ≡ last_of None xs)) same (on.held, on.back_is)

  -- what a call of `join` says
  pub record Joined (l k : List) (m n : Pooled T) (b w f p : Option Ref) : Type 0 where
    pub pool : n ≡ joined m l.slot b w f p
    pub first : k.first ≡ kept_if b l.first w
    pub last : k.last ≡ kept_if f l.last p
    pub slot : k.slot ≡ l.slot

  -- the slot that a list has in a pool stays
  fits_still : (l k : List) (m n : Pooled T) (b w f p : Option Ref) → l.slot < m.slots → Joined l k m n b w f p → k.slot < n.slots
  fits_still l k m n b w f p h j = subst (λ (z : ℕ × ℕ). z.0 < z.1)
      (λ i. (sym j.slot i, sym (ap (λ (q : Pooled T). q.slots) j.pool ∙ slots-joined l.slot m b w f p) i)) h

  pub unlinked : (l k : List) (m n : Pooled T) (xs : Seq Ref) (x : Ref) (ys : Seq Ref) → IsListed l m (xs ++ x ∷ ys)
      → Joined l k m n (last_of None xs) (first_of ys None) (first_of ys None) (last_of None xs)
      → FitsBetween k n x xs ys
  unlinked l k m n xs x ys h j =
      let b = last_of None xs in let f = first_of ys None in let out = (apart_remove xs x ys h.apart).1 in let on = knows l m xs x ys h in
      let same : link_of n x.name k.slot ≡ link_of m x.name l.slot = (λ i. link_of (j.pool i) x.name (j.slot i))
      ∙ joined_there l.slot m b f f b x.name l.slot (last_differs None xs x.name tt (out_left x.name xs ys out))
      (first_differs ys x.name (out_right x.name xs ys out)) in
      record {
        listed = record {
          slot_fits = fits_still l k m n b f f b h.slot_fits j;
          linked = subst (λ (z : Pooled T × ℕ). IsLinked z.0 z.1 None (xs ++ ys) None)
              (λ i. (sym j.pool i, sym j.slot i)) (unlinks l.slot m xs x ys h.apart h.linked);
          apart = (apart_remove xs x ys h.apart).0;
          first_is = j.first ∙ ap (λ o. kept_if b o f) h.first_is ∙ first_kept xs (x ∷ ys) ys;
          last_is = j.last ∙ ap (λ o. kept_if f o b) h.last_is ∙ last_unlinked xs x ys;
        };
        held = ap (λ (q : Pooled T). ref_of q x.name) j.pool ∙ ref-joined l.slot m b f f b x.name ∙ on.held;
        out = out;
        back_is = ap (λ (y : Link). y.back) same ∙ on.back_is;
        forth_is = ap (λ (y : Link). y.forth) same ∙ on.forth_is;
      }

  pub relinked : (l k : List) (m n : Pooled T) (xs : Seq Ref) (x : Ref) (ys : Seq Ref) → FitsBetween l m x xs ys
      → Joined l k m n (last_of None xs) (Some x) (first_of ys None) (Some x) → IsListed k n (xs ++ x ∷ ys)
  relinked l k m n xs x ys h j = let b = last_of None xs in let f = first_of ys None in record {
    slot_fits = fits_still l k m n b (Some x) f (Some x) h.listed.slot_fits j;
    linked = subst (λ (z : Pooled T × ℕ). IsLinked z.0 z.1 None (xs ++ x ∷ ys) None) (λ i. (sym j.pool i, sym j.slot i))
        (relinks l.slot m xs x ys h.listed.apart h.out h.listed.linked h.held h.back_is h.forth_is);
    apart = apart_insert xs x ys h.listed.apart h.out;
    first_is = j.first ∙ ap (λ p. kept_if b p (Some x)) h.listed.first_is ∙ first_kept xs ys (x ∷ ys);
    last_is = j.last ∙ ap (λ p. kept_if f p (Some x)) h.listed.last_is ∙ last_relinked xs x ys;
  }

  -- a node that is not in the list gets a link
  pub placed : (l : List) (m : Pooled T) (x : Ref) (y : Link) (xs ys : Seq Ref) → IsListed l m (xs ++ ys)
      → IsOut x.name (xs ++ ys) → IsHeld m x → y.back ≡ last_of None xs → y.forth ≡ first_of ys None
      → FitsBetween l (with_link m x.name l.slot y) x xs ys
  placed l m x y xs ys h out held eb ef = let here = link_here m x l.slot y held in record {
    listed = record {
      slot_fits = subst (λ n. l.slot < n) (sym (slots-with_link m x.name l.slot y)) h.slot_fits;
      linked = frame l.slot m x.name y None (xs ++ ys) None out h.linked;
      apart = h.apart;
      first_is = h.first_is;
      last_is = h.last_is;
    };
    held = ref-with_link m x.name l.slot y x.name ∙ held;
    out = out;
    back_is = ap (λ (z : Link). z.back) here ∙ eb;
    forth_is = ap (λ (z : Link). z.forth) here ∙ ef;
  }

  pub keeps_placed : (s : ℕ) (m : Pooled T) (x : Ref) (y : Link) (xs ys : Seq Ref)
      → Keeps m (joined (with_link m x.name s y) s (last_of None xs) (Some x) (first_of ys None) (Some x)) s (x ∷ xs ++ ys)
  keeps_placed s m x y xs ys = let n = with_link m x.name s y in
      keeps_then s m n (joined n s (last_of None xs) (Some x) (first_of ys None) (Some x)) (x ∷ []) (xs ++ ys)
      (x ∷ xs ++ ys) (keeps_link s m x y) (keeps_joined s n xs ys (Some x) (Some x)) (λ k o. ((o.0, tt), o.1))

  -- one list stands for one list of nodes
  pub listed_unique : (l : List) (m : Pooled T) (rs ts : Seq Ref) → IsListed l m rs → IsListed l m ts → rs ≡ ts
  listed_unique l m rs ts g h = linked_unique l.slot m None None rs ts g.linked h.linked (sym g.first_is ∙ h.first_is)

-- the nodes of a list, with and without one
pub out_among : (k : ℕ) (xs : Seq Ref) (x : Ref) (ys : Seq Ref) → IsOut k (xs ++ x ∷ ys) → IsOut k (x ∷ xs ++ ys) × IsOut k (xs ++ ys)
out_among k xs x ys o = let at = out_right k xs (x ∷ ys) o in let both = out_both k xs ys (out_left k xs (x ∷ ys) o) at.1 in ((at.0, both), both)

-- the first of a list is of no name that is out of it
first_out : (vs : Seq Ref) (q : Ref) (k : ℕ) → IsOut k vs → first_of vs None ≡ Some q → q.name ≡ k → ⊥
first_out [] q k o e n = cc
first_out (v ∷ vs) q k o e n = let same : v ≡ q = cc in let named : v.name ≡ k = ap (λ (z : Ref). z.name) same ∙ n in grind (arith, o.0, named)

pub named_out : (o : Option Ref) (vs : Seq Ref) (k : ℕ) → IsOut k vs → first_of vs None ≡ o → IsNamed o k → ⊥
named_out None vs k out e n = n
named_out (Some q) vs k out e n = first_out vs q k out e n

pub named_itself : (o : Option Ref) (x : Ref) → o ≡ Some x → IsNamed o x.name
named_itself o x e = subst (λ p. IsNamed p x.name) (sym e) refl
