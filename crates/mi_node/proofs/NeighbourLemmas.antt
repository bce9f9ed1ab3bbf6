-- Linked nodes are cut, changed at an end, and put together, for the proofs of every doubly linked structure.
--     linked_..        nodes that are linked, in two parts; their references, and that what follows a node is what its links say
--     frame_..         a link of a node that is not among them is set
--     rehead, retail, joins      the first has another before it, the last another after it, and both sides of a gap
--     ref-.., value-.., slots-.., tag-..      the parts of the pool that stay
--     unlinks, relinks      one node is taken out, and put back
-- Cited by `mi_chain`, `mi_index` and `mi_list`.
use Rattle.std.proofs.Common.{◌≡◌, ℕ, ◌==◌, Bool, true, false, List, [], ◌∷◌, ◌++◌, Option, Some, None, refl, sym, ap, ◌∙◌}
use Rattle.mi_node.specs.Pool.{Pooled, ref_of, value_of, link_of, IsHeld, IsHeldIf, Keeps, with_link}
use Rattle.mi_node.specs.Refs.{Ref, first_of, last_of, IsOut, IsApart, AreOut}
use Rattle.mi_node.specs.Neighbours.{AreHeld, IsLinked, joined, with_back, with_forth, with_back_if, with_forth_if}
use Rattle.mi_node.specs.declared.link.Link.{Link}
use Rattle.mi_node.proofs.EntryLemmas.{absent_link, name_of_ref, held_of_ref, flip, same_name, slots-with_link}
use Rattle.mi_node.proofs.EntryLemmas.{ref-with_link, value-with_link, link_here, link_there, link_beside}
use Rattle.mi_node.proofs.KeepingLemmas.{SameLinks}
use Rattle.mi_node.proofs.RefLemmas.{out_left, out_right, are_out_tail, apart_left, apart_right, apart_across, apart_remove, first_push}

-- an optional reference is of none of the nodes
abbrev pub IsOutIf : Option Ref → List Ref → Type 0
IsOutIf None rs = Unit {0}
IsOutIf (Some r) rs = IsOut r.name rs

last_out : (b : Option Ref) (xs ys : List Ref) → IsOutIf b ys → AreOut xs ys → IsOutIf (last_of b xs) ys
last_out b [] ys h a = h
last_out b (x ∷ xs) ys h a = last_out (Some x) xs ys a.0 a.1

out_of_first : (xs ys : List Ref) → AreOut xs ys → IsOutIf (first_of ys None) xs
out_of_first xs [] a = tt
out_of_first xs (y ∷ ys) a = (are_out_tail xs y ys a).1

abbrev pub IsNot : Option Ref → ℕ → Type 0
IsNot None q = Unit {0}
IsNot (Some r) q = (r.name == q) ≡ false

pub last_differs : (b : Option Ref) (xs : List Ref) (q : ℕ) → IsNot b q → IsOut q xs → IsNot (last_of b xs) q
last_differs b [] q h o = h
last_differs b (x ∷ xs) q h o = last_differs (Some x) xs q (flip x.name q ∙ o.0) o.1

pub first_differs : (ys : List Ref) (q : ℕ) → IsOut q ys → IsNot (first_of ys None) q
first_differs [] q o = tt
first_differs (y ∷ ys) q o = flip y.name q ∙ o.0

module _ {T : Type 0} (s : ℕ) where
  pub linked_left : (m : Pooled T) (b : Option Ref) (xs ys : List Ref) (f : Option Ref) → IsLinked m s b (xs ++ ys) f → IsLinked m s b xs (first_of ys f)
  linked_left m b [] ys f h = tt
  linked_left m b (x ∷ xs) ys f h = (h.0, h.1, h.2 ∙ first_push xs ys f, linked_left m (Some x) xs ys f h.3)

  pub linked_right : (m : Pooled T) (b : Option Ref) (xs ys : List Ref) (f : Option Ref) → IsLinked m s b (xs ++ ys) f → IsLinked m s (last_of b xs) ys f
  linked_right m b [] ys f h = h
  linked_right m b (x ∷ xs) ys f h = linked_right m (Some x) xs ys f h.3

  pub linked_both : (m : Pooled T) (b : Option Ref) (xs ys : List Ref) (f : Option Ref)
      → IsLinked m s b xs (first_of ys f) → IsLinked m s (last_of b xs) ys f → IsLinked m s b (xs ++ ys) f
  linked_both m b [] ys f g h = h
  linked_both m b (x ∷ xs) ys f g h = (g.0, g.1, g.2 ∙ sym (first_push xs ys f), linked_both m (Some x) xs ys f g.3 h)

  -- a link of a node that is not in the chain is changed
  pub frame : (m : Pooled T) (k : ℕ) (l : Link) (b : Option Ref) (xs : List Ref) (f : Option Ref)
      → IsOut k xs → IsLinked m s b xs f → IsLinked (with_link m k s l) s b xs f
  frame m k l b [] f o h = tt
  frame m k l b (x ∷ xs) f o h = let same = link_there m k s l x.name s o.0 in
      (ref-with_link m k s l x.name ∙ h.0, ap (λ (y : Link). y.back) same ∙ h.1, ap (λ (y : Link). y.forth) same ∙ h.2, frame m k l (Some x) xs f o.1 h.3)

  pub frame_back : (m : Pooled T) (o c : Option Ref) (b : Option Ref) (xs : List Ref) (f : Option Ref)
      → IsOutIf o xs → IsLinked m s b xs f → IsLinked (with_back_if m s o c) s b xs f
  unfolding with_back
  frame_back m None c b xs f h l = l
  frame_back m (Some r) c b xs f h l = frame m r.name (record (link_of m r.name s) { back = c }) b xs f h l

  pub frame_forth : (m : Pooled T) (o c : Option Ref) (b : Option Ref) (xs : List Ref) (f : Option Ref)
      → IsOutIf o xs → IsLinked m s b xs f → IsLinked (with_forth_if m s o c) s b xs f
  unfolding with_forth
  frame_forth m None c b xs f h l = l
  frame_forth m (Some r) c b xs f h l = frame m r.name (record (link_of m r.name s) { forth = c }) b xs f h l

  -- what no link has a part in stays
  stays-forth : {X : Type 0} (f : Pooled T → X) (m : Pooled T) → ((k : ℕ) (l : Link) → f (with_link m k s l) ≡ f m)
      → (o c : Option Ref) → f (with_forth_if m s o c) ≡ f m
  unfolding with_forth
  stays-forth f m same None c = refl
  stays-forth f m same (Some r) c = same r.name (record (link_of m r.name s) { forth = c })

  stays-back : {X : Type 0} (f : Pooled T → X) (m : Pooled T) → ((k : ℕ) (l : Link) → f (with_link m k s l) ≡ f m)
      → (o c : Option Ref) → f (with_back_if m s o c) ≡ f m
  unfolding with_back
  stays-back f m same None c = refl
  stays-back f m same (Some r) c = same r.name (record (link_of m r.name s) { back = c })

  ref-forth : (m : Pooled T) (o c : Option Ref) (q : ℕ) → ref_of (with_forth_if m s o c) q ≡ ref_of m q
  ref-forth m o c q = stays-forth (λ n. ref_of n q) m (λ k l. ref-with_link m k s l q) o c

  ref-back : (m : Pooled T) (o c : Option Ref) (q : ℕ) → ref_of (with_back_if m s o c) q ≡ ref_of m q
  ref-back m o c q = stays-back (λ n. ref_of n q) m (λ k l. ref-with_link m k s l q) o c

  forth_there : (m : Pooled T) (o c : Option Ref) (q t : ℕ) → IsNot o q → link_of (with_forth_if m s o c) q t ≡ link_of m q t
  unfolding with_forth
  forth_there m None c q t h = refl
  forth_there m (Some r) c q t h = link_there m r.name s (record (link_of m r.name s) { forth = c }) q t h

  back_there : (m : Pooled T) (o c : Option Ref) (q t : ℕ) → IsNot o q → link_of (with_back_if m s o c) q t ≡ link_of m q t
  unfolding with_back
  back_there m None c q t h = refl
  back_there m (Some r) c q t h = link_there m r.name s (record (link_of m r.name s) { back = c }) q t h

  -- the first node has another before it
  pub rehead : (m : Pooled T) (b c : Option Ref) (ys : List Ref) (f : Option Ref) → IsApart ys
      → IsLinked m s b ys f → IsLinked (with_back_if m s (first_of ys None) c) s c ys f
  unfolding with_back
  rehead m b c [] f a h = tt
  rehead m b c (y ∷ ys) f a h = let l : Link = record (link_of m y.name s) { back = c } in let here = link_here m y s l h.0 in
      (ref-with_link m y.name s l y.name ∙ h.0, ap (λ (z : Link). z.back) here, ap (λ (z : Link). z.forth) here ∙ h.2, frame m y.name l (Some y) ys f a.0 h.3)

  -- the last node has another after it
  pub retail : (m : Pooled T) (b : Option Ref) (xs : List Ref) (f g : Option Ref) → IsApart xs
      → IsLinked m s b xs f → IsLinked (with_forth_if m s (last_of None xs) g) s b xs g
  unfolding with_forth
  retail m b [] f g a h = tt
  retail m b (x ∷ []) f g a h = let l : Link = record (link_of m x.name s) { forth = g } in let here = link_here m x s l h.0 in
      (ref-with_link m x.name s l x.name ∙ h.0, ap (λ (z : Link). z.back) here ∙ h.1, ap (λ (z : Link). z.forth) here, tt)
  retail m b (x ∷ y ∷ xs) f g a h =
      let on = retail m (Some x) (y ∷ xs) f g a.1 h.3 in
      let same = forth_there m (last_of None (y ∷ xs)) g x.name s (last_differs (Some y) xs x.name (flip y.name x.name ∙ a.0.0) a.0.1) in
      (ref-forth m (last_of None (y ∷ xs)) g x.name ∙ h.0, ap (λ (z : Link). z.back) same ∙ h.1, ap (λ (z : Link). z.forth) same ∙ h.2, on)

  -- both sides of a gap learn of other neighbours
  joins : (m : Pooled T) (xs ys : List Ref) (f b l r : Option Ref) → IsApart (xs ++ ys) → IsLinked m s None xs f → IsLinked m s b ys None
      → IsLinked (joined m s (last_of None xs) l (first_of ys None) r) s None xs l × IsLinked (joined m s (last_of None xs) l (first_of ys None) r) s r ys None
  joins m xs ys f b l r a g h =
      let n = with_forth_if m s (last_of None xs) l in let across = apart_across xs ys a in (
        frame_back n (first_of ys None) r None xs l (out_of_first xs ys across) (retail m None xs f l (apart_left xs ys a) g),
        rehead n b r ys None (apart_right xs ys a) (frame_forth m (last_of None xs) l b ys None (last_out None xs ys tt across) h),
      )

  pub ref-joined : (m : Pooled T) (b l f r : Option Ref) (q : ℕ) → ref_of (joined m s b l f r) q ≡ ref_of m q
  ref-joined m b l f r q = ref-back (with_forth_if m s b l) f r q ∙ ref-forth m b l q

  pub joined_there : (m : Pooled T) (b l f r : Option Ref) (q t : ℕ) → IsNot b q → IsNot f q → link_of (joined m s b l f r) q t ≡ link_of m q t
  joined_there m b l f r q t g h = back_there (with_forth_if m s b l) f r q t h ∙ forth_there m b l q t g

  pub slots-forth : (m : Pooled T) (o c : Option Ref) → (with_forth_if m s o c).slots ≡ m.slots
  slots-forth m o c = stays-forth (λ n. n.slots) m (λ k l. slots-with_link m k s l) o c

  slots-back : (m : Pooled T) (o c : Option Ref) → (with_back_if m s o c).slots ≡ m.slots
  slots-back m o c = stays-back (λ n. n.slots) m (λ k l. slots-with_link m k s l) o c

  pub slots-joined : (m : Pooled T) (b l f r : Option Ref) → (joined m s b l f r).slots ≡ m.slots
  slots-joined m b l f r = slots-back (with_forth_if m s b l) f r ∙ slots-forth m b l

  value-forth : (m : Pooled T) (o c : Option Ref) (k : ℕ) → value_of (with_forth_if m s o c) k ≡ value_of m k
  value-forth m o c k = stays-forth (λ n. value_of n k) m (λ q l. value-with_link m q s l k) o c

  value-back : (m : Pooled T) (o c : Option Ref) (k : ℕ) → value_of (with_back_if m s o c) k ≡ value_of m k
  value-back m o c k = stays-back (λ n. value_of n k) m (λ q l. value-with_link m q s l k) o c

  beside-forth : (m : Pooled T) (o c : Option Ref) (k t : ℕ) → (s == t) ≡ false → link_of (with_forth_if m s o c) k t ≡ link_of m k t
  beside-forth m o c k t e = stays-forth (λ n. link_of n k t) m (λ q l. link_beside m q s l k t e) o c

  beside-back : (m : Pooled T) (o c : Option Ref) (k t : ℕ) → (s == t) ≡ false → link_of (with_back_if m s o c) k t ≡ link_of m k t
  beside-back m o c k t e = stays-back (λ n. link_of n k t) m (λ q l. link_beside m q s l k t e) o c

  pub keeps_joined : (m : Pooled T) (xs ys : List Ref) (l r : Option Ref) → Keeps m (joined m s (last_of None xs) l (first_of ys None) r) s (xs ++ ys)
  keeps_joined m xs ys l r = let b = last_of None xs in let f = first_of ys None in let n = with_forth_if m s b l in record {
    refs = ref-joined m b l f r;
    values = λ k. value-back n f r k ∙ value-forth m b l k;
    slots = slots-joined m b l f r;
    other_slots = λ k t e. beside-back n f r k t e ∙ beside-forth m b l k t e;
    other_nodes = λ k t o. joined_there m b l f r k t (last_differs None xs k tt (out_left k xs ys o)) (first_differs ys k (out_right k xs ys o));
  }

  -- what follows a node is what its links say
  pub linked_unique : (m : Pooled T) (b c : Option Ref) (rs ts : List Ref) → IsLinked m s b rs None
      → IsLinked m s c ts None → first_of rs None ≡ first_of ts None → rs ≡ ts
  linked_unique m b c [] [] g h e = refl
  linked_unique m b c [] (t ∷ ts) g h e = absurd cc
  linked_unique m b c (r ∷ rs) [] g h e = absurd cc
  linked_unique m b c (r ∷ rs) (t ∷ ts) g h e =
      let same : r ≡ t = cc in
      let rest = linked_unique m (Some r) (Some t) rs ts g.3 h.3 (sym g.2 ∙ ap (λ (z : Ref). (link_of m z.name s).forth) same ∙ h.2) in
      λ i. same i ∷ rest i

  pub unlinks : (m : Pooled T) (xs : List Ref) (x : Ref) (ys : List Ref) → IsApart (xs ++ x ∷ ys) → IsLinked m s None (xs ++ x ∷ ys) None
      → IsLinked (joined m s (last_of None xs) (first_of ys None) (first_of ys None) (last_of None xs)) s None (xs ++ ys) None
  unlinks m xs x ys a h =
      let on = joins m xs ys (Some x) (Some x) (first_of ys None) (last_of None xs) (apart_remove xs x ys a).0
      (linked_left m None xs (x ∷ ys) None h) (linked_right m None xs (x ∷ ys) None h).3 in
      linked_both (joined m s (last_of None xs) (first_of ys None) (first_of ys None) (last_of None xs)) None xs ys None on.0 on.1

  pub relinks : (m : Pooled T) (xs : List Ref) (x : Ref) (ys : List Ref) → IsApart (xs ++ ys) → IsOut x.name (xs ++ ys) → IsLinked m s None (xs ++ ys) None
      → IsHeld m x → (link_of m x.name s).back ≡ last_of None xs → (link_of m x.name s).forth ≡ first_of ys None
      → IsLinked (joined m s (last_of None xs) (Some x) (first_of ys None) (Some x)) s None (xs ++ x ∷ ys) None
  relinks m xs x ys a o h held back forth =
      let n = joined m s (last_of None xs) (Some x) (first_of ys None) (Some x) in
      let on = joins m xs ys (first_of ys None) (last_of None xs) (Some x) (Some x) a (linked_left m None xs ys None h) (linked_right m None xs ys None h) in
      let same = joined_there m (last_of None xs) (Some x) (first_of ys None) (Some x) x.name s
      (last_differs None xs x.name tt (out_left x.name xs ys o)) (first_differs ys x.name (out_right x.name xs ys o)) in
      linked_both n None xs (x ∷ ys) None on.0 (
        ref-joined m (last_of None xs) (Some x) (first_of ys None) (Some x) x.name ∙ held,
        ap (λ (z : Link). z.back) same ∙ back,
        ap (λ (z : Link). z.forth) same ∙ forth,
        on.1,
      )

-- who is held in a chain
pub held_last : {T : Type 0} (s : ℕ) (m : Pooled T) (b : Option Ref) (xs : List Ref) (f : Option Ref)
    → IsHeldIf m b → IsLinked m s b xs f → IsHeldIf m (last_of b xs)
held_last s m b [] f g h = g
held_last s m b (x ∷ xs) f g h = held_last s m (Some x) xs f h.0 h.3

pub held_first : {T : Type 0} (s : ℕ) (m : Pooled T) (b : Option Ref) (xs : List Ref) → IsLinked m s b xs None → IsHeldIf m (first_of xs None)
held_first s m b [] h = tt
held_first s m b (x ∷ xs) h = h.0

module _ {T : Type 0} (s : ℕ) where
  pub linked_held : (m : Pooled T) (b : Option Ref) (rs : List Ref) (f : Option Ref) → IsLinked m s b rs f → AreHeld m rs
  linked_held m b [] f h = tt
  linked_held m b (r ∷ rs) f h = (h.0, linked_held m (Some r) rs f h.3)

  -- in a pool where the nodes have the same links
  pub linked_same : (m n : Pooled T) (b : Option Ref) (rs : List Ref) (f : Option Ref) → SameLinks m n s rs → IsLinked m s b rs f → IsLinked n s b rs f
  linked_same m n b [] f same h = tt
  linked_same m n b (r ∷ rs) f same h = (
    same.0 ∙ h.0,
    ap (λ (y : Link). y.back) same.1 ∙ h.1,
    ap (λ (y : Link). y.forth) same.1 ∙ h.2,
    linked_same m n (Some r) rs f same.2 h.3,
  )

  -- the tags stay, of the nodes that are set too
  pub tag-with_link : (m : Pooled T) (k : ℕ) (l : Link) (q t : ℕ) → l.tag ≡ (link_of m k s).tag → (link_of (with_link m k s l) q t).tag ≡ (link_of m q t).tag
  tag-with_link m k l q t e = by_name (k == q) refl
    where
      here : (o : Option Ref) → ref_of m k ≡ o → (link_of (with_link m k s l) k s).tag ≡ (link_of m k s).tag
      here None none = ap (λ (z : Link). z.tag) (absent_link (with_link m k s l) k s (ref-with_link m k s l k ∙ none) ∙ sym (absent_link m k s none))
      here (Some r) some =
          let name = name_of_ref m k r some in
          ap (λ z. (link_of (with_link m z s l) z s).tag) (sym name) ∙ ap (λ (z : Link). z.tag) (link_here m r s l (held_of_ref m k r some)) ∙ e

      by_slot : (b : Bool) → (s == t) ≡ b → k ≡ q → (link_of (with_link m k s l) q t).tag ≡ (link_of m q t).tag
      by_slot true d n = (λ i. (link_of (with_link m k s l) (sym n i) (sym (same_name s t d) i)).tag)
          ∙ here (ref_of m k) refl ∙ (λ i. (link_of m (n i) (same_name s t d i)).tag)
      by_slot false d n = ap (λ (z : Link). z.tag) (link_beside m k s l q t d)

      by_name : (b : Bool) → (k == q) ≡ b → (link_of (with_link m k s l) q t).tag ≡ (link_of m q t).tag
      by_name true d = by_slot (s == t) refl (same_name k q d)
      by_name false d = ap (λ (z : Link). z.tag) (link_there m k s l q t d)

  pub tag-forth : (m : Pooled T) (o c : Option Ref) (q t : ℕ) → (link_of (with_forth_if m s o c) q t).tag ≡ (link_of m q t).tag
  unfolding with_forth
  tag-forth m None c q t = refl
  tag-forth m (Some r) c q t = tag-with_link m r.name (record (link_of m r.name s) { forth = c }) q t refl

  tag-back : (m : Pooled T) (o c : Option Ref) (q t : ℕ) → (link_of (with_back_if m s o c) q t).tag ≡ (link_of m q t).tag
  unfolding with_back
  tag-back m None c q t = refl
  tag-back m (Some r) c q t = tag-with_link m r.name (record (link_of m r.name s) { back = c }) q t refl

  pub tag-joined : (m : Pooled T) (b l f r : Option Ref) (q t : ℕ) → (link_of (joined m s b l f r) q t).tag ≡ (link_of m q t).tag
  tag-joined m b l f r q t = tag-back (with_forth_if m s b l) f r q t ∙ tag-forth m b l q t

  pub held_link : (m : Pooled T) (k : ℕ) (l : Link) (o : Option Ref) → IsHeldIf m o → IsHeldIf (with_link m k s l) o
  held_link m k l None h = tt
  held_link m k l (Some r) h = ref-with_link m k s l r.name ∙ h

  pub held_still : (m : Pooled T) (o c p : Option Ref) → IsHeldIf m p → IsHeldIf (with_forth_if m s o c) p
  held_still m o c None h = tt
  held_still m o c (Some r) h = ref-forth s m o c r.name ∙ h
