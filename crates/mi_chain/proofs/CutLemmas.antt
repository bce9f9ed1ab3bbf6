-- A bucket's chain is cut around a place, changed at both sides of it, and put together.
-- Cited by `CallLemmas`, `ChangeLemmas`, `MoveLemmas`, `SearchLemmas` and `StandingLemmas`.
use Rattle.std.proofs.Common.{◌≡◌, ℕ, List, [], ◌∷◌, ◌++◌, Option, Some, None, refl, sym, ap, ◌∙◌, subst, append_assoc}
use Rattle.mi_node.specs.Pool.{Pooled, link_of, IsHeld, IsHeldIf, Keeps, with_link}
use Rattle.mi_node.specs.Neighbours.{AreHeld, IsLinked, with_back_if, with_forth_if, with_back, with_forth, joined}
use Rattle.mi_node.specs.Refs.{Ref, first_of, last_of, IsOut, IsApart, AreOut}
use Rattle.mi_node.specs.declared.link.Link.{Link}
use Rattle.mi_node.proofs.EntryLemmas.{flip, ref-with_link, link_here}
use Rattle.mi_node.proofs.KeepingLemmas.{keeps_none, keeps_link, keeps_then}
use Rattle.mi_node.proofs.RefLemmas.{out_left, out_right, apart_left, apart_right, apart_across, are_out_flip, last_push, first_push, last_both}
use Rattle.mi_node.proofs.NeighbourLemmas.{IsOutIf, IsNot, linked_left, linked_right, linked_both, linked_held}
use Rattle.mi_node.proofs.NeighbourLemmas.{frame, frame_forth, frame_back, retail, rehead, ref-joined, joined_there}
use Rattle.mi_chain.specs.Groups.{members, first_in, last_in, AreFull, IsChained}

-- the node that is named, if one is
abbrev pub list_of : Option Ref → List Ref
list_of None = []
list_of (Some r) = r ∷ []

-- what is out of a list is out of its ends
pub last_are_out : (b : Option Ref) (us zs : List Ref) → AreOut (list_of b) zs → AreOut us zs → AreOut (list_of (last_of b us)) zs
last_are_out b [] zs g h = g
last_are_out b (u ∷ us) zs g h = last_are_out (Some u) us zs (h.0, tt) h.1

pub are_out_xs : (xs ys zs : List Ref) → AreOut (xs ++ ys) zs → AreOut xs zs
are_out_xs [] ys zs h = tt
are_out_xs (x ∷ xs) ys zs h = (h.0, are_out_xs xs ys zs h.1)

pub are_out_ys : (xs ys zs : List Ref) → AreOut (xs ++ ys) zs → AreOut ys zs
are_out_ys [] ys zs h = h
are_out_ys (x ∷ xs) ys zs h = are_out_ys xs ys zs h.1

out_of_xs : (zs xs ys : List Ref) → AreOut zs (xs ++ ys) → AreOut zs xs
out_of_xs [] xs ys h = tt
out_of_xs (z ∷ zs) xs ys h = (out_left z.name xs ys h.0, out_of_xs zs xs ys h.1)

pub out_of_ys : (zs xs ys : List Ref) → AreOut zs (xs ++ ys) → AreOut zs ys
out_of_ys [] xs ys h = tt
out_of_ys (z ∷ zs) xs ys h = (out_right z.name xs ys h.0, out_of_ys zs xs ys h.1)

last_in_are_out : (b : Option Ref) (gs : List (List Ref)) (zs : List Ref)
    → AreOut (list_of b) zs → AreOut (members gs) zs → AreOut (list_of (last_in b gs)) zs
last_in_are_out b [] zs g h = g
last_in_are_out b (u ∷ gs) zs g h = last_in_are_out (last_of b u) gs zs
    (last_are_out b u zs g (are_out_xs u (members gs) zs h)) (are_out_ys u (members gs) zs h)

pub last_out : (k : ℕ) (b : Option Ref) (us : List Ref) → IsOut k (list_of b) → IsOut k us → IsOut k (list_of (last_of b us))
last_out k b [] g h = g
last_out k b (u ∷ us) g h = last_out k (Some u) us (h.0, tt) h.1

first_out : (k : ℕ) (us : List Ref) (f : Option Ref) → IsOut k (list_of f) → IsOut k us → IsOut k (list_of (first_of us f))
first_out k [] f g h = g
first_out k (u ∷ us) f g h = (h.0, tt)

last_in_out : (k : ℕ) (b : Option Ref) (gs : List (List Ref)) → IsOut k (list_of b) → IsOut k (members gs) → IsOut k (list_of (last_in b gs))
last_in_out k b [] g h = g
last_in_out k b (u ∷ gs) g h = last_in_out k (last_of b u) gs (last_out k b u g (out_left k u (members gs) h)) (out_right k u (members gs) h)

pub first_in_out : (k : ℕ) (gs : List (List Ref)) → IsOut k (members gs) → IsOut k (list_of (first_in gs None))
first_in_out k [] h = tt
first_in_out k (g ∷ gs) h = first_out k g (first_in gs None) (first_in_out k gs (out_right k g (members gs) h)) (out_left k g (members gs) h)

-- there is a last one
pub some_last : (b : Ref) (us : List Ref) → (z : Ref) × (last_of (Some b) us ≡ Some z)
some_last b [] = (b, refl)
some_last b (u ∷ us) = some_last u us

pub some_last_in : (b : Ref) (gs : List (List Ref)) → (z : Ref) × (last_in (Some b) gs ≡ Some z)
some_last_in b [] = (b, refl)
some_last_in b (g ∷ gs) = let z = some_last b g in let w = some_last_in z.0 gs in (w.0, ap (λ o. last_in o gs) z.1 ∙ w.1)

pub members-append : (gs hs : List (List Ref)) → members (gs ++ hs) ≡ members gs ++ members hs
members-append [] hs = refl
members-append (g ∷ gs) hs = ap (λ z. g ++ z) (members-append gs hs) ∙ sym (append_assoc g (members gs) (members hs))

-- the nodes around a place in a group
pub members_at : (gs : List (List Ref)) (us vs : List Ref) (hs : List (List Ref)) → members (gs ++ (us ++ vs) ∷ hs) ≡ (members gs ++ us) ++ (vs ++ members hs)
members_at gs us vs hs = members-append gs ((us ++ vs) ∷ hs)
    ∙ ap (λ z. members gs ++ z) (append_assoc us vs (members hs)) ∙ sym (append_assoc (members gs) us (vs ++ members hs))

pub first_in-append : (gs hs : List (List Ref)) (f : Option Ref) → first_in (gs ++ hs) f ≡ first_in gs (first_in hs f)
first_in-append [] hs f = refl
first_in-append (g ∷ gs) hs f = ap (first_of g) (first_in-append gs hs f)

-- no name stands twice in the parts around a place
pub record AreParted (gs : List (List Ref)) (us vs : List Ref) (hs : List (List Ref)) : Type 0 where
  pub gs_us : AreOut (members gs) us
  pub gs_vs : AreOut (members gs) vs
  pub gs_hs : AreOut (members gs) (members hs)
  pub us_gs : AreOut us (members gs)
  pub us_vs : AreOut us vs
  pub us_hs : AreOut us (members hs)
  pub vs_gs : AreOut vs (members gs)
  pub vs_us : AreOut vs us
  pub vs_hs : AreOut vs (members hs)
  pub gs_apart : IsApart (members gs)
  pub us_apart : IsApart us
  pub vs_apart : IsApart vs

pub parted : (gs : List (List Ref)) (us vs : List Ref) (hs : List (List Ref)) → IsApart ((members gs ++ us) ++ (vs ++ members hs)) → AreParted gs us vs hs
parted gs us vs hs a =
    let G = members gs in let H = members hs in let l = apart_left (G ++ us) (vs ++ H) a in let r = apart_right (G ++ us) (vs ++ H) a in
    let across = apart_across (G ++ us) (vs ++ H) a in
    let gu = apart_across G us l in let left = are_out_xs G us (vs ++ H) across in let right = are_out_ys G us (vs ++ H) across in record {
      gs_us = gu;
      gs_vs = out_of_xs G vs H left;
      gs_hs = out_of_ys G vs H left;
      us_gs = are_out_flip G us gu;
      us_vs = out_of_xs us vs H right;
      us_hs = out_of_ys us vs H right;
      vs_gs = are_out_flip G vs (out_of_xs G vs H left);
      vs_us = are_out_flip us vs (out_of_xs us vs H right);
      vs_hs = apart_across vs H r;
      gs_apart = apart_left G us l;
      us_apart = apart_right G us l;
      vs_apart = apart_left vs H r;
    }

-- what stands before the front: changed where nothing follows it
abbrev pub back_of : List Ref → Option Ref → Option Ref → Option Ref
back_of [] z b = z
back_of (v ∷ vs) z b = b

-- the node before the place and the node whose back is the one before what follows
abbrev pub left_of : List (List Ref) → List Ref → Option Ref
left_of gs us = last_of (last_in None gs) us

abbrev pub right_of : List Ref → List Ref → Option Ref
right_of us vs = first_of vs (first_of us None)

pub place_out : (gs : List (List Ref)) (us vs : List Ref) (k : ℕ) → IsOut k (members gs ++ us)
    → IsOut k vs → IsOut k (list_of (left_of gs us)) × IsOut k (list_of (right_of us vs))
place_out gs us vs k g h = let u = out_right k (members gs) us g in (
  last_out k (last_in None gs) us (last_in_out k None gs tt (out_left k (members gs) us g)) u,
  first_out k vs (first_of us None) (first_out k us None tt u) h,
)

-- the last node of a group around a node
last_around : (us : List Ref) (r : Ref) (vs : List Ref) → last_of None (us ++ r ∷ vs) ≡ last_of (Some r) vs
last_around us r vs = last_push None us r vs

back_put : (us : List Ref) (r : Ref) (vs : List Ref) → back_of vs (Some r) (last_of None (us ++ vs)) ≡ last_of (Some r) vs
back_put us r [] = refl
back_put us r (v ∷ vs) = last_around us v vs

-- where the link of a node that is put between us and vs leads
abbrev pub back_between : List Ref → Ref → List Ref → Option Ref
back_between us r vs = last_of (last_of (Some r) vs) us

abbrev pub forth_between : List Ref → List (List Ref) → Option Ref
forth_between vs hs = first_of vs (first_in hs None)

out_if : (o : Option Ref) (rs : List Ref) → AreOut (list_of o) rs → IsOutIf o rs
out_if None rs h = tt
out_if (Some r) rs h = h.0

is_not : (o : Option Ref) (k : ℕ) → IsOut k (list_of o) → IsNot o k
is_not None k h = tt
is_not (Some r) k h = flip r.name k ∙ h.0

same_first : (h : List Ref) (f w : Option Ref) → (h ≡ [] → ⊥) → first_of h f ≡ first_of h w
same_first [] f w n = absurd (n refl)
same_first (y ∷ ys) f w n = refl

same_last : (h : List Ref) (b c : Option Ref) → (h ≡ [] → ⊥) → last_of b h ≡ last_of c h
same_last [] b c n = absurd (n refl)
same_last (y ∷ ys) b c n = refl

module _ {T : Type 0} (s : ℕ) where
  pub chained_left : (m : Pooled T) (gs hs : List (List Ref)) (f : Option Ref) → IsChained m s (gs ++ hs) f → IsChained m s gs (first_in hs f)
  chained_left m [] hs f h = tt
  chained_left m (g ∷ gs) hs f h = (subst (IsLinked m s (last_of None g) g) (first_in-append gs hs f) h.0, chained_left m gs hs f h.1)

  pub chained_right : (m : Pooled T) (gs hs : List (List Ref)) (f : Option Ref) → IsChained m s (gs ++ hs) f → IsChained m s hs f
  chained_right m [] hs f h = h
  chained_right m (g ∷ gs) hs f h = chained_right m gs hs f h.1

  chained_both : (m : Pooled T) (gs hs : List (List Ref)) (f : Option Ref)
      → IsChained m s gs (first_in hs f) → IsChained m s hs f → IsChained m s (gs ++ hs) f
  chained_both m [] hs f g h = h
  chained_both m (g' ∷ gs) hs f g h = (subst (IsLinked m s (last_of None g') g') (sym (first_in-append gs hs f)) g.0, chained_both m gs hs f g.1 h)

  held_both : (m : Pooled T) (xs ys : List Ref) → AreHeld m xs → AreHeld m ys → AreHeld m (xs ++ ys)
  held_both m [] ys g h = h
  held_both m (x ∷ xs) ys g h = (g.0, held_both m xs ys g.1 h)

  pub chained_held : (m : Pooled T) (gs : List (List Ref)) (f : Option Ref) → IsChained m s gs f → AreHeld m (members gs)
  chained_held m [] f h = tt
  chained_held m (g ∷ gs) f h = held_both m g (members gs) (linked_held s m (last_of None g) g (first_in gs f) h.0) (chained_held m gs f h.1)

  pub last_held : (m : Pooled T) (b : Option Ref) (us : List Ref) → IsHeldIf m b → AreHeld m us → IsHeldIf m (last_of b us)
  last_held m b [] g h = g
  last_held m b (u ∷ us) g h = last_held m (Some u) us h.0 h.1

  pub first_held : (m : Pooled T) (us : List Ref) (f : Option Ref) → IsHeldIf m f → AreHeld m us → IsHeldIf m (first_of us f)
  first_held m [] f g h = g
  first_held m (u ∷ us) f g h = h.0

  pub last_in_held : (m : Pooled T) (b : Option Ref) (gs : List (List Ref)) (f : Option Ref) → IsHeldIf m b → IsChained m s gs f → IsHeldIf m (last_in b gs)
  last_in_held m b [] f g h = g
  last_in_held m b (u ∷ gs) f g h = last_in_held m (last_of b u) gs f (last_held m b u g (linked_held s m (last_of None u) u (first_in gs f) h.0)) h.1

  -- a link of a node outside is set
  chained_still : (m : Pooled T) (k : ℕ) (l : Link) (gs : List (List Ref)) (f : Option Ref)
      → IsOut k (members gs) → IsChained m s gs f → IsChained (with_link m k s l) s gs f
  chained_still m k l [] f o h = tt
  chained_still m k l (g ∷ gs) f o h = (
    frame s m k l (last_of None g) g (first_in gs f) (out_left k g (members gs) o) h.0,
    chained_still m k l gs f (out_right k g (members gs) o) h.1,
  )

  linked_forth : (m : Pooled T) (o : Option Ref) (w b : Option Ref) (rs : List Ref) (f : Option Ref)
      → AreOut (list_of o) rs → IsLinked m s b rs f → IsLinked (with_forth_if m s o w) s b rs f
  linked_forth m o w b rs f a h = frame_forth s m o w b rs f (out_if o rs a) h

  linked_back : (m : Pooled T) (o : Option Ref) (w b : Option Ref) (rs : List Ref) (f : Option Ref)
      → AreOut (list_of o) rs → IsLinked m s b rs f → IsLinked (with_back_if m s o w) s b rs f
  linked_back m o w b rs f a h = frame_back s m o w b rs f (out_if o rs a) h

  chained_forth : (m : Pooled T) (o : Option Ref) (w : Option Ref) (gs : List (List Ref)) (f : Option Ref)
      → AreOut (list_of o) (members gs) → IsChained m s gs f → IsChained (with_forth_if m s o w) s gs f
  unfolding with_forth
  chained_forth m None w gs f o h = h
  chained_forth m (Some r) w gs f o h = chained_still m r.name _ gs f o.0 h

  chained_back : (m : Pooled T) (o : Option Ref) (w : Option Ref) (gs : List (List Ref)) (f : Option Ref)
      → AreOut (list_of o) (members gs) → IsChained m s gs f → IsChained (with_back_if m s o w) s gs f
  unfolding with_back
  chained_back m None w gs f o h = h
  chained_back m (Some r) w gs f o h = chained_still m r.name _ gs f o.0 h

  -- what follows the last group changes
  new_end : (m : Pooled T) (gs : List (List Ref)) (f w : Option Ref) → AreFull gs → IsApart (members gs)
      → IsChained m s gs f → IsChained (with_forth_if m s (last_in None gs) w) s gs w
  new_end m [] f w full a h = tt
  new_end m (g ∷ []) f w full a h = (retail s m (last_of None g) g f w (apart_left g [] a) h.0, tt)
  new_end m (g ∷ h' ∷ gs) f w full a h =
      let end : last_in None (g ∷ h' ∷ gs) ≡ last_in None (h' ∷ gs) = ap (λ o. last_in o gs) (same_last h' (last_of None g) None full.1.0) in
      let far = last_in_are_out None (h' ∷ gs) g tt (are_out_flip g (members (h' ∷ gs)) (apart_across g (members (h' ∷ gs)) a)) in
      subst (λ o. IsChained (with_forth_if m s o w) s (g ∷ h' ∷ gs) w) (sym end) (
        subst (IsLinked (with_forth_if m s (last_in None (h' ∷ gs)) w) s (last_of None g) g) (same_first h' (first_in gs f) (first_in gs w) full.1.0)
            (linked_forth m (last_in None (h' ∷ gs)) w (last_of None g) g (first_in (h' ∷ gs) f) far h.0),
        new_end m (h' ∷ gs) f w full.1 (apart_right g (members (h' ∷ gs)) a) h.1,
      )

  -- the parts of a chain around a place in a group
  pub record Parts (m : Pooled T) (gs : List (List Ref)) (us vs : List Ref) (hs : List (List Ref)) (f b w c x : Option Ref) : Type 0 where
    pub left : IsChained m s gs f
    pub front : IsLinked m s b us w
    pub rest : IsLinked m s c vs x
    pub right : IsChained m s hs None

  after_forth : (m : Pooled T) (gs : List (List Ref)) (us vs : List Ref) (hs : List (List Ref)) (f b w c x z : Option Ref)
      → AreFull gs → AreParted gs us vs hs → Parts m gs us vs hs (first_of us f) b w c x
      → Parts (with_forth_if m s (last_of (last_in None gs) us) z) gs us vs hs (first_of us z) b z c x
  after_forth m gs [] vs hs f b w c x z full a h = let o = last_in None gs in record {
    left = new_end m gs f z full a.gs_apart h.left;
    front = tt;
    rest = linked_forth m o z c vs x (last_in_are_out None gs vs tt a.gs_vs) h.rest;
    right = chained_forth m o z hs None (last_in_are_out None gs (members hs) tt a.gs_hs) h.right;
  }
  after_forth m gs (u ∷ us) vs hs f b w c x z full a h = let o = last_of (Some u) us in record {
    left = chained_forth m o z gs (Some u) (last_are_out None (u ∷ us) (members gs) tt a.us_gs) h.left;
    front = retail s m b (u ∷ us) w z a.us_apart h.front;
    rest = linked_forth m o z c vs x (last_are_out None (u ∷ us) vs tt a.us_vs) h.rest;
    right = chained_forth m o z hs None (last_are_out None (u ∷ us) (members hs) tt a.us_hs) h.right;
  }

  after_back : (m : Pooled T) (gs : List (List Ref)) (us vs : List Ref) (hs : List (List Ref)) (f b w c x z : Option Ref)
      → AreParted gs us vs hs → Parts m gs us vs hs f b w c x
      → Parts (with_back_if m s (first_of vs (first_of us None)) z) gs us vs hs f (back_of vs z b) w z x
  after_back m gs [] [] hs f b w c x z a h = record { left = h.left; front = tt; rest = tt; right = h.right }
  after_back m gs (u ∷ us) [] hs f b w c x z a h = record {
    left = chained_back m (Some u) z gs f (a.us_gs.0, tt) h.left;
    front = rehead s m b z (u ∷ us) w a.us_apart h.front;
    rest = tt;
    right = chained_back m (Some u) z hs None (a.us_hs.0, tt) h.right;
  }
  after_back m gs us (v ∷ vs) hs f b w c x z a h = record {
    left = chained_back m (Some v) z gs f (a.vs_gs.0, tt) h.left;
    front = linked_back m (Some v) z b us w (a.vs_us.0, tt) h.front;
    rest = rehead s m c z (v ∷ vs) x a.vs_apart h.rest;
    right = chained_back m (Some v) z hs None (a.vs_hs.0, tt) h.right;
  }

  after_join : (m : Pooled T) (gs : List (List Ref)) (us vs : List Ref) (hs : List (List Ref)) (f b w c x y z : Option Ref)
      → AreFull gs → AreParted gs us vs hs → Parts m gs us vs hs (first_of us f) b w c x
      → Parts (joined m s (left_of gs us) y (right_of us vs) z) gs us vs hs (first_of us y) (back_of vs z b) y z x
  after_join m gs us vs hs f b w c x y z full a h = after_back (with_forth_if m s (left_of gs us) y)
      gs us vs hs (first_of us y) b y c x z a (after_forth m gs us vs hs f b w c x y full a h)

  link_outside : (m : Pooled T) (p y q z : Option Ref) (k : ℕ) → IsOut k (list_of p) → IsOut k (list_of q) → link_of (joined m s p y q z) k s ≡ link_of m k s
  link_outside m p y q z k g h = joined_there s m p y q z k s (is_not p k g) (is_not q k h)

  pub keeps_forth : (m : Pooled T) (p y : Option Ref) → Keeps m (with_forth_if m s p y) s (list_of p)
  unfolding with_forth
  keeps_forth m None y = keeps_none s m []
  keeps_forth m (Some p) y = keeps_link s m p _

  keeps_back : (m : Pooled T) (p y : Option Ref) → Keeps m (with_back_if m s p y) s (list_of p)
  unfolding with_back
  keeps_back m None y = keeps_none s m []
  keeps_back m (Some p) y = keeps_link s m p _

  pub keeps_joined : (m : Pooled T) (p y q z : Option Ref) (ws : List Ref)
      → ((k : ℕ) → IsOut k ws → IsOut k (list_of p) × IsOut k (list_of q)) → Keeps m (joined m s p y q z) s ws
  keeps_joined m p y q z ws among = keeps_then s m (with_forth_if m s p y) (joined m s p y q z)
      (list_of p) (list_of q) ws (keeps_forth m p y) (keeps_back (with_forth_if m s p y) q z) among

  -- a node is put in
  pub is_put : (m : Pooled T) (gs : List (List Ref)) (us vs : List Ref) (hs : List (List Ref)) (f : Option Ref) (r : Ref) (l : Link)
      → AreFull gs → AreParted gs us vs hs → IsHeld m r
      → IsOut r.name (members gs ++ us) → IsOut r.name (vs ++ members hs)
      → Parts m gs us vs hs (first_of us f) (last_of None (us ++ vs)) (first_of vs (first_in hs None)) (last_of (last_of None (us ++ vs)) us) (first_in hs None)
      → l.back ≡ back_between us r vs → l.forth ≡ forth_between vs hs
      → IsChained (joined (with_link m r.name s l) s (left_of gs us) (Some r) (right_of us vs) (Some r)) s (gs ++ (us ++ r ∷ vs) ∷ hs) None
  is_put m gs us vs hs f r l full a held ol or h lb lf =
      let k = r.name in let n = with_link m k s l in let x = first_in hs None in
      let L = last_of None (us ++ vs) in
      let before : Parts n gs us vs hs (first_of us f) L (first_of vs x) (last_of L us) x = record {
        left = chained_still m k l gs (first_of us f) (out_left k (members gs) us ol) h.left;
        front = frame s m k l L us (first_of vs x) (out_right k (members gs) us ol) h.front;
        rest = frame s m k l (last_of L us) vs x (out_left k vs (members hs) or) h.rest;
        right = chained_still m k l hs None (out_right k vs (members hs) or) h.right;
      } in
      let after = after_join n gs us vs hs f L (first_of vs x) (last_of L us) x (Some r) (Some r) full a before in
      let o = joined n s (left_of gs us) (Some r) (right_of us vs) (Some r) in
      let out = place_out gs us vs k ol (out_left k vs (members hs) or) in
      let mine : link_of o k s ≡ l = link_outside n (left_of gs us) (Some r) (right_of us vs) (Some r) k out.0 out.1 ∙ link_here m r s l held in
      let in_pool : IsHeld o r = ref-joined s n (left_of gs us) (Some r) (right_of us vs) (Some r) k ∙ ref-with_link m k s l k ∙ held in
      chained_both o gs ((us ++ r ∷ vs) ∷ hs) None (subst (IsChained o s gs) (sym (first_push us (r ∷ vs) x)) after.left) (
        subst (λ b. IsLinked o s b (us ++ r ∷ vs) x) (sym (last_around us r vs))
            (linked_both s o (last_of (Some r) vs) us (r ∷ vs) x (subst (λ b. IsLinked o s b us (Some r)) (back_put us r vs) after.front)
            (in_pool, ap (λ (z : Link). z.back) mine ∙ lb, ap (λ (z : Link). z.forth) mine ∙ lf, after.rest)),
        after.right,
      )

  -- the parts of a chain around a node in a group
  pub parts_of : (m : Pooled T) (gs : List (List Ref)) (us vs : List Ref) (hs : List (List Ref)) → IsChained m s (gs ++ (us ++ vs) ∷ hs) None
      → Parts m gs us vs hs (first_of us (first_of vs (first_in hs None))) (last_of None (us ++ vs))
      (first_of vs (first_in hs None)) (last_of (last_of None (us ++ vs)) us) (first_in hs None)
  parts_of m gs us vs hs h = let on = chained_right m gs ((us ++ vs) ∷ hs) None h in record {
    left = subst (IsChained m s gs) (first_push us vs (first_in hs None)) (chained_left m gs ((us ++ vs) ∷ hs) None h);
    front = linked_left s m (last_of None (us ++ vs)) us vs (first_in hs None) on.0;
    rest = linked_right s m (last_of None (us ++ vs)) us vs (first_in hs None) on.0;
    right = on.1;
  }

  front_left : (us : List Ref) (r : Ref) (vs : List Ref) (n : Pooled T) (w : Option Ref)
      → IsLinked n s (back_of vs (last_of (last_of (Some r) vs) us) (last_of None (us ++ r ∷ vs))) us w → IsLinked n s (last_of None (us ++ vs)) us w
  front_left [] r vs n w h = tt
  front_left (u ∷ us) r [] n w h = subst (λ b. IsLinked n s b (u ∷ us) w) (sym (last_both None (u ∷ us) [])) h
  front_left (u ∷ us) r (v ∷ vs) n w h = subst (λ b. IsLinked n s b (u ∷ us) w) (last_around (u ∷ us) r (v ∷ vs) ∙ sym (last_around (u ∷ us) v vs)) h

  rest_left : (us : List Ref) (r : Ref) (vs : List Ref) (n : Pooled T) (x : Option Ref)
      → IsLinked n s (last_of (last_of (Some r) vs) us) vs x → IsLinked n s (last_of (last_of None (us ++ vs)) us) vs x
  rest_left us r [] n x h = tt
  rest_left us r (v ∷ vs) n x h = subst (λ b. IsLinked n s (last_of b us) (v ∷ vs) x) (sym (last_around us v vs)) h

  module _ (m : Pooled T) (gs : List (List Ref)) (us : List Ref) (r : Ref) (vs : List Ref)
      (hs : List (List Ref)) (full : AreFull gs) (a : AreParted gs us vs hs)
      (h : IsChained m s (gs ++ (us ++ r ∷ vs) ∷ hs) None) where
    abbrev back_r : Option Ref
    back_r = last_of (last_of (Some r) vs) us

    abbrev forth_r : Option Ref
    forth_r = first_of vs (first_in hs None)

    pub back_of_it : (link_of m r.name s).back ≡ back_r
    back_of_it = let p = parts_of m gs us (r ∷ vs) hs h in p.rest.1 ∙ ap (λ b. last_of b us) (last_around us r vs)

    pub forth_of_it : (link_of m r.name s).forth ≡ forth_r
    forth_of_it = let p = parts_of m gs us (r ∷ vs) hs h in p.rest.2

    abbrev taken_out : Pooled T
    taken_out = joined m s (left_of gs us) forth_r (right_of us vs) back_r

    parts_left : Parts taken_out gs us vs hs (first_of us forth_r) (back_of vs back_r (last_of None (us ++ r ∷ vs))) forth_r back_r (first_in hs None)
    parts_left = let p = parts_of m gs us (r ∷ vs) hs h in
        after_join m gs us vs hs (Some r) (last_of None (us ++ r ∷ vs)) (Some r) (Some r) (first_in hs None)
        forth_r back_r full a (record { left = p.left; front = p.front; rest = p.rest.3; right = p.right })

    -- a node is taken out of a group that has others
    pub is_taken : IsChained taken_out s (gs ++ (us ++ vs) ∷ hs) None
    is_taken = let p = parts_left in
        chained_both taken_out gs ((us ++ vs) ∷ hs) None (subst (IsChained taken_out s gs) (sym (first_push us vs (first_in hs None))) p.left) (
          linked_both s taken_out (last_of None (us ++ vs)) us vs (first_in hs None)
              (front_left us r vs taken_out forth_r p.front) (rest_left us r vs taken_out (first_in hs None) p.rest),
          p.right,
        )

    -- a group is taken out with its one node
    pub is_gone : us ≡ [] → vs ≡ [] → IsChained taken_out s (gs ++ hs) None
    is_gone eu ev = let p = parts_left in
        chained_both taken_out gs hs None (subst (IsChained taken_out s gs) (λ i. first_of (eu i) (first_of (ev i) (first_in hs None))) p.left) p.right
