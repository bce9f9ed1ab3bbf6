-- What a walk's path says of the nodes ahead.
-- Cited by `Walk::next`, `walk::+cut_down`, `walk::+go_down` and `walk::+seek_down`.
use Rattle.std.proofs.Common.{◌≡◌, ℕ, Bool, cond, not, suc, ◌+◌, ◌-◌, ◌<◌, ◌≤◌, List, [], ◌∷◌, ◌++◌, length, max, reverse, take}
use Rattle.std.proofs.Common.{drop, Option, Some, None, refl, sym, ap, ◌∙◌, subst, arith, append_assoc, length-append}
use Rattle.std.specs.List.{slice_get}
use Rattle.std.specs.Option.{option_flatten}
use Rattle.std.proofs.lemmas.List.{drop-append-le, take-append-le, reverse-append}
use Rattle.std.proofs.lemmas.Option.{slice_get-get_or}
use Rattle.std.proofs.Math.Seq.{take-append_seam, take-append-add, drop-append-add, get_or-append_seam}
use Rattle.mi_node.specs.Pool.{Pooled, link_of, IsHeld}
use Rattle.mi_node.specs.Refs.{Ref}
use Rattle.mi_node.specs.declared.link.Link.{Link}
use Rattle.mi_tree.specs.BinaryTree.{BinaryTree, Fork, nodes, height, IsRooted, height_at}
use Rattle.mi_tree.specs.Walking.{Pending, onward, beyond, near_of, far_of, is_ascending, ahead, path_of, ArePending, Goes, Enters, IsWalk}
use Rattle.mi_tree.specs.declared.walk.Direction.{Direction}
use Rattle.mi_tree.specs.declared.walk.Direction.TheVariants.{Ascending, Descending}
use Rattle.mi_tree.specs.declared.walk.Walk.{Walk}
use Rattle.mi_tree.specs.declared.walk.TheConstants.{MAX_LEVELS}
use Rattle.mi_tree.proofs.BinaryTreeLemmas.{sides, height-root}

path_length : (xs : List Pending) → length (path_of xs) ≡ length xs
path_length [] = refl
path_length (x ∷ xs) = let i = path_length xs in let j = length-append (path_of xs) (Some x.node ∷ []) in omega arith

some_two : (r q : Ref) → Some r ≡ Some q → r ≡ q
some_two r q e = cc

-- a node between its sides, in either direction
abbrev pub nearer : Direction → BinaryTree → BinaryTree → BinaryTree
nearer Ascending l q = l
nearer Descending l q = q

abbrev pub farther : Direction → BinaryTree → BinaryTree → BinaryTree
farther Ascending l q = q
farther Descending l q = l

onward_fork : (d : Direction) (l : BinaryTree) (r : Ref) (q : BinaryTree)
    → onward d (nodes l ++ r ∷ nodes q) ≡ onward d (nodes (nearer d l q)) ++ r ∷ onward d (nodes (farther d l q))
onward_fork Ascending l r q = refl
onward_fork Descending l r q = reverse-append (nodes l) (r ∷ nodes q)
    ∙ ap (λ k. k ++ reverse (nodes l)) (reverse-append (r ∷ []) (nodes q)) ∙ append_assoc (reverse (nodes q)) (r ∷ []) (reverse (nodes l))

near_rooted : {T : Type 0} (m : Pooled T) (s : ℕ) (d : Direction) (y : Link) (l q : BinaryTree) → IsRooted m s y.back l
    → IsRooted m s y.forth q → IsRooted m s (near_of d y) (nearer d l q) × IsRooted m s (far_of d y) (farther d l q)
near_rooted m s Ascending y l q g h = (g, h)
near_rooted m s Descending y l q g h = (h, g)

near_height : (d : Direction) (l q : BinaryTree) (n : ℕ) → n ≡ max (height l) (height q) + 1 → (height (nearer d l q) < n) × (height (farther d l q) < n)
near_height Ascending l q n e = (omega arith, omega arith)
near_height Descending l q n e = (omega arith, omega arith)

module _ {T : Type 0} where
  pub goes_depth : {m : Pooled T} {s : ℕ} {d : Direction} {levels : ℕ} {items : List (Option Ref)} {xs : List Pending}
      → Goes m s d levels items xs → length items ≤ levels
  goes_depth {xs = []} h = let e = ap length h.path_is in omega arith
  goes_depth {xs = x ∷ xs} h = let e = ap length h.path_is in let i = path_length (x ∷ xs) in let room = h.pending.2 in omega arith

  -- a node on the path down
  pub record Entered (m : Pooled T) (s : ℕ) (d : Direction) (levels : ℕ) (items : List (Option Ref))
      (r : Ref) (y : Link) (xs : List Pending) (t : BinaryTree) : Type 0 where
    pub left : BinaryTree
    pub right : BinaryTree
    pub is : t ≡ Fork left r right
    pub held : IsHeld m r
    pub left_is : IsRooted m s y.back left
    pub before : Enters m s d levels (items ++ Some r ∷ []) (near_of d y) (record { node = r; after = farther d left right } ∷ xs) (nearer d left right)
    pub after : Enters m s d levels items (far_of d y) xs (farther d left right)
    pub near_lower : height_at m s (near_of d y) < height_at m s (Some r)
    pub far_lower : height_at m s (far_of d y) < height_at m s (Some r)
    pub room : length items < MAX_LEVELS

  pub entered : {m : Pooled T} {s : ℕ} {d : Direction} {levels : ℕ} {items : List (Option Ref)}
      {at : Option Ref} {r : Ref} {y : Link} {xs : List Pending} {t : BinaryTree}
      → Enters m s d levels items at xs t → at ≡ Some r → y ≡ link_of m r.name s → Entered m s d levels items r y xs t
  entered {m} {s} {d} {levels} {items} {at} {r} {y} {xs} {t} h e i =
      let o = sides m s at r y t h.rooted e i in let room = h.room in let low = h.low in
      let long : length items ≡ length xs = ap length h.goes.path_is ∙ path_length xs in
      let both = near_rooted m s d y o.A o.B o.left o.right in
      let here = subst (λ (z : Link). IsRooted m s (far_of d z) (farther d o.A o.B)) i both.1 in let tall = near_height d o.A o.B (height t) o.height_is in
      let hn = height-root m s (near_of d y) (nearer d o.A o.B) both.0 in let hf = height-root m s (far_of d y) (farther d o.A o.B) both.1 in
      let ht = ap (height_at m s) (sym e) ∙ height-root m s at t h.rooted in
      let nt : height (nearer d o.A o.B) < height t = tall.0 in let ft : height (farther d o.A o.B) < height t = tall.1 in
      record {
        left = o.A;
        right = o.B;
        is = o.is;
        held = o.held;
        left_is = o.left;
        before = record {
          goes = record { path_is = ap (λ k. k ++ Some r ∷ []) h.goes.path_is; pending = (o.held, here, omega arith, h.goes.pending) };
          rooted = both.0;
          room = omega arith;
          low = low;
        };
        after = record { goes = h.goes; rooted = both.1; room = omega arith; low = low };
        near_lower = omega arith;
        far_lower = omega arith;
        room = omega arith;
      }

-- the nodes ahead of the nearer side, then those of the whole
pub ahead_near : (d : Direction) (l : BinaryTree) (r : Ref) (q t : BinaryTree) (xs ys : List Pending) → t ≡ Fork l r q
    → ahead d ys ≡ onward d (nodes (nearer d l q)) ++ ahead d (record { node = r; after = farther d l q } ∷ xs) → ahead d ys ≡ onward d (nodes t) ++ ahead d xs
ahead_near d l r q t xs ys e h =
    h ∙ sym (append_assoc (onward d (nodes (nearer d l q))) (r ∷ onward d (nodes (farther d l q))) (ahead d xs))
    ∙ ap (λ k. k ++ ahead d xs) (sym (ap (λ k. onward d (nodes k)) e ∙ onward_fork d l r q))

-- what lies beyond a place, of a fork: the place is in the left side, or in the right one
take_fork : (xs : List Ref) (r : Ref) (ys : List Ref) (n k : ℕ) → n ≡ length xs + suc k → take n (xs ++ r ∷ ys) ≡ xs ++ r ∷ take k ys
take_fork xs r ys n k e = ap (λ z. take z (xs ++ r ∷ ys)) e ∙ take-append-add xs (r ∷ ys) (suc k)

drop_fork : (xs : List Ref) (r : Ref) (ys : List Ref) (n k : ℕ) → n ≡ length xs + suc k → drop n (xs ++ r ∷ ys) ≡ drop k ys
drop_fork xs r ys n k e = ap (λ z. drop z (xs ++ r ∷ ys)) e ∙ drop-append-add xs (r ∷ ys) (suc k)

-- up from a place in the left side, down from one in the right side: the node is ahead too
up_left : (l : BinaryTree) (r : Ref) (q t : BinaryTree) (xs ys : List Pending) (n : ℕ) → t ≡ Fork l r q → n ≤ length (nodes l)
    → ahead Ascending ys ≡ drop n (nodes l) ++ ahead Ascending (record { node = r; after = q } ∷ xs)
    → ahead Ascending ys ≡ drop n (nodes t) ++ ahead Ascending xs
up_left l r q t xs ys n e le h =
    h ∙ sym (append_assoc (drop n (nodes l)) (r ∷ nodes q) (ahead Ascending xs))
    ∙ ap (λ k. k ++ ahead Ascending xs) (sym (drop-append-le n (nodes l) (r ∷ nodes q) le)) ∙ ap (λ k. drop n (nodes k) ++ ahead Ascending xs) (sym e)

up_right : (l : BinaryTree) (r : Ref) (q t : BinaryTree) (xs ys : List Pending) (n k : ℕ) → t ≡ Fork l r q → n ≡ length (nodes l) + suc k
    → ahead Ascending ys ≡ drop k (nodes q) ++ ahead Ascending xs → ahead Ascending ys ≡ drop n (nodes t) ++ ahead Ascending xs
up_right l r q t xs ys n k e is h = h ∙ ap (λ z. z ++ ahead Ascending xs) (sym (ap (λ z. drop n (nodes z)) e ∙ drop_fork (nodes l) r (nodes q) n k is))

down_left : (l : BinaryTree) (r : Ref) (q t : BinaryTree) (xs ys : List Pending) (n : ℕ) → t ≡ Fork l r q → n ≤ length (nodes l)
    → ahead Descending ys ≡ reverse (take n (nodes l)) ++ ahead Descending xs → ahead Descending ys ≡ reverse (take n (nodes t)) ++ ahead Descending xs
down_left l r q t xs ys n e le h = h
    ∙ ap (λ z. reverse z ++ ahead Descending xs) (sym (ap (λ z. take n (nodes z)) e ∙ take-append-le n (nodes l) (r ∷ nodes q) le))

down_right : (l : BinaryTree) (r : Ref) (q t : BinaryTree) (xs ys : List Pending) (n k : ℕ) → t ≡ Fork l r q → n ≡ length (nodes l) + suc k
    → ahead Descending ys ≡ reverse (take k (nodes q)) ++ ahead Descending (record { node = r; after = l } ∷ xs)
    → ahead Descending ys ≡ reverse (take n (nodes t)) ++ ahead Descending xs
down_right l r q t xs ys n k e is h =
    let part = reverse (take k (nodes q)) in
    let whole : reverse (take n (nodes t)) ≡ part ++ r ∷ reverse (nodes l) =
    ap (λ z. reverse (take n (nodes z))) e ∙ ap reverse (take_fork (nodes l) r (nodes q) n k is) ∙ reverse-append (nodes l) (r ∷ take k (nodes q))
    ∙ ap (λ z. z ++ reverse (nodes l)) (reverse-append (r ∷ []) (take k (nodes q))) ∙ append_assoc part (r ∷ []) (reverse (nodes l)) in
    h ∙ sym (append_assoc part (r ∷ reverse (nodes l)) (ahead Descending xs)) ∙ ap (λ z. z ++ ahead Descending xs) (sym whole)

-- what is pending on the path into either side
abbrev pub pend_left : Direction → Ref → BinaryTree → List Pending → List Pending
pend_left Ascending r q xs = record { node = r; after = q } ∷ xs
pend_left Descending r q xs = xs

abbrev pub pend_right : Direction → Ref → BinaryTree → List Pending → List Pending
pend_right Ascending r l xs = xs
pend_right Descending r l xs = record { node = r; after = l } ∷ xs

-- a walk may begin in a pool n that is as m is
pub enters_moved : {T : Type 0} {m n : Pooled T} {s : ℕ} {d : Direction} {levels : ℕ} {was new : List (Option Ref)} {at next : Option Ref}
    {xs : List Pending} {t : BinaryTree} → Enters m s d levels was at xs t → n ≡ m → new ≡ was → next ≡ at → Enters n s d levels new next xs t
enters_moved {T} {s = s} {d} {levels} {xs = xs} {t} h same e f =
    subst (λ (k : Pooled T × List (Option Ref) × Option Ref). Enters k.0 s d levels k.1 k.2 xs t) (λ i. (sym same i, sym e i, sym f i)) h

-- the path into either side, in a pool n that is as m is; the node is pushed where the walk comes to it later
module _ {T : Type 0} {m : Pooled T} {s levels : ℕ} {items : List (Option Ref)} {r : Ref} {y : Link} {xs : List Pending} {t : BinaryTree} where
  pub enters_left : {n : Pooled T} {new : List (Option Ref)} {up : Bool} (d : Direction) (o : Entered m s d levels items r y xs t) → n ≡ m
      → up ≡ is_ascending d → new ≡ cond up (items ++ Some r ∷ []) items → Enters n s d levels new y.back (pend_left d r o.right xs) o.left
  enters_left Ascending o same up e = enters_moved o.before same (e ∙ ap (λ z. cond z (items ++ Some r ∷ []) items) up) refl
  enters_left Descending o same up e = enters_moved o.after same (e ∙ ap (λ z. cond z (items ++ Some r ∷ []) items) up) refl

  pub enters_right : {n : Pooled T} {new : List (Option Ref)} {up : Bool} (d : Direction) (o : Entered m s d levels items r y xs t) → n ≡ m
      → up ≡ is_ascending d → new ≡ cond (not up) (items ++ Some r ∷ []) items → Enters n s d levels new y.forth (pend_right d r o.left xs) o.right
  enters_right Ascending o same up e = enters_moved o.after same (e ∙ ap (λ z. cond (not z) (items ++ Some r ∷ []) items) up) refl
  enters_right Descending o same up e = enters_moved o.before same (e ∙ ap (λ z. cond (not z) (items ++ Some r ∷ []) items) up) refl

  sides_lower : (d : Direction) → Entered m s d levels items r y xs t
      → (height_at m s y.back < height_at m s (Some r)) × (height_at m s y.forth < height_at m s (Some r))
  sides_lower Ascending o = (o.near_lower, o.far_lower)
  sides_lower Descending o = (o.far_lower, o.near_lower)

  pub enters_lower : {n : Pooled T} {at : Option Ref} (d : Direction) → Entered m s d levels items r y xs t → n ≡ m → at ≡ Some r
      → (height_at n s y.back < height_at m s at) × (height_at n s y.forth < height_at m s at)
  enters_lower d o same e =
      subst (λ (k : Pooled T × Option Ref). (height_at k.0 s y.back < height_at m s k.1) × (height_at k.0 s y.forth < height_at m s k.1))
      (λ i. (sym same i, sym e i)) (sides_lower d o)

pub goes_moved : {T : Type 0} {m n : Pooled T} {s : ℕ} {d : Direction} {levels : ℕ} {items : List (Option Ref)} {xs : List Pending}
    → n ≡ m → Goes n s d levels items xs → Goes m s d levels items xs
goes_moved {T} {m} {n} {s} {d} {levels} {items} {xs} same h = subst (λ (z : Pooled T). Goes z s d levels items xs) same h

-- the nodes ahead of a place in either side
pub path_left : (d : Direction) (l : BinaryTree) (r : Ref) (q t : BinaryTree) (xs ys : List Pending) (n : ℕ) → t ≡ Fork l r q → n ≤ length (nodes l)
    → ahead d ys ≡ beyond d (take n (nodes l)) (drop n (nodes l)) ++ ahead d (pend_left d r q xs)
    → ahead d ys ≡ beyond d (take n (nodes t)) (drop n (nodes t)) ++ ahead d xs
path_left Ascending l r q t xs ys n e le h = up_left l r q t xs ys n e le h
path_left Descending l r q t xs ys n e le h = down_left l r q t xs ys n e le h

pub path_right : (d : Direction) (l : BinaryTree) (r : Ref) (q t : BinaryTree) (xs ys : List Pending) (n k : ℕ) → t ≡ Fork l r q → n ≡ length (nodes l) + suc k
    → ahead d ys ≡ beyond d (take k (nodes q)) (drop k (nodes q)) ++ ahead d (pend_right d r l xs)
    → ahead d ys ≡ beyond d (take n (nodes t)) (drop n (nodes t)) ++ ahead d xs
path_right Ascending l r q t xs ys n k e is h = up_right l r q t xs ys n k e is h
path_right Descending l r q t xs ys n k e is h = down_right l r q t xs ys n k e is h

-- what the last node of a path is
pub record IsPopped (xs : List Pending) (new : List (Option Ref)) (r : Ref) : Type 0 where
  pub x : Pending
  pub ys : List Pending
  pub was : xs ≡ x ∷ ys
  pub node_is : x.node ≡ r
  pub now : new ≡ path_of ys

last_length : (items : List (Option Ref)) (x : Pending) (xs : List Pending) → items ≡ path_of (x ∷ xs) → length items - 1 ≡ length (path_of xs)
last_length items x xs e = let i = ap length e in let j = length-append (path_of xs) (Some x.node ∷ []) in omega arith

last_is : (items : List (Option Ref)) (x : Pending) (xs : List Pending) → items ≡ path_of (x ∷ xs) → slice_get items (length items - 1) ≡ Some (Some x.node)
last_is items x xs e =
    let n = last_length items x xs e in let ps = path_of xs in let j = length-append ps (Some x.node ∷ []) in
    (λ i. slice_get (e i) (n i)) ∙ slice_get-get_or (ps ++ Some x.node ∷ []) (length ps) (Some x.node) (omega arith)
    ∙ ap (λ k. Some k) (get_or-append_seam ps (Some x.node) [] (Some x.node))

popped : (items new : List (Option Ref)) (last : Option (Option Ref)) (xs : List Pending) (r : Ref)
    → items ≡ path_of xs → new ≡ take (length items - 1) items → last ≡ slice_get items (length items - 1)
    → option_flatten last ≡ Some r → IsPopped xs new r
popped items new last [] r e n l f =
    let i : last ≡ None = l ∙ (λ k. slice_get (e k) (length (e k) - 1)) in let j : None ≡ Some r = sym (ap option_flatten i) ∙ f in absurd cc
popped items new last (x ∷ xs) r e n l f = record {
  x = x;
  ys = xs;
  was = refl;
  node_is = some_two x.node r (sym (ap option_flatten (l ∙ last_is items x xs e)) ∙ f);
  now = n ∙ (λ i. take (last_length items x xs e i) (e i)) ∙ take-append_seam (path_of xs) (Some x.node ∷ []);
}

pub popped_none : {items new : List (Option Ref)} {last : Option (Option Ref)} {xs : List Pending}
    → items ≡ path_of xs → new ≡ take (length items - 1) items → last ≡ slice_get items (length items - 1)
    → option_flatten last ≡ None → (xs ≡ []) × (new ≡ [])
popped_none {xs = []} e n l f = (refl, n ∙ (λ k. take (length (e k) - 1) (e k)))
popped_none {items} {xs = x ∷ xs} e n l f = let j : Some x.node ≡ None = sym (ap option_flatten (l ∙ last_is items x xs e)) ∙ f in absurd cc

module _ {T : Type 0} where
  -- a walk that gives a node
  pub record Stepped (m : Pooled T) (s : ℕ) (d : Direction) (levels : ℕ) (new : List (Option Ref)) (r : Ref) (us : List Ref) : Type 0 where
    pub after : BinaryTree
    pub ys : List Pending
    pub held : IsHeld m r
    pub enters : Enters m s d levels new (far_of d (link_of m r.name s)) ys after
    pub was : us ≡ r ∷ (onward d (nodes after) ++ ahead d ys)

  pub stepped : {w : Walk} {m : Pooled T} {levels : ℕ} {us : List Ref} {new : List (Option Ref)} {last : Option (Option Ref)} {r : Ref} → IsWalk w m levels us
      → new ≡ take (length w.path.items - 1) w.path.items → last ≡ slice_get w.path.items (length w.path.items - 1)
      → option_flatten last ≡ Some r → Stepped m w.slot w.direction levels new r us
  stepped {w} {m} {levels} {us} {new} {last} {r} h n l f =
      let p = popped w.path.items new last h.xs r h.goes.path_is n l f in let d = w.direction in
      let pending = subst (ArePending m w.slot d levels) p.was h.goes.pending in let room = pending.2 in
      record {
        after = p.x.after;
        ys = p.ys;
        held = subst (IsHeld m) p.node_is pending.0;
        enters = record {
          goes = record { path_is = p.now; pending = pending.3 };
          rooted = subst (λ (q : Ref). IsRooted m w.slot (far_of d (link_of m q.name w.slot)) p.x.after) p.node_is pending.1;
          room = omega arith;
          low = h.low;
        };
        was = sym h.ahead_is ∙ ap (ahead d) p.was ∙ ap (λ (q : Ref). q ∷ (onward d (nodes p.x.after) ++ ahead d p.ys)) p.node_is;
      }

  pub walks : {w v : Walk} {m n : Pooled T} {levels : ℕ} {us : List Ref} {new : List (Option Ref)} {r : Ref} → IsWalk w m levels us
      → (o : Stepped m w.slot w.direction levels new r us) → n ≡ m → v.slot ≡ w.slot → v.direction ≡ w.direction
      → {zs : List Pending} → Goes m w.slot w.direction levels v.path.items zs
      → ahead w.direction zs ≡ onward w.direction (nodes o.after) ++ ahead w.direction o.ys → IsWalk v n levels (drop 1 us)
  walks {w} {v} {m} {n} {levels} {us} {new} {r} h o e s d {zs} goes is = record {
    xs = zs;
    goes = subst (λ (k : Pooled T × ℕ × Direction). Goes k.0 k.1 k.2 levels v.path.items zs) (λ i. (sym e i, sym s i, sym d i)) goes;
    ahead_is = ap (λ k. ahead k zs) d ∙ is ∙ ap (drop 1) (sym o.was);
    low = h.low;
    has_slot = subst (λ (k : Pooled T × ℕ). k.1 < k.0.slots) (λ i. (sym e i, sym s i)) h.has_slot;
  }

  -- a walk at its end
  pub walks_none : {w v : Walk} {m : Pooled T} {levels : ℕ} {us : List Ref} (h : IsWalk w m levels us)
      → h.xs ≡ [] → v.slot ≡ w.slot → v.path.items ≡ [] → IsWalk v m levels (drop 1 us)
  walks_none {w} {v} {m} h e s n = record {
    xs = [];
    goes = record { path_is = n; pending = tt };
    ahead_is = ap (λ k. drop 1 (ahead w.direction k)) (sym e) ∙ ap (drop 1) h.ahead_is;
    low = h.low;
    has_slot = subst (λ k. k < m.slots) (sym s) h.has_slot;
  }
