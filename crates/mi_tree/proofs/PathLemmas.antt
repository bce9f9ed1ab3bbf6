-- What a path says of the whole tree.
-- Cited by `change::put_in`, `path::+climb`, `path::+descend_first`, `path::+descend_insert`, `path::+descend_to` and 3 more.
use Rattle.std.proofs.Common.{◌≡◌, ◌==◌, ℕ, Bool, true, false, cond, not, ◌+◌, ◌-◌, ◌^◌, ◌<◌, ◌≤◌, max, List, [], ◌∷◌}
use Rattle.std.proofs.Common.{◌++◌, length, take, Option, Some, None, refl, sym, ap, ◌∙◌, subst, arith, length-append}
use Rattle.std.specs.List.{slice_get}
use Rattle.std.proofs.lemmas.Option.{slice_get-get_or}
use Rattle.std.proofs.Math.Seq.{take-append_seam, get_or-append_seam}
use Rattle.std.specs.declared.cmp.Ordering.{Ordering}
use Rattle.std.specs.declared.cmp.Ordering.TheVariants.{Less, Equal, Greater}
use Rattle.std.specs.Ordering.{is_lt}
use Rattle.std.specs.Cmp.{IsTotalOrder}
use Rattle.mi_node.specs.Pool.{Pooled, ref_of, link_of, with_link, IsHeld, IsHeldIf, Keeps}
use Rattle.mi_node.specs.declared.link.Link.{Link}
use Rattle.mi_node.specs.declared.link.Tag.{Tag}
use Rattle.mi_node.specs.Refs.{Ref, IsOut, IsApart, AreOut}
use Rattle.mi_node.proofs.EntryLemmas.{flip, link_here}
use Rattle.mi_node.proofs.KeepingLemmas.{keeps_none, keeps_then, keeps_more, held_kept}
use Rattle.mi_node.proofs.RefLemmas.{out_left, out_right, between, are_out_cons, are_out_none, are_out_flip}
use Rattle.mi_tree.specs.BinaryTree.{BinaryTree, Tip, Fork, nodes, top, forks, height, DifferByAtMost, IsEven, Stands, IsRooted, height_at}
use Rattle.mi_tree.specs.Joining.{AreSides, AreLinked, IsBalanced, IsFork, IsBalancedFork}
use Rattle.mi_tree.specs.Sorted.{NoneAre, Rising, AreTagged, SameTags, IsPutIn, CanPut, HasPut, CanTake, side}
use Rattle.mi_tree.specs.Paths.{Frame, path_of, forked, forked_size, forked_height, forked_link, with_child_replaced, plug}
use Rattle.mi_tree.specs.Paths.{risen, IsLevel, AreEven, IsRootOf, Above, Falls, HasFallen, Climbs, HasClimbed, AreRebalanced}
use Rattle.mi_tree.specs.declared.path_steps.PathStep.{PathStep}
use Rattle.mi_tree.specs.declared.walk.TheConstants.{MAX_LEVELS}
use Rattle.mi_tree.proofs.BinaryTreeLemmas.{moved, tip_is, size-nodes, height-root, held-root}
use Rattle.mi_tree.proofs.JoinLemmas.{link_kept, stands_kept, rooted_past, keeps_set, tags_set}
use Rattle.mi_tree.proofs.HeightLemmas.{low_enough}
use Rattle.mi_tree.proofs.RotationLemmas.{sides_low, plain_parts}
use Rattle.mi_tree.proofs.InsertLemmas.{put_apart, put_length, put_out}
use Rattle.mi_tree.proofs.RemoveLemmas.{TakeOpened, take_opened}
use Rattle.mi_tree.proofs.SortedLemmas.{IsOrder, side_order, side_kept, item_kept, put_left, put_right, tagged_left, tagged_right}
use Rattle.mi_tree.proofs.SortedLemmas.{none_left, none_right, rising_left, rising_right}
use Rattle.mi_tree.proofs.StandingLemmas.{tagged_kept}

-- the node at the end of a path
abbrev pub path_step_of : Frame → PathStep
path_step_of f = record { node = f.node; left = f.left }

pub path_length : (fs : List Frame) → length (path_of fs) ≡ length fs
path_length [] = refl
path_length (f ∷ fs) = let i = path_length fs in let j = length-append (path_of fs) (path_step_of f ∷ []) in omega arith

some_two : (a b : PathStep) → Some a ≡ Some b → a ≡ b
some_two a b e = cc

some_ref : (a b : Ref) → Some a ≡ Some b → a ≡ b
some_ref a b e = cc

abbrev pub frame : PathStep → BinaryTree → Frame
frame path_step q = record { node = path_step.node; left = path_step.left; other = q }

pub record IsTurned (fs : List Frame) (new : List PathStep) (path_step : PathStep) : Type 0 where
  pub other : BinaryTree
  pub rest : List Frame
  pub was : fs ≡ frame path_step other ∷ rest
  pub now : new ≡ path_of rest

last_length : (items : List PathStep) (f : Frame) (fs : List Frame) → items ≡ path_of (f ∷ fs) → length items - 1 ≡ length (path_of fs)
last_length items f fs e = let i = ap length e in let j = length-append (path_of fs) (path_step_of f ∷ []) in omega arith

last_is : (items : List PathStep) (f : Frame) (fs : List Frame) → items ≡ path_of (f ∷ fs) → slice_get items (length items - 1) ≡ Some (path_step_of f)
last_is items f fs e =
    let n = last_length items f fs e in let ps = path_of fs in let j = length-append ps (path_step_of f ∷ []) in
    (λ i. slice_get (e i) (n i)) ∙ slice_get-get_or (ps ++ path_step_of f ∷ []) (length ps) (path_step_of f) (omega arith)
    ∙ ap (λ k. Some k) (get_or-append_seam ps (path_step_of f) [] (path_step_of f))

pub turned_back : {items new : List PathStep} {last : Option PathStep} {fs : List Frame} {path_step : PathStep}
    → items ≡ path_of fs → new ≡ take (length items - 1) items → last ≡ slice_get items (length items - 1)
    → last ≡ Some path_step → IsTurned fs new path_step
turned_back {items} {new} {last} {fs = []} {path_step = r} e n l g =
    let i : last ≡ None = l ∙ (λ k. slice_get (e k) (length (e k) - 1)) in let j : None ≡ Some r = sym i ∙ g in absurd cc
turned_back {items} {new} {last} {fs = f ∷ fs} {path_step = r} e n l g =
    let same : r ≡ path_step_of f = some_two r (path_step_of f) (sym g ∙ l ∙ last_is items f fs e) in record {
      other = f.other;
      rest = fs;
      was = ap (λ (z : PathStep). frame z f.other ∷ fs) (sym same);
      now = n ∙ (λ i. take (last_length items f fs e i) (e i)) ∙ take-append_seam (path_of fs) (path_step_of f ∷ []);
    }

pub shorter_path : {items new : List PathStep} {fs : List Frame} {path_step : PathStep} → items ≡ path_of fs → IsTurned fs new path_step → length new < length items
shorter_path {items} {new} {fs} {path_step} e w =
    let a = ap length e in let b = path_length fs in let c = ap (λ (k : List Frame). length k) w.was in let d = ap length w.now in let f = path_length w.rest in
    omega arith

pub no_path_step : (items : List PathStep) (last : Option PathStep) (fs : List Frame)
    → items ≡ path_of fs → last ≡ slice_get items (length items - 1) → last ≡ None → fs ≡ []
no_path_step items last [] e l g = refl
no_path_step items last (f ∷ fs) e l g = let j : Some (path_step_of f) ≡ None = sym (l ∙ last_is items f fs e) ∙ g in absurd cc

-- the names of a node above a tree
forked_out : (b : Bool) (r : Ref) (q t : BinaryTree) (k : ℕ) → IsOut k (nodes (forked b t r q)) → IsOut k (nodes t) × ((k == r.name) ≡ false)
    × IsOut k (nodes q)
forked_out true r q t k o = let w = out_right k (nodes t) (r ∷ nodes q) o in (out_left k (nodes t) (r ∷ nodes q) o, w.0, w.1)
forked_out false r q t k o = let w = out_right k (nodes q) (r ∷ nodes t) o in (w.1, w.0, out_left k (nodes q) (r ∷ nodes t) o)

record Apart (r : Ref) (q t : BinaryTree) : Type 0 where
  pub tree : IsApart (nodes t)
  pub out_tree : IsOut r.name (nodes t)
  pub out_other : IsOut r.name (nodes q)
  pub across : AreOut (nodes q) (nodes t)

forked_apart : (b : Bool) (r : Ref) (q t : BinaryTree) → IsApart (nodes (forked b t r q)) → Apart r q t
forked_apart true r q t a =
    let w = between (nodes t) r (nodes q) a in
    record { tree = w.left; out_tree = w.out_left; out_other = w.out_right; across = are_out_flip (nodes t) (nodes q) w.across }
forked_apart false r q t a =
    let w = between (nodes q) r (nodes t) a in record { tree = w.right; out_tree = w.out_right; out_other = w.out_left; across = w.across }

pub plug_apart : (fs : List Frame) (t : BinaryTree) → IsApart (nodes (plug fs t)) → IsApart (nodes t)
plug_apart [] t a = a
plug_apart (f ∷ fs) t a = (forked_apart f.left f.node f.other t (plug_apart fs (forked f.left t f.node f.other) a)).tree

pub plug_out : (fs : List Frame) (t : BinaryTree) (k : ℕ) → IsOut k (nodes (plug fs t)) → IsOut k (nodes t)
plug_out [] t k o = o
plug_out (f ∷ fs) t k o = (forked_out f.left f.node f.other t k (plug_out fs (forked f.left t f.node f.other) k o)).0

-- nodes that rise, and tags
pub forked_rising : (R : Ref → Ref → Ordering) (b : Bool) (r : Ref) (q t : BinaryTree) → Rising R (nodes (forked b t r q)) → Rising R (nodes t)
forked_rising R true r q t h = rising_left R (nodes t) (r ∷ nodes q) h
forked_rising R false r q t h = (rising_right R (nodes q) (r ∷ nodes t) h).1

pub forked_tagged : {T : Type 0} (tag : T → ℕ) (m : Pooled T) (s : ℕ) (b : Bool) (r : Ref) (q t : BinaryTree)
    → AreTagged tag m s (nodes (forked b t r q)) → AreTagged tag m s (nodes t)
forked_tagged tag m s true r q t h = tagged_left tag m s (nodes t) (r ∷ nodes q) h
forked_tagged tag m s false r q t h = (tagged_right tag m s (nodes q) (r ∷ nodes t) h).1

forked_none : (f : Ref → Ordering) (o : Ordering) (b : Bool) (r : Ref) (q t : BinaryTree)
    → NoneAre f o (nodes (forked b t r q)) → (f r ≡ o → ⊥) × NoneAre f o (nodes t)
forked_none f o true r q t h = ((none_right f o (nodes t) (r ∷ nodes q) h).0, none_left f o (nodes t) (r ∷ nodes q) h)
forked_none f o false r q t h = none_right f o (nodes q) (r ∷ nodes t) h

-- what is put in on the side where it belongs is in its place
forked_put : (R : Ref → Ref → Ordering) → IsOrder R → (x : Ref) (b : Bool) (r : Ref) (q t u : BinaryTree) → Rising R (nodes (forked b t r q))
    → R x r ≡ cond b Less Greater → IsPutIn (R x) x (nodes t) (nodes u) → IsPutIn (R x) x (nodes (forked b t r q)) (nodes (forked b u r q))
forked_put R o x true r q t u h e p = put_left R o x (nodes t) r (nodes q) (nodes u) h e p
forked_put R o x false r q t u h e p = put_right R o x (nodes q) r (nodes t) (nodes u) h e p

-- sizes and heights
size_forked : (b : Bool) (r : Ref) (q t : BinaryTree) → forks (forked b t r q) ≡ forked_size b (forks t) (forks q)
size_forked true r q t = refl
size_forked false r q t = refl

size_part : (b : Bool) (r : Ref) (q t : BinaryTree) → forks t ≤ forks (forked b t r q)
size_part true r q t = omega arith
size_part false r q t = omega arith

height_part : (b : Bool) (r : Ref) (q t : BinaryTree) → height t + 1 ≤ height (forked b t r q)
height_part true r q t = omega arith
height_part false r q t = omega arith

-- one more and one less on the path
one_more : (b : Bool) (n k : ℕ) → forked_size b n k + 1 ≡ forked_size b (n + 1) k
one_more true n k = omega arith
one_more false n k = omega arith

pub one_less : (b : Bool) (n k : ℕ) → 1 ≤ n → forked_size b n k - 1 ≡ forked_size b (n - 1) k
one_less true n k h = omega arith
one_less false n k h = omega arith

height_forked : (b : Bool) (r : Ref) (q t : BinaryTree) → height (forked b t r q) ≡ forked_height b (height t) (height q)
height_forked true r q t = refl
height_forked false r q t = refl

top_forked : (b : Bool) (r : Ref) (q t : BinaryTree) → top (forked b t r q) ≡ Some r
top_forked true r q t = refl
top_forked false r q t = refl

size_less : (b : Bool) (r : Ref) (q t : BinaryTree) → forks t + forks q + 1 ≡ forks (forked b t r q)
size_less true r q t = refl
size_less false r q t = omega arith

pub plug_size : (fs : List Frame) (t : BinaryTree) → forks t ≤ forks (plug fs t)
plug_size [] t = omega arith
plug_size (f ∷ fs) t = let i = plug_size fs (forked f.left t f.node f.other) in let j = size_less f.left f.node f.other t in omega arith

-- trees of the same nodes in one place
forked_nodes : (b : Bool) (r : Ref) (q t u : BinaryTree) → nodes t ≡ nodes u → nodes (forked b t r q) ≡ nodes (forked b u r q)
forked_nodes true r q t u e = ap (λ k. k ++ r ∷ nodes q) e
forked_nodes false r q t u e = ap (λ k. nodes q ++ r ∷ k) e

plug_nodes : (fs : List Frame) (t u : BinaryTree) → nodes t ≡ nodes u → nodes (plug fs t) ≡ nodes (plug fs u)
plug_nodes [] t u e = e
plug_nodes (f ∷ fs) t u e = plug_nodes fs (forked f.left t f.node f.other) (forked f.left u f.node f.other) (forked_nodes f.left f.node f.other t u e)

same_size : (t u : BinaryTree) → nodes t ≡ nodes u → forks t ≡ forks u
same_size t u e = size-nodes t ∙ ap length e ∙ sym (size-nodes u)

-- the root is the same, whatever stands at the end of the path
top_plug : (f : Frame) (fs : List Frame) (t u : BinaryTree) → top (plug (f ∷ fs) t) ≡ top (plug (f ∷ fs) u)
top_plug f [] t u = top_forked f.left f.node f.other t ∙ sym (top_forked f.left f.node f.other u)
top_plug f (g ∷ gs) t u = top_plug g gs (forked f.left t f.node f.other) (forked f.left u f.node f.other)

root_next : (root : Option Ref) (f : Frame) (fs : List Frame) → IsRootOf root (f ∷ fs) → IsRootOf root fs
root_next root f [] e = tt
root_next root f (g ∷ gs) e = e ∙ top_plug g gs (forked f.left Tip f.node f.other) Tip

root_stays : (root : Option Ref) (f : Frame) (fs : List Frame) (z : BinaryTree) → IsRootOf root (f ∷ fs) → top z ≡ Some f.node → root ≡ top (plug fs z)
root_stays root f [] z e g = e ∙ top_forked f.left f.node f.other Tip ∙ sym g
root_stays root f (g ∷ gs) z e h = e ∙ top_plug g gs (forked f.left Tip f.node f.other) z

-- the root of the whole, if a node is above the end of the path
pub root_above : (root : Option Ref) (fs : List Frame) (t : BinaryTree) → root ≡ top (plug fs t) → IsRootOf root fs
root_above root [] t e = tt
root_above root (f ∷ fs) t e = e ∙ top_plug f fs t Tip

pub plug_height : (fs : List Frame) (t : BinaryTree) → height (plug fs t) ≡ risen fs (height t)
plug_height [] t = refl
plug_height (f ∷ fs) t = plug_height fs (forked f.left t f.node f.other) ∙ ap (risen fs) (height_forked f.left f.node f.other t)

pub level_same : (a h k z : ℕ) → k ≡ z → IsLevel a h k z
level_same a h k z e = ((omega arith, omega arith), λ f. omega arith)

not_lifted : (b : Bool) (h k u z : ℕ) → u ≤ h → z ≤ max u k + 1 → z ≤ forked_height b h k
not_lifted true h k u z a f = grind arith
not_lifted false h k u z a f = grind arith

-- heights after one side changed by at most one
lifted : (b : Bool) (h k u z : ℕ) → DifferByAtMost 1 u h → DifferByAtMost 1 h k → max u k ≤ z
    → z ≤ max u k + 1 → (DifferByAtMost 1 u k → z ≡ max u k + 1) → DifferByAtMost 1 z (forked_height b h k)
lifted true h k u z a b low high tight = (grind arith, grind arith)
lifted false h k u z a b low high tight = (grind arith, grind arith)

max_turned : (a b : ℕ) → max a b ≡ max b a
max_turned a b = omega arith

settled_heights : (h k u y : ℕ) → y ≡ max h k + 1 → u + 1 ≡ y → DifferByAtMost 1 h k → (y ≡ max u k + 1) × DifferByAtMost 1 u k
settled_heights h k u y e high near = let n = near.0 in let f = near.1 in (omega arith, (omega arith, omega arith))

are_out_less : (zs xs ys : List Ref) → ((k : ℕ) → IsOut k xs → IsOut k ys) → AreOut zs xs → AreOut zs ys
are_out_less [] xs ys among a = tt
are_out_less (z ∷ zs) xs ys among a = (among z.name a.0, are_out_less zs xs ys among a.1)

even_forked : (b : Bool) (r : Ref) (q t : BinaryTree) → DifferByAtMost 1 (height t) (height q) → IsEven t → IsEven q → IsEven (forked b t r q)
even_forked true r q t d e f = (d, e, f)
even_forked false r q t d e f = ((omega arith, omega arith), f, e)

pub even_moved : (fs : List Frame) (h k : ℕ) → h ≡ k → AreEven fs h → AreEven fs k
even_moved fs h k e a = subst (AreEven fs) e a

link_height : (b : Bool) (at : Option Ref) (n h : ℕ) (q : BinaryTree) (t : Tag) → (forked_link b at n h q t).height ≡ forked_height b h (height q)
link_height true at n h q t = refl
link_height false at n h q t = refl

-- the same link with another size
abbrev pub sized_link : ℕ → Link → Link
sized_link n y = record { back = y.back; forth = y.forth; size = n; height = y.height; tag = y.tag }

sized_is : (b : Bool) (y : Link) (at : Option Ref) (n k z h : ℕ) (q : BinaryTree) → y ≡ forked_link b at n h q y.tag → z ≡ forked_size b k (forks q)
    → sized_link z y ≡ forked_link b at k h q y.tag
sized_is true y at n k z h q e f = λ i. record { back = (e i).back; forth = (e i).forth; size = f i; height = (e i).height; tag = y.tag }
sized_is false y at n k z h q e f = λ i. record { back = (e i).back; forth = (e i).forth; size = f i; height = (e i).height; tag = y.tag }

with_child_replaced_is : (b : Bool) (y : Link) (at bt : Option Ref) (n h : ℕ) (q : BinaryTree) → y ≡ forked_link b at n h q y.tag
    → with_child_replaced b bt y ≡ forked_link b bt n h q y.tag
with_child_replaced_is true y at bt n h q e = λ i. record { back = bt; forth = (e i).forth; size = (e i).size; height = (e i).height; tag = y.tag }
with_child_replaced_is false y at bt n h q e = λ i. record { back = (e i).back; forth = bt; size = (e i).size; height = (e i).height; tag = y.tag }

-- the whole is balanced
plug_even : (fs : List Frame) (t : BinaryTree) → IsEven t → AreEven fs (height t) → IsEven (plug fs t)
plug_even [] t e a = e
plug_even (f ∷ fs) t e a = plug_even fs (forked f.left t f.node f.other) (even_forked f.left f.node f.other t a.0 e a.1)
    (even_moved fs _ _ (sym (height_forked f.left f.node f.other t)) a.2)

module _ {T : Type 0} where
  pub above_moved : (m : Pooled T) (s : ℕ) (fs : List Frame) (at bt : Option Ref) (n k h j : ℕ)
      → at ≡ bt → n ≡ k → h ≡ j → Above m s fs at n h → Above m s fs bt k j
  above_moved m s fs at bt n k h j e f g a = subst (λ (z : Option Ref × ℕ × ℕ). Above m s fs z.0 z.1 z.2) (λ i. (e i, f i, g i)) a

  -- a change below the path
  pub above_kept : (s : ℕ) (m n : Pooled T) (us : List Ref) (fs : List Frame) (t : BinaryTree) (at : Option Ref) (k h : ℕ)
      → Keeps m n s us → IsApart (nodes (plug fs t)) → ((i : ℕ) → IsOut i (nodes t) → IsOut i us)
      → Above m s fs at k h → Above n s fs at k h
  above_kept s m n us [] t at k h g a among w = tt
  above_kept s m n us (f ∷ fs) t at k h g a among w =
      let o = forked_apart f.left f.node f.other t (plug_apart fs (forked f.left t f.node f.other) a) in (
        held_kept s m n us f.node g w.0,
        link_kept m n s f.node (forked_link f.left at k h f.other) (g.other_nodes f.node.name s (among f.node.name o.out_tree)) w.1,
        stands_kept s m n us f.other g (are_out_less (nodes f.other) (nodes t) us among o.across) w.2,
        above_kept s m n us fs (forked f.left t f.node f.other) _ _ _ g a (λ i out. among i (forked_out f.left f.node f.other t i out).0) w.3,
      )

  stands_forked : (m : Pooled T) (s : ℕ) (b : Bool) (r : Ref) (q t : BinaryTree) → Stands m s t → IsHeld m r
      → link_of m r.name s ≡ forked_link b (top t) (forks t) (height t) q (link_of m r.name s).tag → Stands m s q → Stands m s (forked b t r q)
  stands_forked m s true r q t h held link other = (held, link, h, other)
  stands_forked m s false r q t h held link other = (held, link, other, h)

  -- the whole stands
  plug_stands : (m : Pooled T) (s : ℕ) (fs : List Frame) (t : BinaryTree) → Stands m s t → Above m s fs (top t) (forks t) (height t) → Stands m s (plug fs t)
  plug_stands m s [] t h a = h
  plug_stands m s (f ∷ fs) t h a = plug_stands m s fs (forked f.left t f.node f.other) (stands_forked m s f.left f.node f.other t h a.0 a.1 a.2)
      (above_moved m s fs _ _ _ _ _ _ (sym (top_forked f.left f.node f.other t))
      (sym (size_forked f.left f.node f.other t)) (sym (height_forked f.left f.node f.other t)) a.3)

  are_sides : {m : Pooled T} {s : ℕ} {a : Option Ref} {x : Ref} {b : Option Ref} {l q : BinaryTree} → IsRooted m s a l → IsHeld m x → IsRooted m s b q
      → IsApart (nodes l ++ x ∷ nodes q) → IsEven l → IsEven q → DifferByAtMost 2 (height l) (height q) → forks l + forks q + 1 < 2 ^ 32
      → AreSides m s a x b l q
  are_sides f h g apart left right near fits =
      record { left_is = f; held = h; right_is = g; apart = apart; left_even = left; right_even = right; near = near; fits = fits }

  -- the two sides of a node on the path, with another tree on the side of the path: the node's link counts the nodes of both, and is
  -- right for them where that tree is one level lower than the node
  pub record Sided (m : Pooled T) (s : ℕ) (below : Option Ref) (y : Link) (r : Ref) (b : Bool) (q u l z : BinaryTree) : Type 0 where
    pub sides : AreSides m s (cond b below y.back) r (cond b y.forth below) l z
    pub names : nodes l ++ r ∷ nodes z ≡ nodes (forked b u r q)
    pub heights : (max (height l) (height z) ≡ max (height u) (height q)) × (DifferByAtMost 1 (height u) (height q) → DifferByAtMost 1 (height l) (height z))
    pub size_is : y.size ≡ forks l + forks z + 1
    pub settled : y.tag ≡ (link_of m r.name s).tag → height u + 1 ≡ y.height → IsBalancedFork m s r (with_child_replaced b below y) l z

  sided : (m : Pooled T) (s : ℕ) (b : Bool) (r : Ref) (q u : BinaryTree) (below : Option Ref) (y : Link) (at : Option Ref) (h : ℕ) (t : Tag)
      → IsRooted m s below u → IsEven u → DifferByAtMost 1 (height u) h → DifferByAtMost 1 h (height q) → IsEven q → IsHeld m r
      → y ≡ forked_link b at (forks u) h q t → Stands m s q → IsApart (nodes (forked b u r q)) → forks (forked b u r q) < 2 ^ 32
      → (l : BinaryTree) × (z : BinaryTree) × Sided m s below y r b q u l z
  sided m s true r q u below y at h t rooted even near beside other held link stands apart fits =
      let right : IsRooted m s y.forth q = record { root = ap (λ (z : Link). z.forth) link; stands = stands } in
      let sides = are_sides rooted held right apart even other (omega arith, omega arith) fits in
      let size = ap (λ (z : Link). z.size) link in (
        u,
        q,
        record {
          sides = sides;
          names = refl;
          heights = (refl, λ d. d);
          size_is = size;
          settled = λ tag high. (
              let e = settled_heights h (height q) (height u) y.height (ap (λ (z : Link). z.height) link) high beside in
              (record { two = plain_parts sides; size_is = size; height_is = e.0; tag_is = tag }, e.1));
        },
      )
  sided m s false r q u below y at h t rooted even near beside other held link stands apart fits =
      let left : IsRooted m s y.back q = record { root = ap (λ (z : Link). z.back) link; stands = stands } in
      let sides = are_sides left held rooted apart other even (omega arith, omega arith) fits in
      let size = ap (λ (z : Link). z.size) link in let turned = max_turned (height q) in (
        q,
        u,
        record {
          sides = sides;
          names = refl;
          heights = (turned (height u), λ d. (d.1, d.0));
          size_is = size;
          settled = λ tag high. (
              let e = settled_heights h (height q) (height u) y.height (ap (λ (z : Link). z.height) link ∙ ap (λ j. j + 1) (turned h)) high beside in
              (record { two = plain_parts sides; size_is = size; height_is = e.0 ∙ ap (λ j. j + 1) (sym (turned (height u))); tag_is = tag }, (e.1.1, e.1.0)));
        },
      )

  -- what is known of the heights of two sides, of which one was read from below and one from the node's link
  pub record AreHigh (m : Pooled T) (s : ℕ) (other : Option Ref) (l q : BinaryTree) (k j : ℕ) : Type 0 where
    pub held : IsHeldIf m other
    pub top_is : max k j ≡ max (height l) (height q)
    pub near : DifferByAtMost 1 k j → DifferByAtMost 1 (height l) (height q)
    pub low : max k j ≤ MAX_LEVELS

  -- the two are the heights of both sides, whichever is whose
  are_high : {m : Pooled T} {s : ℕ} {left right other : Option Ref} {x : Ref} {l q : BinaryTree} {k j : ℕ} → AreSides m s left x right l q → IsHeldIf m other
      → max k j ≡ max (height l) (height q) → (DifferByAtMost 1 k j → DifferByAtMost 1 (height l) (height q)) → AreHigh m s other l q k j
  are_high h held top near = let low = sides_low h in record { held = held; top_is = top; near = near; low = omega arith }

  sides_high : {m : Pooled T} {s : ℕ} {x : Ref} {l q : BinaryTree} {k j : ℕ} (b : Bool) (below : Option Ref) (y : Link)
      → AreSides m s (cond b below y.back) x (cond b y.forth below) l q
      → k ≡ height_at m s below → j ≡ height_at m s (cond (not b) y.back y.forth) → AreHigh m s (cond (not b) y.back y.forth) l q k j
  sides_high {m} {s} {l = l} {q} true below y h f g =
      let a = f ∙ height-root m s below l h.left_is in let d = g ∙ height-root m s y.forth q h.right_is in
      are_high h (held-root m s y.forth q h.right_is) (omega arith) (λ n. (let n0 = n.0 in let n1 = n.1 in (omega arith, omega arith)))
  sides_high {m} {s} {l = l} {q} false below y h f g =
      let a = f ∙ height-root m s below q h.right_is in let d = g ∙ height-root m s y.back l h.left_is in
      are_high h (held-root m s y.back l h.left_is) (omega arith) (λ n. (let n0 = n.0 in let n1 = n.1 in (omega arith, omega arith)))

  pub rebalanced_high : {m : Pooled T} {s : ℕ} {path_step : PathStep} {below : Option Ref} {y : Link} {l q : BinaryTree} {k j : ℕ} → AreRebalanced m s path_step below y l q
      → k ≡ height_at m s below → j ≡ height_at m s (cond (not path_step.left) y.back y.forth) → AreHigh m s (cond (not path_step.left) y.back y.forth) l q k j
  rebalanced_high {path_step = path_step} {below = below} {y = y} r f g = sides_high path_step.left below y r.sides f g

  pub other_held : {m : Pooled T} {s : ℕ} {path_step : PathStep} {below : Option Ref} {y : Link} {l q : BinaryTree}
      → AreRebalanced m s path_step below y l q → IsHeldIf m (cond (not path_step.left) y.back y.forth)
  other_held {m} {s} {path_step} {below} {y} r = (rebalanced_high {k = height_at m s below} {j = height_at m s (cond (not path_step.left) y.back y.forth)} r refl refl).held

  -- of sides of nearly one height the node's link has to say the height alone
  pub rebalanced_fork : {m : Pooled T} {s : ℕ} {path_step : PathStep} {below : Option Ref} {y z : Link} {l q : BinaryTree} (n : ℕ)
      → AreRebalanced m s path_step below y l q → y ≡ link_of m path_step.node.name s → z ≡ with_child_replaced path_step.left below y → n ≡ max (height l) (height q) + 1
      → IsFork m s path_step.node (record { back = z.back; forth = z.forth; size = z.size; height = n; tag = z.tag }) l q
  rebalanced_fork {m} {s} {path_step} {below} {y} {z} {l} {q} n r i e f =
      subst (λ (w : Link). IsFork m s path_step.node (record { back = w.back; forth = w.forth; size = w.size; height = n; tag = w.tag }) l q) (sym e)
      (record { two = plain_parts r.sides; size_is = r.size_is; height_is = f; tag_is = ap (λ (w : Link). w.tag) i })

  -- the link with another child names and counts both sides
  pub rebalanced_linked : {m : Pooled T} {s : ℕ} {path_step : PathStep} {below : Option Ref} {y z : Link} {l q : BinaryTree}
      → AreRebalanced m s path_step below y l q → y ≡ link_of m path_step.node.name s → z ≡ with_child_replaced path_step.left below y → AreLinked m s path_step.node z l q
  rebalanced_linked {m} {s} {path_step} {l = l} {q} r i e = subst (λ (w : Link). AreLinked m s path_step.node w l q) (sym e)
      (record { sides = r.sides; size_is = r.size_is; tag_is = ap (λ (w : Link). w.tag) i })

  -- which side is how high
  high_left : {m : Pooled T} {s : ℕ} {x : Ref} {l q : BinaryTree} {k j : ℕ} (b : Bool) (below : Option Ref) (y : Link)
      → AreSides m s (cond b below y.back) x (cond b y.forth below) l q → b ≡ true
      → k ≡ height_at m s below → j ≡ height_at m s (cond (not b) y.back y.forth) → (k ≡ height l) × (j ≡ height q)
  high_left {m} {s} {l = l} {q} true below y h e f g = (f ∙ height-root m s below l h.left_is, g ∙ height-root m s y.forth q h.right_is)
  high_left false below y h e f g = absurd cc

  high_right : {m : Pooled T} {s : ℕ} {x : Ref} {l q : BinaryTree} {k j : ℕ} (b : Bool) (below : Option Ref) (y : Link)
      → AreSides m s (cond b below y.back) x (cond b y.forth below) l q → b ≡ false
      → k ≡ height_at m s below → j ≡ height_at m s (cond (not b) y.back y.forth) → (j ≡ height l) × (k ≡ height q)
  high_right true below y h e f g = absurd cc
  high_right {m} {s} {l = l} {q} false below y h e f g = (g ∙ height-root m s y.back l h.left_is, f ∙ height-root m s below q h.right_is)

  pub rebalanced_left : {m : Pooled T} {s : ℕ} {path_step : PathStep} {below : Option Ref} {y : Link} {l q : BinaryTree} {k j : ℕ} → AreRebalanced m s path_step below y l q
      → path_step.left ≡ true → k ≡ height_at m s below → j ≡ height_at m s (cond (not path_step.left) y.back y.forth) → (k ≡ height l) × (j ≡ height q)
  rebalanced_left {path_step = path_step} {below = below} {y = y} r e f g = high_left path_step.left below y r.sides e f g

  pub rebalanced_right : {m : Pooled T} {s : ℕ} {path_step : PathStep} {below : Option Ref} {y : Link} {l q : BinaryTree} {k j : ℕ} → AreRebalanced m s path_step below y l q
      → path_step.left ≡ false → k ≡ height_at m s below → j ≡ height_at m s (cond (not path_step.left) y.back y.forth) → (j ≡ height l) × (k ≡ height q)
  rebalanced_right {path_step = path_step} {below = below} {y = y} r e f g = high_right path_step.left below y r.sides e f g

  -- nothing is above
  pub climbed_none : {m : Pooled T} {s : ℕ} {root below : Option Ref} {items : List PathStep} {fs : List Frame} {at : Option Ref} {h : ℕ} {u : BinaryTree}
      → Climbs m s root below items fs at h u → fs ≡ [] → HasClimbed m m s (plug fs u) below u
  climbed_none {m} {s} {fs = fs} {u = u} c e = record {
    rooted = c.rooted;
    even = c.even;
    nodes_are = sym (ap (λ k. nodes (plug k u)) e);
    keeps = keeps_none s m (nodes (plug fs u));
    tags = λ k. refl;
  }

  -- what a step up gives: the tree that is to stand next, and what the rest of the path makes of it
  pub record NextClimb (m n : Pooled T) (s : ℕ) (root : Option Ref) (new : List PathStep) (fs : List Frame)
      (h : ℕ) (u : BinaryTree) (path_step : PathStep) (before : ℕ) (next : Ref) : Type 0 where
    pub rest : List Frame
    pub z : BinaryTree
    pub climbs : Climbs n s root (Some next) new rest (Some path_step.node) before z
    pub node_held : IsHeld n path_step.node
    pub root_is : top z ≡ Some path_step.node → root ≡ top (plug rest z)
    pub level : (j : ℕ) → IsLevel (height z) before j (risen rest before) → IsLevel (height u) h j (risen fs h)
    pub climbed : (v : Pooled T) (result : Option Ref) (t : BinaryTree) → HasClimbed n v s (plug rest z) result t → HasClimbed m v s (plug fs u) result t

  -- a tree as high as the one before
  module _ {m n : Pooled T} {s : ℕ} {root : Option Ref} {new : List PathStep} {fs : List Frame}
      {h : ℕ} {u : BinaryTree} {path_step : PathStep} {before : ℕ} {next : Ref} (o : NextClimb m n s root new fs h u path_step before next) where
    same_height : before ≡ height_at n s (Some next) → before ≡ height o.z
    same_height e = e ∙ height-root n s (Some next) o.z o.climbs.rooted

    pub same_climbs : before ≡ height_at n s (Some next) → Climbs n s root (Some next) new o.rest (Some path_step.node) (height o.z) o.z
    same_climbs e = subst (λ j. Climbs n s root (Some next) new o.rest (Some path_step.node) j o.z) (same_height e) o.climbs

    pub same_level : before ≡ height_at n s (Some next) → (j : ℕ) → j ≡ risen o.rest (height o.z) → IsLevel (height u) h j (risen fs h)
    same_level e j is = o.level j (level_same (height o.z) before j _ (is ∙ ap (risen o.rest) (sym (same_height e))))

    -- where its root is the node of the path too, all above is right
    standing : before ≡ height_at n s (Some next) → next.name ≡ path_step.node.name → HasClimbed n n s (plug o.rest o.z) root (plug o.rest o.z)
    standing e f =
        let c = same_climbs e in
        let one = some_ref next path_step.node (sym (held-root n s (Some next) o.z o.climbs.rooted) ∙ ap (ref_of n) f ∙ o.node_held) in
        let here : top o.z ≡ Some path_step.node = sym c.rooted.root ∙ ap (λ (r : Ref). Some r) one in record {
          rooted = record {
            root = o.root_is here;
            stands = plug_stands n s o.rest o.z c.rooted.stands (above_moved n s o.rest _ _ _ _ _ _ (sym here) refl refl c.above);
          };
          even = plug_even o.rest o.z c.even c.beside;
          nodes_are = refl;
          keeps = keeps_none s n (nodes (plug o.rest o.z));
          tags = λ k. refl;
        }

    pub climbed_here : before ≡ height_at n s (Some next) → next.name ≡ path_step.node.name → HasClimbed m n s (plug fs u) root (plug o.rest o.z)
    climbed_here e f = o.climbed n root (plug o.rest o.z) (standing e f)

    pub level_here : before ≡ height_at n s (Some next) → next.name ≡ path_step.node.name → IsLevel (height u) h (height_at n s root) (risen fs h)
    level_here e f =
        same_level e (height_at n s root) (height-root n s root (plug o.rest o.z) (standing e f).rooted ∙ plug_height o.rest o.z)

  module _ {m : Pooled T} {s : ℕ} {root below : Option Ref} {items new : List PathStep} {fs : List Frame} {at : Option Ref}
      {h : ℕ} {u : BinaryTree} (c : Climbs m s root below items fs at h u) {path_step : PathStep} (w : IsTurned fs new path_step)
      {y : Link} (i : y ≡ link_of m path_step.node.name s) where
    abbrev whole : BinaryTree
    whole = forked path_step.left u path_step.node w.other

    open_above : Above m s (frame path_step w.other ∷ w.rest) at (forks u) h
    open_above = subst (λ k. Above m s k at (forks u) h) w.was c.above

    open_beside : AreEven (frame path_step w.other ∷ w.rest) h
    open_beside = subst (λ k. AreEven k h) w.was c.beside

    plugged : plug fs u ≡ plug w.rest whole
    plugged = ap (λ k. plug k u) w.was

    open_apart : IsApart (nodes (plug w.rest whole))
    open_apart = subst (λ k. IsApart (nodes k)) plugged c.apart

    open_fits : forks (plug w.rest whole) < 2 ^ 32
    open_fits = subst (λ k. forks k < 2 ^ 32) plugged c.fits

    pub path_step_held : IsHeld m path_step.node
    path_step_held = open_above.0

    link_is : y ≡ forked_link path_step.left at (forks u) h w.other y.tag
    link_is = i ∙ open_above.1 ∙ ap (λ (z : Link). forked_link path_step.left at (forks u) h w.other z.tag) (sym i)

    before_is : y.height ≡ forked_height path_step.left h (height w.other)
    before_is = ap (λ (z : Link). z.height) link_is ∙ link_height path_step.left at (forks u) h w.other y.tag

    climb_sides : (l : BinaryTree) × (z : BinaryTree) × Sided m s below y path_step.node path_step.left w.other u l z
    climb_sides = let f = plug_size w.rest whole in let k = open_fits in
        sided m s path_step.left path_step.node w.other u below y at h y.tag c.rooted c.even c.near open_beside.0
        open_beside.1 open_above.0 link_is open_above.2 (plug_apart w.rest whole open_apart) (omega arith)

    climb_rebalanced : AreRebalanced m s path_step below y climb_sides.0 climb_sides.1
    climb_rebalanced = record {
      sides = climb_sides.2.sides;
      size_is = climb_sides.2.size_is;
      settled = λ e. climb_sides.2.settled (ap (λ (z : Link). z.tag) i) (ap (λ j. j + 1) (sym (height-root m s below u c.rooted)) ∙ e);
    }

    -- what the node of the path is put over again
    pub climb_given : (l : BinaryTree) × (q : BinaryTree) × AreRebalanced m s path_step below y l q
    climb_given = (climb_sides.0, climb_sides.1, climb_rebalanced)

    pub low_below : height_at m s below + 1 < 256
    low_below = let f = plug_size w.rest whole in let k = open_fits in let j = size_part path_step.left path_step.node w.other u in
        let fits : forks u < 2 ^ 32 = omega arith in let l = low_enough u c.even fits in
        let e = height-root m s below u c.rooted in omega arith

    -- the next node of the path
    module _ {n : Pooled T} {l q : BinaryTree} (o : Sided m s below y path_step.node path_step.left w.other u l q)
        {next : Ref} {z : BinaryTree} (k : IsBalanced m n s l path_step.node q next z) where
      names_are : nodes z ≡ nodes whole
      names_are = k.rebalanced.nodes_are ∙ o.names

      climbs_on : Climbs n s root (Some next) new w.rest (Some path_step.node) (forked_height path_step.left h (height w.other)) z
      climbs_on =
          let r = k.rebalanced in let hs = o.heights in let same = plug_nodes w.rest z whole names_are in record {
            path_is = w.now;
            above = above_moved n s w.rest _ _ _ _ _ _ refl (sym (same_size z whole names_are ∙ size_forked path_step.left path_step.node w.other u)) refl
                (above_kept s m n (nodes l ++ path_step.node ∷ nodes q) w.rest whole _ _ _ k.keeps
                open_apart (λ j out. subst (IsOut j) (sym o.names) out) open_above.3);
            beside = open_beside.2;
            rooted = k.rooted;
            even = r.even;
            near = lifted path_step.left h (height w.other) (height u) (height z) c.near open_beside.0 (subst (λ j. j ≤ height z) hs.0 r.not_lower)
                (subst (λ j. height z ≤ j + 1) hs.0 r.not_higher) (λ d. r.as_high (hs.1 d) ∙ ap (λ j. j + 1) hs.0);
            apart = subst IsApart (sym same) open_apart;
            fits = subst (λ j. j < 2 ^ 32) (sym (same_size (plug w.rest z) (plug w.rest whole) same)) open_fits;
            root_is = root_next root (frame path_step w.other) w.rest (subst (IsRootOf root) w.was c.root_is);
          }

      level_on : (j : ℕ) → IsLevel (height z) (forked_height path_step.left h (height w.other)) j (risen w.rest (forked_height path_step.left h (height w.other)))
          → IsLevel (height u) h j (risen fs h)
      level_on j d = let high = subst (λ i. height z ≤ i + 1) o.heights.0 k.rebalanced.not_higher in
          subst (λ (i : List Frame). IsLevel (height u) h j (risen i h)) (sym w.was)
          (d.0, λ f. d.1 (not_lifted path_step.left h (height w.other) (height u) (height z) f high))

      climbed_on : (v : Pooled T) (result : Option Ref) (t : BinaryTree) → HasClimbed n v s (plug w.rest z) result t → HasClimbed m v s (plug fs u) result t
      climbed_on v result t d =
          let same = plug_nodes w.rest z whole names_are in let all = same ∙ sym (ap nodes plugged) in record {
            rooted = d.rooted;
            even = d.even;
            nodes_are = d.nodes_are ∙ all;
            keeps = keeps_then s m n v (nodes l ++ path_step.node ∷ nodes q) (nodes (plug w.rest z)) (nodes (plug fs u)) k.keeps d.keeps
                (λ j out. (subst (IsOut j) (sym o.names) (plug_out w.rest whole j (subst (IsOut j) (ap nodes plugged) out)), subst (IsOut j) (sym all) out));
            tags = λ j. d.tags j ∙ k.tags j;
          }

    pub next_climb : {n : Pooled T} {before : ℕ} {next : Ref} → before ≡ y.height
        → ((l q : BinaryTree) → AreRebalanced m s path_step below y l q → (z : BinaryTree) × IsBalanced m n s l path_step.node q next z)
        → NextClimb m n s root new fs h u path_step before next
    next_climb {n} {before} {next} e f =
        let k = f climb_sides.0 climb_sides.1 climb_rebalanced in let is : forked_height path_step.left h (height w.other) ≡ before = sym (e ∙ before_is) in record {
          rest = w.rest;
          z = k.0;
          climbs = subst (λ j. Climbs n s root (Some next) new w.rest (Some path_step.node) j k.0) is (climbs_on climb_sides.2 k.1);
          node_held = held_kept s m n _ path_step.node k.1.keeps path_step_held;
          root_is = λ g. root_stays root (frame path_step w.other) w.rest k.0 (subst (IsRootOf root) w.was c.root_is) g;
          level = λ j d. level_on climb_sides.2 k.1 j (subst (λ b. IsLevel (height k.0) b j (risen w.rest b)) (sym is) d);
          climbed = climbed_on climb_sides.2 k.1;
        }

  -- the last change
  pub replaced : {m n : Pooled T} {s : ℕ} {root : Option Ref} {next : Ref} {items new : List PathStep} {fs : List Frame} {at : Option Ref} {u : BinaryTree}
      {path_step : PathStep} {y : Link} → Climbs m s root (Some next) items fs at (height u) u → IsTurned fs new path_step → y ≡ link_of m path_step.node.name s
      → n ≡ with_link m path_step.node.name s (with_child_replaced path_step.left (Some next) y)
      → HasClimbed m n s (plug fs u) root (plug fs u)
  replaced {m} {n} {s} {root} {next} {items} {new} {fs} {at} {u} {path_step} {y} c w i set =
      let r = path_step.node in let b = path_step.left in let q = w.other in let h = height u in let t = forked b u r q in
      let above : Above m s (frame path_step q ∷ w.rest) at (forks u) h = subst (λ k. Above m s k at (forks u) h) w.was c.above in
      let apart = subst (λ k. IsApart (nodes (plug k u))) w.was c.apart in
      let o = forked_apart b r q u (plug_apart w.rest t apart) in
      let keeps = keeps_set (with_child_replaced b (Some next) y) set in
      let here : link_of n r.name s ≡ with_child_replaced b (Some next) y = ap (λ k. link_of k r.name s) set ∙ link_here m r s (with_child_replaced b (Some next) y) above.0 in
      let is : y ≡ forked_link b at (forks u) h q y.tag = i ∙ above.1 ∙ ap (λ (z : Link). forked_link b at (forks u) h q z.tag) (sym i) in
      let link = here ∙ with_child_replaced_is b y at (Some next) (forks u) h q is ∙ ap (λ (z : Link). forked_link b (Some next) (forks u) h q z.tag) (sym here) in
      let tree = stands_kept s m n (r ∷ []) u keeps (are_out_cons (nodes u) r [] o.out_tree (are_out_none (nodes u))) c.rooted.stands in
      let now : Above n s (frame path_step q ∷ w.rest) (Some next) (forks u) h = (
        held_kept s m n (r ∷ []) r keeps above.0,
        link,
        stands_kept s m n (r ∷ []) q keeps (are_out_cons (nodes q) r [] o.out_other (are_out_none (nodes q))) above.2,
        above_kept s m n (r ∷ []) w.rest t _ _ _ keeps apart (λ k out. ((forked_out b r q u k out).1, tt)) above.3,
      ) in
      let all = plug_stands n s (frame path_step q ∷ w.rest) u tree (above_moved n s (frame path_step q ∷ w.rest) _ _ _ _ _ _ c.rooted.root refl refl now) in
      let root_is = subst (IsRootOf root) w.was c.root_is in record {
        rooted = record {
          root = root_is ∙ top_plug (frame path_step q) w.rest Tip u ∙ ap (λ k. top (plug k u)) (sym w.was);
          stands = subst (λ k. Stands n s (plug k u)) (sym w.was) all;
        };
        even = plug_even fs u c.even c.beside;
        nodes_are = refl;
        keeps = keeps_more s m n (r ∷ []) (nodes (plug fs u)) keeps
            (λ k out. ((forked_out b r q u k (plug_out w.rest t k (subst (λ j. IsOut k (nodes (plug j u))) w.was out))).1, tt));
        tags = tags_set s m n r (with_child_replaced b (Some next) y) set above.0 (ap (λ (z : Link). z.tag) i);
      }

module _ {T : Type 0} where
  pub falls_start : {m : Pooled T} {s : ℕ} {R : Ref → Ref → Ordering} {tag : T → ℕ} {at : Option Ref} {x : Ref} {t : BinaryTree}
      → CanPut m s R at x t → AreTagged tag m s (x ∷ nodes t) → Falls m s R tag [] at x [] t
  falls_start {t = t} c g = let f = c.fits in let low = low_enough t c.even (omega arith) in
      record { path_is = refl; can = c; tagged = g; above = tt; beside = tt; apart = c.apart; places = λ u p. p; room = omega arith }

  -- the end of the path down
  pub fallen_none : {m : Pooled T} {s : ℕ} {R : Ref → Ref → Ordering} {tag : T → ℕ}
      {items : List PathStep} {at : Option Ref} {x : Ref} {fs : List Frame} {t : BinaryTree}
      → Falls m s R tag items at x fs t → at ≡ None
      → HasFallen m m s R items x (plug fs t) fs
  fallen_none {m} {s} {R} {tag} {items} {at} {x} {fs} {t} h e =
      let tip = tip_is m s t (moved m m s at None t refl e h.can.rooted) in record {
        path_is = h.path_is;
        whole_is = ap (plug fs) (sym tip);
        alone = h.can.alone;
        above = above_moved m s fs _ _ _ _ _ _ e (ap (λ k. forks k + 1) tip) (ap height tip) h.above;
        beside = even_moved fs _ _ (ap height tip) h.beside;
        places = λ u p. h.places u (subst (λ k. IsPutIn (R x) x (nodes k) (nodes u)) (sym tip) p);
        keeps = keeps_none s m (nodes (plug fs t));
        tags = λ k. refl;
      }

  -- a step down: where the path goes on, and what its end says of the whole
  pub record NextFall (m n : Pooled T) (s : ℕ) (order : T → T → Ordering) (tag : T → ℕ) (new : List PathStep)
      (at next : Option Ref) (x : Ref) (fs : List Frame) (t : BinaryTree) : Type 0 where
    pub gs : List Frame
    pub sub : BinaryTree
    pub falls : Falls n s (side order n s) tag new next x gs sub
    pub lower : height_at n s next < height_at m s at
    pub fallen : (v : Pooled T) (last : List PathStep) (ks : List Frame)
        → HasFallen n v s (side order n s) last x (plug gs sub) ks → HasFallen m v s (side order m s) last x (plug fs t) ks

  -- a node on a path that goes on to one of its sides
  pub record OnSide (m : Pooled T) (s : ℕ) (b : Bool) (r : Ref) (y : Link) (t : BinaryTree) : Type 0 where
    pub sub : BinaryTree
    pub other : BinaryTree
    pub is : t ≡ forked b sub r other
    pub can : CanTake m s (cond b y.back y.forth) sub
    pub other_is : IsRooted m s (cond b y.forth y.back) other
    pub near : DifferByAtMost 1 (height sub) (height other)
    pub other_even : IsEven other
    pub size_is : y.size ≡ forked_size b (forks sub) (forks other)
    pub link_is : y ≡ forked_link b (cond b y.back y.forth) (forks sub) (height sub) other y.tag

  unfoldable pub on_side : (b : Bool) {m : Pooled T} {s : ℕ} {r : Ref} {y : Link} {t : BinaryTree} → TakeOpened m s r y t → OnSide m s b r y t
  on_side true {y = y} o = record {
    sub = o.A;
    other = o.B;
    is = o.is;
    can = o.left;
    other_is = o.right.rooted;
    near = o.even.0;
    other_even = o.even.2;
    size_is = ap (λ (z : Link). z.size) o.link_is;
    link_is = λ i. record { back = y.back; forth = (o.link_is i).forth; size = (o.link_is i).size; height = (o.link_is i).height; tag = y.tag };
  }
  on_side false {y = y} o = record {
    sub = o.B;
    other = o.A;
    is = o.is;
    can = o.right;
    other_is = o.left.rooted;
    near = (o.even.0.1, o.even.0.0);
    other_even = o.even.1;
    size_is = ap (λ (z : Link). z.size) o.link_is;
    link_is = λ i. record { back = (o.link_is i).back; forth = y.forth; size = (o.link_is i).size; height = (o.link_is i).height; tag = y.tag };
  }

  module _ {m : Pooled T} {s : ℕ} {b : Bool} {r : Ref} {y : Link} {t : BinaryTree} (k : OnSide m s b r y t) (fs : List Frame) where
    -- the path is balanced and short enough on that side too
    pub beside_on : AreEven fs (height t) → AreEven (frame (record { node = r; left = b }) k.other ∷ fs) (height k.sub)
    beside_on a = (k.near, k.other_even, even_moved fs _ _ (ap height k.is ∙ height_forked b r k.other k.sub) a)

    pub room_on : height t + length fs ≤ MAX_LEVELS → height k.sub + length (frame (record { node = r; left = b }) k.other ∷ fs) ≤ MAX_LEVELS
    room_on room = let part = height_part b r k.other k.sub in let tall = ap height k.is in omega arith

  -- the size of a node on a path down changes, and the path goes on to one of its sides
  module _ {m n : Pooled T} {s : ℕ} {here : Ref} {y : Link} {t : BinaryTree} (o : TakeOpened m s here y t)
      (i : y ≡ link_of m here.name s) (size_now : ℕ) (set : n ≡ with_link m here.name s (sized_link size_now y)) where
    -- no other link changes, and no tag
    pub sized_keeps : Keeps m n s (here ∷ [])
    sized_keeps = keeps_set (sized_link size_now y) set

    pub sized_tags : SameTags m n s
    sized_tags = tags_set s m n here (sized_link size_now y) set o.held_root (ap (λ (z : Link). z.tag) i)

    sized_here : link_of n here.name s ≡ sized_link size_now y
    sized_here = ap (λ k. link_of k here.name s) set ∙ link_here m here s (sized_link size_now y) o.held_root

    module _ {b : Bool} (k : OnSide m s b here y t) where
      sized_apart : Apart here k.other k.sub
      sized_apart = forked_apart b here k.other k.sub (subst (λ z. IsApart (nodes z)) (sym o.is ∙ k.is) o.apart)

      -- that side is balanced still, and lower than the whole, and the links above it are right for it
      pub sized_can : CanTake n s (cond b y.back y.forth) k.sub
      sized_can = record {
        rooted = rooted_past s m n here _ k.sub sized_keeps sized_apart.out_tree k.can.rooted;
        even = k.can.even;
        apart = k.can.apart;
        fits = k.can.fits;
      }

      pub sized_lower : {at : Option Ref} → IsRooted m s at t → height_at n s (cond b y.back y.forth) < height_at m s at
      sized_lower {at} h =
          let below = height-root n s _ k.sub sized_can.rooted in let above = height-root m s at t h in
          let part = height_part b here k.other k.sub in let tall = ap height k.is in
          omega arith

      pub sized_above : (fs : List Frame) {at : Option Ref} {p : ℕ} (j : ℕ) → at ≡ Some here → IsApart (nodes (plug fs t)) → p ≡ size_now
          → size_now ≡ forked_size b j (forks k.other) → Above m s fs at p (height t)
          → Above n s (frame (record { node = here; left = b }) k.other ∷ fs) (cond b y.back y.forth) j (height k.sub)
      sized_above fs {at} {p} j e apart f g a = (
        held_kept s m n (here ∷ []) here sized_keeps o.held_root,
        sized_here ∙ sized_is b y _ _ j size_now _ k.other k.link_is g
            ∙ ap (λ (z : Link). forked_link b (cond b y.back y.forth) j (height k.sub) k.other z.tag) (sym sized_here),
        (rooted_past s m n here _ k.other sized_keeps sized_apart.out_other k.other_is).stands,
        above_moved n s fs _ _ _ _ _ _ e (f ∙ g) (ap height k.is ∙ height_forked b here k.other k.sub)
            (above_kept s m n (here ∷ []) fs t _ _ _ sized_keeps apart
            (λ w out. ((forked_out b here k.other k.sub w (subst (λ z. IsOut w (nodes z)) k.is out)).1, tt)) a),
      )

  module _ {order : T → T → Ordering} (total : IsTotalOrder order) {tag : T → ℕ} {m n : Pooled T} {s : ℕ}
      {items : List PathStep} {at : Option Ref} {here x : Ref} {y : Link} {fs : List Frame} {t : BinaryTree}
      (h : Falls m s (side order m s) tag items at x fs t) (e : at ≡ Some here)
      (i : y ≡ link_of m here.name s) (set : n ≡ with_link m here.name s (sized_link (y.size + 1) y)) where
    abbrev R : Ref → Ref → Ordering
    R = side order m s

    o : TakeOpened m s here y t
    o = let f = h.can.fits in
        take_opened m s at here y t (record { rooted = h.can.rooted; even = h.can.even; apart = h.can.apart; fits = omega arith }) e i

    pub keeps_here : Keeps m n s (here ∷ [])
    keeps_here = sized_keeps o i _ set

    tags_here : SameTags m n s
    tags_here = sized_tags o i _ set

    same : side order n s ≡ R
    same = λ j a b. side_kept order m n s a b (item_kept m n s a.name (keeps_here.values a.name) (tags_here a.name))
        (item_kept m n s b.name (keeps_here.values b.name) (tags_here b.name)) j

    not_here : (here.name == x.name) ≡ false
    not_here = flip here.name x.name ∙ (forked_out true here o.B o.A x.name (subst (λ z. IsOut x.name (nodes z)) o.is h.can.out)).1

    abbrev path_step : Bool → PathStep
    path_step b = record { node = here; left = b }

    -- the path goes on to the side where the node belongs
    stepped : (b : Bool) → R x here ≡ cond b Less Greater
        → Falls n s R tag (items ++ path_step b ∷ []) (cond b y.back y.forth) x (frame (path_step b) (on_side b o).other ∷ fs) (on_side b o).sub
    stepped b on_b =
        let k = on_side b o in let w = subst (Falls m s R tag items at x fs) k.is h in let can = sized_can o i _ set k in
        let part = size_part b here k.other k.sub in let fits = w.can.fits in record {
          path_is = ap (λ z. z ++ path_step b ∷ []) h.path_is;
          can = record {
            rooted = can.rooted;
            even = can.even;
            apart = can.apart;
            rising = forked_rising R b here k.other k.sub w.can.rising;
            alone = rooted_past s m n here (Some x) (Fork Tip x Tip) keeps_here (not_here, tt) h.can.alone;
            out = (forked_out b here k.other k.sub x.name w.can.out).0;
            differs = (forked_none (R x) Equal b here k.other k.sub w.can.differs).1;
            fits = omega arith;
          };
          tagged = tagged_kept order tag m n s keeps_here.values tags_here (x ∷ nodes k.sub)
              (h.tagged.0, forked_tagged tag m s b here k.other k.sub w.tagged.1);
          above = sized_above o i _ set k fs (forks k.sub + 1) e h.apart (ap (λ z. z + 1) o.size_is)
              (ap (λ z. z + 1) k.size_is ∙ one_more b (forks k.sub) (forks k.other)) h.above;
          beside = beside_on k fs h.beside;
          apart = w.apart;
          places = λ u p. w.places (forked b u here k.other)
              (forked_put R (side_order order m s total) x b here k.other k.sub u w.can.rising on_b p);
          room = room_on k fs h.room;
        }

    on_by : (k : Ordering) (b : Bool) → R x here ≡ k → b ≡ is_lt k → R x here ≡ cond b Less Greater
    on_by Less b f g = f ∙ ap (λ z. cond z Less Greater) (sym g)
    on_by Equal b f g = absurd ((forked_none (R x) Equal true here o.B o.A (subst (λ z. NoneAre (R x) Equal (nodes z)) o.is h.can.differs)).0 f)
    on_by Greater b f g = f ∙ ap (λ z. cond z Less Greater) (sym g)

    pub same_tag : (link_of n x.name s).tag ≡ (link_of m x.name s).tag
    same_tag = tags_here x.name

    pub here_tagged : IsHeld m here × AreTagged tag m s (here ∷ [])
    here_tagged =
        (o.held_root, ((tagged_right tag m s (nodes o.A) (here ∷ nodes o.B) (subst (AreTagged tag m s) (ap nodes o.is) h.tagged.1)).0, tt))

    pub room_here : length items < MAX_LEVELS
    room_here = let a = h.room in let b = ap length h.path_is in let c = path_length fs in let d = ap height o.is in omega arith

    fallen_on : (b : Bool) (v : Pooled T) (last : List PathStep) (gs : List Frame)
        → HasFallen n v s (side order n s) last x (plug fs (forked b (on_side b o).sub here (on_side b o).other)) gs → HasFallen m v s R last x (plug fs t) gs
    fallen_on b v last gs f =
        let k = on_side b o in let whole : plug fs t ≡ plug fs (forked b k.sub here k.other) = ap (plug fs) k.is in record {
          path_is = f.path_is;
          whole_is = f.whole_is ∙ sym whole;
          alone = f.alone;
          above = f.above;
          beside = f.beside;
          places = λ u p. subst (λ (z : BinaryTree × (Ref → Ref → Ordering)). IsPutIn (z.1 x) x (nodes z.0) (nodes (plug gs u)))
              (λ j. (sym whole j, same j)) (f.places u (subst (λ (Q : Ref → Ref → Ordering). IsPutIn (Q x) x [] (nodes u)) (sym same) p));
          keeps = keeps_then s m n v (here ∷ []) (nodes (plug fs (forked b k.sub here k.other))) (nodes (plug fs t)) keeps_here f.keeps
              (λ j out. (
                ((out_right j (nodes o.A) (here ∷ nodes o.B) (subst (λ z. IsOut j (nodes z)) o.is (plug_out fs t j out))).0, tt),
                subst (λ z. IsOut j (nodes z)) whole out,
              ));
          tags = λ j. f.tags j ∙ tags_here j;
        }

    pub next_fall : {new : List PathStep} {next : Option Ref} {k : Ordering} {b : Bool} → side order m s x here ≡ k → b ≡ is_lt k
        → new ≡ items ++ record { node = here; left = b } ∷ [] → next ≡ cond b y.back y.forth → NextFall m n s order tag new at next x fs t
    next_fall {new} {next} {k} {b} f g p q = let on = on_side b o in record {
      gs = frame (path_step b) on.other ∷ fs;
      sub = on.sub;
      falls = subst (λ (z : (Ref → Ref → Ordering) × List PathStep × Option Ref). Falls n s z.0 tag z.1 z.2 x (frame (path_step b) on.other ∷ fs) on.sub)
          (λ j. (sym same j, sym p j, sym q j)) (stepped b (on_by k b f g));
      lower = subst (λ z. height_at n s z < height_at m s at) (sym q) (sized_lower o i _ set on h.can.rooted);
      fallen = fallen_on b;
    }

  -- from the path down to the path up, and the whole
  module _ {m n : Pooled T} {s : ℕ} {R : Ref → Ref → Ordering} {items : List PathStep} {at : Option Ref}
      {x : Ref} {t : BinaryTree} (c : CanPut m s R at x t) {gs : List Frame} (f : HasFallen m n s R items x t gs) where
    placed : IsPutIn (R x) x (nodes t) (nodes (plug gs (Fork Tip x Tip)))
    placed = f.places (Fork Tip x Tip) (record { xs = []; ys = []; was = refl; now = refl; below = tt; above = tt })

    pub climbs_start : Climbs n s at (Some x) items gs None 0 (Fork Tip x Tip)
    climbs_start =
        let fits = c.fits in let a = size-nodes (plug gs (Fork Tip x Tip)) in
        let b = put_length R x (nodes t) (nodes (plug gs (Fork Tip x Tip))) placed in
        let d = size-nodes t in
        record {
          path_is = f.path_is;
          above = f.above;
          beside = f.beside;
          rooted = f.alone;
          even = ((omega arith, omega arith), tt, tt);
          near = (omega arith, omega arith);
          apart = put_apart R x (nodes t) (nodes (plug gs (Fork Tip x Tip))) placed c.apart c.out;
          fits = omega arith;
          root_is = root_above at gs Tip (c.rooted.root ∙ ap top (sym f.whole_is));
        }

    pub has_put : {v : Pooled T} {root : Option Ref} {u : BinaryTree} → HasClimbed n v s (plug gs (Fork Tip x Tip)) root u → HasPut m v s R x t root u
    has_put {v} {u = u} d = record {
      rooted = d.rooted;
      even = d.even;
      placed = subst (IsPutIn (R x) x (nodes t)) (sym d.nodes_are) placed;
      keeps = keeps_then s m n v (nodes t) (nodes (plug gs (Fork Tip x Tip))) (x ∷ nodes t) f.keeps d.keeps
          (λ k out. (out.1, put_out k R x (nodes t) (nodes (plug gs (Fork Tip x Tip))) placed out));
      tags = λ k. d.tags k ∙ f.tags k;
    }
