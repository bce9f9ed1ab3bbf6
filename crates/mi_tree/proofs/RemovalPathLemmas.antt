-- What a path down to a node that leaves says of the whole tree.
-- Cited by `Tree::keeps_place`, `change::take_first`, `change::take_out`, `keeping::passes_none_above`, `path::+descend_first` and 1 more.
use Rattle.std.proofs.Common.{◌≡◌, ℕ, Bool, true, false, cond, ◌+◌, ◌-◌, ◌<◌, ◌≤◌, List, [], ◌∷◌, ◌++◌, length}
use Rattle.std.proofs.Common.{Option, Some, None, refl, sym, ap, ◌∙◌, subst, arith, append_assoc, length-append}
use Rattle.std.specs.declared.cmp.Ordering.{Ordering}
use Rattle.std.specs.declared.cmp.Ordering.TheVariants.{Less, Equal, Greater}
use Rattle.std.specs.Ordering.{is_lt, is_eq}
use Rattle.std.specs.Cmp.{IsTotalOrder}
use Rattle.mi_node.specs.Pool.{Pooled, link_of, with_link, IsHeld, Keeps}
use Rattle.mi_node.specs.declared.link.Link.{Link}
use Rattle.mi_node.specs.Refs.{Ref, IsOut, IsApart}
use Rattle.mi_node.proofs.KeepingLemmas.{keeps_none, keeps_then}
use Rattle.mi_node.proofs.RefLemmas.{out_left, out_right, out_both}
use Rattle.mi_tree.specs.BinaryTree.{BinaryTree, Tip, Fork, nodes, top, forks, height, IsEven, fork_link, IsRooted, height_at}
use Rattle.mi_tree.specs.Sorted.{Rising, AreTagged, SameTags, CanTake, HasTaken, AreEnds, AreAppended, side}
use Rattle.mi_tree.specs.Paths.{Frame, forked, plug, risen, IsLevel, Sinks, HasSunk, Climbs, HasClimbed}
use Rattle.mi_tree.specs.declared.path_steps.PathStep.{PathStep}
use Rattle.mi_tree.specs.declared.walk.TheConstants.{MAX_LEVELS}
use Rattle.mi_tree.proofs.BinaryTreeLemmas.{moved, opened, tip_is, size-nodes, height-root}
use Rattle.mi_tree.proofs.HeightLemmas.{low_enough}
use Rattle.mi_tree.proofs.RemoveLemmas.{TakeOpened, take_opened, out_less, apart_less}
use Rattle.mi_tree.proofs.SortedLemmas.{side_order, where_is, go_left, go_here, go_right, tagged_right}
use Rattle.mi_tree.proofs.StandingLemmas.{rising_kept, tagged_kept}
use Rattle.mi_tree.proofs.PathLemmas.{frame, path_length, above_moved, above_kept, even_moved, plug_apart, plug_out, plug_size, plug_height, root_above}
use Rattle.mi_tree.proofs.PathLemmas.{sized_link, one_less, forked_rising, forked_tagged, OnSide, on_side, beside_on, room_on}
use Rattle.mi_tree.proofs.PathLemmas.{sized_keeps, sized_tags, sized_can, sized_lower, sized_above}

has_one : (t : BinaryTree) (xs : List Ref) (x : Ref) (ys : List Ref) → nodes t ≡ xs ++ x ∷ ys → 1 ≤ forks t
has_one t xs x ys e = let a = size-nodes t in let b = ap length e in let c = length-append xs (x ∷ ys) in omega arith

head_is : (r : Ref) (rs : List Ref) (x : Ref) (ys : List Ref) → r ∷ rs ≡ x ∷ ys → r ≡ x
head_is r rs x ys e = cc

tail_is : (r : Ref) (rs : List Ref) (x : Ref) (ys : List Ref) → r ∷ rs ≡ x ∷ ys → rs ≡ ys
tail_is r rs x ys e = cc

one_of : (A : BinaryTree) (r : Ref) → top A ≡ Some r → 1 ≤ forks A
one_of Tip r e = let f : None ≡ Some r = e in absurd cc
one_of (Fork l x q) r e = omega arith

-- the first node is in the left side, if there is one
first_left : (A : BinaryTree) (r : Ref) (C : List Ref) (x : Ref) (ys : List Ref) → 1 ≤ forks A
    → nodes A ++ r ∷ C ≡ x ∷ ys → (zs : List Ref) × (nodes A ≡ x ∷ zs) × (ys ≡ zs ++ r ∷ C)
first_left A r C x ys h e =
    let n = size-nodes A in (elim (nodes A) as (λ k. length k ≡ forks A → k ++ r ∷ C ≡ x ∷ ys → (zs : List Ref) × (k ≡ x ∷ zs) × (ys ≡ zs ++ r ∷ C)) [
      | [] ↦ λ f g. absurd (omega arith)
      | a ∷ bs ↦ λ f g. (bs, ap (λ z. z ∷ bs) (head_is a (bs ++ r ∷ C) x ys g), sym (tail_is a (bs ++ r ∷ C) x ys g))
    ]) (sym n) e

pub equal_is : (k : Ordering) → is_eq k ≡ true → k ≡ Equal
equal_is Less f = absurd cc
equal_is Equal f = refl
equal_is Greater f = absurd cc

first_of : (xs : List Ref) (r : Ref) (ys : List Ref) → (x : Ref) × (zs : List Ref) × (xs ++ r ∷ ys ≡ x ∷ zs)
first_of [] r ys = (r, ys, refl)
first_of (x ∷ xs) r ys = (x, xs ++ r ∷ ys, refl)

module _ {T : Type 0} where
  pub some_first : (m : Pooled T) (s : ℕ) (r : Ref) (t : BinaryTree) → CanTake m s (Some r) t → (x : Ref) × (ys : List Ref) × (nodes t ≡ x ∷ ys)
  some_first m s r t c = let o = opened m s r t c.rooted in let f = first_of (nodes o.left) r (nodes o.right) in (f.0, f.1, ap nodes o.is ∙ f.2)

  pub sinks_start : {m : Pooled T} {s : ℕ} {at : Option Ref} {t : BinaryTree} {xs : List Ref} {x : Ref} {ys : List Ref}
      → CanTake m s at t → nodes t ≡ xs ++ x ∷ ys → Sinks m s [] at [] t xs x ys xs ys
  sinks_start {t = t} c e =
      let low = low_enough t c.even c.fits in
      record { path_is = refl; can = c; has = e; above = tt; beside = tt; apart = c.apart; places = λ u p. p; room = omega arith }

  -- the node is there
  sunk_here : (m : Pooled T) (s : ℕ) (items : List PathStep) (at : Option Ref)
      (fs : List Frame) (t : BinaryTree) (xs : List Ref) (x : Ref) (ys vs ws : List Ref)
      → Sinks m s items at fs t xs x ys vs ws → at ≡ Some x
      → (A B : BinaryTree) → t ≡ Fork A x B → nodes A ≡ xs → nodes B ≡ ys → HasSunk m m s items xs x ys vs ws (plug fs t) fs A B
  sunk_here m s items at fs t xs x ys vs ws h e A B is f g = let sizes = ap forks is in record {
    path_is = h.path_is;
    whole_is = ap (plug fs) (sym is);
    rooted = subst (IsRooted m s (Some x)) is (moved m m s at (Some x) t refl e h.can.rooted);
    even = subst IsEven is h.can.even;
    above = above_moved m s fs _ _ _ _ _ _ e (omega arith) (ap height is) h.above;
    beside = even_moved fs _ _ (ap height is) h.beside;
    places = λ u p. h.places u (p ∙ (λ i. f i ++ g i));
    keeps = keeps_none s m (xs ++ ys);
    tags = λ k. refl;
  }

  -- a step down: where the path goes on, and what its end says of the whole
  pub record NextSink (m n : Pooled T) (s : ℕ) (new : List PathStep) (at next : Option Ref)
      (fs : List Frame) (t : BinaryTree) (xs : List Ref) (x : Ref) (ys vs ws us : List Ref) : Type 0 where
    pub gs : List Frame
    pub sub : BinaryTree
    pub zs : List Ref
    pub sinks : Sinks n s new next gs sub us x zs vs ws
    pub lower : height_at n s next < height_at m s at
    pub sunk : (v : Pooled T) (last : List PathStep) (ks : List Frame) (A B : BinaryTree)
        → HasSunk n v s last us x zs vs ws (plug gs sub) ks A B → HasSunk m v s last xs x ys vs ws (plug fs t) ks A B

  module _ {m n : Pooled T} {s : ℕ} {items : List PathStep} {at : Option Ref} {here : Ref}
      {y : Link} {fs : List Frame} {t : BinaryTree} {xs : List Ref} {x : Ref} {ys vs ws : List Ref}
      (h : Sinks m s items at fs t xs x ys vs ws) (e : at ≡ Some here) (i : y ≡ link_of m here.name s)
      (set : n ≡ with_link m here.name s (sized_link (y.size - 1) y)) where
    open_here : TakeOpened m s here y t
    open_here = take_opened m s at here y t h.can e i

    pub keeps_here : Keeps m n s (here ∷ [])
    keeps_here = sized_keeps open_here i _ set

    pub tags_here : SameTags m n s
    tags_here = sized_tags open_here i _ set

    abbrev at_side : (b : Bool) → OnSide m s b here y t
    at_side b = on_side b open_here

    abbrev path_step : Bool → PathStep
    path_step b = record { node = here; left = b }

    -- the path goes on to a side where the node stands between us and zs
    record Lowered (b : Bool) (us zs : List Ref) : Type 0 where
      pub sinks : Sinks n s (items ++ path_step b ∷ []) (cond b y.back y.forth) (frame (path_step b) (at_side b).other ∷ fs) (at_side b).sub us x zs vs ws
      pub among : (j : ℕ) → IsOut j (xs ++ ys) → IsOut j (here ∷ []) × IsOut j (us ++ zs)

    lowered_on : (b : Bool) (us zs : List Ref) → nodes (at_side b).sub ≡ us ++ x ∷ zs
        → ((u : BinaryTree) → nodes u ≡ us ++ zs → nodes (forked b u here (at_side b).other) ≡ xs ++ ys)
        → ((j : ℕ) → IsOut j (xs ++ ys) → IsOut j (here ∷ []) × IsOut j (us ++ zs)) → Lowered b us zs
    lowered_on b us zs has places among = let k = on_side b open_here in record {
      sinks = record {
        path_is = ap (λ z. z ++ path_step b ∷ []) h.path_is;
        can = sized_can open_here i _ set k;
        has = has;
        above = sized_above open_here i _ set k fs (forks k.sub - 1) e h.apart (ap (λ z. z - 1) open_here.size_is)
            (ap (λ z. z - 1) k.size_is ∙ one_less b (forks k.sub) (forks k.other) (has_one k.sub us x zs has)) h.above;
        beside = beside_on k fs h.beside;
        apart = subst (λ z. IsApart (nodes (plug fs z))) k.is h.apart;
        places = λ u p. h.places (forked b u here k.other) (places u p);
        room = room_on k fs h.room;
      };
      among = among;
    }

    lowered_left : (zs : List Ref) → nodes open_here.A ≡ xs ++ x ∷ zs → ys ≡ zs ++ here ∷ nodes open_here.B → Lowered true xs zs
    unfolding on_side
    lowered_left zs f g = let B = nodes open_here.B in
        lowered_on true xs zs f (λ u p. ap (λ k. k ++ here ∷ B) p ∙ append_assoc xs zs (here ∷ B) ∙ ap (λ k. xs ++ k) (sym g))
        (λ j out. (let right = subst (IsOut j) g (out_right j xs ys out) in
        (((out_right j zs (here ∷ B) right).0, tt), out_both j xs zs (out_left j xs ys out) (out_left j zs (here ∷ B) right))))

    lowered_right : (us : List Ref) → xs ≡ nodes open_here.A ++ here ∷ us → nodes open_here.B ≡ us ++ x ∷ ys → Lowered false us ys
    unfolding on_side
    lowered_right us f g = let A = nodes open_here.A in
        lowered_on false us ys g (λ u p. ap (λ k. A ++ here ∷ k) p ∙ sym (append_assoc A (here ∷ us) ys) ∙ ap (λ k. k ++ ys) (sym f))
        (λ j out. (let left = out_right j A (here ∷ us) (subst (IsOut j) f (out_left j xs ys out)) in
        ((left.0, tt), out_both j us ys left.1 (out_right j xs ys out))))

    -- on to the first node
    lowered_first : (left : Ref) → y.back ≡ Some left → xs ≡ [] → (zs : List Ref) × Lowered true xs zs
    lowered_first left f none =
        let o = open_here in
        let first = first_left o.A here (nodes o.B) x ys (one_of o.A left (sym o.left.rooted.root ∙ f))
        (sym (ap nodes o.is) ∙ h.has ∙ ap (λ k. k ++ x ∷ ys) none) in
        (first.0, lowered_left first.0 (first.1 ∙ ap (λ k. k ++ x ∷ first.0) (sym none)) first.2)

    pub room_here : length items < MAX_LEVELS
    room_here = let a = h.room in let b = ap length h.path_is in let c = path_length fs in let d = ap height open_here.is in omega arith

    sunk_on : (b : Bool) (us zs : List Ref) (k : Lowered b us zs) (v : Pooled T) (last : List PathStep) (gs : List Frame) (A B : BinaryTree)
        → HasSunk n v s last us x zs vs ws (plug fs (forked b (at_side b).sub here (at_side b).other)) gs A B
        → HasSunk m v s last xs x ys vs ws (plug fs t) gs A B
    sunk_on b us zs k v last gs A B f = record {
      path_is = f.path_is;
      whole_is = f.whole_is ∙ sym (ap (plug fs) (at_side b).is);
      rooted = f.rooted;
      even = f.even;
      above = f.above;
      beside = f.beside;
      places = f.places;
      keeps = keeps_then s m n v (here ∷ []) (us ++ zs) (xs ++ ys) keeps_here f.keeps k.among;
      tags = λ j. f.tags j ∙ tags_here j;
    }

    abbrev next_of : {new : List PathStep} {next : Option Ref} (b : Bool) (us zs : List Ref) (k : Lowered b us zs)
        → new ≡ items ++ path_step b ∷ [] → next ≡ cond b y.back y.forth → NextSink m n s new at next fs t xs x ys vs ws us
    next_of {new} {next} b us zs k p q = record {
      gs = frame (path_step b) (at_side b).other ∷ fs;
      sub = (at_side b).sub;
      zs = zs;
      sinks = subst (λ (z : List PathStep × Option Ref). Sinks n s z.0 z.1 (frame (path_step b) (at_side b).other ∷ fs) (at_side b).sub us x zs vs ws)
          (λ j. (sym p j, sym q j)) k.sinks;
      lower = subst (λ z. height_at n s z < height_at m s at) (sym q) (sized_lower open_here i _ set (at_side b) h.can.rooted);
      sunk = sunk_on b us zs k;
    }

    pub next_first : {new : List PathStep} {left : Ref} → y.back ≡ Some left → xs ≡ [] → new ≡ items ++ record { node = here; left = true } ∷ []
        → NextSink m n s new at (Some left) fs t xs x ys vs ws xs
    next_first {new} {left} f none p = let st = lowered_first left f none in next_of true xs st.0 st.1 p (sym f)

    -- on by the order
    module _ {order : T → T → Ordering} (total : IsTotalOrder order) (tag : T → ℕ) where
      lowered : (k : Ordering) (b : Bool) → side order m s x here ≡ k → is_eq k ≡ false
          → b ≡ is_lt k → Rising (side order m s) (nodes t) → (us : List Ref) × (zs : List Ref) × Lowered b us zs
      lowered Less b f g l r =
          let o = open_here in
          let on = go_left (side order m s) (side_order order m s total) (nodes o.A) here (nodes o.B) xs x ys
          (subst (Rising (side order m s)) (ap nodes o.is) r) f (where_is (nodes o.A) here (nodes o.B) xs x ys (sym (ap nodes o.is) ∙ h.has)) in
          subst (λ z. (us : List Ref) × (zs : List Ref) × Lowered z us zs) (sym l) (xs, on.0, lowered_left on.0 on.1 on.2)
      lowered Equal b f g l r = absurd cc
      lowered Greater b f g l r =
          let o = open_here in
          let on = go_right (side order m s) (side_order order m s total) (nodes o.A) here (nodes o.B) xs x ys
          (subst (Rising (side order m s)) (ap nodes o.is) r) f (where_is (nodes o.A) here (nodes o.B) xs x ys (sym (ap nodes o.is) ∙ h.has)) in
          subst (λ z. (us : List Ref) × (zs : List Ref) × Lowered z us zs) (sym l) (on.0, ys, lowered_right on.0 on.1 on.2)

      rising_sub : (b : Bool) → Rising (side order m s) (nodes t) → Rising (side order n s) (nodes (at_side b).sub)
      rising_sub b r = let k = on_side b open_here in rising_kept order tag m n s keeps_here.values tags_here (nodes k.sub)
          (forked_rising (side order m s) b here k.other k.sub (subst (λ z. Rising (side order m s) (nodes z)) k.is r))

      tagged_sub : (b : Bool) → AreTagged tag m s (nodes t) → AreTagged tag n s (nodes (at_side b).sub)
      tagged_sub b r = let k = on_side b open_here in tagged_kept order tag m n s keeps_here.values tags_here (nodes k.sub)
          (forked_tagged tag m s b here k.other k.sub (subst (λ z. AreTagged tag m s (nodes z)) k.is r))

      pub next_sink : {new : List PathStep} {next : Option Ref} {k : Ordering} {b : Bool} → side order m s x here ≡ k → is_eq k ≡ false → b ≡ is_lt k
          → new ≡ items ++ record { node = here; left = b } ∷ [] → next ≡ cond b y.back y.forth → Rising (side order m s) (nodes t)
          → (us : List Ref) × (o : NextSink m n s new at next fs t xs x ys vs ws us)
          × Rising (side order n s) (nodes o.sub) × (AreTagged tag m s (nodes t) → AreTagged tag n s (nodes o.sub))
      next_sink {new} {next} {k} {b} f g l p q r =
          let st = lowered k b f g l r in
          (st.0, next_of b st.0 st.1 st.2 p q, rising_sub b r, tagged_sub b)

  -- what the comparison needs of the node here
  pub tagged_here : (tag : T → ℕ) {m : Pooled T} {s : ℕ} {at : Option Ref} {here : Ref} {y : Link} {t : BinaryTree} → CanTake m s at t
      → at ≡ Some here → y ≡ link_of m here.name s → AreTagged tag m s (nodes t) → IsHeld m here × AreTagged tag m s (here ∷ [])
  tagged_here tag {m} {s} {at} {here} {y} {t} c e i g =
      let o = take_opened m s at here y t c e i in
      (o.held_root, ((tagged_right tag m s (nodes o.A) (here ∷ nodes o.B) (subst (AreTagged tag m s) (ap nodes o.is) g)).0, tt))

  -- the node is here
  pub sunk_equal : {order : T → T → Ordering} {m : Pooled T} {s : ℕ} {items : List PathStep} {at : Option Ref} {fs : List Frame} {t : BinaryTree}
      {xs : List Ref} {x : Ref} {ys vs ws : List Ref} {here : Ref} → IsTotalOrder order → Sinks m s items at fs t xs x ys vs ws
      → Rising (side order m s) (nodes t) → at ≡ Some here → side order m s x here ≡ Equal
      → (A : BinaryTree) × (B : BinaryTree) × HasSunk m m s items xs x ys vs ws (plug fs t) fs A B
  sunk_equal {order} {m} {s} {items} {at} {fs} {t} {xs} {x} {ys} {vs} {ws} {here} total h r e f =
      let o = take_opened m s at here _ t h.can e refl in
      let on = go_here (side order m s) (side_order order m s total) (nodes o.A) here (nodes o.B) xs x ys
      (subst (Rising (side order m s)) (ap nodes o.is) r) f (where_is (nodes o.A) here (nodes o.B) xs x ys (sym (ap nodes o.is) ∙ h.has)) in
      (o.A, o.B, sunk_here m s items at fs t xs x ys vs ws h (e ∙ ap (λ z. Some z) on.1) o.A o.B (o.is ∙ ap (λ z. Fork o.A z o.B) on.1) on.0 on.2)

  -- the first node is here
  pub sunk_first : (m : Pooled T) (s : ℕ) (items : List PathStep) (at : Ref) (fs : List Frame) (t : BinaryTree) (x : Ref) (ys vs ws : List Ref)
      → Sinks m s items (Some at) fs t [] x ys vs ws → (y : Link) → y ≡ link_of m at.name s → y.back ≡ None
      → (at ≡ x) × (gs : List Frame) × (B : BinaryTree) × HasSunk m m s items [] x ys vs ws (plug fs t) gs Tip B
  sunk_first m s items at fs t x ys vs ws h y i none =
      let o = take_opened m s (Some at) at y t h.can refl i in let tip = tip_is m s o.A (moved m m s y.back None o.A refl none o.left.rooted) in
      let whole = o.is ∙ ap (λ z. Fork z at o.B) tip in
      let both : at ∷ nodes o.B ≡ x ∷ ys = sym (ap nodes whole) ∙ h.has in
      let same = head_is at (nodes o.B) x ys both in (
        same,
        fs,
        o.B,
        sunk_here m s items (Some at) fs t [] x ys vs ws h (ap (λ z. Some z) same) Tip o.B
            (whole ∙ ap (λ z. Fork Tip z o.B) same) refl (tail_is at (nodes o.B) x ys both),
      )

  -- x is at the end of the path, and goes
  module _ {m n : Pooled T} {s : ℕ} {items : List PathStep} {root : Option Ref} {t : BinaryTree} {xs : List Ref} {x : Ref} {ys : List Ref}
      {gs : List Frame} {A B : BinaryTree} (c : CanTake m s root t) (has : nodes t ≡ xs ++ x ∷ ys)
      (f : HasSunk m n s items xs x ys xs ys t gs A B) {y : Link} (i : y ≡ link_of n x.name s) where
    link_is : y ≡ fork_link A B (link_of n x.name s).tag
    link_is = i ∙ f.rooted.stands.1

    pub held_here : IsHeld n x
    held_here = f.rooted.stands.0

    pub height_here : y.height ≡ height (Fork A x B)
    height_here = ap (λ (z : Link). z.height) link_is

    whole_apart : IsApart (nodes (plug gs (Fork A x B)))
    whole_apart = subst (λ z. IsApart (nodes z)) (sym f.whole_is) c.apart

    apart_here : IsApart (nodes A ++ x ∷ nodes B)
    apart_here = plug_apart gs (Fork A x B) whole_apart

    pub ends_here : AreEnds n s y.back y.forth A B
    ends_here = let a = plug_size gs (Fork A x B) in let b = ap forks f.whole_is in let d = c.fits in record {
      left_is = record { root = ap (λ (z : Link). z.back) link_is; stands = f.rooted.stands.2 };
      right_is = record { root = ap (λ (z : Link). z.forth) link_is; stands = f.rooted.stands.3 };
      left_even = f.even.1;
      right_even = f.even.2;
      apart = apart_less (nodes A) x (nodes B) apart_here;
      near = f.even.0;
      fits = omega arith;
    }

    module _ {v : Pooled T} {below : Option Ref} {u : BinaryTree} (a : AreAppended n v s A B below u) where
      without : nodes (plug gs u) ≡ xs ++ ys
      without = f.places u a.nodes_are

      sizes_are : forks A + forks B ≡ forks u
      sizes_are =
          let p = size-nodes A in let q = size-nodes B in let r = size-nodes u in let k = ap length a.nodes_are in let d = length-append (nodes A) (nodes B) in
          omega arith

      pub climbs_away : {j : ℕ} → j ≡ height (Fork A x B) → Climbs v s root below items gs (Some x) j u
      climbs_away e = let lo = a.not_lower in let hi = a.not_higher in record {
        path_is = f.path_is;
        above = above_moved v s gs _ _ _ _ _ _ refl sizes_are (sym e)
            (above_kept s n v (nodes A ++ nodes B) gs (Fork A x B) _ _ _ a.keeps whole_apart (λ k out. out_less k (nodes A) x (nodes B) out) f.above);
        beside = even_moved gs _ _ (sym e) f.beside;
        rooted = a.rooted;
        even = a.even;
        near = (omega arith, grind arith);
        apart = subst IsApart (sym without) (apart_less xs x ys (subst IsApart has c.apart));
        fits =
            let p = size-nodes (plug gs u) in let q = ap length without in let r = size-nodes t in
            let k = ap length has in let d = length-append xs ys in let w = length-append xs (x ∷ ys) in let z = c.fits in
            omega arith;
        root_is = root_above root gs (Fork A x B) (c.rooted.root ∙ ap top (sym f.whole_is));
      }

      pub has_left : {j : ℕ} {w : Pooled T} {result : Option Ref} {z : BinaryTree} → j ≡ height (Fork A x B) → HasClimbed v w s (plug gs u) result z
          → IsLevel (height u) j (height_at w s result) (risen gs j) → HasTaken m w s t (xs ++ ys) result z
      has_left {j} {w} {result} {z} e d l =
          let at = height-root w s result z d.rooted in
          let all = ap height (sym f.whole_is) ∙ plug_height gs (Fork A x B) ∙ ap (risen gs) (sym e) in
          let hi = a.not_higher in let not_higher = l.1 (omega arith) in let near = l.0 in
          record {
            rooted = d.rooted;
            even = d.even;
            nodes_are = d.nodes_are ∙ without;
            not_higher = omega arith;
            not_lower = omega arith;
            keeps = keeps_then s m n w (xs ++ ys) (xs ++ ys) (xs ++ ys) f.keeps
                (keeps_then s n v w (nodes A ++ nodes B) (nodes (plug gs u)) (xs ++ ys) a.keeps d.keeps
                (λ k out. let all = subst (IsOut k) (sym without) out in (subst (IsOut k) a.nodes_are (plug_out gs u k all), all)))
                (λ k out. (out, out));
            tags = λ k. d.tags k ∙ a.tags k ∙ f.tags k;
          }

    -- nothing is to its left
    pub alone_right : A ≡ Tip → AreAppended n n s A B y.forth B
    alone_right e = let low = ap height e in record {
      rooted = ends_here.right_is;
      even = f.even.2;
      nodes_are = sym (ap (λ z. nodes z ++ nodes B) e);
      not_lower = (omega arith, omega arith);
      not_higher = omega arith;
      keeps = keeps_none s n (nodes A ++ nodes B);
      tags = λ k. refl;
    }
