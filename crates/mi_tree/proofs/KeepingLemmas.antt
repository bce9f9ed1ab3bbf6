-- A node that gets another value and another stamp, and the nodes that it passes as it moves to these.
--     pass_step, pass_lost      past one node on a path down that seeks the nearest, or not
--     Nearing      a path down in a subtree, as far as it has come
--     Above      the path down to the node, as far as it has come
--     own_sides      the two sides of a node of the tree, in the list
-- Cited by `Tree::keeps_place`, `keeping::passes_none` and `keeping::passes_none_above`.
use Rattle.std.proofs.Common.{◌≡◌, ℕ, ◌+◌, ◌*◌, ◌<◌, ◌≤◌, Bool, true, false, cond, not, List, [], ◌∷◌, ◌++◌, append_assoc}
use Rattle.std.proofs.Common.{Option, Some, None, is_some, refl, sym, ap, ◌∙◌, subst, arith}
use Rattle.std.proofs.lemmas.List.{append-nil}
use Rattle.std.specs.declared.cmp.Ordering.{Ordering}
use Rattle.std.specs.declared.cmp.Ordering.TheVariants.{Less, Equal, Greater}
use Rattle.std.specs.Ordering.{ordering_reverse, is_eq, is_gt}
use Rattle.std.specs.Cmp.{IsTotalOrder}
use Rattle.mi_node.specs.Pool.{Pooled, value_of, link_of, IsHeld}
use Rattle.mi_node.specs.declared.link.Link.{Link}
use Rattle.mi_node.specs.Refs.{Ref}
use Rattle.mi_node.proofs.EntryLemmas.{held_has}
use Rattle.mi_tree.specs.BinaryTree.{BinaryTree, Tip, Fork, nodes, height, Stands, IsRooted, height_at}
use Rattle.mi_tree.specs.Keeping.{facing, is_facing, ahead, side_of_item, KeepsPlace}
use Rattle.mi_tree.specs.Sorted.{AllAre, Rising, HasTag, AreTagged, by_stamp, compared, stamped, item_of, side}
use Rattle.mi_tree.proofs.BinaryTreeLemmas.{moved, opened, tip_is, same_tree, Sides, sides, height-root}
use Rattle.mi_tree.proofs.RemoveLemmas.{held_in}
use Rattle.mi_tree.proofs.SortedLemmas.{compared_antisymm, compared_trans, by_stamp_total, side_order, are_left, are_right, are_both, left_below}
use Rattle.mi_tree.proofs.SortedLemmas.{rising_left, rising_right, tagged_left, tagged_right, Where, InLeft, Here, InRight, where_is, go_left, go_here, go_right, none_here}

pub facing_is : (rises : Bool) (o : Ordering) → is_facing rises o ≡ true → o ≡ facing rises
facing_is true Less e = refl
facing_is true Equal e = absurd cc
facing_is true Greater e = absurd cc
facing_is false Less e = absurd cc
facing_is false Equal e = absurd cc
facing_is false Greater e = refl

pub is_facing_of : (rises : Bool) (o : Ordering) → o ≡ facing rises → is_facing rises o ≡ true
is_facing_of true o e = ap (is_facing true) e
is_facing_of false o e = ap (is_facing false) e

pub not_true : {b : Bool} → b ≡ true → b ≡ false → ⊥
not_true e f = cc

pub path_step_is : (rises : Bool) (o : Ordering) → rises ≡ is_gt o → is_eq o ≡ false → o ≡ facing (not rises)
path_step_is rises Less e f = ap (λ b. facing (not b)) (sym e)
path_step_is rises Equal e f = absurd (not_true refl f)
path_step_is rises Greater e f = ap (λ b. facing (not b)) (sym e)

pub some_of : (o : Option Ref) → is_some o ≡ true → (c : Ref) × (o ≡ Some c)
some_of None e = absurd cc
some_of (Some c) e = (c, refl)

equal_never : (rises : Bool) → Equal ≡ facing rises → ⊥
equal_never true e = cc
equal_never false e = cc

module _ {T : Type 0} (order : T → T → Ordering) (m : Pooled T) (s : ℕ) (v : T) (stamp : ℕ) where
  -- one side of a node
  pub record OneSide (tag : T → ℕ) (b : Bool) (r : Ref) (y : Link) (u : BinaryTree) (A B : List Ref) : Type 0 where
    pub z : BinaryTree
    pub is : nodes z ≡ ahead b A B
    pub rooted : IsRooted m s (cond b y.forth y.back) z
    pub rising : Rising (side order m s) (nodes z)
    pub tagged : AreTagged tag m s (nodes z)
    pub lower : height z + 1 ≤ height u

  -- a path down in a subtree, along the side that is nearest
  pub record Nearing (tag : T → ℕ) (rises : Bool) (root at : Option Ref) (step0 step : ℕ) : Type 0 where
    pub t : BinaryTree
    pub u : BinaryTree
    pub root_is : IsRooted m s root t
    pub rooted : IsRooted m s at u
    pub rising : Rising (side order m s) (nodes u)
    pub tagged : AreTagged tag m s (nodes u)
    pub back : AllAre (side_of_item order m s v stamp) (facing rises) (nodes u) → AllAre (side_of_item order m s v stamp) (facing rises) (nodes t)
    pub forth : AllAre (side_of_item order m s v stamp) (facing rises) (nodes t) → AllAre (side_of_item order m s v stamp) (facing rises) (nodes u)
    pub steps : step + height u ≤ step0 + height t

  -- where the node stands in a part of the list, and whether it passes any there
  pub record IsPart (rises : Bool) (node : Ref) (us xs ys : List Ref) : Type 0 where
    pub vs : List Ref
    pub ws : List Ref
    pub is : us ≡ vs ++ node ∷ ws
    pub back : AllAre (side_of_item order m s v stamp) (facing rises) (ahead rises vs ws) → AllAre (side_of_item order m s v stamp) (facing rises) (ahead rises xs ys)
    pub forth : AllAre (side_of_item order m s v stamp) (facing rises) (ahead rises xs ys) → AllAre (side_of_item order m s v stamp) (facing rises) (ahead rises vs ws)

  pub record Above (tag : T → ℕ) (rises : Bool) (node : Ref) (root at : Option Ref) (step0 step : ℕ) : Type 0 where
    pub t : BinaryTree
    pub u : BinaryTree
    pub root_is : IsRooted m s root t
    pub rooted : IsRooted m s at u
    pub rising : Rising (side order m s) (nodes u)
    pub tagged : AreTagged tag m s (nodes u)
    pub held : IsHeld m node
    pub has_tag : HasTag tag m s node
    pub some : (xs : List Ref) × (ys : List Ref) × (nodes t ≡ xs ++ node ∷ ys)
    pub part : (xs ys : List Ref) → nodes t ≡ xs ++ node ∷ ys → IsPart rises node (nodes u) xs ys
    pub steps : step + 2 * height u ≤ step0 + 2 * height t

  -- the sides of a node of the tree, and what is beyond them
  pub record OwnSides (x : Ref) (xs ys : List Ref) (t : BinaryTree) : Type 0 where
    pub A : BinaryTree
    pub B : BinaryTree
    pub us : List Ref
    pub ws : List Ref
    pub left : IsRooted m s (link_of m x.name s).back A
    pub right : IsRooted m s (link_of m x.name s).forth B
    pub before : xs ≡ us ++ nodes A
    pub after : ys ≡ nodes B ++ ws
    pub low : (height A ≤ height t) × (height B ≤ height t)

module _ {T : Type 0} (order : T → T → Ordering) (total : IsTotalOrder order) (m : Pooled T) (s : ℕ) (v : T) (stamp : ℕ) where
  abbrev R : Ref → Ref → Ordering
  R = side order m s

  abbrev F : Ref → Ordering
  F = side_of_item order m s v stamp

  whole : IsTotalOrder (by_stamp order)
  whole = by_stamp_total order total

  turn_less : {X : Type 0} (by : X → X → Ordering) → IsTotalOrder by → (a b : Option X) → compared by a b ≡ Less → compared by b a ≡ Greater
  turn_less by o a b e = compared_antisymm by o b a ∙ ap ordering_reverse e

  turn_greater : {X : Type 0} (by : X → X → Ordering) → IsTotalOrder by → (a b : Option X) → compared by a b ≡ Greater → compared by b a ≡ Less
  turn_greater by o a b e = compared_antisymm by o b a ∙ ap ordering_reverse e

  -- before a node, and so before all that are behind it
  pub item_up : (r q : Ref) → F r ≡ Less → R r q ≡ Less → F q ≡ Less
  unfolding side
  item_up r q e f = compared_trans (by_stamp order) whole (Some (v, stamp)) (item_of m s r.name) (item_of m s q.name) e f

  pub item_down : (r q : Ref) → F r ≡ Greater → R r q ≡ Greater → F q ≡ Greater
  unfolding side
  item_down r q e f =
      let a : Option (T × ℕ) = Some (v, stamp) in let b = item_of m s r.name in let c = item_of m s q.name in
      turn_less (by_stamp order) whole c a
      (compared_trans (by_stamp order) whole c b a (turn_greater (by_stamp order) whole b c f) (turn_greater (by_stamp order) whole a b e))

  -- the side that a comparison found
  pub item_read : (r : Ref) {y : Link} {o : Ordering} → y ≡ link_of m r.name s
      → o ≡ compared (by_stamp order) (Some (v, stamp)) (stamped (value_of m r.name) y.tag.stamp) → F r ≡ o
  unfolding item_of
  item_read r e is = sym (is ∙ ap (λ (z : Link). compared (by_stamp order) (Some (v, stamp)) (stamped (value_of m r.name) z.tag.stamp)) e)

  all_up : (r : Ref) (qs : List Ref) → F r ≡ Less → AllAre (R r) Less qs → AllAre F Less qs
  all_up r [] e h = tt
  all_up r (q ∷ qs) e h = (item_up r q e h.0, all_up r qs e h.1)

  all_down : (r : Ref) (qs : List Ref) → F r ≡ Greater → AllAre (R r) Greater qs → AllAre F Greater qs
  all_down r [] e h = tt
  all_down r (q ∷ qs) e h = (item_down r q e h.0, all_down r qs e h.1)

  -- where the node's own key and stamp are the item's
  same_item : (r q : Ref) → IsHeld m r → F r ≡ Equal → F q ≡ R r q
  unfolding side item_of
  same_item r q held e = same_at (value_of m r.name) (held_has m r held).0 (held_has m r held).1 (item_of m s q.name) e
    where
      same_at : (o : Option T) (w : T) → o ≡ Some w → (b : Option (T × ℕ)) → compared (by_stamp order) (Some (v, stamp)) (stamped o (link_of m r.name s).tag.stamp) ≡ Equal
          → compared (by_stamp order) (Some (v, stamp)) b ≡ compared (by_stamp order) (stamped o (link_of m r.name s).tag.stamp) b
      same_at o w is None f = sym (ap (λ z. compared (by_stamp order) (stamped z (link_of m r.name s).tag.stamp) None) is)
      same_at o w is (Some b) f =
          whole.congr (v, stamp) (w, (link_of m r.name s).tag.stamp) b (sym (ap (λ z. compared (by_stamp order) (Some (v, stamp)) (stamped z (link_of m r.name s).tag.stamp)) is) ∙ f)
          ∙ sym (ap (λ z. compared (by_stamp order) (stamped z (link_of m r.name s).tag.stamp) (Some b)) is)

  same_all : (r : Ref) (o : Ordering) (qs : List Ref) → IsHeld m r → F r ≡ Equal → AllAre (R r) o qs → AllAre F o qs
  same_all r o [] held e h = tt
  same_all r o (q ∷ qs) held e h = (same_item r q held e ∙ h.0, same_all r o qs held e h.1)

  -- one node of a subtree, with what is on both sides of it
  module _ (A : List Ref) (r : Ref) (B : List Ref) (up : Rising R (A ++ r ∷ B)) where
    pub pass_step : (rises : Bool) → F r ≡ facing rises → AllAre F (facing rises) (ahead (not rises) A B) → AllAre F (facing rises) (A ++ r ∷ B)
    pass_step true e h = are_both F Less A (r ∷ B) h (e, all_up r B e (rising_right R A (r ∷ B) up).0)
    pass_step false e h = are_both F Greater A (r ∷ B) (all_down r A e (left_below R (side_order order m s total) A r B up)) (e, h)

    pub pass_back : (rises : Bool) → AllAre F (facing rises) (A ++ r ∷ B) → AllAre F (facing rises) (ahead (not rises) A B)
    pass_back true h = are_left F Less A (r ∷ B) h
    pass_back false h = (are_right F Greater A (r ∷ B) h).1

  pub pass_lost : (A : List Ref) (r : Ref) (B : List Ref) (o : Ordering) → AllAre F o (A ++ r ∷ B) → F r ≡ o
  pass_lost A r B o h = (are_right F o A (r ∷ B) h).0

  one_side : (tag : T → ℕ) (b : Bool) {r : Ref} {y : Link} {u : BinaryTree} (o : Sides m s r y u) → Rising R (nodes o.A ++ r ∷ nodes o.B)
      → AreTagged tag m s (nodes o.A ++ r ∷ nodes o.B) → OneSide order m s v stamp tag b r y u (nodes o.A) (nodes o.B)
  one_side tag true {r} o up tags = let w = o.height_is in record {
    z = o.B;
    is = refl;
    rooted = o.right;
    rising = (rising_right R (nodes o.A) (r ∷ nodes o.B) up).1;
    tagged = (tagged_right tag m s (nodes o.A) (r ∷ nodes o.B) tags).1;
    lower = omega arith;
  }
  one_side tag false {r} o up tags = let w = o.height_is in record {
    z = o.A;
    is = refl;
    rooted = o.left;
    rising = rising_left R (nodes o.A) (r ∷ nodes o.B) up;
    tagged = tagged_left tag m s (nodes o.A) (r ∷ nodes o.B) tags;
    lower = omega arith;
  }

  pub near_start : (tag : T → ℕ) (rises : Bool) (root : Option Ref) (t : BinaryTree) → IsRooted m s root t → Rising R (nodes t)
      → AreTagged tag m s (nodes t) → (d : ℕ) → Nearing order m s v stamp tag rises root root d d
  near_start tag rises root t h up tags d = record {
    t = t;
    u = t;
    root_is = h;
    rooted = h;
    rising = up;
    tagged = tags;
    back = λ a. a;
    forth = λ a. a;
    steps = omega arith;
  }

  module _ {tag : T → ℕ} {rises : Bool} {root at : Option Ref} {d e : ℕ} (h : Nearing order m s v stamp tag rises root at d e) where
    module _ {r : Ref} {y : Link} (is : at ≡ Some r) (i : y ≡ link_of m r.name s) where
      abbrev o : Sides m s r y h.u
      o = sides m s at r y h.u h.rooted is i

      near_names : nodes h.u ≡ nodes (o).A ++ r ∷ nodes (o).B
      near_names = ap nodes (o).is

      near_all : Rising R (nodes (o).A ++ r ∷ nodes (o).B)
      near_all = subst (Rising R) near_names h.rising

      near_tags : AreTagged tag m s (nodes (o).A ++ r ∷ nodes (o).B)
      near_tags = subst (AreTagged tag m s) near_names h.tagged

      pub near_held : IsHeld m r
      near_held = (o).held

      pub near_tag : HasTag tag m s r
      near_tag = (tagged_right tag m s (nodes (o).A) (r ∷ nodes (o).B) near_tags).0

      pub near_lower : height_at m s (cond (not rises) y.forth y.back) < height_at m s at
      near_lower =
          let k = height-root m s at h.u h.rooted in let p = (o).left_lower in let q = (o).right_lower in
          (elim rises as (λ b. height_at m s (cond (not b) y.forth y.back) < height_at m s at) [ true ↦ omega arith | false ↦ omega arith ])

      pub near_next : F r ≡ facing rises → (f : ℕ) → f ≡ e + 1 → Nearing order m s v stamp tag rises root (cond (not rises) y.forth y.back) d f
      near_next same f ticks =
          let p = one_side tag (not rises) o near_all near_tags in let k = h.steps in let low = p.lower in record {
            t = h.t;
            u = p.z;
            root_is = h.root_is;
            rooted = p.rooted;
            rising = p.rising;
            tagged = p.tagged;
            back = λ a. h.back (subst (AllAre F (facing rises)) (sym near_names)
                (pass_step (nodes (o).A) r (nodes (o).B) near_all rises same (subst (AllAre F (facing rises)) p.is a)));
            forth = λ a. subst (AllAre F (facing rises)) (sym p.is)
                (pass_back (nodes (o).A) r (nodes (o).B) near_all rises (subst (AllAre F (facing rises)) near_names (h.forth a)));
            steps = omega arith;
          }

      -- it has passed this one
      pub near_lost : is_facing rises (F r) ≡ false → (t : BinaryTree) → IsRooted m s root t → AllAre F (facing rises) (nodes t) → ⊥
      near_lost past t w a =
          let same = same_tree m s root t h.t w h.root_is in
          let here = pass_lost (nodes (o).A) r (nodes (o).B) (facing rises)
          (subst (AllAre F (facing rises)) near_names (h.forth (subst (λ z. AllAre F (facing rises) (nodes z)) same a))) in
          not_true (is_facing_of rises (F r) here) past

      pub near_steps : (f : ℕ) → f ≡ e + 1 → (t : BinaryTree) → IsRooted m s root t → f ≤ d + height t
      near_steps f ticks t w =
          let same = ap height (same_tree m s root t h.t w h.root_is) in let k = h.steps in let z = (o).height_is in omega arith

    pub near_end : at ≡ None → (t : BinaryTree) → IsRooted m s root t → AllAre F (facing rises) (nodes t) × (e ≤ d + height t)
    near_end is t w =
        let tip = tip_is m s h.u (moved m m s at None h.u refl is h.rooted) in
        let same = same_tree m s root t h.t w h.root_is in let k = h.steps in let tall = ap height same in
        (subst (λ z. AllAre F (facing rises) (nodes z)) (sym same) (h.back (subst (λ z. AllAre F (facing rises) (nodes z)) (sym tip) tt)), omega arith)

  pub above_start : (tag : T → ℕ) (rises : Bool) (node : Ref) (root : Option Ref) (t : BinaryTree) (xs ys : List Ref)
      → IsRooted m s root t → Rising R (nodes t) → AreTagged tag m s (nodes t) → nodes t ≡ xs ++ node ∷ ys → (d : ℕ) → Above order m s v stamp tag rises node root root d d
  above_start tag rises node root t xs ys h up tags e d = record {
    t = t;
    u = t;
    root_is = h;
    rooted = h;
    rising = up;
    tagged = tags;
    held = held_in m s t xs node ys e h.stands;
    has_tag = (tagged_right tag m s xs (node ∷ ys) (subst (AreTagged tag m s) e tags)).0;
    some = (xs, ys, e);
    part = λ vs ws g. record { vs = vs; ws = ws; is = g; back = λ a. a; forth = λ a. a };
    steps = omega arith;
  }

  module _ {tag : T → ℕ} {rises : Bool} {node : Ref} {root at : Option Ref} {d e : ℕ} (h : Above order m s v stamp tag rises node root at d e) where
    module _ {r : Ref} {y : Link} (is : at ≡ Some r) (i : y ≡ link_of m r.name s) where
      abbrev w : Sides m s r y h.u
      w = sides m s at r y h.u h.rooted is i

      above_names : nodes h.u ≡ nodes (w).A ++ r ∷ nodes (w).B
      above_names = ap nodes (w).is

      above_all : Rising R (nodes (w).A ++ r ∷ nodes (w).B)
      above_all = subst (Rising R) above_names h.rising

      above_tags : AreTagged tag m s (nodes (w).A ++ r ∷ nodes (w).B)
      above_tags = subst (AreTagged tag m s) above_names h.tagged

      pub above_held : IsHeld m r
      above_held = (w).held

      pub above_tag : HasTag tag m s r
      above_tag = (tagged_right tag m s (nodes (w).A) (r ∷ nodes (w).B) above_tags).0

      pub above_lower : (b : Bool) → height_at m s (cond b y.forth y.back) < height_at m s at
      above_lower b =
          let k = height-root m s at h.u h.rooted in let p = (w).left_lower in let q = (w).right_lower in
          (elim b as (λ z. height_at m s (cond z y.forth y.back) < height_at m s at) [ true ↦ omega arith | false ↦ omega arith ])

      left_part : (b : Bool) → R node r ≡ Less → (R node r ≡ facing b → F r ≡ facing b) → (xs ys : List Ref)
          → IsPart order m s v stamp b node (nodes h.u) xs ys → IsPart order m s v stamp b node (nodes (w).A) xs ys
      left_part b less clear xs ys p =
          let on = go_left R (side_order order m s total) (nodes (w).A) r (nodes (w).B) p.vs node p.ws above_all less
          (where_is (nodes (w).A) r (nodes (w).B) p.vs node p.ws (sym above_names ∙ p.is)) in
          record {
            vs = p.vs;
            ws = on.0;
            is = on.1;
            back = λ a. p.back (nearer b clear on.0 on.2 a);
            forth = λ a. farther b on.0 on.2 (p.forth a);
          }
        where
          nearer : (b : Bool) → (R node r ≡ facing b → F r ≡ facing b) → (zs : List Ref) → p.ws ≡ zs ++ r ∷ nodes (w).B
              → AllAre F (facing b) (ahead b p.vs zs) → AllAre F (facing b) (ahead b p.vs p.ws)
          nearer true c zs f a = subst (AllAre F Less) (sym f) (are_both F Less zs (r ∷ nodes (w).B) a
              (c less, all_up r (nodes (w).B) (c less) (rising_right R (nodes (w).A) (r ∷ nodes (w).B) above_all).0))
          nearer false c zs f a = a

          farther : (b : Bool) (zs : List Ref) → p.ws ≡ zs ++ r ∷ nodes (w).B → AllAre F (facing b) (ahead b p.vs p.ws) → AllAre F (facing b) (ahead b p.vs zs)
          farther true zs f a = are_left F Less zs (r ∷ nodes (w).B) (subst (AllAre F Less) f a)
          farther false zs f a = a

      right_part : (b : Bool) → R node r ≡ Greater → (R node r ≡ facing b → F r ≡ facing b) → (xs ys : List Ref)
          → IsPart order m s v stamp b node (nodes h.u) xs ys → IsPart order m s v stamp b node (nodes (w).B) xs ys
      right_part b more clear xs ys p =
          let on = go_right R (side_order order m s total) (nodes (w).A) r (nodes (w).B) p.vs node p.ws above_all more
          (where_is (nodes (w).A) r (nodes (w).B) p.vs node p.ws (sym above_names ∙ p.is)) in
          record {
            vs = on.0;
            ws = p.ws;
            is = on.2;
            back = λ a. p.back (nearer b clear on.0 on.1 a);
            forth = λ a. farther b on.0 on.1 (p.forth a);
          }
        where
          nearer : (b : Bool) → (R node r ≡ facing b → F r ≡ facing b) → (zs : List Ref) → p.vs ≡ nodes (w).A ++ r ∷ zs
              → AllAre F (facing b) (ahead b zs p.ws) → AllAre F (facing b) (ahead b p.vs p.ws)
          nearer true c zs f a = a
          nearer false c zs f a = subst (AllAre F Greater) (sym f) (are_both F Greater (nodes (w).A) (r ∷ zs)
              (all_down r (nodes (w).A) (c more) (left_below R (side_order order m s total) (nodes (w).A) r (nodes (w).B) above_all)) (c more, a))

          farther : (b : Bool) (zs : List Ref) → p.vs ≡ nodes (w).A ++ r ∷ zs → AllAre F (facing b) (ahead b p.vs p.ws) → AllAre F (facing b) (ahead b zs p.ws)
          farther true zs f a = a
          farther false zs f a = (are_right F Greater (nodes (w).A) (r ∷ zs) (subst (AllAre F Greater) f a)).1

      -- a step down, to the side where the node stands
      module _ (f : ℕ) (ticks : f ≤ e + 2) (clear : R node r ≡ facing rises → F r ≡ facing rises) where
        above_left : R node r ≡ Less → Above order m s v stamp tag rises node root y.back d f
        above_left less = let k = h.steps in let z = (w).height_is in record {
          t = h.t;
          u = (w).A;
          root_is = h.root_is;
          rooted = (w).left;
          rising = rising_left R (nodes (w).A) (r ∷ nodes (w).B) above_all;
          tagged = tagged_left tag m s (nodes (w).A) (r ∷ nodes (w).B) above_tags;
          held = h.held;
          has_tag = h.has_tag;
          some = h.some;
          part = λ xs ys q. left_part rises less clear xs ys (h.part xs ys q);
          steps = omega arith;
        }

        above_right : R node r ≡ Greater → Above order m s v stamp tag rises node root y.forth d f
        above_right more = let k = h.steps in let z = (w).height_is in record {
          t = h.t;
          u = (w).B;
          root_is = h.root_is;
          rooted = (w).right;
          rising = (rising_right R (nodes (w).A) (r ∷ nodes (w).B) above_all).1;
          tagged = (tagged_right tag m s (nodes (w).A) (r ∷ nodes (w).B) above_tags).1;
          held = h.held;
          has_tag = h.has_tag;
          some = h.some;
          part = λ xs ys q. right_part rises more clear xs ys (h.part xs ys q);
          steps = omega arith;
        }

        pub above_next : (o : Ordering) → R node r ≡ o → (o ≡ Equal → ⊥) → (b : Bool) → b ≡ is_gt o → Above order m s v stamp tag rises node root (cond b y.forth y.back) d f
        above_next Less found differs b path_step = subst (λ z. Above order m s v stamp tag rises node root (cond z y.forth y.back) d f) (sym path_step) (above_left found)
        above_next Equal found differs b path_step = absurd (differs refl)
        above_next Greater found differs b path_step = subst (λ z. Above order m s v stamp tag rises node root (cond z y.forth y.back) d f) (sym path_step) (above_right found)

      -- it passes this one
      lost_left : (b : Bool) → R node r ≡ Less → R node r ≡ facing b → (F r ≡ facing b → ⊥) → (xs ys : List Ref)
          → IsPart order m s v stamp b node (nodes h.u) xs ys → AllAre F (facing b) (ahead b xs ys) → ⊥
      lost_left true less same past xs ys p a =
          let on = go_left R (side_order order m s total) (nodes (w).A) r (nodes (w).B) p.vs node p.ws above_all less
          (where_is (nodes (w).A) r (nodes (w).B) p.vs node p.ws (sym above_names ∙ p.is)) in
          past (pass_lost on.0 r (nodes (w).B) Less (subst (AllAre F Less) on.2 (p.forth a)))
      lost_left false less same past xs ys p a = let e : Less ≡ Greater = sym less ∙ same in absurd cc

      lost_right : (b : Bool) → R node r ≡ Greater → R node r ≡ facing b → (F r ≡ facing b → ⊥) → (xs ys : List Ref)
          → IsPart order m s v stamp b node (nodes h.u) xs ys → AllAre F (facing b) (ahead b xs ys) → ⊥
      lost_right true more same past xs ys p a = let e : Greater ≡ Less = sym more ∙ same in absurd cc
      lost_right false more same past xs ys p a =
          let on = go_right R (side_order order m s total) (nodes (w).A) r (nodes (w).B) p.vs node p.ws above_all more
          (where_is (nodes (w).A) r (nodes (w).B) p.vs node p.ws (sym above_names ∙ p.is)) in
          past (pass_lost (nodes (w).A) r on.0 Greater (subst (AllAre F Greater) on.1 (p.forth a)))

      pub above_lost : (o : Ordering) → R node r ≡ o → is_facing rises o ≡ true → is_facing rises (F r) ≡ false → (t : BinaryTree) (xs ys : List Ref)
          → IsRooted m s root t → nodes t ≡ xs ++ node ∷ ys → AllAre F (facing rises) (ahead rises xs ys) → ⊥
      above_lost o found faces past t xs ys x q a =
          let p = h.part xs ys (sym (ap nodes (same_tree m s root t h.t x h.root_is)) ∙ q) in
          let same = found ∙ facing_is rises o faces in
          let passed : F r ≡ facing rises → ⊥ = λ z. not_true (is_facing_of rises (F r) z) past in
          at_side o found same passed p
        where
          at_side : (o : Ordering) → R node r ≡ o → R node r ≡ facing rises → (F r ≡ facing rises → ⊥) → IsPart order m s v stamp rises node (nodes h.u) xs ys → ⊥
          at_side Less f same passed p = lost_left rises f same passed xs ys p a
          at_side Equal f same passed p = absurd (equal_never rises (sym f ∙ same))
          at_side Greater f same passed p = lost_right rises f same passed xs ys p a

      -- it is the node
      pub record Reached : Type 0 where
        pub z : BinaryTree
        pub rooted : IsRooted m s (cond rises y.forth y.back) z
        pub rising : Rising R (nodes z)
        pub tagged : AreTagged tag m s (nodes z)
        pub lower : height z + 1 ≤ height h.u
        pub back : (t : BinaryTree) (xs ys : List Ref) → IsRooted m s root t → nodes t ≡ xs ++ node ∷ ys
            → AllAre F (facing rises) (nodes z) → AllAre F (facing rises) (ahead rises xs ys)
        pub forth : (t : BinaryTree) (xs ys : List Ref) → IsRooted m s root t → nodes t ≡ xs ++ node ∷ ys
            → AllAre F (facing rises) (ahead rises xs ys) → AllAre F (facing rises) (nodes z)

      pub above_here : R node r ≡ Equal → Reached
      above_here same =
          let p = one_side tag rises w above_all above_tags in
          let of : (xs ys : List Ref) (q : IsPart order m s v stamp rises node (nodes h.u) xs ys) → ahead rises q.vs q.ws ≡ nodes p.z = λ xs ys q.
          let on = go_here R (side_order order m s total) (nodes (w).A) r (nodes (w).B) q.vs node q.ws above_all same
          (where_is (nodes (w).A) r (nodes (w).B) q.vs node q.ws (sym above_names ∙ q.is)) in
          (λ i. ahead rises (sym on.0 i) (sym on.2 i)) ∙ sym p.is in
          let at : (t : BinaryTree) (xs ys : List Ref) → IsRooted m s root t → nodes t ≡ xs ++ node ∷ ys → IsPart order m s v stamp rises node (nodes h.u) xs ys = λ t xs ys x e.
          h.part xs ys (sym (ap nodes (same_tree m s root t h.t x h.root_is)) ∙ e) in
          record {
            z = p.z;
            rooted = p.rooted;
            rising = p.rising;
            tagged = p.tagged;
            lower = p.lower;
            back = λ t xs ys x e a. let q = at t xs ys x e in q.back (subst (AllAre F (facing rises)) (sym (of xs ys q)) a);
            forth = λ t xs ys x e a. let q = at t xs ys x e in subst (AllAre F (facing rises)) (of xs ys q) (q.forth a);
          }

      pub above_steps : (z : BinaryTree) → height z + 1 ≤ height h.u → (f g : ℕ) → f ≡ e + 1 → g ≤ f + height z → (t : BinaryTree) → IsRooted m s root t → g ≤ d + 2 * height t
      above_steps z low f g ticks most t x = let tall = ap height (same_tree m s root t h.t x h.root_is) in let k = h.steps in omega arith

      pub above_few : (f : ℕ) → f ≤ e + 2 → (t : BinaryTree) → IsRooted m s root t → f ≤ d + 2 * height t
      above_few f ticks t x =
          let tall = ap height (same_tree m s root t h.t x h.root_is) in let k = h.steps in let v = (w).height_is in omega arith

    -- the node is there
    pub above_end : at ≡ None → ⊥
    above_end is =
        let x = h.some in let p = h.part x.0 x.1 x.2 in
        none_here p.vs node p.ws (sym (ap nodes (tip_is m s h.u (moved m m s at None h.u refl is h.rooted))) ∙ p.is)

  fork_sides : (l : BinaryTree) (r : Ref) (q : BinaryTree) (xs : List Ref) (x : Ref) (ys : List Ref) → Stands m s (Fork l r q)
      → ((zs : List Ref) → nodes l ≡ xs ++ x ∷ zs → OwnSides order m s v stamp x xs zs l)
      → ((zs : List Ref) → nodes q ≡ zs ++ x ∷ ys → OwnSides order m s v stamp x zs ys q)
      → Where (nodes l) r (nodes q) xs x ys → OwnSides order m s v stamp x xs ys (Fork l r q)
  fork_sides l r q xs x ys h under over (InLeft zs f g) = let o = under zs f in let low = o.low in record {
    A = o.A;
    B = o.B;
    us = o.us;
    ws = o.ws ++ r ∷ nodes q;
    left = o.left;
    right = o.right;
    before = o.before;
    after = g ∙ ap (λ k. k ++ r ∷ nodes q) o.after ∙ append_assoc (nodes o.B) o.ws (r ∷ nodes q);
    low = (omega arith, omega arith);
  }
  fork_sides l r q xs x ys h under over (Here f g k) = record {
    A = l;
    B = q;
    us = [];
    ws = [];
    left = record { root = ap (λ (z : Ref). (link_of m z.name s).back) (sym g) ∙ ap (λ (z : Link). z.back) h.1; stands = h.2 };
    right = record { root = ap (λ (z : Ref). (link_of m z.name s).forth) (sym g) ∙ ap (λ (z : Link). z.forth) h.1; stands = h.3 };
    before = sym f;
    after = sym k ∙ sym (append-nil (nodes q));
    low = (omega arith, omega arith);
  }
  fork_sides l r q xs x ys h under over (InRight zs f g) = let o = over zs g in let low = o.low in record {
    A = o.A;
    B = o.B;
    us = nodes l ++ r ∷ o.us;
    ws = o.ws;
    left = o.left;
    right = o.right;
    before = f ∙ ap (λ k. nodes l ++ r ∷ k) o.before ∙ sym (append_assoc (nodes l) (r ∷ o.us) (nodes o.A));
    after = o.after;
    low = (omega arith, omega arith);
  }

  own_sides : (t : BinaryTree) (xs : List Ref) (x : Ref) (ys : List Ref) → Stands m s t → nodes t ≡ xs ++ x ∷ ys → OwnSides order m s v stamp x xs ys t
  own_sides Tip xs x ys h e = absurd (none_here xs x ys e)
  own_sides (Fork l r q) xs x ys h e = fork_sides l r q xs x ys h (λ zs f. own_sides l xs x zs h.2 f) (λ zs g. own_sides q zs x ys h.3 g)
      (where_is (nodes l) r (nodes q) xs x ys e)

  module _ (t : BinaryTree) (xs : List Ref) (x : Ref) (ys : List Ref) (stands : Stands m s t) (up : Rising R (nodes t)) (e : nodes t ≡ xs ++ x ∷ ys) where
    rises_there : Rising R (xs ++ x ∷ ys)
    rises_there = subst (Rising R) e up

    pub behind : AllAre (R x) Less ys
    behind = (rising_right R xs (x ∷ ys) rises_there).0

    pub in_front : AllAre (R x) Greater xs
    in_front = left_below R (side_order order m s total) xs x ys rises_there

    -- it keeps its place if it passes none on the side to which it moves
    pub keeps_back : (rises : Bool) → F x ≡ facing (not rises) → AllAre F (facing rises) (ahead rises xs ys) → KeepsPlace order m s v stamp xs ys
    keeps_back true f h = record { below = all_down x xs f in_front; above = h }
    keeps_back false f h = record { below = h; above = all_up x ys f behind }

    pub keeps_forth : (rises : Bool) → KeepsPlace order m s v stamp xs ys → AllAre F (facing rises) (ahead rises xs ys)
    keeps_forth true k = k.above
    keeps_forth false k = k.below

    pub keeps_equal : IsHeld m x → F x ≡ Equal → KeepsPlace order m s v stamp xs ys
    keeps_equal held f = record { below = same_all x Greater xs held f in_front; above = same_all x Less ys held f behind }

    -- it passes none if it passes none of its own side there, where it has one
    pub record OwnSide (tag : T → ℕ) (rises : Bool) : Type 0 where
      pub z : BinaryTree
      pub rooted : IsRooted m s (cond rises (link_of m x.name s).forth (link_of m x.name s).back) z
      pub rising : Rising R (nodes z)
      pub tagged : AreTagged tag m s (nodes z)
      pub low : height z ≤ height t
      pub forth : AllAre F (facing rises) (ahead rises xs ys) → AllAre F (facing rises) (nodes z)
      pub back : (c : Ref) → cond rises (link_of m x.name s).forth (link_of m x.name s).back ≡ Some c
          → AllAre F (facing rises) (nodes z) → AllAre F (facing rises) (ahead rises xs ys)

    pub own_side : (tag : T → ℕ) (rises : Bool) → AreTagged tag m s (nodes t) → OwnSide tag rises
    own_side tag true tags =
        let o = own_sides t xs x ys stands e in let low = o.low in
        let right : Rising R (nodes o.B ++ o.ws) = subst (Rising R) o.after (rising_right R xs (x ∷ ys) rises_there).1 in
        let tagged : AreTagged tag m s (nodes o.B ++ o.ws) =
        subst (AreTagged tag m s) o.after (tagged_right tag m s xs (x ∷ ys) (subst (AreTagged tag m s) e tags)).1 in
        record {
          z = o.B;
          rooted = o.right;
          rising = rising_left R (nodes o.B) o.ws right;
          tagged = tagged_left tag m s (nodes o.B) o.ws tagged;
          low = low.1;
          forth = λ a. are_left F Less (nodes o.B) o.ws (subst (AllAre F Less) o.after a);
          back = λ c is a.
              let p = opened m s c o.B (moved m m s _ (Some c) o.B refl is o.right) in
              let names = ap nodes p.is in
              let first : F c ≡ Less = pass_lost (nodes p.left) c (nodes p.right) Less (subst (AllAre F Less) names a) in
              let all : Rising R (nodes p.left ++ c ∷ (nodes p.right ++ o.ws)) =
              subst (Rising R) (ap (λ k. k ++ o.ws) names ∙ append_assoc (nodes p.left) (c ∷ nodes p.right) o.ws) right in
              let rest = are_right (R c) Less (nodes p.right) o.ws (rising_right R (nodes p.left) (c ∷ (nodes p.right ++ o.ws)) all).0 in
              subst (AllAre F Less) (sym o.after) (are_both F Less (nodes o.B) o.ws a (all_up c o.ws first rest));
        }
    own_side tag false tags =
        let o = own_sides t xs x ys stands e in let low = o.low in
        let left : Rising R (o.us ++ nodes o.A) = subst (Rising R) o.before (rising_left R xs (x ∷ ys) rises_there) in
        let tagged : AreTagged tag m s (o.us ++ nodes o.A) =
        subst (AreTagged tag m s) o.before (tagged_left tag m s xs (x ∷ ys) (subst (AreTagged tag m s) e tags)) in
        record {
          z = o.A;
          rooted = o.left;
          rising = rising_right R o.us (nodes o.A) left;
          tagged = tagged_right tag m s o.us (nodes o.A) tagged;
          low = low.0;
          forth = λ a. are_right F Greater o.us (nodes o.A) (subst (AllAre F Greater) o.before a);
          back = λ c is a.
              let p = opened m s c o.A (moved m m s _ (Some c) o.A refl is o.left) in
              let names = ap nodes p.is in
              let last : F c ≡ Greater = pass_lost (nodes p.left) c (nodes p.right) Greater (subst (AllAre F Greater) names a) in
              let all : Rising R ((o.us ++ nodes p.left) ++ c ∷ nodes p.right) =
              subst (Rising R) (ap (λ k. o.us ++ k) names ∙ sym (append_assoc o.us (nodes p.left) (c ∷ nodes p.right))) left in
              let rest = are_left (R c) Greater o.us (nodes p.left) (left_below R (side_order order m s total) (o.us ++ nodes p.left) c (nodes p.right) all) in
              subst (AllAre F Greater) (sym o.before) (are_both F Greater o.us (nodes o.A) (all_down c o.us last rest) a);
        }
