-- From a tree's parts to the whole, and back.
-- Cited by `Tree::bound`, `Tree::bound_rank`, `Tree::count`, `Tree::find`, `Tree::insert` and 11 more.
use Rattle.std.proofs.Common.{◌≡◌, ◌==◌, Bool, false, ℕ, ◌+◌, ◌*◌, ◌^◌, ◌<◌, ◌≤◌, List, [], ◌∷◌, ◌++◌, length}
use Rattle.std.proofs.Common.{Option, Some, None, refl, sym, ap, ◌∙◌, subst, arith, length-append}
use Rattle.std.specs.declared.cmp.Ordering.{Ordering}
use Rattle.std.specs.declared.cmp.Ordering.TheVariants.{Less, Equal, Greater}
use Rattle.std.specs.Cmp.{IsTotalOrder}
use Rattle.mi_node.specs.Pool.{Pooled, value_of, link_of, with_link, IsHeld, Keeps}
use Rattle.mi_node.specs.declared.link.Link.{Link}
use Rattle.mi_node.specs.declared.link.Tag.{Tag}
use Rattle.mi_node.proofs.EntryLemmas.{flip, link_here, link_there}
use Rattle.mi_node.proofs.KeepingLemmas.{keeps_then, held_kept}
use Rattle.mi_node.proofs.RefLemmas.{out_left, out_right}
use Rattle.mi_node.specs.Refs.{Ref, IsOut, IsApart}
use Rattle.mi_tree.specs.BinaryTree.{BinaryTree, Tip, Fork, nodes, forks, height, IsRooted}
use Rattle.mi_tree.specs.Order.{IsMonotone}
use Rattle.mi_tree.specs.Probed.{is_past_node, IsSteady}
use Rattle.mi_tree.specs.Sorted.{AllAre, NoneAre, Rising, IsPutIn, IsTagOf, HasTag, AreTagged, SameTags, CanPut}
use Rattle.mi_tree.specs.Sorted.{HasPut, CanTake, HasTaken, by_stamp, stamped, item_of, compared, side, side_of_new}
use Rattle.mi_tree.specs.Standing.{IsTree, CanInsert}
use Rattle.mi_tree.specs.Walking.{Enters}
use Rattle.mi_tree.specs.declared.walk.Direction.{Direction}
use Rattle.mi_tree.specs.declared.tree.Tree.{Tree}
use Rattle.mi_tree.proofs.BinaryTreeLemmas.{size-nodes, same_tree}
use Rattle.mi_tree.proofs.JoinLemmas.{rooted_past, keeps_set}
use Rattle.mi_tree.proofs.LookUpLemmas.{steady}
use Rattle.mi_tree.proofs.HeightLemmas.{short, shorter, low_enough}
use Rattle.mi_tree.proofs.InsertLemmas.{put_apart, put_length}
use Rattle.mi_tree.proofs.RemoveLemmas.{apart_less, held_in}
use Rattle.mi_tree.proofs.SortedLemmas.{side_order, side_kept, item_kept, has_tag_kept, tagged_left}
use Rattle.mi_tree.proofs.SortedLemmas.{tagged_right, tagged_both, are_left, are_right, are_both, rising_put}

pub rising_less : (R : Ref → Ref → Ordering) (xs : List Ref) (x : Ref) (ys : List Ref) → Rising R (xs ++ x ∷ ys) → Rising R (xs ++ ys)
rising_less R [] x ys h = h.1
rising_less R (y ∷ xs) x ys h =
    (are_both (R y) Less xs ys (are_left (R y) Less xs (x ∷ ys) h.0) (are_right (R y) Less xs (x ∷ ys) h.0).1, rising_less R xs x ys h.1)

-- two functions that agree on a list
are_same : (f g : Ref → Ordering) (o : Ordering) (rs : List Ref) → ((r : Ref) → g r ≡ f r) → AllAre f o rs → AllAre g o rs
are_same f g o [] e h = tt
are_same f g o (r ∷ rs) e h = (e r ∙ h.0, are_same f g o rs e h.1)

rising_same : (R Q : Ref → Ref → Ordering) (rs : List Ref) → ((a b : Ref) → Q a b ≡ R a b) → Rising R rs → Rising Q rs
rising_same R Q [] e h = tt
rising_same R Q (r ∷ rs) e h = (are_same (R r) (Q r) Less rs (e r) h.0, rising_same R Q rs e h.1)

-- after a change that keeps values and tags
module _ {T : Type 0} (order : T → T → Ordering) (tag : T → ℕ) (m n : Pooled T) (s : ℕ)
    (values : (k : ℕ) → value_of n k ≡ value_of m k) (tags : SameTags m n s) where
  pub rising_kept : (rs : List Ref) → Rising (side order m s) rs → Rising (side order n s) rs
  rising_kept rs h = rising_same (side order m s) (side order n s) rs
      (λ a b. side_kept order m n s a b (item_kept m n s a.name (values a.name) (tags a.name)) (item_kept m n s b.name (values b.name) (tags b.name))) h

  pub tagged_kept : (rs : List Ref) → AreTagged tag m s rs → AreTagged tag n s rs
  tagged_kept [] h = tt
  tagged_kept (r ∷ rs) h = (has_tag_kept tag m n s r (values r.name) (tags r.name) h.0, tagged_kept rs h.1)

-- the link of a node with no sides
abbrev pub leaf : Tag → Link
leaf tag = record { back = None; forth = None; size = 1; height = 1; tag = tag }

-- a new node's link is set before it is put in
module _ {T : Type 0} (order : T → T → Ordering) (tag : T → ℕ) (m q : Pooled T) (s : ℕ)
    (x : Ref) (new : Tag) (held : IsHeld m x) (set : q ≡ with_link m x.name s (leaf new)) where
  pub set_keeps : Keeps m q s (x ∷ [])
  set_keeps = keeps_set (leaf new) set

  set_link : link_of q x.name s ≡ leaf new
  set_link = ap (λ o. link_of o x.name s) set ∙ link_here m x s (leaf new) held

  pub set_tag : (link_of q x.name s).tag ≡ new
  set_tag = ap (λ (y : Link). y.tag) set_link

  other_tag : (k : ℕ) → (x.name == k) ≡ false → (link_of q k s).tag ≡ (link_of m k s).tag
  other_tag k e = ap (λ (o : Pooled T). (link_of o k s).tag) set ∙ ap (λ (y : Link). y.tag) (link_there m x.name s (leaf new) k s e)

  set_alone : IsRooted q s (Some x) (Fork Tip x Tip)
  set_alone = record { root = refl; stands = (held_kept s m q (x ∷ []) x set_keeps held, set_link ∙ ap leaf (sym set_tag), tt, tt) }

  old_item : (r : Ref) → (x.name == r.name) ≡ false → item_of q s r.name ≡ item_of m s r.name
  old_item r e = item_kept m q s r.name (set_keeps.values r.name) (other_tag r.name e)

  old_all : (r : Ref) (rs : List Ref) → (x.name == r.name) ≡ false → IsOut x.name rs → AllAre (side order m s r) Less rs → AllAre (side order q s r) Less rs
  old_all r [] e o h = tt
  old_all r (a ∷ rs) e o h = (side_kept order m q s r a (old_item r e) (old_item a o.0) ∙ h.0, old_all r rs e o.1 h.1)

  old_rising : (rs : List Ref) → IsOut x.name rs → Rising (side order m s) rs → Rising (side order q s) rs
  old_rising [] o h = tt
  old_rising (r ∷ rs) o h = (old_all r rs o.0 o.1 h.0, old_rising rs o.1 h.1)

  old_tagged : (rs : List Ref) → IsOut x.name rs → AreTagged tag m s rs → AreTagged tag q s rs
  old_tagged [] o h = tt
  old_tagged (r ∷ rs) o h = (has_tag_kept tag m q s r (set_keeps.values r.name) (other_tag r.name o.0) h.0, old_tagged rs o.1 h.1)

  new_tagged : (v : T) → value_of m x.name ≡ Some v → new.key ≡ tag v → HasTag tag q s x
  new_tagged v e f = subst (λ (z : Option T × Tag). IsTagOf tag z.0 z.1.key) (λ i. (sym (set_keeps.values x.name ∙ e) i, sym set_tag i)) f

  new_side : (r : Ref) → (x.name == r.name) ≡ false → side order q s x r ≡ side_of_new order m s x new.stamp r
  unfolding side side_of_new item_of
  new_side r e = λ i. compared (by_stamp order) (stamped (set_keeps.values x.name i) (set_tag i).stamp)
      (stamped (set_keeps.values r.name i) (other_tag r.name e i).stamp)

  new_differs : (rs : List Ref) → IsOut x.name rs → NoneAre (side_of_new order m s x new.stamp) Equal rs → NoneAre (side order q s x) Equal rs
  new_differs [] o h = tt
  new_differs (r ∷ rs) o h = (λ e. h.0 (sym (new_side r o.0) ∙ e), new_differs rs o.1 h.1)

  new_are : (o : Ordering) (rs : List Ref) → IsOut x.name rs → AllAre (side order q s x) o rs → AllAre (side_of_new order m s x new.stamp) o rs
  new_are o [] out h = tt
  new_are o (r ∷ rs) out h = (sym (new_side r out.0) ∙ h.0, new_are o rs out.1 h.1)

  new_placed : (rs us : List Ref) → IsOut x.name rs → IsPutIn (side order q s x) x rs us → IsPutIn (side_of_new order m s x new.stamp) x rs us
  new_placed rs us out p = let w = subst (IsOut x.name) p.was out in
      record {
        xs = p.xs;
        ys = p.ys;
        was = p.was;
        now = p.now;
        below = new_are Greater p.xs (out_left x.name p.xs p.ys w) p.below;
        above = new_are Less p.ys (out_right x.name p.xs p.ys w) p.above;
      }

module _ {T O : Type 0} where
  tree_size : {l : Tree O} {m : Pooled T} {order : T → T → Ordering} {tag : T → ℕ} {rs : List Ref} (h : IsTree l m order tag rs) → forks h.shape ≡ length rs
  tree_size h = size-nodes h.shape ∙ ap length h.nodes_are

  module _ {order : T → T → Ordering} {tag : T → ℕ} {l : Tree O} {m q : Pooled T} {x : Ref} (new : Tag)
      {rs : List Ref} (h : IsTree l m order tag rs) (w : CanInsert m l.slot order x new.stamp rs)
      (set : q ≡ with_link m x.name l.slot (leaf new)) where
    pub can_put : CanPut q l.slot (side order q l.slot) l.root x h.shape
    can_put = let e = sym h.nodes_are in let a = tree_size h in let f = w.fits in let out = subst (IsOut x.name) e w.out in record {
      rooted = rooted_past l.slot m q x l.root h.shape (set_keeps order tag m q l.slot x new w.held set) out h.rooted;
      even = h.even;
      apart = subst IsApart e h.apart;
      rising = old_rising order tag m q l.slot x new w.held set (nodes h.shape) out (subst (Rising (side order m l.slot)) e h.rising);
      alone = set_alone order tag m q l.slot x new w.held set;
      out = out;
      differs = new_differs order tag m q l.slot x new w.held set (nodes h.shape) out
          (subst (NoneAre (side_of_new order m l.slot x new.stamp) Equal) e w.differs);
      fits = omega arith;
    }

    pub put_tagged : (v : T) → value_of m x.name ≡ Some v → new.key ≡ tag v → AreTagged tag q l.slot (x ∷ nodes h.shape)
    put_tagged v e f = (
      new_tagged order tag m q l.slot x new w.held set v e f,
      old_tagged order tag m q l.slot x new w.held set (nodes h.shape) (subst (IsOut x.name) (sym h.nodes_are) w.out)
          (subst (AreTagged tag m l.slot) (sym h.nodes_are) h.tagged),
    )

    pub has_put : (total : IsTotalOrder order) (j : Tree O) (n : Pooled T) (root : Option Ref) (u : BinaryTree) (v : T)
        → value_of m x.name ≡ Some v → new.key ≡ tag v → j.slot ≡ l.slot → j.root ≡ root
        → HasPut q n l.slot (side order q l.slot) x h.shape root u
        → (us : List Ref) × IsPutIn (side_of_new order m l.slot x new.stamp) x rs us × IsTree j n order tag us
    has_put total j n root u v e f es er p =
        let s = l.slot in let R = side order q s in let o = side_order order q s total in
        let placed = subst (λ k. IsPutIn (R x) x k (nodes u)) h.nodes_are p.placed in
        let long = put_length R x rs (nodes u) placed in let fits = w.fits in
        let first = set_keeps order tag m q s x new w.held set in
        let was = subst (λ k. AreTagged tag q s k) (placed.was) (subst (AreTagged tag q s) h.nodes_are (put_tagged v e f).1) in
        let all = subst (AreTagged tag q s) (sym placed.now)
        (tagged_both tag q s placed.xs (x ∷ placed.ys) (tagged_left tag q s placed.xs placed.ys was)
        ((put_tagged v e f).0, tagged_right tag q s placed.xs placed.ys was)) in (
          nodes u,
          new_placed order tag m q s x new w.held set rs (nodes u) w.out placed,
          record {
            shape = u;
            rooted = subst (λ (z : ℕ × Option Ref). IsRooted n z.0 z.1 u) (λ i. (sym es i, sym er i)) p.rooted;
            even = p.even;
            nodes_are = refl;
            apart = put_apart R x rs (nodes u) placed h.apart w.out;
            rising = subst (λ z. Rising (side order n z) (nodes u)) (sym es)
                (rising_kept order tag q n s p.keeps.values p.tags (nodes u)
                (rising_put R o x rs (nodes u) (old_rising order tag m q s x new w.held set rs w.out h.rising) placed));
            tagged = subst (λ z. AreTagged tag n z (nodes u)) (sym es) (tagged_kept order tag q n s p.keeps.values p.tags (nodes u) all);
            fits = omega arith;
            has_slot = subst (λ (z : ℕ × ℕ). z.0 < z.1) (λ i. (sym es i, sym (p.keeps.slots ∙ first.slots) i)) h.has_slot;
          },
        )

    pub put_keeps : (n : Pooled T) → Keeps q n l.slot (x ∷ nodes h.shape) → Keeps m n l.slot (x ∷ rs)
    put_keeps n k = keeps_then l.slot m q n (x ∷ []) (x ∷ nodes h.shape) (x ∷ rs) (set_keeps order tag m q l.slot x new w.held set)
        k (λ i out. ((out.0, tt), subst (λ z. IsOut i (x ∷ z)) (sym h.nodes_are) out))

    pub put_stamp : (n : Pooled T) → SameTags q n l.slot → (link_of n x.name l.slot).tag.stamp ≡ new.stamp
    put_stamp n k = ap (λ (z : Tag). z.stamp) (k x.name ∙ set_tag order tag m q l.slot x new w.held set)

    pub put_tags : (n : Pooled T) → SameTags q n l.slot → (i : ℕ) → (i == x.name) ≡ false → (link_of n i l.slot).tag ≡ (link_of m i l.slot).tag
    put_tags n k i e = k i ∙ other_tag order tag m q l.slot x new w.held set i (flip x.name i ∙ e)

  pub can_take : {l : Tree O} {m : Pooled T} {order : T → T → Ordering} {tag : T → ℕ} {rs : List Ref} (h : IsTree l m order tag rs)
      → CanTake m l.slot l.root h.shape
  can_take h =
      let a = tree_size h in let f = h.fits in
      record { rooted = h.rooted; even = h.even; apart = subst IsApart (sym h.nodes_are) h.apart; fits = omega arith }

  -- a tree stands in a pool n that is as m is
  pub tree_moved : {l : Tree O} {m n : Pooled T} {order : T → T → Ordering} {tag : T → ℕ} {rs : List Ref}
      → n ≡ m → IsTree l m order tag rs → IsTree l n order tag rs
  tree_moved {l} {order = order} {tag} {rs} e h = subst (λ (z : Pooled T). IsTree l z order tag rs) (sym e) h

  pub rising_in : {l : Tree O} {m : Pooled T} {order : T → T → Ordering} {tag : T → ℕ} {rs : List Ref} (h : IsTree l m order tag rs)
      → Rising (side order m l.slot) (nodes h.shape)
  rising_in {l} {m} {order} h = subst (Rising (side order m l.slot)) (sym h.nodes_are) h.rising

  pub tagged_in : {l : Tree O} {m : Pooled T} {order : T → T → Ordering} {tag : T → ℕ} {rs : List Ref} (h : IsTree l m order tag rs)
      → AreTagged tag m l.slot (nodes h.shape)
  tagged_in {l} {m} {tag = tag} h = subst (AreTagged tag m l.slot) (sym h.nodes_are) h.tagged

  pub has_taken : {order : T → T → Ordering} {tag : T → ℕ} {l j : Tree O} {m n : Pooled T} {root : Option Ref} {u : BinaryTree}
      (xs : List Ref) (x : Ref) (ys : List Ref) (h : IsTree l m order tag (xs ++ x ∷ ys))
      → j.slot ≡ l.slot → j.root ≡ root → HasTaken m n l.slot h.shape (xs ++ ys) root u → IsTree j n order tag (xs ++ ys)
  has_taken {order} {tag} {l} {j} {m} {n} {root} {u} xs x ys h es er p =
      let a = length-append xs (x ∷ ys) in let b = length-append xs ys in let f = h.fits in record {
        shape = u;
        rooted = subst (λ (z : ℕ × Option Ref). IsRooted n z.0 z.1 u) (λ i. (sym es i, sym er i)) p.rooted;
        even = p.even;
        nodes_are = p.nodes_are;
        apart = apart_less xs x ys h.apart;
        rising = subst (λ z. Rising (side order n z) (xs ++ ys)) (sym es)
            (rising_kept order tag m n l.slot p.keeps.values p.tags (xs ++ ys) (rising_less (side order m l.slot) xs x ys h.rising));
        tagged = subst (λ z. AreTagged tag n z (xs ++ ys)) (sym es)
            (tagged_kept order tag m n l.slot p.keeps.values p.tags (xs ++ ys)
            (tagged_both tag m l.slot xs ys (tagged_left tag m l.slot xs (x ∷ ys) h.tagged) (tagged_right tag m l.slot xs (x ∷ ys) h.tagged).1));
        fits = omega arith;
        has_slot = subst (λ (z : ℕ × ℕ). z.0 < z.1) (λ i. (sym es i, sym p.keeps.slots i)) h.has_slot;
      }

  pub node_held : {l : Tree O} {m : Pooled T} {order : T → T → Ordering} {tag : T → ℕ} (xs : List Ref) (x : Ref) (ys : List Ref)
      → IsTree l m order tag (xs ++ x ∷ ys) → IsHeld m x
  node_held {l} {m} xs x ys h = held_in m l.slot h.shape xs x ys h.nodes_are h.rooted.stands

  -- the bound of a path down
  pub bound : {l : Tree O} {m : Pooled T} {order : T → T → Ordering} {tag : T → ℕ} {rs : List Ref} (h : IsTree l m order tag rs) (b : ℕ)
      → length rs < 2 ^ b → height h.shape ≤ 2 * b
  bound h b f = short h.shape h.even b (subst (λ k. k < 2 ^ b) (sym (tree_size h)) f)

  -- what grows by at most the height grows by at most 2b
  pub within : {l : Tree O} {m : Pooled T} {order : T → T → Ordering} {tag : T → ℕ} {rs : List Ref} (h : IsTree l m order tag rs) (b : ℕ)
      → length rs < 2 ^ b → (j k : ℕ) → k ≤ j + height h.shape → k ≤ j + 2 * b
  within h b f j k a = let d = bound h b f in omega arith

  -- of a tree with a node
  pub bound_less : {l : Tree O} {m : Pooled T} {order : T → T → Ordering} {tag : T → ℕ} {rs : List Ref} (h : IsTree l m order tag rs) (b : ℕ)
      → length rs < 2 ^ b → 1 ≤ length rs → height h.shape + 1 ≤ 2 * b
  bound_less h b f k = let e = tree_size h in shorter h.shape h.even b (subst (λ z. z < 2 ^ b) (sym e) f) (omega arith)

  -- two lists of one tree are as long
  pub same_length : {l : Tree O} {m : Pooled T} {order : T → T → Ordering} {tag : T → ℕ} {rs : List Ref} {by : T → T → Ordering} {key : T → ℕ} {us : List Ref}
      → IsTree l m order tag rs → IsTree l m by key us → length rs ≡ length us
  same_length {l} {m} h k = sym (tree_size h)
      ∙ ap forks (same_tree m l.slot l.root h.shape k.shape h.rooted k.rooted) ∙ tree_size k

  -- of a tree with a known node
  pub bound_node : {l : Tree O} {m : Pooled T} {order by : T → T → Ordering} {tag key : T → ℕ} {rs : List Ref} (h : IsTree l m order tag rs)
      (xs : List Ref) (x : Ref) (ys : List Ref) → IsTree l m by key (xs ++ x ∷ ys) → (b : ℕ) → length rs < 2 ^ b → height h.shape + 1 ≤ 2 * b
  bound_node h xs x ys k b f = let long = same_length h k in let parts = length-append xs (x ∷ ys) in bound_less h b f (omega arith)

  -- what is past a probe stays so along its nodes
  pub steady_in : {l : Tree O} {m : Pooled T} {order : T → T → Ordering} {tag : T → ℕ} {rs : List Ref} (is_upper : Bool) (place : T → Ordering)
      → IsMonotone order place → (h : IsTree l m order tag rs) → IsSteady (is_past_node is_upper place m) (nodes h.shape)
  steady_in {l} {m} {order} is_upper place mono h = steady order place mono is_upper m l.slot (nodes h.shape) (rising_in h)

  -- a search for a probe may begin at the root
  pub seeks_root : {l : Tree O} {m : Pooled T} {order : T → T → Ordering} {tag : T → ℕ} {rs : List Ref} (is_upper : Bool) (place : T → Ordering)
      → IsMonotone order place → IsTree l m order tag rs
      → (t : BinaryTree) × IsRooted m l.slot l.root t × AreTagged tag m l.slot (nodes t) × IsSteady (is_past_node is_upper place m) (nodes t)
  seeks_root {l} {m} {order} is_upper place mono h =
      (h.shape, h.rooted, tagged_in h, steady_in is_upper place mono h)

  -- and so may one that counts what it passes
  pub ranks_root : {l : Tree O} {m : Pooled T} {order : T → T → Ordering} {tag : T → ℕ} {rs : List Ref} (is_upper : Bool) (place : T → Ordering)
      → IsMonotone order place → IsTree l m order tag rs
      → (t : BinaryTree) × IsRooted m l.slot l.root t × (forks t < 2 ^ 32) × AreTagged tag m l.slot (nodes t) × IsSteady (is_past_node is_upper place m) (nodes t)
  ranks_root {l} {m} {order} is_upper place mono h =
      (h.shape, h.rooted, (can_take h).fits, tagged_in h, steady_in is_upper place mono h)

  -- a walk may begin at the root
  pub enters_root : {l : Tree O} {m : Pooled T} {order : T → T → Ordering} {tag : T → ℕ} {rs : List Ref} (h : IsTree l m order tag rs) (d : Direction)
      → Enters m l.slot d (height h.shape) [] l.root [] h.shape
  enters_root h d =
      let a = tree_size h in let f = h.fits in
      record { goes = record { path_is = refl; pending = tt }; rooted = h.rooted; room = omega arith; low = low_enough h.shape h.even (omega arith) }
