-- The nodes ahead of the first that is past the probe stand on the path and in their far sides.
use Rattle.std.proofs.Common.{◌≡◌, ℕ, suc, ◌+◌, ◌<◌, List, ◌∷◌, ◌++◌, length, Bool, refl, ap, sym, ◌∙◌, subst, arith}
use Rattle.std.specs.List.{position_or_len}
use Rattle.std.specs.declared.cmp.Ordering.{Ordering}
use Rattle.mi_node.specs.Pool.{Pooled}
use Rattle.mi_node.specs.Refs.{Ref}
use Rattle.mi_node.specs.declared.link.Link.{Link}
use Rattle.mi_tree.specs.BinaryTree.{nodes}
use Rattle.mi_tree.specs.Sorted.{AreTagged}
use Rattle.mi_tree.specs.Probed.{is_past_node, IsSteady}
use Rattle.mi_tree.specs.Walking.{ahead, beyond_place}
use Rattle.mi_tree.specs.declared.walk.TheConstants.{MAX_LEVELS}
use Rattle.mi_tree.proofs.BinaryTreeLemmas.{slot-moved}
use Rattle.mi_tree.proofs.LookUpLemmas.{past_read, steady_left, steady_right}
use Rattle.mi_tree.proofs.SortedLemmas.{tagged_read, tagged_left, tagged_right}
use Rattle.mi_tree.proofs.ProbeRankLemmas.{place_left, place_right, place_within}
use Rattle.mi_tree.proofs.WalkLemmas.{entered, enters_left, enters_right, enters_lower, goes_moved, path_left, path_right}
use Rattle.mi_tree.proofs.walk.+seek_down.Given.{Over}
use Rattle.mi_tree.proofs.walk.+seek_down.Goals.{In-Some, After-is_past}
use Rattle.mi_tree.proofs.walk.+seek_down.Goals as goal

module _ (g : Over) (t : ℕ) (c : In-Some g t) where
  -- there is room on the path for one more node
  room : length c.args.path.now.items < MAX_LEVELS
  room = (entered c.requires.way.3 c.in-Some.is refl).room

module _ (g : Over) (t : ℕ) (c : After-is_past g t) where
  -- which nodes are past the probe
  abbrev passes : Ref → Bool
  passes = is_past_node c.args.sought.now.is_upper (λ (x : g.row.T.Denot). g.O.NodeOrder.place c.args.order.now x c.args.sought.now.probe) c.args.p.now.pool

  -- the answer is that of the node
  answer_is : passes c.in-Some.node ≡ c.is_past.result
  answer_is = past_read c.args.sought.now.is_upper (λ (x : g.row.T.Denot). g.O.NodeOrder.place c.args.order.now x c.args.sought.now.probe) c.in-Some.node
      c.link-link.ensures.pool (entered c.requires.way.3 c.in-Some.is c.link-link.ensures.link).held c.compare_sought-side.ensures.result c.is_past.ensures

pub compare_sought-side-requires-clause-node : goal.compare_sought-side-requires-clause-node
compare_sought-side-requires-clause-node g t c =
    let w = c.requires.way in let i = c.link-link.ensures.link in let m = c.args.p.now.pool in
    let tag = g.O.NodeOrder.tag_of c.args.order.now in let on = entered w.3 c.in-Some.is i in
    tagged_read tag c.args.slot c.in-Some.node c.link-link.ensures.pool (ap (λ (z : Link). z.tag) i) on.held
    (tagged_right tag m c.args.slot (nodes on.left) (c.in-Some.node ∷ nodes on.right) (subst (λ k. AreTagged tag m c.args.slot (nodes k)) on.is w.4)).0

pub push_if-requires : goal.push_if-requires
push_if-requires g t c = room g t (goal.at.push_if-requires g t c).In-Some

pub push_if-requires-else-is_past : goal.push_if-requires-else-is_past
push_if-requires-else-is_past g t c = room g t (goal.at.push_if-requires-else-is_past g t c).In-Some

module _ (g : Over) (t : ℕ) (c : After-is_past g t) where
  abbrev place : g.row.T.Denot → Ordering
  place = λ (x : g.row.T.Denot). g.O.NodeOrder.place c.args.order.now x c.args.sought.now.probe

  abbrev tag : g.row.T.Denot → ℕ
  tag = g.O.NodeOrder.tag_of c.args.order.now

  -- which nodes are past the probe, in the pool that was read
  abbrev passes_now : Ref → Bool
  passes_now = is_past_node c.args.sought.now.is_upper place c.link-link.new.self.pool

  passes_same : passes_now ≡ passes g t c
  passes_same = ap (is_past_node c.args.sought.now.is_upper place) c.link-link.ensures.pool

  -- what the path into a side asks, in that pool
  moved_on : (rs : List Ref) → AreTagged tag c.args.p.now.pool c.args.slot rs → IsSteady (passes g t c) rs
      → AreTagged tag c.link-link.new.self.pool c.args.slot rs × IsSteady passes_now rs
  moved_on rs tags up =
      subst (λ (z : Pooled g.row.T.Denot). AreTagged tag z c.args.slot rs × IsSteady (is_past_node c.args.sought.now.is_upper place z) rs)
      (sym c.link-link.ensures.pool) (tags, up)

pub seek_down-requires : goal.seek_down-requires
seek_down-requires g t c κs within =
    let o = goal.at.seek_down-requires g t c in let a = o.After-is_past in let w = c.requires.way in let same = c.link-link.ensures.pool in
    let on = entered w.3 c.in-Some.is c.link-link.ensures.link in let falls = enters_lower c.args.direction on same c.in-Some.is in
    let into = enters_left c.args.direction on same c.is_ascending.ensures c.push_if.ensures in let behind = c.in-Some.node ∷ nodes on.right in
    let tags = subst (λ k. AreTagged (tag g t a) c.args.p.now.pool c.args.slot (nodes k)) on.is w.4 in
    let up = subst (λ k. IsSteady (passes g t a) (nodes k)) on.is w.5 in
    let both = moved_on g t a (nodes on.left) (tagged_left (tag g t a) c.args.p.now.pool c.args.slot (nodes on.left) behind tags)
    (steady_left (passes g t a) (nodes on.left) behind up) in (
      omega (arith, c.decreases, falls.0),
      (within.0, (within.1, (slot-moved c.args.slot same c.requires.slot, (c.requires.probe, (c.requires.decided, (w.0, _, on.left, into, both.0, both.1)))))),
    )

pub seek_down-requires-else-is_past : goal.seek_down-requires-else-is_past
seek_down-requires-else-is_past g t c κs within =
    let o = goal.at.seek_down-requires-else-is_past g t c in let a = o.After-is_past in let w = c.requires.way in let same = c.link-link.ensures.pool in
    let on = entered w.3 c.in-Some.is c.link-link.ensures.link in let falls = enters_lower c.args.direction on same c.in-Some.is in
    let into = enters_right c.args.direction on same c.is_ascending-else-is_past.ensures c.push_if-else-is_past.ensures in
    let behind = c.in-Some.node ∷ nodes on.right in
    let tags = subst (λ k. AreTagged (tag g t a) c.args.p.now.pool c.args.slot (nodes k)) on.is w.4 in
    let up = subst (λ k. IsSteady (passes g t a) (nodes k)) on.is w.5 in
    let both = moved_on g t a (nodes on.right) (tagged_right (tag g t a) c.args.p.now.pool c.args.slot (nodes on.left) behind tags).1
    (steady_right (passes g t a) (nodes on.left) behind up).1 in (
      omega (arith, c.decreases, falls.1),
      (within.0, (within.1, (slot-moved c.args.slot same c.requires.slot, (c.requires.probe, (c.requires.decided, (w.0, _, on.right, into, both.0, both.1)))))),
    )

pub returns-then-is_past-clause-way : goal.returns-then-is_past-clause-way
returns-then-is_past-clause-way g t c levels xs u h up =
    let o = goal.at.returns-then-is_past-clause-way g t c in let a = o.After-is_past in let same = c.link-link.ensures.pool in let d = c.args.direction in
    let on = entered h c.in-Some.is c.link-link.ensures.link in let f = passes g t a in let x = c.in-Some.node in
    let here = answer_is g t a ∙ c.if-is_past.true in let into = enters_left d on same c.is_ascending.ensures c.push_if.ensures in
    let rises = steady_left f (nodes on.left) (x ∷ nodes on.right) (subst (λ k. IsSteady f (nodes k)) on.is up) in
    let far = c.seek_down.ensures.way levels _ on.left into (subst (λ k. IsSteady k (nodes on.left)) (sym (passes_same g t a)) rises) in
    let there : position_or_len (passes_now g t a) (nodes on.left) ≡ position_or_len f (nodes u) =
    ap (λ k. position_or_len k (nodes on.left)) (passes_same g t a)
    ∙ sym (ap (λ k. position_or_len f (nodes k)) on.is ∙ place_left f (nodes on.left) x (nodes on.right) here) in (
      far.0,
      goes_moved same far.1,
      path_left d on.left x on.right u xs far.0 _ on.is (place_within (passes_now g t a) (nodes on.left)) far.2
          ∙ ap (λ k. beyond_place d k (nodes u) ++ ahead d xs) there,
    )

pub returns-else-is_past-clause-way : goal.returns-else-is_past-clause-way
returns-else-is_past-clause-way g t c levels xs u h up =
    let o = goal.at.returns-else-is_past-clause-way g t c in let a = o.After-is_past in let same = c.link-link.ensures.pool in let d = c.args.direction in
    let on = entered h c.in-Some.is c.link-link.ensures.link in let f = passes g t a in let x = c.in-Some.node in
    let here = answer_is g t a ∙ c.if-is_past.false in
    let into = enters_right d on same c.is_ascending-else-is_past.ensures c.push_if-else-is_past.ensures in
    let all = subst (λ k. IsSteady f (nodes k)) on.is up in
    let rises = (steady_right f (nodes on.left) (x ∷ nodes on.right) all).1 in
    let far = c.seek_down-else-is_past.ensures.way levels _ on.right into (subst (λ k. IsSteady k (nodes on.right)) (sym (passes_same g t a)) rises) in
    let k = position_or_len (passes_now g t a) (nodes on.right) in
    let there : length (nodes on.left) + suc k ≡ position_or_len f (nodes u) =
    sym (ap (λ z. position_or_len f (nodes z)) on.is ∙ place_right f (nodes on.left) x (nodes on.right) here all
    ∙ (let same_k : position_or_len f (nodes on.right) ≡ k = ap (λ z. position_or_len z (nodes on.right)) (sym (passes_same g t a)) in omega arith)) in (
      far.0,
      goes_moved same far.1,
      path_right d on.left x on.right u xs far.0 (length (nodes on.left) + suc k) k on.is refl far.2
          ∙ ap (λ z. beyond_place d z (nodes u) ++ ahead d xs) there,
    )
