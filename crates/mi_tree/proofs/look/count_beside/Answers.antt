-- What isn't before the probe on the left, the node itself, and what isn't behind it on the right.
use Rattle.std.proofs.Common.{◌≡◌, ◌+◌, ◌-◌, ◌<◌, ◌≤◌, true, false, ◌∙◌, arith}
use Rattle.std.specs.List.{position_or_len}
use Rattle.std.specs.declared.cmp.Ordering.{Ordering}
use Rattle.mi_tree.specs.BinaryTree.{BinaryTree, IsRooted, forks, nodes, size_at}
use Rattle.mi_tree.specs.Probed.{is_past_node}
use Rattle.mi_tree.proofs.BinaryTreeLemmas.{size-root}
use Rattle.mi_tree.proofs.CountLemmas.{asked_moved, told_moved, grown_moved, place_within_nodes}
use Rattle.mi_tree.proofs.look.count_beside.Given.{Over}
use Rattle.mi_tree.proofs.look.count_beside.Goals.{After-bound_rank_in-behind}
use Rattle.mi_tree.proofs.look.count_beside.Goals as goal

module _ (g : Over) (c : After-bound_rank_in-behind g) where
  abbrev place : g.row.T.Denot → Ordering
  place = λ (x : g.row.T.Denot). g.O.NodeOrder.place c.args.order.now x c.args.sought.now.probe

  pools : (c.bound_rank_in-before.new.p.pool ≡ c.args.p.now.pool) × (c.bound_rank_in-behind.new.p.pool ≡ c.args.p.now.pool)
  pools = let a = c.bound_rank_in-before.ensures.pool ∙ c.size-all.ensures.pool in (a, c.bound_rank_in-behind.ensures.pool ∙ a)

  before_is : (A : BinaryTree) → IsRooted c.args.p.now.pool c.args.slot c.args.back A
      → c.bound_rank_in-before.result ≡ position_or_len (is_past_node false place c.args.p.now.pool) (nodes A)
  before_is = told_moved c.args.slot (g.O.NodeOrder.tag_of c.args.order.now) place false c.args.back _ c.size-all.ensures.pool c.bound_rank_in-before.ensures.rank

  behind_is : (B : BinaryTree) → IsRooted c.args.p.now.pool c.args.slot c.args.forth B
      → c.bound_rank_in-behind.result ≡ position_or_len (is_past_node true place c.args.p.now.pool) (nodes B)
  behind_is = told_moved c.args.slot (g.O.NodeOrder.tag_of c.args.order.now) place true c.args.forth _ (pools).0 c.bound_rank_in-behind.ensures.rank

  -- of these two sides
  sums : (A B : BinaryTree) → IsRooted c.args.p.now.pool c.args.slot c.args.back A → IsRooted c.args.p.now.pool c.args.slot c.args.forth B
      → (c.bound_rank_in-before.result ≤ c.size-all.result) × (c.bound_rank_in-behind.result ≤ size_at c.args.p.now.pool c.args.slot c.args.forth)
      × (c.size-all.result ≡ forks A)
  sums A B h k =
      let m = c.args.p.now.pool in let s = c.args.slot in
      let a = before_is A h in let b = behind_is B k in let all = c.size-all.ensures.size in
      let i = size-root m s c.args.back A h in let j = size-root m s c.args.forth B k in
      let p = place_within_nodes (is_past_node false place m) A in let q = place_within_nodes (is_past_node true place m) B in
      (omega arith, omega arith, omega arith)

pub bound_rank_in-before-requires-clause-tree : goal.bound_rank_in-before-requires-clause-tree
bound_rank_in-before-requires-clause-tree g c =
    let w = c.requires.back in let f = c.requires.fits in
    let few : size_at c.args.p.now.pool c.args.slot c.args.back < 4294967296 = omega arith in
    asked_moved c.args.slot (g.O.NodeOrder.tag_of c.args.order.now) (λ (x : g.row.T.Denot). g.O.NodeOrder.place c.args.order.now x c.args.sought.now.probe)
    false c.args.back c.size-all.ensures.pool w.0 w.1 few w.2 w.3

pub bound_rank_in-behind-requires-clause-tree : goal.bound_rank_in-behind-requires-clause-tree
bound_rank_in-behind-requires-clause-tree g c =
    let w = c.requires.forth in let f = c.requires.fits in
    let few : size_at c.args.p.now.pool c.args.slot c.args.forth < 4294967296 = omega arith in
    asked_moved c.args.slot (g.O.NodeOrder.tag_of c.args.order.now) (λ (x : g.row.T.Denot). g.O.NodeOrder.place c.args.order.now x c.args.sought.now.probe)
    true c.args.forth (c.bound_rank_in-before.ensures.pool ∙ c.size-all.ensures.pool) w.0 w.1 few w.2 w.3

pub overflow_sub-result : goal.overflow_sub-result
overflow_sub-result g c = (sums g (goal.at.overflow_sub-result g c).After-bound_rank_in-behind c.requires.back.0 c.requires.forth.0 c.requires.back.1 c.requires.forth.1).0

pub overflow_add-result-2 : goal.overflow_add-result-2
overflow_add-result-2 g c =
    let w = sums g (goal.at.overflow_add-result-2 g c).After-bound_rank_in-behind c.requires.back.0 c.requires.forth.0 c.requires.back.1 c.requires.forth.1 in
    let f = c.requires.fits in let all = c.size-all.ensures.size in let a = w.0 in let b = w.1 in
    let most : c.size-all.result - c.bound_rank_in-before.result + 1 + c.bound_rank_in-behind.result < 4294967296 = omega arith in
    record { fits = most }

pub returns-clause-count : goal.returns-clause-count
returns-clause-count g c A B h k =
    let o = (goal.at.returns-clause-count g c).After-bound_rank_in-behind in let w = sums g o A B h k in
    let a = before_is g o A h in let b = behind_is g o B k in let p = w.0 in let q = w.2 in
    omega arith

pub returns-clause-reads : goal.returns-clause-reads
returns-clause-reads g c A B h k =
    let a = grown_moved c.args.slot c.args.back _ _ c.size-all.ensures.pool c.bound_rank_in-before.ensures.reads A h in
    let b = grown_moved c.args.slot c.args.forth _ _ (c.bound_rank_in-before.ensures.pool ∙ c.size-all.ensures.pool) c.bound_rank_in-behind.ensures.reads B k in
    let all = c.size-all.ensures.reads in
    omega arith

pub returns-clause-steps : goal.returns-clause-steps
returns-clause-steps g c A B h k =
    let a = grown_moved c.args.slot c.args.back _ _ c.size-all.ensures.pool c.bound_rank_in-before.ensures.steps A h in
    let b = grown_moved c.args.slot c.args.forth _ _ (c.bound_rank_in-before.ensures.pool ∙ c.size-all.ensures.pool) c.bound_rank_in-behind.ensures.steps B k in
    omega arith
