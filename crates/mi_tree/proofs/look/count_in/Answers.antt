-- The path down until it parts; from there each side is asked alone.
use Rattle.std.proofs.Common.{◌≡◌, ◌+◌, ◌<◌, ◌≤◌, Bool, true, false, refl, sym, ap, ◌∙◌, subst, arith}
use Rattle.std.specs.List.{position_or_len}
use Rattle.std.specs.declared.cmp.Ordering.{Ordering}
use Rattle.mi_node.specs.Pool.{Pooled, IsHeld, link_of}
use Rattle.mi_node.specs.declared.link.Link.{Link}
use Rattle.mi_tree.specs.BinaryTree.{BinaryTree, IsRooted, nodes, forks, height, size_at}
use Rattle.mi_tree.specs.Sorted.{AreTagged}
use Rattle.mi_tree.specs.Probed.{past, is_past_node, IsSteady}
use Rattle.mi_tree.proofs.BinaryTreeLemmas.{lower-moved}
use Rattle.mi_tree.proofs.SortedLemmas.{tagged_read}
use Rattle.mi_tree.proofs.LookUpLemmas.{past_read}
use Rattle.mi_tree.proofs.CountLemmas.{part_start, part_held, part_tag, part_lower, part_left, part_right, part_back, part_forth}
use Rattle.mi_tree.proofs.CountLemmas.{part_fits, part_count, part_reads, part_steps, part_end}
use Rattle.mi_tree.proofs.look.count_in.Given.{Over}
use Rattle.mi_tree.proofs.look.count_in.Goals.{After-link-link, After-compare_sought}
use Rattle.mi_tree.proofs.look.count_in.Goals as goal

module _ (g : Over) (c : After-link-link g) where
  -- the pool that was read is as it was at the start
  pool_is : c.link-link.new.self.pool ≡ c.args.p.now.pool
  pool_is = c.link-link.ensures.pool ∙ c.loop-at.invariant.0

  -- the link that was read is the node's
  link_is : c.link-link.result ≡ link_of c.args.p.now.pool c.in-Some.node.name c.args.slot
  link_is = c.link-link.ensures.link ∙ ap (λ (z : Pooled g.row.T.Denot). link_of z c.in-Some.node.name c.args.slot) c.loop-at.invariant.0

module _ (g : Over) (c : After-compare_sought g) where
  abbrev place : g.row.T.Denot → Ordering
  place = λ (x : g.row.T.Denot). g.O.NodeOrder.place c.args.order.now x c.args.sought.now.probe

  -- where the node stands beside both places
  side_is : (is_upper : Bool) → c.link-link.new.self.pool ≡ c.args.p.now.pool
      → is_past_node is_upper place c.args.p.now.pool c.in-Some.node ≡ past is_upper c.compare_sought.result
  side_is is_upper same =
      past_read is_upper place c.in-Some.node same (part_held c.loop-at.invariant.1 c.in-Some.is refl) c.compare_sought.ensures.result refl

pub loop-at-init : goal.loop-at-init
loop-at-init g c = let v = c.args in let w = c.requires.tree in (refl, part_start w.0 w.1 w.2 w.3 w.4 w.5 v.p.now.reads v.steps.now.count)

pub link-link-requires-clause-held : goal.link-link-requires-clause-held
link-link-requires-clause-held g c =
    subst (λ (z : Pooled g.row.T.Denot). IsHeld z c.in-Some.node) (sym c.loop-at.invariant.0) (part_held c.loop-at.invariant.1 c.in-Some.is refl)

pub compare_sought-requires-clause-node : goal.compare_sought-requires-clause-node
compare_sought-requires-clause-node g c =
    let o = (goal.at.compare_sought-requires-clause-node g c).After-link-link in let h = c.loop-at.invariant.1 in
    tagged_read (g.O.NodeOrder.tag_of c.args.order.now) c.args.slot c.in-Some.node (pool_is g o) (ap (λ (k : Link). k.tag) (link_is g o))
    (part_held h c.in-Some.is (link_is g o)) (part_tag h c.in-Some.is (link_is g o))

pub loop-at-smaller-in-Less : goal.loop-at-smaller-in-Less
loop-at-smaller-in-Less g c =
    let o = (goal.at.loop-at-smaller-in-Less g c).After-link-link in
    lower-moved _ _ _ _ _ (pool_is g o) c.loop-at.invariant.0 (part_lower c.loop-at.invariant.1 c.in-Some.is (link_is g o)).1

pub loop-at-preserved-in-Less : goal.loop-at-preserved-in-Less
loop-at-preserved-in-Less g c =
    let o = goal.at.loop-at-preserved-in-Less g c in let same = pool_is g o.After-link-link in let side = side_is g o.After-compare_sought in (
      same,
      part_right c.loop-at.invariant.1 c.in-Some.is (link_is g o.After-link-link) c.link-link.ensures.reads c.compare_sought.ensures.steps
          (side false same ∙ ap (past false) c.in-Less.is) (side true same ∙ ap (past true) c.in-Less.is),
    )

pub loop-at-smaller : goal.loop-at-smaller
loop-at-smaller g c =
    let o = (goal.at.loop-at-smaller g c).After-link-link in
    lower-moved _ _ _ _ _ (pool_is g o) c.loop-at.invariant.0 (part_lower c.loop-at.invariant.1 c.in-Some.is (link_is g o)).0

pub loop-at-preserved : goal.loop-at-preserved
loop-at-preserved g c =
    let o = goal.at.loop-at-preserved g c in let same = pool_is g o.After-link-link in let side = side_is g o.After-compare_sought in (
      same,
      part_left c.loop-at.invariant.1 c.in-Some.is (link_is g o.After-link-link) c.link-link.ensures.reads c.compare_sought.ensures.steps
          (side false same ∙ ap (past false) c.in-Greater.is) (side true same ∙ ap (past true) c.in-Greater.is),
    )

pub count_beside-requires-clause-back : goal.count_beside-requires-clause-back
count_beside-requires-clause-back g c =
    let o = goal.at.count_beside-requires-clause-back g c in
    subst (λ (z : Pooled g.row.T.Denot). (A : BinaryTree) × IsRooted z c.args.slot c.link-link.result.back A
    × AreTagged (g.O.NodeOrder.tag_of c.args.order.now) z c.args.slot (nodes A) × IsSteady (is_past_node false (place g o.After-compare_sought) z) (nodes A))
    (sym (pool_is g o.After-link-link)) (part_back c.loop-at.invariant.1 c.in-Some.is (link_is g o.After-link-link))

pub count_beside-requires-clause-forth : goal.count_beside-requires-clause-forth
count_beside-requires-clause-forth g c =
    let o = goal.at.count_beside-requires-clause-forth g c in
    subst (λ (z : Pooled g.row.T.Denot). (A : BinaryTree) × IsRooted z c.args.slot c.link-link.result.forth A
    × AreTagged (g.O.NodeOrder.tag_of c.args.order.now) z c.args.slot (nodes A) × IsSteady (is_past_node true (place g o.After-compare_sought) z) (nodes A))
    (sym (pool_is g o.After-link-link)) (part_forth c.loop-at.invariant.1 c.in-Some.is (link_is g o.After-link-link))

pub count_beside-requires-clause-fits : goal.count_beside-requires-clause-fits
count_beside-requires-clause-fits g c =
    let o = goal.at.count_beside-requires-clause-fits g c in
    subst (λ (z : Pooled g.row.T.Denot). size_at z c.args.slot c.link-link.result.back + size_at z c.args.slot c.link-link.result.forth + 1 < 4294967296)
    (sym (pool_is g o.After-link-link)) (part_fits c.loop-at.invariant.1 c.in-Some.is (link_is g o.After-link-link))

pub returns-in-Equal-clause-count : goal.returns-in-Equal-clause-count
returns-in-Equal-clause-count g c =
    let o = goal.at.returns-in-Equal-clause-count g c in let same = pool_is g o.After-link-link in let side = side_is g o.After-compare_sought in
    let by = place g o.After-compare_sought in
    part_count c.loop-at.invariant.1 c.in-Some.is (link_is g o.After-link-link) c.count_beside.result
    (side false same ∙ ap (past false) c.in-Equal.is) (side true same ∙ ap (past true) c.in-Equal.is)
    (subst (λ (z : Pooled g.row.T.Denot). (A B : BinaryTree) → IsRooted z c.args.slot c.link-link.result.back A → IsRooted z c.args.slot c.link-link.result.forth B
    → c.count_beside.result + position_or_len (is_past_node false by z) (nodes A) ≡ forks A + 1 + position_or_len (is_past_node true by z) (nodes B))
    same c.count_beside.ensures.count)

pub returns-in-Equal-clause-reads : goal.returns-in-Equal-clause-reads
returns-in-Equal-clause-reads g c =
    let o = goal.at.returns-in-Equal-clause-reads g c in
    part_reads c.loop-at.invariant.1 c.in-Some.is (link_is g o.After-link-link) _ _ c.link-link.ensures.reads
    (subst (λ (z : Pooled g.row.T.Denot). (A B : BinaryTree) → IsRooted z c.args.slot c.link-link.result.back A → IsRooted z c.args.slot c.link-link.result.forth B
    → c.count_beside.new.p.reads ≤ c.link-link.new.self.reads + (height A + height B + 1)) (pool_is g o.After-link-link) c.count_beside.ensures.reads)

pub returns-in-Equal-clause-steps : goal.returns-in-Equal-clause-steps
returns-in-Equal-clause-steps g c =
    let o = goal.at.returns-in-Equal-clause-steps g c in
    part_steps c.loop-at.invariant.1 c.in-Some.is (link_is g o.After-link-link) _ _ c.compare_sought.ensures.steps
    (subst (λ (z : Pooled g.row.T.Denot). (A B : BinaryTree) → IsRooted z c.args.slot c.link-link.result.back A → IsRooted z c.args.slot c.link-link.result.forth B
    → c.count_beside.new.steps.count ≤ c.compare_sought.new.steps.count + (height A + height B)) (pool_is g o.After-link-link) c.count_beside.ensures.steps)

pub returns-in-Equal-clause-pool : goal.returns-in-Equal-clause-pool
returns-in-Equal-clause-pool g c =
    let o = goal.at.returns-in-Equal-clause-pool g c in c.count_beside.ensures.pool ∙ pool_is g o.After-link-link

pub returns-clause-count : goal.returns-clause-count
returns-clause-count g c t w = let e = (part_end c.loop-at.invariant.1 c.in_default.is t w).0 in omega arith

pub returns-clause-reads : goal.returns-clause-reads
returns-clause-reads g c t w = (part_end c.loop-at.invariant.1 c.in_default.is t w).1

pub returns-clause-steps : goal.returns-clause-steps
returns-clause-steps g c t w = (part_end c.loop-at.invariant.1 c.in_default.is t w).2
