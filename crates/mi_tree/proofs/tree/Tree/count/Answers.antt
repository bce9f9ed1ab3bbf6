-- As many more nodes aren't behind the probe than are before it.
use Rattle.std.proofs.Common.{◌≡◌, true, false, length, ap, ◌∙◌, arith}
use Rattle.std.specs.List.{filter}
use Rattle.mi_tree.specs.Probed.{is_node_at}
use Rattle.mi_tree.specs.BinaryTree.{nodes}
use Rattle.mi_tree.proofs.CountLemmas.{count_between}
use Rattle.mi_tree.proofs.StandingLemmas.{can_take, tagged_in, steady_in, bound}
use Rattle.mi_tree.proofs.tree.Tree.count.Goals as goal

pub count_in-requires-clause-slot : goal.count_in-requires-clause-slot
count_in-requires-clause-slot g c = c.requires.1.has_slot

pub count_in-requires-clause-tree : goal.count_in-requires-clause-tree
count_in-requires-clause-tree g c =
    let v = c.args in let o = v.self.now.order in let h = c.requires.1 in let mono = g.met.O.NodeOrder.monotone o v.probe in
    let place = λ (x : g.row.T.Denot). g.O.NodeOrder.place o x v.probe in
    (h.shape, h.rooted, (can_take h).fits, tagged_in h, steady_in false place mono h, steady_in true place mono h)

pub returns-clause-count : goal.returns-clause-count
returns-clause-count g c rs h =
    let v = c.args in let o = v.self.now.order in let mono = g.met.O.NodeOrder.monotone o v.probe in
    let place = λ (x : g.row.T.Denot). g.O.NodeOrder.place o x v.probe in let m = v.p.now.pool in
    let k = c.count_in.ensures.count h.shape h.rooted in
    let j = count_between place m (nodes h.shape) (steady_in false place mono h) (steady_in true place mono h) in
    let all : c.count_in.result ≡ length (filter (is_node_at place m) (nodes h.shape)) = omega arith in
    all ∙ ap (λ z. length (filter (is_node_at place m) z)) h.nodes_are

pub returns-clause-reads : goal.returns-clause-reads
returns-clause-reads g c order tag rs h b f = let d = bound h b f in let k = c.count_in.ensures.reads h.shape h.rooted in omega arith

pub returns-clause-steps : goal.returns-clause-steps
returns-clause-steps g c order tag rs h b f = let d = bound h b f in let k = c.count_in.ensures.steps h.shape h.rooted in omega arith
