-- A node that stands in no list is gone, and the others are as they were.
use Rattle.std.proofs.Common.{sym, subst}
use Rattle.mi_index.specs.Pass.{AllStand}
use Rattle.mi_node.specs.Pool.{without}
use Rattle.mi_index.proofs.OtherNodeLemmas.{all_but, but_without}
use Rattle.mi_index.proofs.nodes.Nodes.free.Goals as goal

pub returns-clause-stand : goal.returns-clause-stand
returns-clause-stand c rss h out =
    let xs = c.args.self.now.structures.items in let m = c.args.self.now.pool in let k = c.args.node.name in
    subst (λ n. AllStand xs 0 n rss) (sym c.give-stored.ensures.pool) (all_but xs 0 k m (without m k) rss (but_without m k) out h)
