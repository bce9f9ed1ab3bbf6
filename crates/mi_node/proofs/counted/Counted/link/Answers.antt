-- One read more is counted for the link that is read.
use Rattle.std.proofs.Common.{ap, arith}
use Rattle.mi_node.specs.Counted.{CountedPool}
use Rattle.mi_node.proofs.counted.Counted.link.Goals as goal

pub returns-clause-reads : goal.returns-clause-reads
returns-clause-reads g c =
    let was = ap (λ (p : CountedPool g.row.T.Denot). p.reads) c.self.view_is in omega (arith, was, c.tick.ensures)
