-- The last line is answered, and then the connection and what it held are gone.
use Rattle.mi_hub.proofs.RunLemmas.{close_failed}
use Rattle.mi_hub.specs.Watching.{Writes}
use Rattle.mi_hub.proofs.HolderLemmas.{lines_holder}
use Rattle.mi_hub.proofs.hub.Hub.close.Goals as goal

pub invariant_of-self : goal.invariant_of-self
invariant_of-self g c =
    lines_holder c.args.conn c.in-Some.at c.args.self.now c.self.inside.executor c.self.inside.connections.items c.self.view_is c.in-Some.ensures
    (Writes g.W.Write.contents c.args.writer.now c.serve_last-served.new.writer) (Writes g.W.Write.contents c.args.writer.now c.serve_last-served.new.writer)
    c.serve_last-served.new.served _ c.serve_last-served.result c.serve_last-served.ensures.ok c.serve_last-served.ensures.err c.self.invariant

pub returns-in-Err-clause-write : goal.returns-in-Err-clause-write
returns-in-Err-clause-write g c = λ _.
    let cut = c.in-Err.ensures.err in
    (cut.0, cut.1, close_failed _ _ _ _ _ _ _ _ _ c.self.view_is c.in-Some.ensures c.index.ensures cut.2 c.leave.ensures)
