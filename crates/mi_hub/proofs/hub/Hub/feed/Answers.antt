-- The lines that end in the piece are answered, and the connection keeps the rest.
use Rattle.mi_hub.proofs.RunLemmas.{piece_done, piece_failed}
use Rattle.mi_hub.specs.Watching.{Writes}
use Rattle.mi_hub.proofs.HolderLemmas.{lines_holder, fed_holder, fed_leaves}
use Rattle.mi_hub.proofs.hub.Hub.feed.Goals as goal

pub invariant_of-self : goal.invariant_of-self
invariant_of-self g c =
    fed_holder c.args.conn c.in-Some.at c.args.self.now c.self.inside.executor c.self.inside.connections.items c.self.view_is c.in-Some.ensures
    c.index_mut.result.now c.index_mut.ensures.value c.serve_piece.new.rest c.serve_piece.new.served.holder
    (lines_holder c.args.conn c.in-Some.at c.args.self.now c.self.inside.executor c.self.inside.connections.items c.self.view_is c.in-Some.ensures
    (Writes g.W.Write.contents c.args.writer.now c.serve_piece.new.writer) (Writes g.W.Write.contents c.args.writer.now c.serve_piece.new.writer)
    c.serve_piece.new.served _ c.serve_piece.result c.serve_piece.ensures.ok c.serve_piece.ensures.err c.self.invariant)

pub invariant_of-self-in-Err : goal.invariant_of-self-in-Err
invariant_of-self-in-Err g c =
    fed_holder c.args.conn c.in-Some.at c.args.self.now c.self.inside.executor c.self.inside.connections.items c.self.view_is c.in-Some.ensures
    c.index_mut.result.now c.index_mut.ensures.value c.serve_piece.new.rest c.serve_piece.new.served.holder
    (lines_holder c.args.conn c.in-Some.at c.args.self.now c.self.inside.executor c.self.inside.connections.items c.self.view_is c.in-Some.ensures
    (Writes g.W.Write.contents c.args.writer.now c.serve_piece.new.writer) (Writes g.W.Write.contents c.args.writer.now c.serve_piece.new.writer)
    c.serve_piece.new.served _ c.serve_piece.result c.serve_piece.ensures.ok c.serve_piece.ensures.err c.self.invariant)

pub leave-requires-clause-there : goal.leave-requires-clause-there
leave-requires-clause-there g c =
    fed_leaves c.args.conn c.in-Some.at c.args.self.now c.self.inside.executor c.self.inside.connections.items c.self.view_is c.in-Some.ensures
    c.index_mut.result.now c.index_mut.ensures.value c.serve_piece.new.rest

pub returns-in-Ok-clause-ok : goal.returns-in-Ok-clause-ok
returns-in-Ok-clause-ok g c =
    let done = c.in-Ok.ensures.ok in
    (done.0, done.1, piece_done _ _ _ _ _ _ _ _ _ _ c.self.view_is c.in-Some.ensures c.index_mut.ensures.value done.2 c.in-Ok.ensures.rest)

pub returns-in-Err-clause-write : goal.returns-in-Err-clause-write
returns-in-Err-clause-write g c = λ _.
    let cut = c.in-Err.ensures.err in
    (cut.0, cut.1, piece_failed _ _ _ _ _ _ _ _ _ _ _ c.self.view_is c.in-Some.ensures c.index_mut.ensures.value cut.2 c.leave.ensures)
