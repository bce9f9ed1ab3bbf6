-- One line is asked, and its reply is written, or a front of it.
use Rattle.std.proofs.Common.{subst}
use Rattle.std.proofs.lemmas.Result.{on_ok_weaker, on_err_weaker}
use Rattle.mi_hub.specs.Watching.{Writes, WritesFront}
use Rattle.mi_hub.proofs.ServedLemmas.{served_one, cut_one}
use Rattle.mi_hub.proofs.serve.serve_line.Goals as goal

pub returns-clause-ok : goal.returns-clause-ok
returns-clause-ok g c =
    on_ok_weaker c.send.result
    (λ w. (_, subst (Writes g.W.Write.contents c.args.writer.now c.send.new.writer) c.line.ensures w, served_one _ _ _ _ _ c.answer.ensures)) c.send.ensures.ok

pub returns-clause-err : goal.returns-clause-err
returns-clause-err g c =
    on_err_weaker c.send.result
    (λ f. let front = subst (WritesFront g.W.Write.contents c.args.writer.now c.send.new.writer) c.line.ensures f in
    (_, front.2, cut_one _ _ _ _ _ front.0 c.answer.ensures front.1))
    c.send.ensures.err
