-- Without a port the input is served.
use Rattle.mi_program.proofs.EndingLemmas.{input_served}
use Rattle.mi_program.proofs.ServingLemmas.{serves_input}
use Rattle.mi_program.proofs.program.serve_database.Goals as goal

pub returns-in-None : goal.returns-in-None
returns-in-None g c =
    input_served g.I.Read.remaining g.O.Write.contents g.R.Stream.Read.remaining g.R.Stream.Write.contents (g.D.Sessions.state c.args.database)
    c.args.listen c.serve.result c.args.reader.now c.serve.new.reader c.args.writer.now c.serve.new.writer c.in-None.is
    (serves_input g.I.Read.remaining g.O.Write.contents (g.D.Sessions.state c.args.database) c.args.reader.now c.serve.new.reader c.args.writer.now
    c.serve.new.writer c.serve.result c.serve.ensures.ok c.serve.ensures.read c.serve.ensures.turns c.serve.ensures.write c.serve.ensures.memory
    c.serve.ensures.no_other)
