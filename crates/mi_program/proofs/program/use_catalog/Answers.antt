-- The tables of the catalog are served, or `ok` is written once it was read.
use Rattle.mi_program.proofs.EndingLemmas.{confirmed, tables_served}
use Rattle.mi_program.proofs.program.use_catalog.Goals as goal

pub returns-then-options : goal.returns-then-options
returns-then-options g c =
    confirmed g.I.Read.remaining g.O.Write.contents g.R.Stream.Read.remaining g.R.Stream.Write.contents c.args.catalog c.args.options.now.check
    c.args.options.now.listen c.confirm.result c.args.reader.now c.args.writer.now c.confirm.new.writer c.if-options.true c.confirm.ensures

pub returns-else-options : goal.returns-else-options
returns-else-options g c =
    tables_served g.I.Read.remaining g.O.Write.contents g.R.Stream.Read.remaining g.R.Stream.Write.contents c.args.catalog c.args.options.now.check
    c.args.options.now.listen c.serve_tables.result c.args.reader.now c.serve_tables.new.reader c.args.writer.now c.serve_tables.new.writer
    c.if-options.false c.serve_tables.ensures
