-- The id stands in its place, and the index behind it.
use Rattle.std.proofs.Common.{codes, decimal, rules}
use Rattle.json.specs.Filled.{Placed}
use Rattle.mi_protocol.proofs.PutLemmas.{placed_five}
use Rattle.mi_protocol.proofs.reply.put_conflict.Goals as goal

pub returns-clause-text : goal.returns-clause-text
returns-clause-text c =
    let named : Placed c.put_number-begun.new.buf c.put_text-end.new.buf c.put_number-begun.result c.args.index.now c.put_text-end.result = search rules in
    placed_five c.args.buf.now c.put_number-begun.new.buf c.put_text-end.new.buf c.put_text.new.buf c.args.at c.put_number-begun.result c.put_text-end.result
    c.put_text.result (codes "{\"error\":\"unique\",\"id\":") (decimal c.args.id) (codes ",\"index\":\"") c.args.index.now c.args.after.now
    c.put_number-begun.ensures.text named c.put_text.ensures
