-- What a look-up tells is put as its text, or memory is refused.
use Rattle.std.proofs.Common.{rules}
use Rattle.mi_model.specs.Database.{schema_of, table_of}
use Rattle.mi_protocol.specs.Output.{PutOrMemory}
use Rattle.mi_protocol.specs.Replies.{said}
use Rattle.mi_commands.specs.Performed.{number_looked}
use Rattle.mi_commands.proofs.ToldLemmas.{number_quiet, look_put}
use Rattle.mi_commands.proofs.executor.Executor.answer_numbers.Goals as goal

pub returns : goal.returns
returns g c =
    let d = c.args.self.now.database in
    let n = c.args.table in
    let x = c.args.look_up.now in
    let put : PutOrMemory d.catalog (said c.look_by_numbers-reply.result) c.put.new.self = search rules in
    look_put c.args.self.now (number_looked d n x) (said c.look_by_numbers-reply.result) c.put.new.self (number_quiet n (schema_of d n) (table_of d n) x)
    c.look_by_numbers-reply.ensures.told put
