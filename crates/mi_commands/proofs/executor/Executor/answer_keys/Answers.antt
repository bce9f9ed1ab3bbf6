-- What a look-up tells is put as its text, or memory is refused.
use Rattle.std.proofs.Common.{rules}
use Rattle.mi_model.specs.Database.{schema_of, table_of}
use Rattle.mi_protocol.specs.Output.{PutOrMemory}
use Rattle.mi_protocol.specs.Replies.{said}
use Rattle.mi_commands.specs.Performed.{key_looked}
use Rattle.mi_commands.proofs.ToldLemmas.{key_quiet, look_put}
use Rattle.mi_commands.proofs.executor.Executor.answer_keys.Goals as goal

pub returns : goal.returns
returns g c =
    let d = c.args.self.now.database in
    let n = c.args.table in
    let x = c.args.look_up.now in
    let put : PutOrMemory d.catalog (said c.look_by_keys-reply.result) c.put.new.self = search rules in
    look_put c.args.self.now (key_looked d n x) (said c.look_by_keys-reply.result) c.put.new.self (key_quiet n (schema_of d n) (table_of d n) x)
    c.look_by_keys-reply.ensures.told put
