-- What a change tells is put as its text, over the catalog that it leaves.
use Rattle.std.proofs.Common.{rules}
use Rattle.mi_protocol.specs.Output.{PutOrMemory}
use Rattle.mi_protocol.specs.Replies.{said}
use Rattle.mi_commands.proofs.ToldLemmas.{change_put}
use Rattle.mi_commands.proofs.executor.Executor.answer_change.Goals as goal

pub returns : goal.returns
returns g c =
    let told = said c.change-outcome.result.reply in
    let put : PutOrMemory c.change-outcome.new.self.database.catalog told c.put.new.self = search rules in
    change_put c.args.self.now c.change-outcome.new.self c.args.table c.args.change told c.put.new.self c.change-outcome.result.changed
    c.change-outcome.ensures.told put c.change-outcome.ensures.changed
