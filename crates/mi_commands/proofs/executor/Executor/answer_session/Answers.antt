-- What a command over sessions tells is put as its text, over the catalog that it leaves.
use Rattle.std.proofs.Common.{rules}
use Rattle.mi_protocol.specs.Output.{PutOrMemory}
use Rattle.mi_protocol.specs.Replies.{said}
use Rattle.mi_commands.proofs.ToldLemmas.{session_put}
use Rattle.mi_commands.proofs.executor.Executor.answer_session.Goals as goal

pub returns : goal.returns
returns g c =
    let told = said c.session-outcome.result.reply in
    let put : PutOrMemory c.session-outcome.new.self.database.catalog told c.put.new.self = search rules in
    session_put c.args.self.now c.session-outcome.new.self c.args.conn c.args.command told c.put.new.self c.session-outcome.result.changed
    c.session-outcome.ensures.told put c.session-outcome.ensures.changed
