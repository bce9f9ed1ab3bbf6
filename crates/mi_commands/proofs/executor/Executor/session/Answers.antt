-- What can't have changed anything has changed nothing.
use Rattle.std.proofs.Common.{◌≡◌, sym, ◌∙◌, rules}
use Rattle.mi_protocol.specs.Replies.{said}
use Rattle.mi_protocol.specs.declared.command.Command.TheVariants as command
use Rattle.mi_commands.specs.Told.{may_change}
use Rattle.mi_commands.proofs.ToldLemmas.{told_keeps}
use Rattle.mi_commands.proofs.executor.Executor.session.Goals as goal

pub returns-clause-kept : goal.returns-clause-kept
returns-clause-kept g c = λ h.
    let is : c.new.result.changed ≡ may_change (command.Session c.args.command) (said c.do_session.result) = search rules in
    told_keeps c.args.self.now c.do_session.new.self c.args.conn (command.Session c.args.command) (said c.do_session.result) c.do_session.ensures.told
    (sym is ∙ h)
