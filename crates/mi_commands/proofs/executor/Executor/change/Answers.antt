-- What can't have changed anything has changed nothing.
use Rattle.std.proofs.Common.{◌≡◌, sym, ◌∙◌, rules}
use Rattle.mi_protocol.specs.Replies.{said}
use Rattle.mi_protocol.specs.declared.command.Command.TheVariants as command
use Rattle.mi_commands.specs.Told.{tells_change}
use Rattle.mi_commands.proofs.ToldLemmas.{told_keeps}
use Rattle.mi_commands.proofs.executor.Executor.change.Goals as goal

pub returns-clause-kept : goal.returns-clause-kept
returns-clause-kept g c = λ h.
    let is : c.new.result.changed ≡ tells_change (said c.do_change.result) = search rules in
    told_keeps c.args.self.now c.do_change.new.self 0 (command.Change c.args.table c.args.change) (said c.do_change.result) c.do_change.ensures.told (sym is ∙ h)
