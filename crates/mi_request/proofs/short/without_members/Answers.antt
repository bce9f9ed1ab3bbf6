-- A command without members that is found has this line.
use Rattle.std.proofs.Common.{sym, ◌∙◌}
use Rattle.mi_request.proofs.ShortLemmas.{nullary_value}
use Rattle.mi_request.proofs.short.without_members.Goals as goal

pub returns-clause-value : goal.returns-clause-value
returns-clause-value c =
    nullary_value c.args.line.now c.in_ok-found.found c.command.result (sym c.of_line.ensures ∙ c.in_ok-found.was) c.command.ensures
