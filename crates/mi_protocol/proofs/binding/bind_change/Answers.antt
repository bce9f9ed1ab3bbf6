-- The answer or refusal is that of the definitions, and what is answered fits the catalog.
use Rattle.mi_request.specs.declared.request.Request.TheVariants as request
use Rattle.mi_protocol.specs.declared.command.Command.TheVariants as command
use Rattle.mi_protocol.proofs.BindingLemmas.{bound-fits-catalog, bound-plain}
use Rattle.mi_protocol.proofs.binding.bind_change.Goals as goal

pub returns-clause-fits : goal.returns-clause-fits
returns-clause-fits c =
    bound-fits-catalog command.Change c.args.catalog.now (request.Change c.args.table c.args.change) c.named_change.result c.keeps_rules.ensures c.named_change.ensures

pub returns-clause-refusal : goal.returns-clause-refusal
returns-clause-refusal c =
    bound-plain command.Change c.args.catalog.now (request.Change c.args.table c.args.change) c.named_change.result c.keeps_rules.ensures c.named_change.ensures
