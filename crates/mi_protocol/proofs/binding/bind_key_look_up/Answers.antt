-- The answer or refusal is that of the definitions, and what is answered fits the catalog.
use Rattle.mi_request.specs.declared.request.Request.TheVariants as request
use Rattle.mi_protocol.specs.declared.command.Command.TheVariants as command
use Rattle.mi_protocol.proofs.BindingLemmas.{bound-fits-catalog, bound-plain}
use Rattle.mi_protocol.proofs.binding.bind_key_look_up.Goals as goal

pub returns-clause-fits : goal.returns-clause-fits
returns-clause-fits c =
    bound-fits-catalog command.KeyLookUp c.args.catalog.now (request.KeyLookUp c.args.table c.args.look_up) c.named_key_look_up.result c.keeps_rules.ensures c.named_key_look_up.ensures

pub returns-clause-refusal : goal.returns-clause-refusal
returns-clause-refusal c =
    bound-plain command.KeyLookUp c.args.catalog.now (request.KeyLookUp c.args.table c.args.look_up) c.named_key_look_up.result c.keeps_rules.ensures c.named_key_look_up.ensures
