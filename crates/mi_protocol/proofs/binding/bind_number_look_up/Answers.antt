-- The answer or refusal is that of the definitions, and what is answered fits the catalog.
use Rattle.mi_request.specs.declared.request.Request.TheVariants as request
use Rattle.mi_protocol.specs.Binding.{bound_command, of_table}
use Rattle.mi_protocol.specs.declared.command.Command.TheVariants as command
use Rattle.mi_protocol.proofs.BindingLemmas.{without, bound-fits-catalog, bound-plain}
use Rattle.mi_protocol.proofs.binding.bind_number_look_up.Goals as goal

pub returns-clause-fits : goal.returns-clause-fits
returns-clause-fits c =
    let asked = request.NumberLookUp c.args.table c.args.look_up in
    bound-fits-catalog command.NumberLookUp c.args.catalog.now asked c.named_number_look_up.result c.keeps_rules.ensures
    (without (of_table command.NumberLookUp c.named_number_look_up.result) (bound_command c.args.catalog.now asked) c.named_number_look_up.ensures)

pub returns-clause-refusal : goal.returns-clause-refusal
returns-clause-refusal c =
    let asked = request.NumberLookUp c.args.table c.args.look_up in
    bound-plain command.NumberLookUp c.args.catalog.now asked c.named_number_look_up.result c.keeps_rules.ensures
    (without (of_table command.NumberLookUp c.named_number_look_up.result) (bound_command c.args.catalog.now asked) c.named_number_look_up.ensures)
