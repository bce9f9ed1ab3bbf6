-- The rules of a schema: the index `id`, and fifteen others at most.
use Rattle.mi_index.proofs.OpeningLemmas.{some_index, few_indexes}
use Rattle.mi_index.proofs.nodes.at_most_sixteen.Goals as goal

pub returns-clause-some : goal.returns-clause-some
returns-clause-some c = some_index c.args.schema.now c.keeps_rules.ensures

pub returns-clause-few : goal.returns-clause-few
returns-clause-few c = few_indexes c.args.schema.now c.keeps_rules.ensures
