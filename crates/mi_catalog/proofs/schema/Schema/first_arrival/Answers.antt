-- The rules say so.
use Rattle.mi_catalog.specs.contracts.schema.Schema.{the_view}
use Rattle.mi_catalog.proofs.RuleLaws.{in_limits}
use Rattle.mi_catalog.proofs.schema.Schema.first_arrival.Goals as goal

pub returns-clause-within : goal.returns-clause-within
returns-clause-within c = (in_limits (the_view c.self.inside) c.self.invariant).first_arrival
