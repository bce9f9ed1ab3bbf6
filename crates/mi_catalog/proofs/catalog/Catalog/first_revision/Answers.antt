-- The rules say so.
use Rattle.mi_catalog.specs.contracts.catalog.Catalog.{the_view}
use Rattle.mi_catalog.proofs.RuleLaws.{revision_in_limits}
use Rattle.mi_catalog.proofs.catalog.Catalog.first_revision.Goals as goal

pub returns-clause-within : goal.returns-clause-within
returns-clause-within c = revision_in_limits (the_view c.self.inside) c.self.invariant
