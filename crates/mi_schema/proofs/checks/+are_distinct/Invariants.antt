use Rattle.std.proofs.Common.{length}
use Rattle.mi_schema.proofs.checks.+are_distinct.Given as goal

abbrev pub decreases-are_distinct : goal.decreases-are_distinct
decreases-are_distinct g l = length l.items.now
