-- By the kind of the index.
use Rattle.std.proofs.Common.{subst}
use Rattle.mi_index.specs.Standing.{Stands}
use Rattle.mi_index.specs.declared.structure.Structure.{Structure}
use Rattle.mi_index.proofs.structure.Structure.walk_range.Goals as goal

pub returns-in-Sorted-clause-reads : goal.returns-in-Sorted-clause-reads
returns-in-Sorted-clause-reads c rs h b l =
    c.rows_between.ensures.reads rs (subst (λ (x : Structure). Stands x c.args.p.now.pool rs) c.in-Sorted.is h) b l
