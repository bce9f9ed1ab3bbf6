-- How an index keeps the order of its rows.
use Rattle.mi_container.specs.Data.{Order}
use Rattle.mi_container.specs.Data.Order.{ById, ByKey, ByHash, Listed}
use Rattle.mi_multi.specs.declared.restoring.Keeping.{Keeping}
use Rattle.mi_multi.specs.declared.restoring.Keeping.TheVariants as keeping

-- by their ids, by stamps, or by a list of its own
abbrev pub keeping_of : Order → Keeping
keeping_of ById = keeping.Ids
keeping_of (ByKey ps) = keeping.Stamps
keeping_of (ByHash ps) = keeping.Stamps
keeping_of (Listed ids) = keeping.List
