-- the indexes that are left say what all say
use Rattle.std.proofs.Common.{◌≡◌, drop}
use Rattle.std.specs.declared.option.Option.TheVariants.{Some}
use Rattle.mi_model.specs.Conflict.{conflict_from, conflict}
use Rattle.mi_container.specs.Data.{as_table}
use Rattle.mi_multi.proofs.multi.MultiIndex.conflict_of_put.Given as goal

abbrev pub invariant-loop-index : goal.invariant-loop-index
invariant-loop-index l =
    conflict_from l.index (drop l.index l.self.shape.indexes) (as_table l.self.plain).rows l.row (Some l.id)
    ≡ conflict l.self.shape (as_table l.self.plain) l.row (Some l.id)
