-- the indexes that are left say what all say
use Rattle.std.proofs.Common.{◌≡◌, drop}
use Rattle.mi_model.specs.Conflict.{conflict_from, conflict}
use Rattle.mi_container.specs.Data.{as_table}
use Rattle.mi_multi.proofs.multi.MultiIndex.conflict.Given as goal

abbrev pub invariant-loop-index : goal.invariant-loop-index
invariant-loop-index l =
    conflict_from l.index (drop l.index l.self.shape.indexes) (as_table l.self.plain).rows l.row l.except
    ≡ conflict l.self.shape (as_table l.self.plain) l.row l.except
