-- the indexes that are left say what all say
use Rattle.std.proofs.Common.{◌≡◌, drop}
use Rattle.mi_model.specs.Conflict as meaning
use Rattle.mi_plain.proofs.conflict.conflict.Given as goal

abbrev pub invariant-loop-x : goal.invariant-loop-x
invariant-loop-x l = meaning.conflict_from l.x (drop l.x l.indexes) l.rows l.row l.except ≡ meaning.conflict_from 1 (drop 1 l.indexes) l.rows l.row l.except
