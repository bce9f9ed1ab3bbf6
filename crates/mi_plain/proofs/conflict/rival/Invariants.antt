-- the rows that are left say what all say
use Rattle.std.proofs.Common.{◌≡◌, drop}
use Rattle.mi_model.specs.Conflict as meaning
use Rattle.mi_plain.proofs.conflict.rival.Given as goal

abbrev pub invariant-loop-other : goal.invariant-loop-other
invariant-loop-other l = meaning.rival (drop l.other-index l.rows) l.parts l.row l.except ≡ meaning.rival l.rows l.parts l.row l.except
