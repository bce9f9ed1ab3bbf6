use Rattle.std.proofs.Common.{map, take}
use Rattle.mi_base.specs.Base.{row_data}
use Rattle.mi_base.specs.Writes.{Puts}
use Rattle.mi_base.proofs.write.put_rows.Given as goal

-- those so far are written
abbrev pub invariant-rows : goal.invariant-rows
invariant-rows g l = Puts (g.W.Write.contents l.fn.out) (g.W.Write.contents l.out) l.fn.digest l.digest (map row_data (take l.row-index l.rows))
