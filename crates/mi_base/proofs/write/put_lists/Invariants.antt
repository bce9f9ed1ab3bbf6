use Rattle.std.proofs.Common.{map, take}
use Rattle.mi_base.specs.Base.{list_data}
use Rattle.mi_base.specs.Writes.{Puts}
use Rattle.mi_base.proofs.write.put_lists.Given as goal

-- those so far are written
abbrev pub invariant-lists : goal.invariant-lists
invariant-lists g l = Puts (g.W.Write.contents l.fn.out) (g.W.Write.contents l.out) l.fn.digest l.digest (map (λ l. list_data l.items) (take l.list-index l.lists))
