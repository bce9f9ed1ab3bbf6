-- the tables so far are opened
use Rattle.std.proofs.Common.{◌≡◌, map, take}
use Rattle.mi_model.specs.Table.{opened}
use Rattle.mi_plain.proofs.plain.open_tables.Given as goal

abbrev pub invariant-loop-i : goal.invariant-loop-i
invariant-loop-i l = l.new.items ≡ map opened (take l.i l.catalog.tables)
