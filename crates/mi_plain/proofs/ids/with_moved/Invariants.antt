-- the lists so far, and what becomes of the rest, are what becomes of all
use Rattle.std.proofs.Common.{◌≡◌, ◌++◌, drop}
use Rattle.mi_model.specs.Change.{moved}
use Rattle.mi_plain.proofs.ids.with_moved.Given as goal

abbrev pub invariant-loop-i : goal.invariant-loop-i
invariant-loop-i l = l.all.items ++ moved (drop l.i l.indexes) l.old l.new l.e (drop l.i l.lists) ≡ moved l.indexes l.old l.new l.e l.lists
