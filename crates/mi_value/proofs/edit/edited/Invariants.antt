-- what the edits that are left make of the record so far is what all make of it
use Rattle.std.proofs.Common.{◌≡◌, drop, map}
use Rattle.mi_value.specs.Edits as meaning
use Rattle.mi_value.specs.Lent.{lent}
use Rattle.mi_value.proofs.edit.edited.Given as goal

abbrev pub invariant-loop-edit : goal.invariant-loop-edit
invariant-loop-edit l = meaning.apply (drop l.edit-index l.edits) (map lent l.values) ≡ meaning.apply l.edits (map lent l.fn.values)
