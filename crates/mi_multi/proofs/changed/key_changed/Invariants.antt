-- whether the parts that are left change the key is whether all do
use Rattle.std.proofs.Common.{◌≡◌, drop}
use Rattle.mi_multi.specs.Changed.{is_changed}
use Rattle.mi_multi.proofs.changed.key_changed.Given as goal

abbrev pub invariant-loop-part : goal.invariant-loop-part
invariant-loop-part l = is_changed (drop l.part-index l.parts) l.old l.new ≡ is_changed l.parts l.old l.new
