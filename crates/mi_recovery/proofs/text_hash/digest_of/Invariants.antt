use Rattle.std.proofs.Common.{◌≤◌, ◌-◌, take}
use Rattle.std.specs.Prelude.{IfSome}
use Rattle.sha2.specs.Hashers.{Holds256}
use Rattle.mi_recovery.proofs.text_hash.digest_of.Given as goal

-- what stands in front of this place is hashed
abbrev pub invariant-pieces : goal.invariant-pieces
invariant-pieces g l = record {
  hashed : IfSome (g.F.Device.contents l.fn.file) (λ bytes. Holds256 l.hasher (take l.at bytes));
  within : l.at ≤ l.size;
}

abbrev pub decreases-pieces : goal.decreases-pieces
decreases-pieces g l = l.size - l.at
