-- what the values that are left put into the hash is what all of them put into it
use Rattle.std.proofs.Common.{◌≡◌, drop}
use Rattle.std.specs.Hash.DefaultHasher.{initial}
use Rattle.mi_value.specs.Hash.{after_values}
use Rattle.mi_value.proofs.hash.hash_values.Given as goal

abbrev pub invariant-loop-value : goal.invariant-loop-value
invariant-loop-value l = after_values l.state (drop l.value-index l.values) ≡ after_values initial l.values
