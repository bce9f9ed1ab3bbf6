-- what the parts that are left put into the hash is what all of them put into it
use Rattle.std.proofs.Common.{◌≡◌, drop}
use Rattle.std.specs.Hash.DefaultHasher.{initial}
use Rattle.mi_value.specs.Hash.{after_values, key_values}
use Rattle.mi_value.proofs.record.Record.key_hash.Given as goal

abbrev pub invariant-loop-part : goal.invariant-loop-part
invariant-loop-part l = after_values l.state (key_values (drop l.part-index l.parts) l.self) ≡ after_values initial (key_values l.parts l.self)
