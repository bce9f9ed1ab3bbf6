-- The hash is fed with the values of the key alone, so equal keys have one.
use Rattle.mi_value.proofs.HashLaws.{equal_hashes, key_hashes}
use Rattle.mi_value.proofs.laws.equal_keys_have_equal_hashes.Goals as goal

pub returns : goal.returns
returns c = record { records = equal_hashes; look_ups = key_hashes }
