-- Equal keys have the same values, and so equal hashes.
use Rattle.std.proofs.Common.{ap}
use Rattle.mi_value.proofs.HashLaws.{equal_keys, whole_key}
use Rattle.mi_order.specs.Hashing.{values_hash, EqualKeysHaveEqualHashes, KeysHaveTheirRecordsHash}

pub equal_hashes : EqualKeysHaveEqualHashes
equal_hashes secret ps r s h = ap (values_hash secret) (equal_keys ps r s h)

pub key_hashes : KeysHaveTheirRecordsHash
key_hashes secret ps key r long h = ap (values_hash secret) (whole_key ps key r long h)
