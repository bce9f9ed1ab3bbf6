-- Kinds of index by what they can do.
-- Cited by `mi_multi` and `mi_protocol`.
use Rattle.std.proofs.Common.{◌≡◌, true, false, refl}
use Rattle.mi_catalog.specs.declared.index.IndexKind.{IndexKind}
use Rattle.mi_catalog.specs.declared.index.IndexKind.TheVariants.{Ordered, Ranked, Hashed, Sequenced}
use Rattle.mi_catalog.specs.Kinds.{has_keys, is_sequenced, is_sorted, is_ranked, is_hashed}

pub sequenced : (k : IndexKind) → is_sequenced k ≡ true → k ≡ Sequenced
sequenced Ordered h = absurd (cc)
sequenced Ranked h = absurd (cc)
sequenced Hashed h = absurd (cc)
sequenced Sequenced h = refl

pub ranked : (k : IndexKind) → is_ranked k ≡ true → k ≡ Ranked
ranked Ordered h = absurd (cc)
ranked Ranked h = refl
ranked Hashed h = absurd (cc)
ranked Sequenced h = absurd (cc)

pub hashed : (k : IndexKind) → is_hashed k ≡ true → k ≡ Hashed
hashed Ordered h = absurd (cc)
hashed Ranked h = absurd (cc)
hashed Hashed h = refl
hashed Sequenced h = absurd (cc)

-- an index with keys is hashed or goes by them
pub keyed_sorted : (k : IndexKind) → has_keys k ≡ true → is_hashed k ≡ false → is_sorted k ≡ true
keyed_sorted Ordered h other = refl
keyed_sorted Ranked h other = refl
keyed_sorted Hashed h other = absurd (cc)
keyed_sorted Sequenced h other = absurd (cc)
