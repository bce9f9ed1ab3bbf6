-- A hashed or sequenced index is not sorted.
use Rattle.std.proofs.Common.{inl, inr}
use Rattle.mi_catalog.proofs.index.IndexKind.is_sorted.Goals as goal

pub returns-in-Hashed : goal.returns-in-Hashed
returns-in-Hashed c = elim c.in-Hashed.is [ inl hashed ↦ rw hashed | inr sequenced ↦ rw sequenced ]
