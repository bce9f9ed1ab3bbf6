-- The secrets under which the indexes of a container hash keys: one for each index, and none where it doesn't hash.
use Rattle.std.specs.Prelude.{ℕ, List, map}
use Rattle.std.specs.declared.option.Option.{Option}
use Rattle.std.specs.declared.option.Option.TheVariants.{None, Some}
use Rattle.mi_catalog.specs.declared.index.Index.{Index}
use Rattle.mi_catalog.specs.declared.index.IndexKind.{IndexKind}
use Rattle.mi_catalog.specs.declared.index.IndexKind.TheVariants.{Ordered, Ranked, Hashed, Sequenced}
use Rattle.mi_catalog.specs.Shape.{Shape}

abbrev pub secret_for : ℕ → IndexKind → Option ℕ
secret_for secret Ordered = None
secret_for secret Ranked = None
secret_for secret Hashed = Some secret
secret_for secret Sequenced = None

-- those that a container opens with
abbrev pub opened_secrets : ℕ → Shape → List (Option ℕ)
opened_secrets secret s = map (λ (i : Index). secret_for secret i.kind) s.indexes
