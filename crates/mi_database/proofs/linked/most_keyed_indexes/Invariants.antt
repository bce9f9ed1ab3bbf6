-- the most of the tables so far
use Rattle.std.proofs.Common.{ℕ, ◌<◌}
use Rattle.mi_catalog.specs.Shape.{schema_at}
use Rattle.mi_database.specs.Most.{HasAtMost, OneHas}
use Rattle.mi_database.proofs.linked.most_keyed_indexes.Given as goal

abbrev pub invariant-loop-n : goal.invariant-loop-n
invariant-loop-n l = ((n : ℕ) → n < l.n → HasAtMost l.most (schema_at l.catalog n).indexes) × OneHas l.n l.most l.catalog
