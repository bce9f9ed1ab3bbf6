use Rattle.std.proofs.Common.{◌≡◌, map, take}
use Rattle.mi_protocol.proofs.labels.labels_of.Given as goal

-- the labels of the tables so far
abbrev pub invariant-tables : goal.invariant-tables
invariant-tables l = l.labels.items ≡ map (λ s. s.columns) (take l.table l.catalog.tables)
