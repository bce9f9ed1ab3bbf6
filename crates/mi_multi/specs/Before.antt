-- The row that a new one is to stand before, and the one whose node an inverse keeps.
use Rattle.std.specs.Prelude.{ℕ}
use Rattle.std.specs.Ordering.{nat_cmp}
use Rattle.std.specs.FinMap.{FinMap}
use Rattle.std.specs.Option.{option_map, option_and_then}
use Rattle.std.specs.declared.option.Option.{Option}
use Rattle.std.specs.declared.option.Option.TheVariants.{None, Some}
use Rattle.mi_node.specs.Refs.{Ref}
use Rattle.mi_container.specs.Inverse.{RowRef, Inverse}
use Rattle.mi_container.specs.Inverse.Inverse.{Inserted, Put, Erased, Relocated, Nothing}
use Rattle.mi_ids.specs.declared.entry.IdEntry.{IdEntry}
use Rattle.mi_ids.specs.IdMap.{live_node}

-- the node of the row, if it is live, with its index
abbrev pub node_before : FinMap nat_cmp IdEntry → Option (ℕ × ℕ) → Option (ℕ × Ref)
node_before ids before = option_and_then (λ p. option_map (λ r. (p.0, r)) (live_node ids p.1)) before

-- the row whose node an inverse keeps
abbrev pub row_kept_by : Inverse → Option RowRef
row_kept_by (Inserted r) = None
row_kept_by (Put r old) = None
row_kept_by (Erased r why) = Some r
row_kept_by (Relocated x r b) = None
row_kept_by Nothing = None
