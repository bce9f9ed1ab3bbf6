use Rattle.std.proofs.Common.{◌≡◌, ◌++◌, drop, option_map}
use Rattle.mi_embed.specs.Cells.{values_in}
use Rattle.mi_embed.proofs.arguments.key_of.Given as goal

-- the values so far, and those of the cells to come, are those of all
abbrev pub invariant-cells : goal.invariant-cells
invariant-cells l = option_map (λ vs. l.values.items ++ vs) (values_in l.texts (drop l.cell-index l.cells)) ≡ values_in l.texts l.cells
