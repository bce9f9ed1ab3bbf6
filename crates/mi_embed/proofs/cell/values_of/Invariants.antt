use Rattle.std.proofs.Common.{◌≡◌, ◌++◌, drop, map, option_map}
use Rattle.arrayvec.specs.ArrayVec.{array_vec_len}
use Rattle.mi_value.specs.Lent.{lent}
use Rattle.mi_embed.specs.Cells.{values_in}
use Rattle.mi_embed.proofs.cell.values_of.Given as goal

-- the values so far, and those of the cells to come, are those of all
abbrev pub invariant-cells : goal.invariant-cells
invariant-cells l = (array_vec_len l.values ≡ l.cell-index)
    × (option_map (λ vs. map lent l.values.items ++ vs) (values_in l.texts (drop l.cell-index l.cells)) ≡ values_in l.texts l.cells)
