use Rattle.std.proofs.Common.{◌≡◌, ◌++◌, drop, option_map}
use Rattle.mi_embed.specs.EditCells.{edits_in}
use Rattle.mi_embed.proofs.edits.edits_of.Given as goal

-- the edits so far, and those of the cells to come, are those of all
abbrev pub invariant-cells : goal.invariant-cells
invariant-cells l = option_map (λ es. l.edits.items ++ es) (edits_in l.texts (drop l.cell-index l.cells)) ≡ edits_in l.texts l.cells
