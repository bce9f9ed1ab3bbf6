use Rattle.std.proofs.Common.{◌≡◌, ◌≤◌, ◌++◌, length, map, take, drop}
use Rattle.mi_embed.specs.Cells.{cells_of, texts_of}
use Rattle.mi_embed.specs.Pages.{values_of}
use Rattle.mi_embed.proofs.room.put_rows.Given as goal

-- the rows so far are put, and the rest of each buffer is as it was
abbrev pub invariant-rows : goal.invariant-rows
invariant-rows l =
    let rows = take l.i (map (λ r. (r.0, r.1.now)) l.rows) in let vs = values_of rows in
    record {
      cells_taken : l.taken.cells ≡ length vs;
      bytes_taken : l.taken.bytes ≡ length (texts_of vs);
      cells_there : l.taken.cells ≤ length l.initial.cells;
      bytes_there : l.taken.bytes ≤ length l.initial.texts;
      ids : l.ids ≡ map (λ r. r.0) rows ++ drop l.i l.initial.ids;
      cells : l.cells ≡ cells_of 0 vs ++ drop l.taken.cells l.initial.cells;
      texts : l.texts ≡ texts_of vs ++ drop l.taken.bytes l.initial.texts;
    }
