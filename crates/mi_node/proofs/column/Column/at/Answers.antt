-- The cell of a place stands in the chunk of its quotient, at its rest.
use Rattle.std.proofs.Common.{◌<◌, refl, ◌/◌, ◌%◌, ap, sym, subst, length, ◌∙◌}
use Rattle.mi_node.specs.Cells.{empty_cell}
use Rattle.mi_node.specs.Chunks.{in_chunk}
use Rattle.mi_node.specs.Columns.{cell_at}
use Rattle.mi_node.proofs.ChunkLemmas.{index-flat, in_bounds, split_of, small_of}
use Rattle.mi_node.proofs.ColumnLemmas.{index-any}
use Rattle.mi_node.proofs.column.Column.at.Goals as goal

pub index-requires : goal.index-requires
index-requires c = in_bounds in_chunk c.self.inside.chunks.items c.self.invariant.full c.self.inside.chunks.ok.0 c.self.view_is c.requires

pub returns : goal.returns
returns c =
    let cs = c.self.inside.chunks.items in let v = c.index.result.now in let i = c.args.place in let x = c.at.result.now in
    let there = in_bounds in_chunk cs c.self.invariant.full refl c.self.view_is c.requires in
    let inside : i % 1024 < length v.row.items = subst (λ n. i % 1024 < n) (sym v.row.long.0) (small_of i) in
    c.at.ensures ∙ index-any v.row.items (i % 1024) x empty_cell inside
    ∙ sym (index-flat in_chunk (i / 1024) (i % 1024) i cs v empty_cell c.self.invariant.full there c.index.ensures (small_of i) (split_of i))
    ∙ ap (cell_at i) c.self.view_is
