-- A cell is set in its chunk, and in the list at its place.
use Rattle.std.proofs.Common.{refl, ◌/◌, ◌%◌, List, ap, slice_set, ◌∙◌}
use Rattle.mi_node.specs.Chunks.{in_chunk}
use Rattle.mi_node.specs.declared.cell.Cell.{Cell}
use Rattle.mi_node.proofs.ChunkLemmas.{set-flat, IsChunked-set, in_bounds, split_of, small_of}
use Rattle.mi_node.proofs.column.Column.set.Goals as goal

pub index_mut-requires : goal.index_mut-requires
index_mut-requires c = in_bounds in_chunk c.self.inside.chunks.items c.self.invariant.full c.self.inside.chunks.ok.0 c.self.view_is c.requires

pub invariant_of-self : goal.invariant_of-self
invariant_of-self c = let w = c.replace.new.self in IsChunked-set in_chunk (c.args.place / 1024) c.self.inside.chunks.items w c.self.invariant w.row.long.0

pub returns : goal.returns
returns c =
    let cs = c.self.inside.chunks.items in let v = c.index_mut.result.now in let w = c.replace.new.self in let i = c.args.place in
    let there = in_bounds in_chunk cs c.self.invariant.full refl c.self.view_is c.requires in
    set-flat in_chunk (i / 1024) (i % 1024) i cs v w c.args.cell c.self.invariant.full there
    c.index_mut.ensures.value c.replace.ensures.items (small_of i) (split_of i)
    ∙ ap (λ (l : List Cell). slice_set l i c.args.cell) c.self.view_is
