-- The element of an index stands in the chunk of its quotient, at its rest.
use Rattle.std.proofs.Common.{◌/◌, ◌%◌, refl, ap, sym, slice_index_or, ◌∙◌}
use Rattle.mi_node.specs.Chunks.{in_chunk}
use Rattle.mi_node.proofs.ChunkLemmas.{index-flat, in_bounds, split_of, small_of}
use Rattle.mi_node.proofs.chunks.Chunks.at.Goals as goal

pub index-requires : goal.index-requires
index-requires g c = in_bounds in_chunk c.self.inside.chunks.items c.self.invariant.full c.self.inside.chunks.ok.0 c.self.view_is c.requires

pub returns : goal.returns
returns g c =
    let cs = c.self.inside.chunks.items in let v = c.index.result.now in let i = c.args.at in let x = c.at.result.now in
    let there = in_bounds in_chunk cs c.self.invariant.full refl c.self.view_is c.requires in
    c.at.ensures ∙ sym (index-flat in_chunk (i / 1024) (i % 1024) i cs v x c.self.invariant.full there c.index.ensures (small_of i) (split_of i))
    ∙ ap (λ l. slice_index_or l i x) c.self.view_is
