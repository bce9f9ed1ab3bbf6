-- All chunks are whole, so the elements are so many times their number.
use Rattle.std.proofs.Common.{ap, sym, length, ◌∙◌, List}
use Rattle.mi_node.specs.Chunks.{in_chunk}
use Rattle.mi_node.proofs.ChunkLemmas.{length-flat, times}
use Rattle.mi_node.proofs.chunks.Chunks.len.Goals as goal

pub returns : goal.returns
returns g c =
    let cs = c.self.inside.chunks.items in
    times c.len.result (length cs) (c.len.ensures ∙ c.self.inside.chunks.ok.0)
    ∙ sym (length-flat in_chunk cs c.self.invariant.full) ∙ ap (λ (l : List g.row.E.Denot). length l) c.self.view_is
