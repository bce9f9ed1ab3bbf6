-- All chunks are whole, so the cells are so many times their number.
use Rattle.std.proofs.Common.{ap, sym, length, ◌∙◌, List}
use Rattle.mi_node.specs.Chunks.{in_chunk}
use Rattle.mi_node.specs.declared.cell.Cell.{Cell}
use Rattle.mi_node.proofs.ChunkLemmas.{length-flat, times}
use Rattle.mi_node.proofs.column.Column.len.Goals as goal

pub returns : goal.returns
returns c =
    let bs = c.self.inside.chunks.items in
    times c.len.result (length bs) (c.len.ensures ∙ c.self.inside.chunks.ok.0)
    ∙ sym (length-flat in_chunk bs c.self.invariant.full) ∙ ap (λ (l : List Cell). length l) c.self.view_is
