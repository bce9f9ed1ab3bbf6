-- One chunk more at the end is so many empty cells more at the end.
use Rattle.std.proofs.Common.{◌<◌, ◌++◌, [], ◌∷◌, length, ap, sym, subst, ◌∙◌}
use Rattle.std.proofs.Math.ListN.{length-replicate}
use Rattle.mi_node.specs.Cells.{empty_cell}
use Rattle.mi_node.specs.Chunks.{flat, in_chunk, IsChunked}
use Rattle.mi_node.proofs.ChunkLemmas.{IsChunked-end, flat-end}
use Rattle.mi_node.proofs.column.Column.add.Goals as goal

pub invariant_of-self-2 : goal.invariant_of-self-2
invariant_of-self-2 c =
    let bs = c.self.inside.chunks.items in let b = c.in_ok-empty_chunk.field-0 in
    subst (IsChunked in_chunk) (sym (c.push_reserved.ensures.items ∙ ap (λ xs. xs ++ b ∷ []) c.reserve.ensures.items))
    (IsChunked-end in_chunk bs b c.self.invariant (ap (λ xs. length xs) c.in_ok-empty_chunk.ensures ∙ length-replicate 1024 empty_cell)
    (subst (λ n. n < 2097152) (c.len.ensures ∙ c.self.inside.chunks.ok.0) c.if-len-ge-MAX_CHUNKS.false))

pub returns-clause-ok : goal.returns-clause-ok
returns-clause-ok c =
    let bs = c.self.inside.chunks.items in let b = c.in_ok-empty_chunk.field-0 in
    ap (flat in_chunk) (c.push_reserved.ensures.items ∙ ap (λ xs. xs ++ b ∷ []) c.reserve.ensures.items) ∙ flat-end in_chunk bs b
    ∙ ap (λ l. l ++ in_chunk b) c.self.view_is ∙ ap (λ xs. c.args.self.now ++ xs) c.in_ok-empty_chunk.ensures
