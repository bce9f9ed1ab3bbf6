-- One chunk more at the end is so many elements more at the end.
use Rattle.std.proofs.Common.{◌<◌, ◌++◌, [], ◌∷◌, ap, sym, subst, ◌∙◌}
use Rattle.mi_node.specs.Chunks.{flat, in_chunk, IsChunked}
use Rattle.mi_node.proofs.ChunkLemmas.{IsChunked-end, flat-end}
use Rattle.mi_node.proofs.chunks.Chunks.add.Goals as goal

pub invariant_of-self-2 : goal.invariant_of-self-2
invariant_of-self-2 g c =
    let cs = c.self.inside.chunks.items in
    subst (IsChunked in_chunk) (sym (c.push_reserved.ensures.items ∙ ap (λ xs. xs ++ c.args.chunk ∷ []) c.reserve.ensures.items))
    (IsChunked-end in_chunk cs c.args.chunk c.self.invariant c.args.chunk.row.long.0
    (subst (λ n. n < 2097152) (c.len.ensures ∙ c.self.inside.chunks.ok.0) c.if-len-ge-MAX_CHUNKS.false))

pub returns-clause-ok : goal.returns-clause-ok
returns-clause-ok g c =
    let cs = c.self.inside.chunks.items in
    ap (flat in_chunk) (c.push_reserved.ensures.items ∙ ap (λ xs. xs ++ c.args.chunk ∷ []) c.reserve.ensures.items)
    ∙ flat-end in_chunk cs c.args.chunk ∙ ap (λ l. l ++ c.args.chunk.row.items) c.self.view_is
