-- No chunks are no cells.
use Rattle.std.proofs.Common.{ap, sym, subst, arith}
use Rattle.mi_node.specs.Chunks.{flat, in_chunk, IsChunked}
use Rattle.mi_node.proofs.column.Column.new.Goals as goal

pub invariant_of-result : goal.invariant_of-result
invariant_of-result c = subst (IsChunked in_chunk) (sym c.new.ensures.items) (record { full = tt; few = omega arith })

pub returns : goal.returns
returns c = ap (flat in_chunk) c.new.ensures.items
