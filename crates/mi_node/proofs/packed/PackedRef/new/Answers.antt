-- The bits stand for the reference, or for none.
use Rattle.mi_node.proofs.packed.PackedRef.new.Goals as goal

pub returns : goal.returns
returns c = c.bits_of.ensures
