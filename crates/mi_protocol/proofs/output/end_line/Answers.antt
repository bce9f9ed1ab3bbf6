-- The newline leaves what stands before it.
use Rattle.mi_protocol.proofs.PutLemmas.{text_kept}
use Rattle.mi_protocol.proofs.output.end_line.Goals as goal

pub returns-clause-text : goal.returns-clause-text
returns-clause-text c = text_kept _ _ _ _ _ c.requires c.put_byte.ensures
