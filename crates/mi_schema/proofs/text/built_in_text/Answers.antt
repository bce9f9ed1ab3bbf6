-- The law of the text.
use Rattle.mi_schema.proofs.TextLaws.{reads}
use Rattle.mi_schema.proofs.text.built_in_text.Goals as goal

pub returns : goal.returns
returns c = reads
