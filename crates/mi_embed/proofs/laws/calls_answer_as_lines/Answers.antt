-- The law is proved with the definitions.
use Rattle.mi_embed.proofs.AsLinesLaws.{calls_answer_as_lines}
use Rattle.mi_embed.proofs.laws.calls_answer_as_lines.Goals as goal

pub returns : goal.returns
returns c = calls_answer_as_lines
