-- The law is proved with the definitions.
use Rattle.mi_embed.proofs.LookedLaws.{look_ups_answer}
use Rattle.mi_embed.proofs.laws.look_ups_answer.Goals as goal

pub returns : goal.returns
returns c = look_ups_answer
