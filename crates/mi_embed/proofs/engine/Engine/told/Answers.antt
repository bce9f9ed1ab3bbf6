-- What is refused is told, and nothing changes.
use Rattle.mi_embed.proofs.CallLemmas.{tells_refusal}
use Rattle.mi_embed.proofs.engine.Engine.told.Goals as goal

pub returns-in-Err : goal.returns-in-Err
returns-in-Err c = tells_refusal c.args.table c.args.asked c.in-Err.refusal c.refused.result _ c.in-Err.is c.refused.ensures
