-- The law is proved with the definitions.
use Rattle.mi_protocol.proofs.ReplyLemmas.{reply_is}
use Rattle.mi_protocol.proofs.laws.replies_are_compact_json.Goals as goal

pub returns : goal.returns
returns c = λ catalog said keeps there. reply_is catalog said keeps there
