-- The law is proved with the definitions.
use Rattle.mi_model.proofs.RankLaws.{ranks_count_rows}
use Rattle.mi_sessions.proofs.laws.ranks_count_rows.Goals as goal

pub returns : goal.returns
returns c = ranks_count_rows
