-- The law is proved with the definitions.
use Rattle.mi_model.proofs.OneTableLaws.{one_table_as_before}
use Rattle.mi_sessions.proofs.laws.one_table_as_before.Goals as goal

pub returns : goal.returns
returns c = one_table_as_before
