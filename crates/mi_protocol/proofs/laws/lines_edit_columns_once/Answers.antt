-- The law is proved with the definitions.
use Rattle.mi_protocol.proofs.EditOrderLaws.{lines_edit_columns_once}
use Rattle.mi_protocol.proofs.laws.lines_edit_columns_once.Goals as goal

pub returns : goal.returns
returns c = lines_edit_columns_once
