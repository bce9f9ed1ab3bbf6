-- The law is proved with the definitions.
use Rattle.mi_container.proofs.LawLemmas.{change_is_tables}
use Rattle.mi_container.proofs.laws.change_is_tables.Goals as goal

pub returns : goal.returns
returns c = change_is_tables
