-- The law is proved with the definitions, of journals that join.
use Rattle.mi_durable.proofs.JournalLemmas.{journals_go_on}
use Rattle.mi_durable.proofs.laws.journals_go_on.Goals as goal

pub returns : goal.returns
returns c = journals_go_on c.journals_join.ensures
