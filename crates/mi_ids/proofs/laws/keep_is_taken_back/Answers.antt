-- The law is proved with the definitions.
use Rattle.mi_ids.proofs.EntryLemmas.{revived}
use Rattle.mi_ids.proofs.laws.keep_is_taken_back.Goals as goal

pub returns : goal.returns
returns c m k e there is = revived m k e there is
