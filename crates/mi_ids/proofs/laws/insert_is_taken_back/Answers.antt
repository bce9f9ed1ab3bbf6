-- The law is proved with the definitions.
use Rattle.mi_ids.proofs.EntryLemmas.{out_of_put}
use Rattle.mi_ids.proofs.laws.insert_is_taken_back.Goals as goal

pub returns : goal.returns
returns c m k e out = out_of_put m k e out
