-- The law is proved with the definitions, of runs and of changes.
use Rattle.mi_replay.proofs.AnswerLemmas.{change_kept}
use Rattle.mi_replay.proofs.ReplayLemmas.{runs_have_journals}
use Rattle.mi_replay.proofs.laws.runs_have_journals.Goals as goal

pub returns : goal.returns
returns c = record { runs = runs_have_journals; changes = change_kept }
