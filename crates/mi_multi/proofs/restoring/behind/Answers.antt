-- As many as there are.
use Rattle.mi_multi.proofs.RestoringLemmas.{all_behind}
use Rattle.mi_multi.proofs.restoring.behind.Goals as goal

pub returns : goal.returns
returns c = all_behind c.args.kept c.args.ids.now
