-- One mark among sixteen.
use Rattle.mi_multi.proofs.RestoringLemmas.{one_mark}
use Rattle.mi_multi.proofs.restoring.only.Goals as goal

pub returns : goal.returns
returns c k = one_mark c.args.index c.requires k
