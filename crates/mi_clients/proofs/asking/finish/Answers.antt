-- Where more may come nothing is undone.
use Rattle.std.proofs.Common.{[], refl}
use Rattle.std.proofs.KnownBytes.{Keeps-refl}
use Rattle.mi_clients.proofs.StepLemmas.{makes_none}
use Rattle.mi_clients.proofs.ServedLemmas.{owes_none}
use Rattle.mi_clients.proofs.asking.finish.Goals as goal

pub returns-else-eq-clause-undoes : goal.returns-else-eq-clause-undoes
returns-else-eq-clause-undoes g c = ([], tt, owes_none _, makes_none _ _ _ (Keeps-refl _), λ no. refl)
