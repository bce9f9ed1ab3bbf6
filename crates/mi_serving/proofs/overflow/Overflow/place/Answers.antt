-- Where nobody is admitted nothing is done.
use Rattle.std.proofs.Common.{[]}
use Rattle.std.proofs.KnownBytes.{Keeps-refl}
use Rattle.mi_clients.specs.Clients.{ids}
use Rattle.mi_clients.proofs.StepLemmas.{makes_none}
use Rattle.mi_clients.proofs.ServedLemmas.{nothing_given, nothing_asked, joins_none, only_none}
use Rattle.mi_serving.proofs.overflow.Overflow.place.Goals as goal

pub returns-in_default-clause-comes : goal.returns-in_default-clause-comes
returns-in_default-clause-comes g c =
    ([], nothing_given, joins_none c.args.clients.now.items, makes_none _ _ _ (Keeps-refl _), only_none (ids c.args.clients.now.items), nothing_asked)

pub returns-else-len-lt-MAX_CONNECTIONS-clause-comes : goal.returns-else-len-lt-MAX_CONNECTIONS-clause-comes
returns-else-len-lt-MAX_CONNECTIONS-clause-comes g c =
    ([], nothing_given, joins_none c.args.clients.now.items, makes_none _ _ _ (Keeps-refl _), only_none (ids c.args.clients.now.items), nothing_asked)
