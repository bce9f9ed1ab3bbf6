use Rattle.std.proofs.Common.{◌≡◌, ◌⊎◌, ℕ}
use Rattle.mi_clients.specs.Clients.{ids}
use Rattle.mi_clients.specs.Ending.{HasAsked, IsBroken, IsAsBefore}
use Rattle.mi_clients.proofs.EndingLemmas.{asked_count}
use Rattle.mi_clients.proofs.ending.end_asked.Given as goal

-- each that was asked to end is asked still, or broken; nobody else is asked, and who wasn't asked is as before
abbrev pub invariant-asked : goal.invariant-asked
invariant-asked g l = record {
  ids : ids l.clients.items ≡ ids l.fn.clients.items;
  ended : (n : ℕ) → HasAsked n l.fn.clients.items → HasAsked n l.clients.items ⊎ IsBroken n l.clients.items;
  asked : (n : ℕ) → HasAsked n l.clients.items → HasAsked n l.fn.clients.items;
  others : (n : ℕ) → ¬ HasAsked n l.fn.clients.items → IsAsBefore n l.fn.clients.items l.clients.items;
}

abbrev pub decreases-asked : goal.decreases-asked
decreases-asked g l = asked_count l.clients.items
