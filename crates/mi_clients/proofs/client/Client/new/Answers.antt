-- Of what wasn't sent no line waits.
use Rattle.std.proofs.Common.{ap}
use Rattle.mi_hub.specs.Ended.{ended}
use Rattle.mi_clients.proofs.client.Client.new.Goals as goal

pub invariant_of-result : goal.invariant_of-result
unfolding ended
invariant_of-result g c = record { lines = λ none. ap ended c.new.ensures.none; all_asked = λ is. absurd (cc) }
