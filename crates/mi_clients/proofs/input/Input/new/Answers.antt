-- Of what wasn't sent no line waits.
use Rattle.std.proofs.Common.{◌∙◌, ap}
use Rattle.mi_hub.specs.Ended.{ended}
use Rattle.mi_hub.proofs.LineLemmas.{ended_nil}
use Rattle.mi_clients.proofs.input.Input.new.Goals as goal

pub invariant_of-result-clause-first : goal.invariant_of-result-clause-first
invariant_of-result-clause-first c = λ is. ap ended c.new.ensures.items ∙ ended_nil
