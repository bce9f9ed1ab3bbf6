-- It is a part of what holds in every state.
use Rattle.std.proofs.Common.{subst}
use Rattle.mi_container.specs.Data.{IsData}
use Rattle.mi_multi.specs.Seen.{Seen}
use Rattle.mi_multi.proofs.multi.MultiIndex.keeps_rules.Goals as goal

pub returns : goal.returns
returns c = subst (λ (w : Seen). IsData w.shape w.plain) c.self.view_is c.self.invariant.is_data
