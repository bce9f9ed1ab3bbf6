-- The first node of a key.
use Rattle.std.proofs.Common.{◌∙◌}
use Rattle.mi_chain.specs.Keying.{has_key}
use Rattle.mi_order.specs.Orders.{keying_of}
use Rattle.mi_index.proofs.LookUpLemmas.{first_filter}
use Rattle.mi_index.proofs.look.find_in_chains.Goals as goal

pub returns : goal.returns
returns c rs h = let d = c.args.chains.now in c.first_of.ensures rs h.0 ∙ first_filter (has_key (keying_of d.keys) c.args.p.now c.args.probe) rs
