-- The hash of the value that the node has.
use Rattle.std.proofs.Common.{sym, ◌∙◌}
use Rattle.mi_chain.proofs.KeyingLemmas.{hash_is}
use Rattle.mi_chain.proofs.chains.Chains.hash_of.Goals as goal

pub returns : goal.returns
returns g c = let k = g.H.KeyHash.keying c.args.self.now.keys in c.hash.ensures ∙ sym (hash_is k c.args.p.now c.args.node c.value.result.now c.value.ensures)
