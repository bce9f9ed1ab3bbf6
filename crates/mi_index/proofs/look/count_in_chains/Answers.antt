-- How many nodes have a key.
use Rattle.mi_index.proofs.look.count_in_chains.Goals as goal

pub returns : goal.returns
returns c rs h = c.count.ensures rs h.0
