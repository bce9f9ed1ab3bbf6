-- The law is proved with the definitions, for any lawful hash.
use Rattle.mi_chain.proofs.FrameLemmas.{chained_swapped}
use Rattle.mi_chain.proofs.laws.chains_stand_where_swapped.Goals as goal

pub returns : goal.returns
returns g c h = chained_swapped (g.H.KeyHash.keying h) (g.met.H.KeyHash.lawful h)
