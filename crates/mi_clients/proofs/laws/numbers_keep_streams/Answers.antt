-- The law is proved with the rows.
use Rattle.mi_clients.proofs.StreamLemmas.{streams_then, numbers_keep}
use Rattle.mi_clients.proofs.laws.numbers_keep_streams.Goals as goal

pub returns : goal.returns
returns g c = record { turns = streams_then g.S.Duplex.handle; numbers = numbers_keep g.S.Duplex.handle }
