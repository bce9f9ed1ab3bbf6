-- The law is proved with the definitions.
use Rattle.mi_clients.proofs.HoldingLemmas.{steps_some, replays_some}
use Rattle.mi_clients.proofs.laws.holders_hold_some.Goals as goal

pub returns : goal.returns
returns c = record { steps = steps_some; replays = replays_some }
