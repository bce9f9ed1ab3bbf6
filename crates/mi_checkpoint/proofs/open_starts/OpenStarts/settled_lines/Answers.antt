-- The place that is kept is a checkpoint, and at such a place the law of bases holds.
use Rattle.mi_checkpoint.proofs.ToldLemmas.{checkpoint, base_replays}
use Rattle.mi_checkpoint.proofs.open_starts.OpenStarts.settled_lines.Goals as goal

pub returns-clause-place : goal.returns-clause-place
returns-clause-place c = λ s lines told. checkpoint s lines c.args.self.now c.oldest.result told (c.oldest.ensures _ _ told)

pub returns-clause-replays : goal.returns-clause-replays
returns-clause-replays c = λ s lines is taken told.
    base_replays s lines c.oldest.result is taken (checkpoint s lines c.args.self.now c.oldest.result told (c.oldest.ensures _ _ told))
