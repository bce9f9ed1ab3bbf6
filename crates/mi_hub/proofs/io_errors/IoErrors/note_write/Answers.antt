-- A stream that has failed is noted beside what was noted before.
use Rattle.std.proofs.Common.{ap}
use Rattle.mi_hub.specs.IoNotes.{with_write}
use Rattle.mi_hub.proofs.io_errors.IoErrors.note_write.Goals as goal

pub returns : goal.returns
returns g c = ap (λ failed. with_write failed c.args.self.now) c.failed.ensures
