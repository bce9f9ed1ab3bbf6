-- So many of the oldest have gone.
use Rattle.std.proofs.Common.{◌≡◌, drop}
use Rattle.mi_checkpoint.proofs.open_starts.end_oldest.Given as goal

abbrev pub invariant-ended : goal.invariant-ended
invariant-ended l = l.starts.items ≡ drop l.counter l.initial.starts.items
