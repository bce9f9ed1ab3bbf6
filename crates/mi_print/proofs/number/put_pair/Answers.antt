-- The table has the two digits of each number below 100.
use Rattle.std.proofs.Common.{◌*◌}
use Rattle.std.proofs.lemmas.List.{take_rest}
use Rattle.mi_print.specs.declared.number.TheConstants.{PAIRS}
use Rattle.mi_print.proofs.DigitLemmas.{two_at}
use Rattle.mi_print.proofs.number.put_pair.Goals as goal

pub returns : goal.returns
returns c = rw (← two_at c.args.n c.requires.0) (rw (take_rest PAIRS (c.args.n * 2)) at c.put_first.ensures)
