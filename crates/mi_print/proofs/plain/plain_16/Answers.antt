-- The lanes are the bytes from a place on.
use Rattle.mi_print.proofs.PlainLemmas.{part_plain}
use Rattle.mi_print.proofs.plain.plain_16.Goals as goal

pub returns : goal.returns
returns c = part_plain c.are_plain_16.result c.args.text.now c.args.at 16 c.are_plain_16.ensures
