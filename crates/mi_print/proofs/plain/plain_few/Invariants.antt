use Rattle.json.specs.Written.{PlainBetween}
use Rattle.mi_print.proofs.plain.plain_few.Given as goal

abbrev pub invariant-bytes : goal.invariant-bytes
invariant-bytes l = PlainBetween l.text 0 l.byte-index
