-- A number below ten is one digit, and any other below 100 is a pair.
use Rattle.std.proofs.lemmas.Fmt.{decimal_digit}
use Rattle.itoa.proofs.Decimal.{decimal_two}
use Rattle.mi_print.proofs.number.put_small.Goals as goal

pub returns-then-n-lt10-clause-value : goal.returns-then-n-lt10-clause-value
returns-then-n-lt10-clause-value c = rw (decimal_digit c.args.n c.if-n-lt10.true) c.put_byte.ensures

pub returns-else-n-lt10-clause-value : goal.returns-else-n-lt10-clause-value
returns-else-n-lt10-clause-value c = rw (decimal_two c.args.n c.if-n-lt10.false c.requires.0) c.put_pair.ensures
