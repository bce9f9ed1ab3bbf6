-- The first bytes of the array are the escape of the byte: two where it has a letter, six of another control byte, and else the byte itself.
use Rattle.std.proofs.Common.{rules}
use Rattle.json.specs.Print.{escape_byte}
use Rattle.mi_print.proofs.string.escape_of.Goals as goal

pub returns-then-letter-gt0-clause-value : goal.returns-then-letter-gt0-clause-value
unfolding escape_byte
returns-then-letter-gt0-clause-value c = search rules

pub returns-then-byte-lt32-clause-value : goal.returns-then-byte-lt32-clause-value
unfolding escape_byte
returns-then-byte-lt32-clause-value c = search rules

pub returns-clause-value : goal.returns-clause-value
unfolding escape_byte
returns-clause-value c = search rules
