-- The three tests are those of the definition.
use Rattle.std.proofs.Common.{arith}
use Rattle.std.proofs.lemmas.Grind.{common_steps}
use Rattle.mi_request.specs.Short.{is_name_byte}
use Rattle.mi_request.proofs.words.is_name_byte.Goals as goal

pub returns-then-is_ascii_digit : goal.returns-then-is_ascii_digit
unfolding is_name_byte
returns-then-is_ascii_digit c = grind (arith, common_steps)

pub returns-else-is_ascii_digit : goal.returns-else-is_ascii_digit
unfolding is_name_byte
returns-else-is_ascii_digit c = grind (arith, common_steps)
