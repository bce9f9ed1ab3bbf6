-- The bytes are those that their number writes.
use Rattle.std.proofs.Common.{rules}
use Rattle.std.proofs.lemmas.Nat.{le_bytes_8}
use Rattle.mi_tokens.proofs.same.number_of_8.Goals as goal

pub returns-clause-bytes : goal.returns-clause-bytes
returns-clause-bytes c = le_bytes_8 c.args.bytes _ (search rules) (search rules) c.from_le_bytes.ensures
