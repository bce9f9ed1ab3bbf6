-- One byte is another, and as many are there.
use Rattle.mi_value.proofs.NumberLemmas.{byte_set}
use Rattle.mi_value.proofs.bytes.Short.with_byte.Goals as goal

pub returns : goal.returns
returns c = byte_set c.args.self.now.bytes c.args.self.now.length c.args.place c.args.byte c.requires
