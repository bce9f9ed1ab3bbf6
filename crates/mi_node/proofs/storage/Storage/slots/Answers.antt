-- The number of slots is the one that contracts see.
use Rattle.std.proofs.Common.{sym}
use Rattle.mi_node.proofs.MapLemmas.{slots-seen}
use Rattle.mi_node.proofs.storage.Storage.slots.Goals as goal

pub returns : goal.returns
returns g c = sym (slots-seen c.args.self.now.slots c.args.self.now.columns.items c.args.self.now.slab c.args.self.now.last_freed.marks)
