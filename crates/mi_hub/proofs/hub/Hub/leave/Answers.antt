-- The connections without this one, and the sessions that it held undone.
use Rattle.mi_hub.proofs.HolderLemmas.{left_holder}
use Rattle.mi_hub.proofs.hub.Hub.leave.Goals as goal

pub invariant_of-self : goal.invariant_of-self
invariant_of-self g c =
    left_holder c.args.conn c.args.at c.args.self.now c.self.inside.executor c.self.inside.connections.items c.self.view_is
    c.release.new.self c.remove.new.self.items c.requires.there c.self.invariant c.release.ensures c.remove.ensures.items
