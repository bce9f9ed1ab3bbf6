-- The name is the bits without the generation.
use Rattle.std.proofs.Common.{ap}
use Rattle.mi_node.specs.Refs.{Ref}
use Rattle.mi_node.proofs.node_ref.NodeRef.name.Goals as goal

pub returns : goal.returns
returns c = ap (λ (r : Ref). r.name) c.self.view_is
