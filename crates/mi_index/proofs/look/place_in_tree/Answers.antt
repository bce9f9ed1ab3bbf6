-- A node of the structure is held.
use Rattle.mi_index.specs.declared.structure.Structure.TheVariants.{Sorted}
use Rattle.mi_index.proofs.LookUpLemmas.{held_there}
use Rattle.mi_index.proofs.look.place_in_tree.Goals as goal

pub link-requires-clause-held : goal.link-requires-clause-held
link-requires-clause-held c = let q = c.requires.node in held_there (Sorted c.args.tree.now) c.args.p.now q.0 c.args.node q.1 q.2
