-- A list has no keys.
use Rattle.std.proofs.Common.{◌≡◌, None, sym, subst}
use Rattle.mi_tree.specs.Probed.{first_where}
use Rattle.mi_index.specs.Looks.{has_sought}
use Rattle.mi_index.proofs.LookUpLemmas.{none_where}
use Rattle.mi_index.proofs.structure.Structure.find.Goals as goal

pub returns-in-Sequenced-clause-node : goal.returns-in-Sequenced-clause-node
returns-in-Sequenced-clause-node c rs h = subst (λ x. None ≡ first_where (has_sought x c.args.p.now c.args.probe) rs) (sym c.in-Sequenced.is) (none_where rs)
