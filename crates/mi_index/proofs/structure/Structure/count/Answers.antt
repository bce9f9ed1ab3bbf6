-- A list has no keys.
use Rattle.std.proofs.Common.{◌≡◌, length, sym, subst}
use Rattle.std.specs.List.{filter}
use Rattle.mi_index.specs.Looks.{has_sought}
use Rattle.mi_index.proofs.LookUpLemmas.{none_pass}
use Rattle.mi_index.proofs.structure.Structure.count.Goals as goal

pub returns-in-Sequenced-clause-count : goal.returns-in-Sequenced-clause-count
returns-in-Sequenced-clause-count c rs h = subst (λ x. 0 ≡ length (filter (has_sought x c.args.p.now c.args.probe) rs)) (sym c.in-Sequenced.is) (none_pass rs)
