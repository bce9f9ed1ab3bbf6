use Rattle.std.proofs.Common.{◌≡◌, List as Seq, ◌++◌, None}
use Rattle.mi_node.specs.Refs.{first_of}
use Rattle.mi_node.specs.Refs.{Ref}
use Rattle.mi_list.specs.Listed.{IsListed}
use Rattle.test_storage.proofs.tests.list.assert_names.Given as goal

abbrev pub invariant-loop-name : goal.invariant-loop-name
invariant-loop-name g l = (xs : Seq Ref) × (ys : Seq Ref) × IsListed l.list l.p (xs ++ ys) × (l.at ≡ first_of ys None)
