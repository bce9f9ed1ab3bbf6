-- Where the digest doesn't stand, the text isn't it.
use Rattle.std.proofs.Common.{rules}
use Rattle.mi_base.proofs.ReadLemmas.{end_fails}
use Rattle.mi_base.proofs.read.read_end.Goals as goal

pub returns-in_err-ends-clause-exact : goal.returns-in_err-ends-clause-exact
returns-in_err-ends-clause-exact g c = λ front holds.
    end_fails _ _ c.in_err-ends.field-0.0 _ (search rules) (c.in_err-ends.ensures.exact front holds)
