-- The first value of the bytes comes off, and what is left holds the others.
use Rattle.std.proofs.Common.{sym, ◌∙◌}
use Rattle.mi_value.specs.Lent.{lent}
use Rattle.mi_value.proofs.BlockLemmas.{first, texts, shorter}
use Rattle.mi_value.proofs.record.ValuesIterator.next.Goals as goal

pub invariant_of-self : goal.invariant_of-self
invariant_of-self c = (texts c.self.inside.bytes.now c.in_ok-tag.tag.now c.in_ok-tag.content.now c.in_ok-value.rest.now (lent c.in_ok-value.value)
    c.in_ok-tag.ensures.cases.0 c.in_ok-value.ensures c.self.invariant).1

pub returns-clause-steps : goal.returns-clause-steps
returns-clause-steps c = sym c.self.view_is ∙ first c.self.inside.bytes.now c.in_ok-tag.tag.now
    c.in_ok-tag.content.now c.in_ok-value.rest.now (lent c.in_ok-value.value)
    c.in_ok-tag.ensures.cases.0 c.in_ok-value.ensures

pub returns-clause-goes : goal.returns-clause-goes
returns-clause-goes c = record { on = λ h. (tt, tt, shorter c.args.self.now _ _ (returns-clause-steps c)); keeps = tt; rests = λ h. tt }
