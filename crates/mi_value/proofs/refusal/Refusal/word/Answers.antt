-- The word of a table that isn't there.
use Rattle.mi_value.proofs.refusal.Refusal.word.Goals as goal

pub returns-in-NoTable-clause-word : goal.returns-in-NoTable-clause-word
returns-in-NoTable-clause-word c = rw c.in-NoTable.is
