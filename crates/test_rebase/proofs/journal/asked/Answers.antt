-- All that a start appends stays.
use Rattle.test_rebase.proofs.journal.asked.Goals as goal

pub replied-requires-clause-settled : goal.replied-requires-clause-settled
replied-requires-clause-settled g c = λ _. c.in_ok-durable.ensures.settled
