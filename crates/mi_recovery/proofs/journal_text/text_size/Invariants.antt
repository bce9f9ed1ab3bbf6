use Rattle.mi_recovery.proofs.OpeningLemmas.{text_far}
use Rattle.mi_recovery.proofs.journal_text.text_size.Given as goal

-- no zero stands in front of this place
abbrev pub invariant-pieces : goal.invariant-pieces
invariant-pieces g l = record { far : text_far (g.F.Device.contents l.fn.file) l.at }
