-- The law of lines is that of `undo_lines_take_back`.
use Rattle.mi_replay.proofs.UndoneBytesLemmas.{undo_bytes_take_back, undo_bytes_are_given}
use Rattle.mi_replay.proofs.laws.undo_bytes_take_back.Goals as goal

pub returns-clause-back : goal.returns-clause-back
returns-clause-back c = undo_bytes_take_back c.undo_lines_take_back.ensures.back

pub returns-clause-given : goal.returns-clause-given
returns-clause-given c = undo_bytes_are_given
