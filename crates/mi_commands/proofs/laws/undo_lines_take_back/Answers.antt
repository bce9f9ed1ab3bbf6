-- The laws are proved with the definitions.
use Rattle.mi_commands.proofs.UndoneLaws.{undo_lines_take_back, undo_lines_are_given, start_lines_open}
use Rattle.mi_commands.proofs.laws.undo_lines_take_back.Goals as goal

pub returns-clause-back : goal.returns-clause-back
returns-clause-back c = undo_lines_take_back

pub returns-clause-given : goal.returns-clause-given
returns-clause-given c = undo_lines_are_given

pub returns-clause-start : goal.returns-clause-start
returns-clause-start c = start_lines_open
