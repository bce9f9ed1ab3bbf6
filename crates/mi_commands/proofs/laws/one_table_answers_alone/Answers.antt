-- The law is proved with the definitions, of the answer and of what may be given.
use Rattle.mi_commands.proofs.AloneLaws.{one_table_answers_alone, one_table_may_give}
use Rattle.mi_commands.proofs.laws.one_table_answers_alone.Goals as goal

pub returns-clause-answers : goal.returns-clause-answers
returns-clause-answers c = one_table_answers_alone

pub returns-clause-replies : goal.returns-clause-replies
returns-clause-replies c = one_table_may_give
