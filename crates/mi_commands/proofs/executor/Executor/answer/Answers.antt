-- Whatever is said of an answer, it is given; and what is said to be no change is none.
use Rattle.mi_commands.specs.Asked.{asked_of}
use Rattle.mi_commands.proofs.ToldLemmas.{answer_given, answer_keeps}
use Rattle.mi_commands.proofs.executor.Executor.answer.Goals as goal

pub returns-clause-given : goal.returns-clause-given
returns-clause-given g c =
    answer_given c.args.conn c.args.self.now c.answer_line.new.self (asked_of c.args.line) c.answer_line.new.out c.answer_line.result c.answer_line.ensures

pub returns-clause-kept : goal.returns-clause-kept
returns-clause-kept g c =
    answer_keeps c.args.conn c.args.self.now c.answer_line.new.self (asked_of c.args.line) c.answer_line.new.out c.answer_line.result c.answer_line.ensures
