-- The request of the value that the line is, or the refusal.
use Rattle.mi_tokens.specs.Meaning.{meaning}
use Rattle.mi_request.proofs.ParsingLemmas.{answer-value}
use Rattle.mi_request.proofs.line_reader.read_any.Goals as goal

pub returns-clause-answer : goal.returns-clause-answer
returns-clause-answer c =
    rw c.ok_or.ensures.value
    (answer-value c.request_of.result c.args.line.now (meaning c.in_ok-value.value) c.in_ok-value.ensures.ok c.request_of.ensures)
