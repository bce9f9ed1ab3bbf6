-- A short line of a change is the request that it writes.
use Rattle.std.proofs.Common.{Ok, ap}
use Rattle.mi_request.specs.declared.request.Request.TheVariants as request
use Rattle.mi_request.proofs.ShortLemmas.{short_means, one_request}
use Rattle.mi_request.proofs.line_reader.LineReader.read.Goals as goal

pub returns-in-Some-clause-answer : goal.returns-in-Some-clause-answer
returns-in-Some-clause-answer c = short_means c.in-Some.request c.args.line.now c.in-Some.ensures.value

pub returns-in-Some-clause-short : goal.returns-in-Some-clause-short
returns-in-Some-clause-short c t x is = ap Ok (one_request c.in-Some.request (request.Change t x) c.args.line.now c.in-Some.ensures.value is)
