-- A short line is the request that it writes; any other is read whole.
use Rattle.std.proofs.Common.{Ok, is_some, sym, ap, ◌∙◌, true≢false}
use Rattle.mi_request.specs.Short.{asked_short}
use Rattle.mi_request.proofs.ShortLemmas.{short_means, one_request, change_left}
use Rattle.mi_request.proofs.line_reader.LineReader.parse.Goals as goal

pub returns-in-Some-clause-answer : goal.returns-in-Some-clause-answer
returns-in-Some-clause-answer c = short_means (asked_short c.in-Some.short) c.args.line.now c.in-Some.ensures.value ∙ ap Ok (sym c.request.ensures)

pub returns-in-Some-clause-short : goal.returns-in-Some-clause-short
returns-in-Some-clause-short c r is = ap Ok (c.request.ensures ∙ one_request (asked_short c.in-Some.short) r c.args.line.now c.in-Some.ensures.value is)

pub returns-in-None-clause-short : goal.returns-in-None-clause-short
returns-in-None-clause-short c r is =
    change_left c.args.line.now c.read.result
    (λ q here. true≢false (sym (c.of.ensures.whole q here) ∙ ap is_some c.in-None.is)) c.read.ensures.short r is
