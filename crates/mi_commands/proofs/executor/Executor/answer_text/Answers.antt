-- A short line is answered as its request.
use Rattle.std.proofs.Common.{Ok, ap, ◌∙◌}
use Rattle.mi_request.specs.Short.{asked_short}
use Rattle.mi_request.specs.declared.request.Request.TheVariants as request
use Rattle.mi_request.specs.declared.request.ShortRequest.{ShortRequest}
use Rattle.mi_request.proofs.ShortLemmas.{short_means}
use Rattle.mi_commands.proofs.ReadLemmas.{line_asked}
use Rattle.mi_commands.proofs.executor.Executor.answer_text.Goals as goal

pub returns-in-Some-Session : goal.returns-in-Some-Session
returns-in-Some-Session g c =
    line_asked c.args.self.now c.args.conn c.args.bytes.now c.ask_session.new.out (request.Session c.in-Some-Session.command) c.ask_session.result
    c.ask_session.new.self
    (short_means (asked_short c.in-Some-Session.field-0) c.args.bytes.now c.in-Some-Session.ensures.value
    ∙ ap (λ (q : ShortRequest). Ok (asked_short q)) c.in-Some-Session.field-0-is) c.ask_session.ensures

pub returns-in-Some-NumberLookUp : goal.returns-in-Some-NumberLookUp
returns-in-Some-NumberLookUp g c =
    line_asked c.args.self.now c.args.conn c.args.bytes.now c.ask_numbers.new.out
    (request.NumberLookUp c.in-Some-NumberLookUp.table c.in-Some-NumberLookUp.look_up) c.ask_numbers.result c.args.self.now
    (short_means (asked_short c.in-Some-NumberLookUp.field-0) c.args.bytes.now c.in-Some-NumberLookUp.ensures.value
    ∙ ap (λ (q : ShortRequest). Ok (asked_short q)) c.in-Some-NumberLookUp.field-0-is) (c.ask_numbers.ensures c.args.conn)
