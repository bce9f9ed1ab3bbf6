-- A request that is read is kept out, refused or done.
use Rattle.std.proofs.Common.{◌≡◌, false, Ok, Err, refl, sym, ap, ◌∙◌, subst, rules}
use Rattle.mi_request.specs.Answers.{IsAnswer}
use Rattle.mi_request.specs.Lines.{command_line}
use Rattle.mi_request.specs.declared.request.Request.TheVariants as request
use Rattle.mi_protocol.specs.Binding.{bound_command}
use Rattle.mi_protocol.specs.declared.command.Command.TheVariants as command
use Rattle.mi_commands.specs.Asked.{text}
use Rattle.mi_commands.specs.Answer.{MayAnswer}
use Rattle.mi_commands.specs.Holder.{HeldDatabase}
use Rattle.mi_commands.proofs.ReadLemmas.{done_asked, refused_asked, line_asked, refused_line}
use Rattle.mi_commands.proofs.executor.Executor.answer_read.Goals as goal

pub returns-in-Ok : goal.returns-in-Ok
returns-in-Ok g c =
    let s : HeldDatabase = record { database = g.D.Sessions.state c.self.inside.database; holder = c.self.inside.holder } in
    let same : s ≡ c.args.self.now = c.self.view_is in
    let r = request.KeyLookUp c.in-Ok-KeyLookUp.table c.in-Ok-KeyLookUp.look_up in
    let k = command.KeyLookUp c.in-Ok.table c.in-Ok.look_up in
    let bound : bound_command s.database.catalog r ≡ Ok k = search rules in
    subst (λ o. MayAnswer c.args.conn o (text c.args.bytes.now) c.answer_keys.new.out c.answer_keys.result s) same
    (line_asked s c.args.conn c.args.bytes.now c.answer_keys.new.out r c.answer_keys.result s (c.in-Ok-KeyLookUp.ensures.answer ∙ ap Ok c.in-Ok-KeyLookUp.field-0-is)
    (done_asked s c.args.conn r c.answer_keys.new.out k c.answer_keys.result s refl bound c.answer_keys.ensures))

pub returns-in-Err-bind_key_look_up : goal.returns-in-Err-bind_key_look_up
returns-in-Err-bind_key_look_up g c =
    let s : HeldDatabase = record { database = g.D.Sessions.state c.self.inside.database; holder = c.self.inside.holder } in
    let same : s ≡ c.args.self.now = c.self.view_is in
    let r = request.KeyLookUp c.in-Ok-KeyLookUp.table c.in-Ok-KeyLookUp.look_up in
    let e = c.in-Err-bind_key_look_up.refusal in
    let bound : IsAnswer (Err e) (bound_command s.database.catalog r) = search rules in
    subst (λ o. MayAnswer c.args.conn o (text c.args.bytes.now) c.refuse.new.out c.refuse.result s) same
    (subst (λ b. MayAnswer c.args.conn s (text c.args.bytes.now) c.refuse.new.out b s) (sym c.refuse.ensures.none)
    (line_asked s c.args.conn c.args.bytes.now c.refuse.new.out r false s (c.in-Ok-KeyLookUp.ensures.answer ∙ ap Ok c.in-Ok-KeyLookUp.field-0-is)
    (refused_asked s c.args.conn r c.refuse.new.out e refl bound (λ _. refl) c.refuse.ensures.text)))

pub returns-in-Ok-bind_change : goal.returns-in-Ok-bind_change
returns-in-Ok-bind_change g c =
    let s : HeldDatabase = record { database = g.D.Sessions.state c.self.inside.database; holder = c.self.inside.holder } in
    let same : s ≡ c.args.self.now = c.self.view_is in
    let r = request.Change c.in-Ok-Change.table c.in-Ok-Change.change in
    let k = command.Change c.in-Ok-bind_change.table c.in-Ok-bind_change.change in
    let bound : bound_command s.database.catalog r ≡ Ok k = search rules in
    subst (λ o. MayAnswer c.args.conn o (text c.args.bytes.now) c.answer_change.new.out c.answer_change.result c.answer_change.new.self) same
    (line_asked s c.args.conn c.args.bytes.now c.answer_change.new.out r c.answer_change.result c.answer_change.new.self (c.in-Ok-Change.ensures.answer ∙ ap Ok c.in-Ok-Change.field-0-is)
    (done_asked s c.args.conn r c.answer_change.new.out k c.answer_change.result c.answer_change.new.self (sym c.is_busy.ensures ∙ c.if-is_busy.false) bound c.answer_change.ensures))

pub returns-in-Err-bind_change : goal.returns-in-Err-bind_change
returns-in-Err-bind_change g c =
    let s : HeldDatabase = record { database = g.D.Sessions.state c.self.inside.database; holder = c.self.inside.holder } in
    let same : s ≡ c.args.self.now = c.self.view_is in
    let r = request.Change c.in-Ok-Change.table c.in-Ok-Change.change in
    let e = c.in-Err-bind_change.refusal in
    let bound : IsAnswer (Err e) (bound_command s.database.catalog r) = search rules in
    subst (λ o. MayAnswer c.args.conn o (text c.args.bytes.now) c.refuse-in-Err-bind_change.new.out c.refuse-in-Err-bind_change.result s) same
    (subst (λ b. MayAnswer c.args.conn s (text c.args.bytes.now) c.refuse-in-Err-bind_change.new.out b s) (sym c.refuse-in-Err-bind_change.ensures.none)
    (line_asked s c.args.conn c.args.bytes.now c.refuse-in-Err-bind_change.new.out r false s (c.in-Ok-Change.ensures.answer ∙ ap Ok c.in-Ok-Change.field-0-is)
    (refused_asked s c.args.conn r c.refuse-in-Err-bind_change.new.out e (sym c.is_busy.ensures ∙ c.if-is_busy.false) bound (λ _. refl) c.refuse-in-Err-bind_change.ensures.text)))

pub returns-in-Ok-bind_number_look_up : goal.returns-in-Ok-bind_number_look_up
returns-in-Ok-bind_number_look_up g c =
    let s : HeldDatabase = record { database = g.D.Sessions.state c.self.inside.database; holder = c.self.inside.holder } in
    let same : s ≡ c.args.self.now = c.self.view_is in
    let r = request.NumberLookUp c.in-Ok-NumberLookUp.table c.in-Ok-NumberLookUp.look_up in
    let k = command.NumberLookUp c.in-Ok-bind_number_look_up.table c.in-Ok-bind_number_look_up.look_up in
    let bound : bound_command s.database.catalog r ≡ Ok k = search rules in
    subst (λ o. MayAnswer c.args.conn o (text c.args.bytes.now) c.answer_numbers.new.out c.answer_numbers.result s) same
    (line_asked s c.args.conn c.args.bytes.now c.answer_numbers.new.out r c.answer_numbers.result s (c.in-Ok-NumberLookUp.ensures.answer ∙ ap Ok c.in-Ok-NumberLookUp.field-0-is)
    (done_asked s c.args.conn r c.answer_numbers.new.out k c.answer_numbers.result s refl bound c.answer_numbers.ensures))

pub returns-in-Ok-Session : goal.returns-in-Ok-Session
returns-in-Ok-Session g c =
    let s : HeldDatabase = record { database = g.D.Sessions.state c.self.inside.database; holder = c.self.inside.holder } in
    let same : s ≡ c.args.self.now = c.self.view_is in
    let new = c.ask_session.new.self in
    subst (λ o. MayAnswer c.args.conn o (text c.args.bytes.now) c.ask_session.new.out c.ask_session.result new) same
    (line_asked s c.args.conn c.args.bytes.now c.ask_session.new.out (request.Session c.in-Ok-Session.command) c.ask_session.result new
    (c.in-Ok-Session.ensures.answer ∙ ap Ok c.in-Ok-Session.field-0-is) c.ask_session.ensures)

pub returns-in-Err : goal.returns-in-Err
returns-in-Err g c =
    let s : HeldDatabase = record { database = g.D.Sessions.state c.self.inside.database; holder = c.self.inside.holder } in
    let same : s ≡ c.args.self.now = c.self.view_is in
    let e = c.in-Err.refusal in
    let none : IsAnswer (Err e) (command_line c.args.bytes.now) = c.in-Err.ensures.answer in
    subst (λ o. MayAnswer c.args.conn o (text c.args.bytes.now) c.refuse-in-Err.new.out c.refuse-in-Err.result s) same
    (subst (λ b. MayAnswer c.args.conn s (text c.args.bytes.now) c.refuse-in-Err.new.out b s) (sym c.refuse-in-Err.ensures.none)
    (refused_line s c.args.conn c.args.bytes.now c.refuse-in-Err.new.out e none c.requires c.refuse-in-Err.ensures.text))
