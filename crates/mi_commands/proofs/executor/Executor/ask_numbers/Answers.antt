-- A look-up that is bound is answered, and any other refused.
use Rattle.std.proofs.Common.{◌≡◌, Ok, Err, refl, sym, subst, rules}
use Rattle.mi_request.specs.declared.request.Request.TheVariants as request
use Rattle.mi_protocol.specs.Binding.{bound_command}
use Rattle.mi_protocol.specs.declared.command.Command.TheVariants as command
use Rattle.mi_commands.specs.Answer.{IsAsked}
use Rattle.mi_commands.proofs.ReadLemmas.{done_asked, refused_without}
use Rattle.mi_commands.proofs.executor.Executor.ask_numbers.Goals as goal

pub returns-in-Ok : goal.returns-in-Ok
returns-in-Ok g c = λ conn.
    let s = c.args.self.now in
    let r = request.NumberLookUp c.args.table c.args.look_up in
    let k = command.NumberLookUp c.in-Ok.table c.in-Ok.look_up in
    let bound : bound_command s.database.catalog r ≡ Ok k = search rules in
    done_asked s conn r c.answer_numbers.new.out k c.answer_numbers.result s refl bound c.answer_numbers.ensures

pub returns-in-Err : goal.returns-in-Err
returns-in-Err g c = λ conn.
    let s = c.args.self.now in
    let r = request.NumberLookUp c.args.table c.args.look_up in
    let bound : Err c.in-Err.refusal ≡ bound_command s.database.catalog r = search rules in
    subst (λ b. IsAsked s conn r c.refuse.new.out b s) (sym c.refuse.ensures.none)
    (refused_without s conn r c.refuse.new.out c.in-Err.refusal refl bound c.refuse.ensures.text)
