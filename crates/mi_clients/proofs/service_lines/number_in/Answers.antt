-- What std reads there is the number.
use Rattle.std.proofs.Common.{◌∙◌, sym, ap, ◌∷◌, [], nat_eq}
use Rattle.std.specs.List.{starts_with}
use Rattle.mi_clients.specs.ServiceLines.{number_in}
use Rattle.mi_clients.proofs.DigitLemmas.{no_number, number_read}
use Rattle.mi_clients.proofs.service_lines.number_in.Goals as goal

pub returns-in-Ok : goal.returns-in-Ok
returns-in-Ok c =
    let same = c.in-Ok.ensures.cases.0 in
    let none = ap (λ ds. starts_with nat_eq ds (43 ∷ [])) same ∙ sym c.if-starts_with.ensures.value in
    c.ok.ensures.value ∙ number_read c.in-Ok.text.now c.parse.result none c.parse.ensures.value.0 ∙ ap number_in same

pub returns-in-Err : goal.returns-in-Err
returns-in-Err c = sym (no_number c.args.digits.now c.in-Err.ensures.cases.0)
