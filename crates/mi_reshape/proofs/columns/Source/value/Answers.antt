-- A row without such a column has the first value there.
use Rattle.std.proofs.Common.{ap, ◌∙◌}
use Rattle.std.specs.Option.{unwrap_or}
use Rattle.std.specs.declared.option.Option.{Option}
use Rattle.std.proofs.lemmas.Option.{unwrap_or-slice_get}
use Rattle.mi_value.specs.declared.value.Value.{Value}
use Rattle.mi_reshape.specs.Reshaped.{first_value}
use Rattle.mi_reshape.proofs.columns.Source.value.Goals as goal

pub returns-in-None-get : goal.returns-in-None-get
returns-in-None-get c =
    let d = first_value c.args.self.kind in
    let none = ap (λ (o : Option Value). unwrap_or o d) c.in-None-get.ensures in
    rw c.in-Some.is (c.first_value.ensures ∙ none ∙ unwrap_or-slice_get c.args.row.now c.in-Some.column d)
