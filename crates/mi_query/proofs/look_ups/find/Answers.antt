-- The id of the row that is found.
use Rattle.std.proofs.Common.{ap, sym, ◌∙◌}
use Rattle.std.specs.Option.{option_map}
use Rattle.mi_query.proofs.look_ups.find.Goals as goal

pub returns-in-Some-clause-id : goal.returns-in-Some-clause-id
returns-in-Some-clause-id g c = ap (option_map (λ r. r.0)) (sym c.in-Some.is) ∙ c.find_row.ensures.id

pub returns-in-None-clause-id : goal.returns-in-None-clause-id
returns-in-None-clause-id g c = ap (option_map (λ r. r.0)) (sym c.in-None.is) ∙ c.find_row.ensures.id
