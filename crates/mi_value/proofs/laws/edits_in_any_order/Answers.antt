-- Edits of different columns commute, and one alone tells whether a sum leaves 64 bits.
use Rattle.mi_value.proofs.EditLaws.{edits_in_any_order, range_of_one_edit}
use Rattle.mi_value.proofs.laws.edits_in_any_order.Goals as goal

pub returns : goal.returns
returns c = record { order = edits_in_any_order; range = range_of_one_edit }
