-- The copy has the same bytes, which hold the same values.
use Rattle.std.proofs.Common.{ap, ◌∙◌}
use Rattle.mi_value.specs.Block.{unpacked}
use Rattle.mi_value.proofs.record.Record.copy.Goals as goal

pub returns-clause-ok : goal.returns-clause-ok
returns-clause-ok c = ap unpacked c.in_ok-copy.ensures ∙ c.self.view_is
