-- The word of the fault that a column's type is none.
use Rattle.std.proofs.Common.{ap, sym}
use Rattle.mi_schema.specs.Words.{fault_word}
use Rattle.mi_schema.proofs.fault.SchemaFault.word.Goals as goal

pub returns-in-ColType : goal.returns-in-ColType
returns-in-ColType c = ap fault_word (sym c.in-ColType.is)
