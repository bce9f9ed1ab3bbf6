-- A connection is the holder just where the holder has its number; one that isn't holds none.
use Rattle.std.proofs.Common.{◌∙◌, sym}
use Rattle.mi_durable.proofs.JournalLemmas.{holds_just, holds_none}
use Rattle.mi_durable.proofs.durable.Durable.holds.Goals as goal

pub returns-clause-holder : goal.returns-clause-holder
returns-clause-holder g c = holds_just _ c.holder.result c.args.conn c.is_holder.result c.holder.ensures.is c.is_holder.ensures

pub returns-clause-none : goal.returns-clause-none
returns-clause-none g c = λ no. holds_none _ c.holder.result c.args.conn (sym c.holder.ensures.is) (sym c.is_holder.ensures ∙ no)
