-- An id that isn't in a list stands behind it.
use Rattle.std.proofs.Common.{sym, ◌∙◌}
use Rattle.mi_plain.proofs.PassLemmas.{no_place}
use Rattle.mi_plain.proofs.pass.place_in.Goals as goal

pub returns-in-None : goal.returns-in-None
returns-in-None c = no_place c.args.id c.args.ids.now (sym c.find_in.ensures ∙ c.in-None.is)
