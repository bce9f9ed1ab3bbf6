-- The flags are those of an array without any that is set.
use Rattle.std.proofs.Common.{sym, ◌∙◌}
use Rattle.mi_index.proofs.KeepingLemmas.{unset}
use Rattle.mi_index.proofs.structures.keeps_none.Goals as goal

pub returns : goal.returns
returns c none s = unset 16 c.args.kept.now (sym c.eq.ensures ∙ none) s
