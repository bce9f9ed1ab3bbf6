-- The law is proved with the definitions.
use Rattle.mi_container.proofs.LawLemmas.{change_fits}
use Rattle.mi_container.proofs.laws.change_fits.Goals as goal

pub returns : goal.returns
returns c = change_fits
