-- The law is proved with the definitions.
use Rattle.mi_reshape.proofs.FitLemmas.{reshaped_fits}
use Rattle.mi_reshape.proofs.laws.reshaped_fits.Goals as goal

pub returns : goal.returns
returns c = reshaped_fits
