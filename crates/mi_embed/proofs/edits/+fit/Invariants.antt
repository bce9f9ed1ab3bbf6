use Rattle.std.proofs.Common.{length}
use Rattle.mi_embed.proofs.edits.+fit.Given as goal

abbrev pub decreases-fit : goal.decreases-fit
decreases-fit l = length l.edits.now
