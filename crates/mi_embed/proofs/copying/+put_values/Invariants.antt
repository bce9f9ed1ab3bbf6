use Rattle.std.proofs.Common.{length}
use Rattle.mi_embed.proofs.copying.+put_values.Given as goal

abbrev pub decreases-put_values : goal.decreases-put_values
decreases-put_values l = length l.values
