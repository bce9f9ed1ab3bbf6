use Rattle.std.proofs.Common.{length}
use Rattle.mi_embed.proofs.rows.+text_bytes.Given as goal

abbrev pub decreases-text_bytes : goal.decreases-text_bytes
decreases-text_bytes l = length l.values
