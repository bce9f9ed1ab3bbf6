use Rattle.std.proofs.Common.{length}
use Rattle.mi_embed.proofs.edits.+edit_column.Given as goal

abbrev pub decreases-edit_column : goal.decreases-edit_column
decreases-edit_column l = length l.edits.now
