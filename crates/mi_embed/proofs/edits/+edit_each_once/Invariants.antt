use Rattle.std.proofs.Common.{length}
use Rattle.mi_embed.proofs.edits.+edit_each_once.Given as goal

abbrev pub decreases-edit_each_once : goal.decreases-edit_each_once
decreases-edit_each_once l = length l.edits.now
