-- The law is proved with the definitions.
use Rattle.mi_replay.proofs.FrontLemmas.{files_grow_by_lines}
use Rattle.mi_replay.proofs.laws.files_grow_by_lines.Goals as goal

pub returns : goal.returns
returns c = files_grow_by_lines
