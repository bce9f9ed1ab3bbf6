-- The law is proved with the definitions, of lines and of bytes.
use Rattle.mi_replay.proofs.FrontLemmas.{fronts_replay, torn_files_replay}
use Rattle.mi_replay.proofs.laws.fronts_replay.Goals as goal

pub returns : goal.returns
returns c = record { lines = fronts_replay; bytes = torn_files_replay }
