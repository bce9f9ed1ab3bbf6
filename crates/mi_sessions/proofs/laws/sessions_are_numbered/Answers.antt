-- The law is proved with the definitions, of the numbers and of a commit.
use Rattle.mi_model.proofs.NumberLaws.{sessions_are_numbered, commits_end_by_number}
use Rattle.mi_sessions.proofs.laws.sessions_are_numbered.Goals as goal

pub returns : goal.returns
returns c = record { numbers = sessions_are_numbered; commit = commits_end_by_number }
