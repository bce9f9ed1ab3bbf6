-- The law is proved with the definitions, of a start and of what comes after it.
use Rattle.mi_model.proofs.NumberLaws.{starts_take_the_next_number, sessions_keep_their_numbers}
use Rattle.mi_sessions.proofs.laws.sessions_keep_their_numbers.Goals as goal

pub returns : goal.returns
returns c = record { start = starts_take_the_next_number; kept = sessions_keep_their_numbers }
