-- The law is proved with the definitions, of keys and of records.
use Rattle.mi_model.proofs.AskedLaws.{what_fits_is_asked, records_that_fit_have_whole_keys}
use Rattle.mi_sessions.proofs.laws.what_fits_is_asked.Goals as goal

pub returns : goal.returns
returns c = record { keys = what_fits_is_asked; records = records_that_fit_have_whole_keys }
