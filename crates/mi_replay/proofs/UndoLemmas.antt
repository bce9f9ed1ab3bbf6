-- The line that undoes the newest session.
-- Cited by `AnswerLemmas`.
use Rattle.std.proofs.Common.{◌≡◌, Ok, codes, refl}
use Rattle.mi_request.specs.Lines.{command_line}
use Rattle.mi_request.specs.declared.request.Request.TheVariants as request
use Rattle.mi_request.specs.declared.request.SessionCommand.TheVariants as session
use Rattle.mi_request.proofs.ShortLemmas.{short_means}

pub undo_means : command_line (codes "{\"cmd\":\"undo\"}") ≡ Ok (request.Session session.Undo)
undo_means = short_means (request.Session session.Undo) _ refl
