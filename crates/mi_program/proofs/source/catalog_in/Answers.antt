-- The catalog is read of all the bytes that the reader has.
use Rattle.std.proofs.Common.{subst, sym}
use Rattle.std.proofs.lemmas.Result.{err_from_is_err_and}
use Rattle.mi_program.specs.Source.{IsUnread}
use Rattle.mi_program.proofs.TextLemmas.{unread}
use Rattle.mi_program.proofs.source.catalog_in.Goals as goal

pub returns-in_err-text : goal.returns-in_err-text
returns-in_err-text g c =
    let p = err_from_is_err_and c.from_residual.result c.from_residual.ensures.1 in
    unread _ _ p.0 p.1 (subst IsUnread (sym p.2) c.in_err-text.ensures.err)
