-- A reader that gave no newline has nothing left.
use Rattle.std.proofs.Common.{◌∙◌, sym, ap}
use Rattle.std.specs.Io.BufRead.{ends_with_byte}
use Rattle.mi_log.proofs.LineLemmas.{at_end, same_ok}
use Rattle.mi_log.proofs.lines.LogLines.advance.Goals as goal

pub returns-clause-end : goal.returns-clause-end
returns-clause-end g c = λ is.
    at_end _ _ _ c.in_ok-read_line.ensures.line c.in_ok-read_line.ensures.rest
    (sym (c.ends_line.ensures ∙ ap (λ t. ends_with_byte 10 t) c.as_slice.ensures.value) ∙ same_ok _ _ is)
