-- A line that stands first is read whole, and has its newline.
use Rattle.std.proofs.Common.{sym, ap, ◌∙◌}
use Rattle.std.specs.Io.BufRead.{ends_with_byte}
use Rattle.mi_base.proofs.TextLemmas.{line_found, line_torn}
use Rattle.mi_base.proofs.lines.BaseLines.advance.Goals as goal

pub returns-then-ends_line-clause-exact : goal.returns-then-ends_line-clause-exact
returns-then-ends_line-clause-exact g c = line_found _ _ _ _ c.in-Ok.ensures.bytes c.clear.ensures.items c.in-Ok.ensures.rest

pub returns-else-ends_line-clause-exact : goal.returns-else-ends_line-clause-exact
returns-else-ends_line-clause-exact g c =
    line_torn _ _ _ c.in-Ok.ensures.bytes c.clear.ensures.items
    (ap (ends_with_byte 10) (sym c.as_slice.ensures.value) ∙ sym c.ends_line.ensures ∙ c.if-ends_line.false)
