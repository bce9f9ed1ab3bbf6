-- Where something is read, something was left.
use Rattle.std.proofs.Common.{ap, ◌∙◌, sym, ◌+◌}
use Rattle.mi_base.proofs.TextLemmas.{none_read}
use Rattle.mi_base.proofs.lines.BaseLines.is_at_end.Goals as goal

pub returns-in-Ok-clause-exact : goal.returns-in-Ok-clause-exact
returns-in-Ok-clause-exact g c = λ _.
    none_read _ _ _ c.in-Ok.field-0 c.in-Ok.ensures.bytes c.clear.ensures.items
    (sym c.read_until.new.buf.ok.0 ∙ c.in-Ok.ensures.ok ∙ ap (λ m. m + c.in-Ok.field-0) c.clear.new.self.ok.0) c.in-Ok.field-0-test.1
