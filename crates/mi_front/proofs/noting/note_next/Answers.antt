-- What was read with a newline is a whole line. Without one nothing is left, and no line ends there.
use Rattle.std.proofs.Common.{Ok, ◌≡◌, ◌∷◌, [], ◌∙◌, refl, sym, ap, subst}
use Rattle.mi_log.specs.LogLines.{reader_of, line_of}
use Rattle.mi_hub.specs.Lines.{lines_of}
use Rattle.mi_hub.specs.OneLine.{IsWholeLine}
use Rattle.mi_recovery.proofs.SegmentLemmas.{whole_by}
use Rattle.mi_front.proofs.GivenLemmas.{given_one, unended_by, last_by}
use Rattle.mi_front.proofs.noting.note_next.Goals as goal

pub note_line-requires-clause-whole : goal.note_line-requires-clause-whole
note_line-requires-clause-whole g c =
    subst IsWholeLine (sym c.line.ensures)
    (whole_by (line_of c.advance.new.self) (sym c.in-Ok-true.ensures.found ∙ c.in-Ok-true.field-0-test) c.in-Ok-true.ensures.one)

pub returns-in-Ok-clause-more : goal.returns-in-Ok-clause-more
returns-in-Ok-clause-more g c = λ is.
    let noted = c.in-Ok.ensures.noted in (
      noted.0,
      given_one (g.R.Read.remaining (reader_of c.args.lines.now)) (g.R.Read.remaining (reader_of c.advance.new.self)) (line_of c.advance.new.self) noted.0
          c.in-Ok-true.ensures.none_lost
          (whole_by (line_of c.advance.new.self) (sym c.in-Ok-true.ensures.found ∙ c.in-Ok-true.field-0-test) c.in-Ok-true.ensures.one)
          (subst (λ t. lines_of t ≡ noted.0 ∷ []) c.line.ensures noted.1),
      noted.2,
    )

pub returns-in-Ok-false-clause-end : goal.returns-in-Ok-false-clause-end
returns-in-Ok-false-clause-end g c = λ is. (
  refl,
  refl,
  last_by (g.R.Read.remaining (reader_of c.args.lines.now)) (g.R.Read.remaining (reader_of c.advance.new.self)) (line_of c.advance.new.self)
      c.in-Ok-false.ensures.none_lost (c.in-Ok-false.ensures.end (ap Ok c.in-Ok-false.field-0-test))
      (unended_by (line_of c.advance.new.self) c.in-Ok-false.ensures.one (sym c.in-Ok-false.ensures.found ∙ c.in-Ok-false.field-0-test)),
)
