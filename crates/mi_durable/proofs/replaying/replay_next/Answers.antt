-- What was read with a newline is a whole line; without one nothing is left, and no line ends there.
use Rattle.std.proofs.Common.{Ok, ◌∙◌, refl, sym, ap, subst}
use Rattle.mi_log.specs.LogLines.{reader_of, line_of}
use Rattle.mi_hub.specs.Lines.{lines_of}
use Rattle.mi_replay.specs.Replayed.{replayed}
use Rattle.mi_durable.specs.Journals.{IsWholeLine}
use Rattle.mi_durable.proofs.ReplayLemmas.{whole_by, onward_by, passed_one, damaged_same, torn_by}
use Rattle.mi_durable.proofs.replaying.replay_next.Goals as goal

pub replay_line-requires-clause-whole : goal.replay_line-requires-clause-whole
replay_line-requires-clause-whole g c =
    subst IsWholeLine (sym c.line.ensures)
    (whole_by (line_of c.advance.new.self) (sym c.in-Ok-true.ensures.found ∙ c.in-Ok-true.field-0-test) c.in-Ok-true.ensures.one)

pub returns-in-Ok-clause-more : goal.returns-in-Ok-clause-more
returns-in-Ok-clause-more g c = λ is.
    onward_by (g.R.Read.remaining (reader_of c.args.lines.now)) (g.R.Read.remaining (reader_of c.advance.new.self)) (line_of c.advance.new.self)
    c.args.hub.now.held c.replay_line.new.hub.held c.in-Ok-true.ensures.none_lost
    (whole_by (line_of c.advance.new.self) (sym c.in-Ok-true.ensures.found ∙ c.in-Ok-true.field-0-test) c.in-Ok-true.ensures.one)
    (c.in-Ok.ensures.ok ∙ ap (λ t. replayed (lines_of t) c.args.hub.now.held) c.line.ensures)

pub returns-in-Ok-false-clause-end : goal.returns-in-Ok-false-clause-end
returns-in-Ok-false-clause-end g c = λ is. (
  refl,
  torn_by (g.R.Read.remaining (reader_of c.args.lines.now)) (g.R.Read.remaining (reader_of c.advance.new.self)) (line_of c.advance.new.self)
      c.in-Ok-false.ensures.none_lost (c.in-Ok-false.ensures.end (ap Ok c.in-Ok-false.field-0-test)) c.in-Ok-false.ensures.one
      (sym c.in-Ok-false.ensures.found ∙ c.in-Ok-false.field-0-test),
)

pub returns-in-Ok-clause-passed : goal.returns-in-Ok-clause-passed
returns-in-Ok-clause-passed g c = λ is.
    passed_one (g.R.Read.remaining (reader_of c.args.lines.now)) (g.R.Read.remaining (reader_of c.advance.new.self)) (line_of c.advance.new.self)
    c.in-Ok-true.ensures.none_lost
    (whole_by (line_of c.advance.new.self) (sym c.in-Ok-true.ensures.found ∙ c.in-Ok-true.field-0-test) c.in-Ok-true.ensures.one)

pub returns-in-Err-Refused-clause-damaged : goal.returns-in-Err-Refused-clause-damaged
returns-in-Err-Refused-clause-damaged g c = λ k is. (
  damaged_same c.args.number k is,
  passed_one (g.R.Read.remaining (reader_of c.args.lines.now)) (g.R.Read.remaining (reader_of c.advance.new.self)) (line_of c.advance.new.self)
      c.in-Ok-true.ensures.none_lost
      (whole_by (line_of c.advance.new.self) (sym c.in-Ok-true.ensures.found ∙ c.in-Ok-true.field-0-test) c.in-Ok-true.ensures.one),
)
