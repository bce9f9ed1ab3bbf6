-- The bytes are one line, whose answer is given, or none, and then nothing is asked.
use Rattle.std.proofs.Common.{[], false, is_some, refl, sym, ap, subst, append-nil}
use Rattle.mi_hub.specs.OneLine.{AnswersOne}
use Rattle.mi_hub.specs.Served.{with_newline}
use Rattle.mi_hub.proofs.OneLineLemmas.{asks_line, if_ok_more}
use Rattle.mi_hub.proofs.hub.Hub.ask_line.Goals as goal

pub ask-requires : goal.ask-requires
ask-requires g c = ap is_some c.requires.attached

pub returns-in-Some-clause-ok : goal.returns-in-Some-clause-ok
returns-in-Some-clause-ok g c =
    if_ok_more c.ask.result (λ changed told. (
      with_newline told.0,
      told.1,
      asks_line c.args.conn c.args.line.now (with_newline told.0) changed c.args.self.now c.ask.new.self c.requires.attached c.requires.whole
          (subst (λ ls. AnswersOne c.args.conn c.args.self.now.held ls (with_newline told.0) changed c.ask.new.self.held) c.in-Some.ensures
          (told.0, refl, told.2)) c.ask.ensures.attached,
    )) c.ask.ensures.ok

pub returns-in-None-clause-ok : goal.returns-in-None-clause-ok
returns-in-None-clause-ok g c = (
  [],
  sym (append-nil c.args.replies.now.items),
  asks_line c.args.conn c.args.line.now [] false c.args.self.now c.args.self.now c.requires.attached c.requires.whole
      (subst (λ ls. AnswersOne c.args.conn c.args.self.now.held ls [] false c.args.self.now.held) c.in-None.ensures (refl, refl, refl)) refl,
)
