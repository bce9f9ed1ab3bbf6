-- One line more was read, or the line that isn't one of a journal.
use Rattle.std.proofs.Common.{◌≡◌, ◌≤◌, ◌+◌, ◌-◌, ◌∙◌, Ok, sym, ap, subst, arith}
use Rattle.std.proofs.lemmas.Result.{err_from_is_err_and}
use Rattle.mi_log.specs.LogLines.{reader_of}
use Rattle.mi_durable.specs.Replay.{HasPassed}
use Rattle.mi_durable.proofs.ReplayLemmas.{onward_more, passed_more, damaged_as}
use Rattle.mi_durable.proofs.replaying.replay.Goals as goal

pub returns-in_err-replay_next-clause-damaged : goal.returns-in_err-replay_next-clause-damaged
returns-in_err-replay_next-clause-damaged g c = λ k is.
    let p = err_from_is_err_and c.from_residual.result c.from_residual.ensures.1 in
    let before = c.lines.invariant in
    let one = c.in_err-replay_next.ensures.damaged k (damaged_as c.from_residual.result p.0 c.in_err-replay_next.field-0.0 k p.1 p.2 is) in
    subst (λ n. HasPassed (n - 1) (g.R.Read.remaining (reader_of c.args.lines.now)) (g.R.Read.remaining (reader_of c.replay_next.new.lines))) (sym one.0)
    (passed_more c.lines.number _ _ _ before.first before.passed one.1)

pub lines-preserved : goal.lines-preserved
lines-preserved g c =
    let before = c.lines.invariant in
    let here : c.lines.number - 1 ≡ c.lines.number + 1 - 2 = omega (arith, before.first) in record {
      attached = c.in_ok-replay_next.ensures.attached ∙ before.attached;
      still = c.in_ok-replay_next.ensures.still;
      so_far = onward_more _ _ _ _ _ _ before.so_far (c.in_ok-replay_next.ensures.more (ap Ok c.if-not-branch.false));
      first = omega (arith, before.first);
      passed = subst (λ n. HasPassed n (g.R.Read.remaining (reader_of c.args.lines.now)) (g.R.Read.remaining (reader_of c.replay_next.new.lines))) here
          (passed_more c.lines.number _ _ _ before.first before.passed (c.in_ok-replay_next.ensures.passed (ap Ok c.if-not-branch.false)));
    }
