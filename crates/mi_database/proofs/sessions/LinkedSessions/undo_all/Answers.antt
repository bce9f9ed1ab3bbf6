-- one more undo
use Rattle.std.proofs.Common.{◌≡◌, ℕ, suc, ◌-◌, ◌+◌, ◌<◌, length, refl, ap, sym, ◌∙◌, arith}
use Rattle.mi_database.proofs.JournalLemmas.{length-old}
use Rattle.mi_model.specs.Database.{undone_times}
use Rattle.mi_database.specs.LinkedData.{meaning}
use Rattle.mi_database.proofs.EndLemmas.{undo_leaves}
use Rattle.mi_database.proofs.sessions.LinkedSessions.undo_all.Goals as goal

pub loop-preserved : goal.loop-preserved
loop-preserved g c =
    let within : c.loop.counter < c.depth-open.result = c.loop-test.true in
    let left : c.depth-open.result - c.loop.counter ≡ suc (c.depth-open.result - (c.loop.counter + 1)) = omega (arith, within) in
    let depth = c.loop.invariant.open_ in
    let fewer = c.undo.ensures.depth in
    let rose = c.loop.invariant.changes in
    let rises = c.undo.ensures.changes in
    let opened = c.loop.invariant.starts in
    let opens = c.undo.ensures.starts in
    record {
      state = ap (undone_times (c.depth-open.result - (c.loop.counter + 1))) (c.undo.ensures.state ∙ undo_leaves (meaning c.loop.self))
          ∙ ap (λ (n : ℕ). undone_times n (meaning c.loop.self)) (sym left) ∙ c.loop.invariant.state;
      open_ = omega (arith, depth, fewer, left);
      secrets = c.undo.ensures.secrets ∙ c.loop.invariant.secrets;
      changes = omega (arith, rose, rises);
      starts = omega (arith, opened, opens);
    }

pub loop-init : goal.loop-init
loop-init g c =
    let h = c.args.self.now in
    let long : length (meaning h).old ≡ length h.journal = length-old h.journal h.datas in
    let opens = c.depth-open.ensures in
    let same : c.depth-open.result - 0 ≡ c.depth-open.result = omega arith in
    record { state = ap (λ n. undone_times n (meaning h)) same; open_ = omega (arith, long, opens); secrets = refl; changes = omega arith; starts = omega arith }
