-- One more undo.
use Rattle.std.proofs.Common.{◌≡◌, ℕ, suc, ◌-◌, ◌+◌, ◌<◌, ap, sym, ◌∙◌, arith}
use Rattle.mi_model.specs.Database.{undone_times}
use Rattle.mi_plain.proofs.SessionLemmas.{undo_leaves}
use Rattle.mi_plain.proofs.plain.PlainSessions.undo_all.Goals as goal

pub loop-preserved : goal.loop-preserved
loop-preserved c =
    let within : c.loop.counter < c.depth-open.result = c.loop-test.true in
    let left : c.depth-open.result - c.loop.counter ≡ suc (c.depth-open.result - (c.loop.counter + 1)) = omega (arith, within) in
    ap (undone_times (c.depth-open.result - (c.loop.counter + 1))) (c.undo.ensures.state ∙ undo_leaves c.loop.self)
    ∙ ap (λ (n : ℕ). undone_times n c.loop.self) (sym left) ∙ c.loop.invariant
