-- No newline stands before the first, so what stands there is the line's end.
use Rattle.std.proofs.Common.{arith}
use Rattle.mi_hub.proofs.LineLemmas.{unended_take, unended_all, parts_at}
use Rattle.mi_hub.proofs.serve.cut_line.Goals as goal

pub returns : goal.returns
returns c =
    let found = c.in_ok-at.ensures in (
      rw c.split_at.ensures.front (unended_take c.in_ok-at.at c.args.piece.now (λ k lt e. found.0.before k (omega arith) lt e)),
      rw (c.split_at-2.ensures.back, c.split_at.ensures.back, c.split_at.ensures.front) (parts_at c.in_ok-at.at c.args.piece.now found.0.high found.1),
    )

pub returns-in_err-at : goal.returns-in_err-at
returns-in_err-at c = rw c.from_residual.ensures (unended_all c.args.piece.now (λ k lt e. c.in_err-at.ensures k (omega arith) lt e))
