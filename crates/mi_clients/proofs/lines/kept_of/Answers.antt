-- Behind an over-long beginning it doesn't matter what stands before the newline.
use Rattle.std.proofs.Common.{◌++◌, inl, inr, refl, sym, subst}
use Rattle.mi_clients.specs.Lines.{SameLines}
use Rattle.mi_clients.proofs.InputLemmas.{dropped_same}
use Rattle.mi_clients.proofs.ClientsLemmas.{true_false}
use Rattle.mi_clients.proofs.lines.kept_of.Goals as goal

pub returns-then-is_over_long-clause-lines : goal.returns-then-is_over_long-clause-lines
returns-then-is_over_long-clause-lines c =
    let w = c.args.waiting.now in
    let long = c.is_over_long.ensures.0 c.if-is_over_long.true in
    let parts = c.from_newline.ensures in
    subst (λ p. SameLines (w ++ p) (w ++ c.from_newline.result.now)) (sym parts.1)
    (dropped_same w parts.0 c.from_newline.result.now long.0 long.1 parts.2)

pub returns-then-is_over_long-clause-kept : goal.returns-then-is_over_long-clause-kept
returns-then-is_over_long-clause-kept c = inl (c.is_over_long.ensures.0 c.if-is_over_long.true, c.from_newline.ensures)

pub returns-else-is_over_long-clause-kept : goal.returns-else-is_over_long-clause-kept
returns-else-is_over_long-clause-kept c =
    inr (λ long. true_false c.is_over_long.result (c.is_over_long.ensures.1 long) c.if-is_over_long.false, refl)
