-- The newline that was found is the first.
use Rattle.std.proofs.Common.{◌≡◌, ◌+◌, ◌∙◌, suc, sym, ap, take, arith}
use Rattle.mi_hub.proofs.LineLemmas.{unended_all}
use Rattle.mi_clients.proofs.HeardLemmas.{first_at, first_all}
use Rattle.mi_clients.proofs.lines.first_line.Goals as goal

pub returns-in-Some : goal.returns-in-Some
returns-in-Some c =
    let found = c.in-Some.ensures in
    let next : c.in-Some.at + 1 ≡ suc c.in-Some.at = omega arith in
    c.split_at.ensures.front ∙ ap (λ n. take n c.args.piece.now) next
    ∙ sym (first_at c.in-Some.at c.args.piece.now found.0.high found.1 (λ k lt e. found.0.before k (omega arith) lt e))

pub returns-in-None : goal.returns-in-None
returns-in-None c = sym (first_all c.args.piece.now (unended_all c.args.piece.now (λ k lt e. c.in-None.ensures k (omega arith) lt e)))
