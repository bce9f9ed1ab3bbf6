-- What stands before the first newline has none, and what stands from there on begins with it.
use Rattle.std.proofs.Common.{◌∙◌, inl, inr, refl, sym, take, drop, append-nil, arith}
use Rattle.std.proofs.lemmas.List.{take-append-drop}
use Rattle.mi_hub.proofs.LineLemmas.{unended_take, unended_all}
use Rattle.mi_clients.proofs.InputLemmas.{newline_on}
use Rattle.mi_clients.proofs.lines.from_newline.Goals as goal

pub returns-in-Some : goal.returns-in-Some
returns-in-Some c =
    let found = c.in-Some.ensures in (
      take c.in-Some.at c.args.piece.now,
      rw c.split_at.ensures.back (sym (take-append-drop c.in-Some.at c.args.piece.now)),
      unended_take c.in-Some.at c.args.piece.now (λ k lt e. found.0.before k (omega arith) lt e),
      inr (
        drop 1 (drop c.in-Some.at c.args.piece.now),
        c.split_at.ensures.back ∙ newline_on c.in-Some.at c.args.piece.now found.0.high found.1,
      ),
    )

pub returns-in-None : goal.returns-in-None
returns-in-None c = (
  c.args.piece.now,
  sym (append-nil c.args.piece.now),
  unended_all c.args.piece.now (λ k lt e. c.in-None.ensures k (omega arith) lt e),
  inl refl,
)
