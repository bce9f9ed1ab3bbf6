-- Where no newline was found there is none; where one was, a text ends.
use Rattle.std.proofs.Common.{arith, refl}
use Rattle.mi_hub.proofs.LineLemmas.{unended_all}
use Rattle.mi_clients.proofs.InputLemmas.{some_newline}
use Rattle.mi_clients.proofs.lines.has_newline.Goals as goal

pub returns-in-Some-clause-some : goal.returns-in-Some-clause-some
returns-in-Some-clause-some c =
    let found = c.in-Some.ensures in (
      λ is none. some_newline c.in-Some._at c.args.piece.now found.0.high found.1 none,
      λ no. refl,
    )

pub returns-in-Some-clause-none : goal.returns-in-Some-clause-none
returns-in-Some-clause-none c =
    let found = c.in-Some.ensures in (
      λ is. absurd (cc),
      λ none. absurd (some_newline c.in-Some._at c.args.piece.now found.0.high found.1 none),
    )

pub returns-in-None-clause-some : goal.returns-in-None-clause-some
returns-in-None-clause-some c = (
  λ is. absurd (cc),
  λ no. absurd (no (unended_all c.args.piece.now (λ k lt e. c.in-None.ensures k (omega arith) lt e))),
)

pub returns-in-None-clause-none : goal.returns-in-None-clause-none
returns-in-None-clause-none c = (λ is. unended_all c.args.piece.now (λ k lt e. c.in-None.ensures k (omega arith) lt e), λ none. refl)
