-- Where no newline was found there is none; where one was, a line ends.
use Rattle.std.proofs.Common.{arith}
use Rattle.mi_hub.proofs.LineLemmas.{unended_all}
use Rattle.mi_clients.proofs.InputLemmas.{some_newline}
use Rattle.mi_clients.proofs.lines.is_over_long.Goals as goal

pub returns-in-Some : goal.returns-in-Some
returns-in-Some c =
    let found = c.in-Some.ensures in (
      λ is. absurd (cc),
      λ long. absurd (some_newline c.in-Some._at c.args.bytes.now found.0.high found.1 long.1),
    )

pub returns-in-None : goal.returns-in-None
returns-in-None c = (
  λ is. (grind (arith, is), unended_all c.args.bytes.now (λ k lt e. c.in-None.ensures k (omega arith) lt e)),
  λ long. grind (arith, long.0),
)
