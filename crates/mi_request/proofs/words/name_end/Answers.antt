-- The first byte that stops a name is the first bit of the mask, and without one all sixteen are passed.
use Rattle.std.proofs.Common.{sym, ap, ◌∙◌, arith}
use lib.Count.{count_trailing_zeros}
use Rattle.mi_request.specs.Short.{is_name_byte, stops_name}
use Rattle.mi_tokens.proofs.RunLemmas.{run_bound, run_through, run_stops}
use Rattle.mi_request.proofs.WordLemmas.{not_stopped}
use Rattle.mi_request.proofs.words.name_end.Goals as goal

pub returns-then-found-ne0-clause-value : goal.returns-then-found-ne0-clause-value
returns-then-found-ne0-clause-value c =
    let found = c.name_stops_16-found in
    let run = run_stops stops_name is_name_byte not_stopped c.args.text.now c.sixteens.at 16 (omega arith) (omega arith) (omega (arith, found.ensures)) ∙ ap (count_trailing_zeros 64) (sym found.ensures) in
    omega (arith, run, c.sixteens.invariant.0)

pub returns-then-found-ne0-clause-bound : goal.returns-then-found-ne0-clause-bound
returns-then-found-ne0-clause-bound c =
    let found = c.name_stops_16-found in
    let run = run_stops stops_name is_name_byte not_stopped c.args.text.now c.sixteens.at 16 (omega arith) (omega arith) (omega (arith, found.ensures)) ∙ ap (count_trailing_zeros 64) (sym found.ensures) in
    omega (arith, run, run_bound is_name_byte c.args.text.now c.sixteens.at c.sixteens.invariant.1)

pub sixteens-preserved : goal.sixteens-preserved
sixteens-preserved c =
    let run = run_through stops_name is_name_byte not_stopped c.args.text.now c.sixteens.at 16 (omega arith) (omega (arith, c.name_stops_16-found.ensures)) in
    (omega (arith, run, c.sixteens.invariant.0), omega arith)
