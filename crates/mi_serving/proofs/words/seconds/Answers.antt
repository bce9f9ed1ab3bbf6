-- The seconds are those of the matches.
use Rattle.std.proofs.Common.{◌≡◌, ◌∙◌, false, sym, arith}
use Rattle.clap.specs.Words.{found_of}
use Rattle.clap.proofs.WalkLemmas.{one_text-rows}
use Rattle.mi_serving.specs.declared.words.TheConstants.{MOST_SECONDS}
use Rattle.mi_serving.proofs.WordsLemmas.{number_read, number_none}
use Rattle.mi_serving.proofs.words.seconds.Goals as goal

pub returns-in-Some : goal.returns-in-Some
returns-in-Some c =
    number_read 64 1 MOST_SECONDS _ _ c.in-Some.count (one_text-rows (found_of c.args.matches.now) c.args.name.now) (omega (arith, c.if-count-ge1.true))
    (omega (arith, c.if-count-le-MOST_SECONDS.true)) c.in-Some.ensures.none c.in-Some.ensures.value

pub returns-in-None : goal.returns-in-None
returns-in-None c =
    let none : c.contains_id.result ≡ false = grind (arith, c.if-not-contains_id.true) in
    number_none 1 MOST_SECONDS (found_of c.args.matches.now) c.args.name.now _ (one_text-rows (found_of c.args.matches.now) c.args.name.now)
    (sym c.contains_id.ensures ∙ none)
