-- The port is that of the matches.
use Rattle.std.proofs.Common.{◌≡◌, ◌∙◌, codes, false, sym, arith}
use Rattle.clap.specs.Words.{found_of}
use Rattle.clap.proofs.WalkLemmas.{one_text-rows}
use Rattle.mi_serving.proofs.WordsLemmas.{number_read, number_none}
use Rattle.mi_serving.proofs.words.port.Goals as goal

pub returns-in-Some : goal.returns-in-Some
returns-in-Some c =
    let fits = rw c.in-Some.is at c.get_one.type_inv in
    number_read 16 0 65535 _ _ c.in-Some.port (one_text-rows (found_of c.args.matches.now) (codes "listen")) (omega arith) (omega (arith, fits))
    c.in-Some.ensures.none c.in-Some.ensures.value

pub returns-in-None : goal.returns-in-None
returns-in-None c =
    let none : c.contains_id.result ≡ false = grind (arith, c.if-not-contains_id.true) in
    number_none 0 65535 (found_of c.args.matches.now) (codes "listen") _ (one_text-rows (found_of c.args.matches.now) (codes "listen"))
    (sym c.contains_id.ensures ∙ none)
